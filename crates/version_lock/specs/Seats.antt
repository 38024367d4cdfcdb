-- What the fields of a seat and of a note stand for.
use Rattle.std.specs.Prelude.{◌≡◌, ◌+◌, ◌^◌, ◌<◌, ◌≤◌, false, [], ◌∷◌, Contains}
use Rattle.version_lock.specs.declared.seat.Seat.TheInside.{Inside}
use Rattle.version_lock.specs.declared.seat.Note.TheInside as note
use Rattle.version_lock.specs.Callers.{Caller, Noted, caller_of, noted_of, view_in}

abbrev pub caller_at : Inside → Caller
caller_at s = caller_of s.badge.table_id (view_in s.badge.views)

abbrev pub noted_at : note.Inside → Noted
noted_at n = noted_of n.badge.table_id (view_in n.badge.views)

-- a seat knows one view, has numbers, and has no turn between two calls
pub record IsSeat (s : Inside) : Type 0 where
  pub one : s.badge.views ≡ view_in s.badge.views ∷ []
  pub number_is : s.number ≡ (view_in s.badge.views).first
  pub span_is : s.span ≡ (view_in s.badge.views).span
  pub some_number : 0 < s.span
  pub in_range : s.number + s.span ≤ 2 ^ 32
  pub uses_number : Contains (view_in s.badge.views).used (view_in s.badge.views).first
  pub no_turn : (view_in s.badge.views).turn ≡ false

-- a note knows one view, and has no numbers
pub record IsNote (n : note.Inside) : Type 0 where
  pub one : n.badge.views ≡ view_in n.badge.views ∷ []
  pub no_span : (view_in n.badge.views).span ≡ 0
  pub no_used : (view_in n.badge.views).used ≡ []
  pub no_turn : (view_in n.badge.views).turn ≡ false
