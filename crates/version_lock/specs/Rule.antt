-- The rule of a lock: what holds between any two atomic steps, of the words, the slot and what each seat knows.
use Rattle.std.specs.Prelude.{ℕ, zero, suc, ◌≡◌, ◌≢◌, ◌+◌, ◌-◌, ◌<◌, true, false, List, [], ◌∷◌, ◌++◌, length, All, Contains, slice_index, nat_le, if◌then◌else◌}
use Rattle.std.specs.Prelude.{Option, Some, None}
use mathlib.Core.Option.{some}
use mathlib.Core.Option as maybe
use mathlib.Core.List.{IsPrefix}
use lib.ListN.{get_elem?}
use Rattle.atomic_table.specs.Table.{State}
use Rattle.dn_model.specs.declared.entry.Posted.{Posted}
use Rattle.version_lock.specs.declared.book.Basis.{Basis}
use Rattle.version_lock.specs.declared.view.Setup.{Setup}
use Rattle.version_lock.specs.declared.view.Past.{Past}
use Rattle.version_lock.specs.declared.view.View.{View}
use Rattle.version_lock.specs.declared.view.Opening.{Opening}
use Rattle.version_lock.specs.History.{posted_by, HasSameOf}

-- what is fixed of a lock that was made of this book for this many seats
abbrev pub setup_of : {B : Type 0} → (B → Basis) → Opening B → Setup
setup_of basis opening = record { basis = basis opening.book.value; seats = opening.seats }

-- ---- views

-- the numbers from one on, so many
abbrev pub numbers_from : ℕ → ℕ → List ℕ
numbers_from n zero = []
numbers_from n (suc k) = n ∷ numbers_from (suc n) k

-- the first seat has every number, of which its own, 0, is used
abbrev pub first_view : Setup → View
first_view setup = record {
  setup = Some setup;
  seen = [];
  olds = [];
  first = 0;
  span = setup.seats;
  used = 0 ∷ [];
  turn = false;
}

-- what is left of a seat that was joined into another: nothing
abbrev pub spent_view : View
spent_view = record {
  setup = None;
  seen = [];
  olds = [];
  first = 0;
  span = 0;
  used = [];
  turn = false;
}

-- a view without numbers, which knows what was seen
abbrev pub note_of : View → View
note_of v = record {
  setup = v.setup;
  seen = v.seen;
  olds = [];
  first = 0;
  span = 0;
  used = [];
  turn = false;
}

-- the giver keeps all but the upper numbers of its span
abbrev pub keeps_lower : ℕ → View → View
keeps_lower count v = record v { span = v.span - count }

-- the first of the upper numbers
abbrev pub upper_of : ℕ → View → ℕ
upper_of count v = v.first + (v.span - count)

-- a new seat has the upper numbers, of which the first is used and has no entry yet
abbrev pub has_upper : ℕ → View → View
has_upper count v = record {
  setup = v.setup;
  seen = v.seen;
  olds = record { seen = []; numbers = upper_of count v ∷ [] } ∷ [];
  first = upper_of count v;
  span = count;
  used = upper_of count v ∷ [];
  turn = false;
}

-- every number of a view: those that it uses, and those of its span
abbrev pub numbers_of : ℕ → ℕ → List ℕ → List ℕ
numbers_of first span used = used ++ numbers_from first span

-- the longer of two lists
abbrev pub longer : List Posted → List Posted → List Posted
longer xs ys = if nat_le (length xs) (length ys) then ys else xs

-- what a view brings into a join
abbrev pub past_of : View → Past
past_of v = record { seen = v.seen; numbers = numbers_of v.first v.span v.used }

-- a seat that took another in: it has seen what the one that had seen more had, and the other's numbers are all used
abbrev pub joined : View → View → View
joined v other = record {
  setup = v.setup;
  seen = longer v.seen other.seen;
  olds = record { seen = v.seen; numbers = v.used } ∷ past_of other ∷ [];
  first = v.first;
  span = v.span;
  used = v.used ++ numbers_of other.first other.span other.used;
  turn = v.turn;
}

-- the list begins with what was seen before a join, and has no more of the numbers that were brought
abbrev pub Remembers : List Posted → Past → Type 0
Remembers seen past = IsPrefix past.seen seen × HasSameOf past.numbers past.seen seen

-- ---- the rule

-- what holds of the view of the seat `at`, where `history` is the history, `turn` the turn's word, `holder` the seat that has the
-- turn, and `owner` says which seat has a number
pub record Knows (setup : Setup) (history : List Posted) (turn holder : ℕ) (owner : ℕ → ℕ) (at : ℕ) (v : View) : Type 0 where
  pub of_lock : (s : Setup) → v.setup ≡ Some s → s ≡ setup
  pub begins : IsPrefix v.seen history
  pub olds : All (Remembers v.seen) v.olds
  -- who has the turn has seen all
  pub turns : v.turn ≡ true → (turn ≡ 1) × (at ≡ holder) × (v.seen ≡ history) × (0 < v.span)
  -- the entries of its used numbers are all seen
  pub uses : (n : ℕ) → Contains v.used n → (n < setup.seats) × (owner n ≡ at) × (posted_by n v.seen ≡ posted_by n history)
  -- no other number of its span bears an entry
  pub spares : (n : ℕ) → v.first < n → n < v.first + v.span → (n < setup.seats) × (owner n ≡ at) × (posted_by n history ≡ []) × ¬ Contains v.used n
  pub number : 0 < v.span → Contains v.used v.first

module _ {B : Type 0} (history_of : B → List Posted) (basis_of : B → Basis) (setup : Setup) where
  -- the book lies in the slot, with this history and the lock's basis
  abbrev pub IsHome : List (maybe.Option (Option B)) → List Posted → Type 0
  IsHome homes history =
      (book : B) × (get_elem? homes 0 ≡ some (some (Some book))) × (history_of book ≡ history) × (basis_of book ≡ setup.basis)

  -- There is one history. The count is its length, the book has it where the turn is free, and where it is not one seat has the turn.
  -- Each number that an entry bears is used by the seat that owns it.
  pub record Kept (s : State (Option B) View) : Type 0 where
    pub history : List Posted
    pub holder : ℕ
    pub owner : ℕ → ℕ
    pub two_words : length s.words ≡ 2
    pub one_slot : length s.homes ≡ 1
    pub turn_is : slice_index s.words 0 < 2
    pub count_is : slice_index s.words 1 ≡ length history
    pub home : slice_index s.words 0 ≡ 0 → IsHome s.homes history
    pub held : slice_index s.words 0 ≡ 1 → (v : View) × (get_elem? s.views holder ≡ some v) × (v.turn ≡ true)
    pub borne : (n : ℕ) → posted_by n history ≢ [] → (v : View) × (get_elem? s.views (owner n) ≡ some v) × Contains v.used n
    pub each : (at : ℕ) (v : View) → get_elem? s.views at ≡ some v → Knows setup history (slice_index s.words 0) holder owner at v
