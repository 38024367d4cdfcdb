-- What contracts see of a lock, a seat and a note.
use Rattle.std.specs.Prelude.{ℕ, ◌≡◌, ◌≢◌, ◌+◌, ◌-◌, ◌<◌, ◌≤◌, ◌⊎◌, List, [], ◌∷◌, ◌++◌, length, Contains, Option, Some}
use mathlib.Core.List.{IsPrefix}
use Rattle.atomic_table.specs.Seated.{TableId}
use Rattle.dn_model.specs.declared.entry.Entry.{Entry}
use Rattle.dn_model.specs.declared.entry.Posted.{Posted}
use Rattle.version_lock.specs.declared.view.Setup.{Setup}
use Rattle.version_lock.specs.declared.view.View.{View}
use Rattle.version_lock.specs.History.{posted_by, HasSameOf}
use Rattle.version_lock.specs.Rule.{spent_view, numbers_of}

-- a lock: which it is, its book's basis and how many numbers there are
pub record Lock : Type 0 where
  pub table : TableId
  pub setup : Setup

-- A seat: of which lock it is, its number, which is the first of its span, the numbers that it uses, and what it has seen, a
-- beginning of the history. Its own entries are those of what it has seen that bear a used number.
pub record Caller : Type 0 where
  pub table : TableId
  pub setup : Option Setup
  pub number : ℕ
  pub span : ℕ
  pub used : List ℕ
  pub seen : List Posted

-- a note: of which lock it is, and what its seat had seen
pub record Noted : Type 0 where
  pub table : TableId
  pub setup : Option Setup
  pub seen : List Posted

-- the one view of a list
abbrev pub view_in : List View → View
view_in [] = spent_view
view_in (v ∷ vs) = v

abbrev pub caller_of : TableId → View → Caller
caller_of table v = record { table = table; setup = v.setup; number = v.first; span = v.span; used = v.used; seen = v.seen }

abbrev pub noted_of : TableId → View → Noted
noted_of table v = record { table = table; setup = v.setup; seen = v.seen }

-- the seat or note is this lock's
abbrev pub IsSeatOf : Lock → Caller → Type 0
IsSeatOf lock seat = (seat.table ≡ lock.table) × (seat.setup ≡ Some lock.setup)

abbrev pub IsNoteOf : Lock → Noted → Type 0
IsNoteOf lock note = (note.table ≡ lock.table) × (note.setup ≡ Some lock.setup)

-- the first seat of a lock: it has every number, uses 0, and has seen nothing
abbrev pub first_seat : Lock → Caller
first_seat lock = record { table = lock.table; setup = Some lock.setup; number = 0; span = lock.setup.seats; used = 0 ∷ []; seen = [] }

-- every number of a seat: those that it uses, and those of its span
abbrev pub numbers : Caller → List ℕ
numbers seat = numbers_of seat.number seat.span seat.used

-- a note of what a seat has seen
abbrev pub note_by : Caller → Noted
note_by seat = record { table = seat.table; setup = seat.setup; seen = seat.seen }

-- a new seat that has the upper numbers of this one's span, and has seen as much
abbrev pub upper_seat : ℕ → Caller → Caller
upper_seat count seat = let first = seat.number + (seat.span - count) in
    record { table = seat.table; setup = seat.setup; number = first; span = count; used = first ∷ []; seen = seat.seen }

-- nothing of a seat but what it has seen is another
abbrev pub IsSameSeat : Caller → Caller → Type 0
IsSameSeat old new = new ≡ record old { seen = new.seen }

-- a number of a seat: one that it uses, or one of its span
abbrev pub HasNumber : Caller → ℕ → Type 0
HasNumber seat n = Contains seat.used n ⊎ ((seat.number ≤ n) × (n < seat.number + seat.span))

-- each of a seat's used numbers has the entries that it had
abbrev pub KeepsOwn : Caller → Caller → Type 0
KeepsOwn old new = HasSameOf old.used old.seen new.seen

-- the entry under a seat's number
abbrev pub posted_of : Caller → Entry → Posted
posted_of seat entry = record { seat = seat.number; entry = entry }

-- What an entry that was applied at a position changes: all that is seen ends with it and has that length, it is one more of
-- the seat's number, and the seat's other numbers have what they had.
pub record Applied (entry : Entry) (limit : ℕ) (old new : Caller) (position : ℕ) : Type 0 where
  pub number : position ≡ length new.seen
  pub room : position ≤ limit
  pub before : List Posted
  pub begins : IsPrefix old.seen before
  pub ends : new.seen ≡ before ++ posted_of old entry ∷ []
  pub own : posted_by old.number new.seen ≡ posted_by old.number old.seen ++ posted_of old entry ∷ []
  pub others : (n : ℕ) → Contains old.used n → n ≢ old.number → posted_by n new.seen ≡ posted_by n old.seen
