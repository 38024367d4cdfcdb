-- Rows that changes of several routers meet, looked at together.
use Rattle.std.specs.Prelude.{ℕ, List, [], ◌∷◌, ◌≡◌, ◌+◌, ◌<◌, ◌≤◌, ◌⊎◌, Contains, IsTrue, if◌then◌else◌, length, max, nat_lt, slice_index_or}
use Rattle.std.specs.List.Sorted.{IsNonDecreasingBy}
use Rattle.base.specs.Forwarding.{AreForwarding, does}
use Rattle.base.specs.declared.change.Change.{Change}
use Rattle.base.specs.declared.forwarding_row.ForwardingRow.{ForwardingRow}
use Rattle.base.specs.declared.ids.RouterId.{RouterId}
use Rattle.loop_keeper.specs.Finding.{AllGoRound, AllInside, AllTellAfter, FindRow, FindsMore, HasFound, TellsAfter}
use Rattle.loop_keeper.specs.Looks.{meets_some}
use Rattle.loop_keeper.specs.Places.{AreMet}
use Rattle.loop_keeper.specs.Starts.{DoesSo, IsStartOf, start_of}
use Rattle.loop_keeper.specs.declared.found.Found.{Found}
use Rattle.loop_keeper.specs.declared.stretch.Stretch.{Stretch}
use Rattle.loop_keeper.specs.declared.together.Front.{Front}

-- rows that one of these changes meets, with its router, which does there what is said
pub record IsStretch (width : ℕ) (rows : List ForwardingRow) (changes : List Change) (s : Stretch) : Type 0 where
  pub form : AreForwarding width rows
  pub inside : s.past ≤ length rows
  pub meets : (k : ℕ) (d : ForwardingRow) → s.first ≤ k → k < s.past
      → IsTrue (meets_some changes (slice_index_or rows k d))
  pub start : IsStartOf width s.start
  pub does_so : AllTellAfter (does rows) changes → (k : ℕ) → s.first ≤ k → k < s.past → DoesSo rows s.start k

-- the rows that a change meets
pub record IsItsStretch (rows : List ForwardingRow) (c : Change) (s : Stretch) : Type 0 where
  pub last : ℕ
  pub met : AreMet rows c s.first last
  pub past : s.past ≡ last + 1
  pub start : s.start ≡ start_of c

-- a change has its stretch among these, if a cycle may go through its router
abbrev pub IsServed : List ForwardingRow → List Stretch → Change → Type 0
IsServed rows stretches c =
    ((s : Stretch) × Contains stretches s × IsItsStretch rows c s)
    ⊎ (TellsAfter (does rows) c → (found : List Found) → FindsMore (does rows) (c ∷ []) found found)

-- the stretches of changes
pub record AreStretches (width : ℕ) (rows : List ForwardingRow) (changes : List Change) (stretches : List Stretch)
    : Type 0 where
  pub each : (s : Stretch) → Contains stretches s → IsStretch width rows changes s
  pub all : (k : ℕ) (d : Change) → k < length changes → IsServed rows stretches (slice_index_or changes k d)

-- stretches with that of one change more
pub record AddsStretch (width : ℕ) (rows : List ForwardingRow) (c : Change) (old new : List Stretch) : Type 0 where
  pub each : (s : Stretch) → Contains new s → Contains old s ⊎ IsStretch width rows (c ∷ []) s
  pub kept : (s : Stretch) → Contains old s → Contains new s
  pub served : IsServed rows new c

-- stretches in the order of their first rows
abbrev pub AreInOrder : List Stretch → Type 0
AreInOrder = IsNonDecreasingBy (λ s. s.first)

-- cycles found beside others: those of a row
pub record FindsIn (rows : List ForwardingRow) (i : ℕ) (old new : List Found) : Type 0 where
  pub sound : AllGoRound (does rows) old → AllGoRound (does rows) new
  pub inside : AllInside old → AllInside new
  pub kept : (routers : List RouterId) (a : ℕ) → HasFound old routers a → HasFound new routers a
  pub found : (router : RouterId) → FindRow rows new router i

-- those of the rows from a place up to, and without, another one
pub record FindsWithin (rows : List ForwardingRow) (first past : ℕ) (old new : List Found) : Type 0 where
  pub sound : AllGoRound (does rows) old → AllGoRound (does rows) new
  pub inside : AllInside old → AllInside new
  pub kept : (routers : List RouterId) (a : ℕ) → HasFound old routers a → HasFound new routers a
  pub found : (k : ℕ) (router : RouterId) → first ≤ k → k < past → FindRow rows new router k

-- a front with a stretch more, where the rows before it were looked at
abbrev pub front_with : Front → Stretch → Front
front_with front s =
    if nat_lt front.past s.past
    then record { place = s.first; past = s.past; shared = front.past; start = s.start }
    else record { place = s.first; past = front.past; shared = max front.shared s.past; start = front.start }

-- a front can be followed
pub record IsForm (width : ℕ) (rows : List ForwardingRow) (front : Front) : Type 0 where
  pub inside : front.past ≤ length rows
  pub shared : front.shared ≤ front.past
  pub start : front.place < front.past → IsStartOf width front.start
  pub form : front.place < front.past → AreForwarding width rows

-- the rows of a front meet changes, and the router that has the last of them does there what is said
pub record IsFront (width : ℕ) (rows : List ForwardingRow) (changes : List Change) (front : Front) : Type 0 where
  pub form : IsForm width rows front
  pub meets : (k : ℕ) (d : ForwardingRow) → front.place ≤ k → k < front.past
      → IsTrue (meets_some changes (slice_index_or rows k d))
  pub does_so : AllTellAfter (does rows) changes → (k : ℕ) → front.place ≤ k → k < front.past
      → DoesSo rows front.start k

-- cycles found beside others: those of the rows of a front before a place, all of them where stretches share a row, and
-- behind that those of the router that is left
pub record FindsTo (rows : List ForwardingRow) (front : Front) (to : ℕ) (old new : List Found) : Type 0 where
  pub sound : AllGoRound (does rows) old → AllGoRound (does rows) new
  pub inside : AllInside old → AllInside new
  pub kept : (routers : List RouterId) (a : ℕ) → HasFound old routers a → HasFound new routers a
  pub found : (k : ℕ) (router : RouterId) → front.place ≤ k → k < to → k < front.past
      → (k < front.shared) ⊎ (router ≡ front.start.router) → FindRow rows new router k

-- a stretch is part of a front: what lies before the front was looked at, the rest is shared or that of its router
pub record IsPassed (rows : List ForwardingRow) (front : Front) (found : List Found) (s : Stretch) : Type 0 where
  pub past : s.past ≤ front.past
  pub rest : (s.past ≤ front.shared) ⊎ (s.start ≡ front.start)
  pub done : (k : ℕ) → s.first ≤ k → k < s.past → k < front.place → FindRow rows found s.start.router k

-- so are the first so many stretches, and what was found beside others goes round
pub record ArePassed (rows : List ForwardingRow) (stretches : List Stretch) (count : ℕ) (front : Front)
    (old new : List Found) : Type 0 where
  pub sound : AllGoRound (does rows) old → AllGoRound (does rows) new
  pub kept : (routers : List RouterId) (a : ℕ) → HasFound old routers a → HasFound new routers a
  pub each : (k : ℕ) (d : Stretch) → k < count → k < length stretches
      → IsPassed rows front new (slice_index_or stretches k d)
