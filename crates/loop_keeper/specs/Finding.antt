-- The cycles that rows show where changes meet them.
use Rattle.std.specs.Prelude.{ℕ, Bool, List, [], ◌∷◌, ◌≡◌, ◌-◌, ◌<◌, ◌≤◌, ◌^◌, ◌&&◌, Contains, IsTrue, length, slice_index_or}
use Rattle.std.specs.List.{list_any}
use Rattle.base.specs.Cycles.{goes_round}
use Rattle.base.specs.Runs.{holds}
use Rattle.base.specs.declared.change.Change.{Change}
use Rattle.base.specs.declared.ids.RouterId.{RouterId}
use Rattle.base.specs.declared.target.Target.{Target}
use Rattle.base.specs.Forwarding.{does}
use Rattle.base.specs.declared.forwarding_row.ForwardingRow.{ForwardingRow}
use Rattle.loop_check.specs.Following.{is_among}
use Rattle.loop_keeper.specs.declared.found.Found.{Found}

-- whether a change is one of these routers' at an address
abbrev pub touches : List RouterId → ℕ → Change → Bool
touches routers a c = is_among routers c.router && holds a c.run

-- whether one of these changes is
abbrev pub is_touched : List Change → List RouterId → ℕ → Bool
is_touched changes routers a = list_any (touches routers a) changes

-- one of these is of these routers and has this address
pub record HasFound (found : List Found) (routers : List RouterId) (a : ℕ) : Type 0 where
  pub one : Found
  pub among : Contains found one
  pub is : one.routers ≡ routers
  pub from : one.low ≤ a
  pub to : a < one.past

-- a change tells what its router does on its run
abbrev pub TellsAfter : (RouterId → ℕ → Target) → Change → Type 0
TellsAfter does c = (a : ℕ) → c.run.lo ≤ a → a ≤ c.run.hi → does c.router a ≡ c.after

-- so do these changes
abbrev pub AllTellAfter : (RouterId → ℕ → Target) → List Change → Type 0
AllTellAfter does changes = (k : ℕ) (d : Change) → k < length changes → TellsAfter does (slice_index_or changes k d)

-- what was found goes round
abbrev pub AllGoRound : (RouterId → ℕ → Target) → List Found → Type 0
AllGoRound does found =
    (routers : List RouterId) (a : ℕ) → HasFound found routers a → (a < 2 ^ 32) × IsTrue (goes_round does routers a)

-- each cycle that has a router where these changes are its is found
abbrev pub FindTouched : (RouterId → ℕ → Target) → List Change → List Found → Type 0
FindTouched does changes found =
    (routers : List RouterId) (a : ℕ) → a < 2 ^ 32 → IsTrue (goes_round does routers a)
    → IsTrue (is_touched changes routers a) → HasFound found routers a

-- what was found are addresses
abbrev pub AllInside : List Found → Type 0
AllInside found = (one : Found) → Contains found one → one.past ≤ 2 ^ 32

-- cycles found beside others: those through the router of a change where its run is
pub record FindsMore (does : RouterId → ℕ → Target) (changes : List Change) (old new : List Found) : Type 0 where
  pub sound : AllGoRound does old → AllGoRound does new
  pub inside : AllInside old → AllInside new
  pub kept : (routers : List RouterId) (a : ℕ) → HasFound old routers a → HasFound new routers a
  pub found : FindTouched does changes new

-- each cycle of the row at a place that has a router is found
abbrev pub FindRow : List ForwardingRow → List Found → RouterId → ℕ → Type 0
FindRow rows found router i =
    (d : ForwardingRow) (routers : List RouterId) (a : ℕ) → (slice_index_or rows i d).low ≤ a
    → a < (slice_index_or rows i d).past → IsTrue (goes_round (does rows) routers a)
    → IsTrue (is_among routers router) → HasFound found routers a

-- so is that of the row before a place, if there is one
abbrev pub FindLast : List ForwardingRow → List Found → RouterId → ℕ → Type 0
FindLast rows found router place = 0 < place → FindRow rows found router (place - 1)

-- cycles found beside others: those through the router of a change where its run is, also in the row before a place
pub record FindsOn (rows : List ForwardingRow) (c : Change) (place : ℕ) (old new : List Found) : Type 0 where
  pub more : FindsMore (does rows) (c ∷ []) old new
  pub last : FindLast rows new c.router place

-- cycles found beside others: that of the row at a place that has a router
pub record FindsAt (rows : List ForwardingRow) (i : ℕ) (router : RouterId) (old new : List Found) : Type 0 where
  pub sound : AllGoRound (does rows) old → AllGoRound (does rows) new
  pub inside : AllInside old → AllInside new
  pub kept : (routers : List RouterId) (a : ℕ) → HasFound old routers a → HasFound new routers a
  pub found : FindRow rows new router i

-- cycles found beside others: those of the rows from a place up to, and without, another one that have a router
pub record FindsBetween (rows : List ForwardingRow) (first past : ℕ) (router : RouterId) (old new : List Found)
    : Type 0 where
  pub sound : AllGoRound (does rows) old → AllGoRound (does rows) new
  pub inside : AllInside old → AllInside new
  pub kept : (routers : List RouterId) (a : ℕ) → HasFound old routers a → HasFound new routers a
  pub found : (k : ℕ) → first ≤ k → k < past → FindRow rows new router k
