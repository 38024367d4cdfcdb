-- What a push and a merge make of changes.
use Rattle.std.specs.Prelude.{ℕ, List, Option, None, Some, IsSome, IsTrue, filter, map, ◌≡◌, ◌==◌, if◌then◌else◌}
use Rattle.base.specs.Delta.{AreChanges, change_at, is_change_at}
use Rattle.base.specs.Runs.{holds}
use Rattle.base.specs.declared.change.Change.{Change}
use Rattle.base.specs.declared.ids.RouterId.{RouterId}
use Rattle.base.specs.declared.run.Run.{Run}
use Rattle.base.specs.declared.target.Target.{Target}

-- no kept run of the change's router meets its run
abbrev pub MeetsNone : List Change → Change → Type 0
MeetsNone changes c = (a : ℕ) → IsTrue (holds a c.run) → change_at changes c.router a ≡ None

-- the changes with one more: as before but where the new one is, with its two targets there
pub record IsPushed (old new : List Change) (c : Change) : Type 0 where
  pub form : AreChanges new
  pub exact : (r : RouterId) (a : ℕ) → change_at new r a ≡ (if is_change_at r a c then Some (c.before, c.after) else change_at old r a)

abbrev pub or_else : Option (Target × Target) → Option (Target × Target) → Option (Target × Target)
or_else None other = other
or_else (Some p) other = Some p

-- no run of one list meets a run of the same router of the other
abbrev pub MeetNone : List Change → List Change → Type 0
MeetNone xs ys = (r : RouterId) (a : ℕ) → IsSome (change_at ys r a) → change_at xs r a ≡ None

-- the changes of two lists
pub record AreMerged (old other new : List Change) : Type 0 where
  pub form : AreChanges new
  pub exact : (r : RouterId) (a : ℕ) → change_at new r a ≡ or_else (change_at other r a) (change_at old r a)

-- the runs of a router's changes, in order
abbrev pub runs_of : List Change → RouterId → List Run
runs_of changes r = map (λ c. c.run) (filter (λ c. c.router.0 == r.0) changes)
