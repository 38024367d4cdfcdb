-- What changes from a router's address on: a part of what changes between two moments.
use Rattle.std.specs.Prelude.{ℕ, List, [], ◌∷◌, ◌≡◌, ◌-◌, ◌<◌, ◌≤◌, ◌^◌, ◌⊎◌}
use Rattle.base.specs.Cidr.{Cidr, covers}
use Rattle.base.specs.Delta.{AreChanges, TellsChange, change_at}
use Rattle.base.specs.declared.change.Change.{Change}
use Rattle.base.specs.declared.ids.RouterId.{RouterId}
use Rattle.base.specs.declared.target.Target.{Target}

-- a prefix covers all addresses from `low` up to, and without, `past`, or none of them
abbrev pub CoversAlike : ℕ → ℕ → Cidr → Type 0
CoversAlike low past p = (a : ℕ) → low ≤ a → a < past → covers p a ≡ covers p (past - 1)

-- a router's address is this one, or comes after it: by router, then address
abbrev pub IsFrom : ℕ → ℕ → ℕ → ℕ → Type 0
IsFrom router at r a = (router < r) ⊎ ((router ≡ r) × (at ≤ a))

-- no change begins before this router's address
abbrev pub BeginFrom : ℕ → ℕ → List Change → Type 0
BeginFrom router at [] = Unit {0}
BeginFrom router at (c ∷ cs) = IsFrom router at c.router.0 c.run.lo

-- one change of what two tell, of which the second is the first going on
pub record IsJoined (c d joined : Change) : Type 0 where
  pub router : joined.router ≡ c.router
  pub lo : joined.run.lo ≡ c.run.lo
  pub hi : joined.run.hi ≡ d.run.hi
  pub before : joined.before ≡ c.before
  pub after : joined.after ≡ c.after

-- a change put before others: the new ones tell what it and the others do
pub record IsPutFirst (c : Change) (old new : List Change) : Type 0 where
  pub form : AreChanges new
  pub begin : BeginFrom c.router.0 c.run.lo new
  pub tells : (r : RouterId) (a : ℕ) → change_at new r a ≡ change_at (c ∷ old) r a

-- changes put before others: they tell of the router's addresses from `low` up to, and without, `past`, whose targets
-- before and after these are, and of no others
pub record TellsPart (router low past : ℕ) (before after : ℕ → Target) (old new : List Change) : Type 0 where
  pub form : AreChanges new
  pub begin : BeginFrom router low new
  pub part : (r : RouterId) (a : ℕ) → r.0 ≡ router → low ≤ a → a < past → TellsChange (before a) (after a) (change_at new r a)
  pub rest : (r : RouterId) (a : ℕ) → IsFrom router past r.0 a → change_at new r a ≡ change_at old r a

-- the changes between two moments from a router's address on
pub record IsDeltaFrom (before after : RouterId → ℕ → Target) (router at : ℕ) (changes : List Change) : Type 0 where
  pub form : AreChanges changes
  pub begin : BeginFrom router at changes
  pub exact : (r : RouterId) (a : ℕ) → IsFrom router at r.0 a → a < 2 ^ 32 → TellsChange (before r a) (after r a) (change_at changes r a)
