-- Where an update changes what the routers do: per router, the runs of addresses whose target is another one after it
-- than before it (the delta-graph of Delta-net, NSDI 2017).
use Rattle.std.specs.Prelude.{ℕ, Bool, List, [], ◌∷◌, Option, None, Some, ◌≡◌, ◌+◌, ◌<◌, ◌≤◌, ◌^◌, ◌&&◌, ◌==◌, ◌⊎◌, if◌then◌else◌}
use Rattle.base.specs.Runs.{holds}
use Rattle.base.specs.declared.change.Change.{Change}
use Rattle.base.specs.declared.ids.RouterId.{RouterId}
use Rattle.base.specs.declared.target.Target.{Target}

-- whether a change is one of this router at this address
abbrev pub is_change_at : RouterId → ℕ → Change → Bool
is_change_at r a c = (c.router.0 == r.0) && holds a c.run

-- the two targets of a change
abbrev pub targets_of : Change → Target × Target
targets_of c = (c.before, c.after)

-- the targets before and after of a router at an address, where the changes have it
abbrev pub change_at : List Change → RouterId → ℕ → Option (Target × Target)
change_at [] r a = None
change_at (c ∷ cs) r a = if is_change_at r a c then Some (targets_of c) else change_at cs r a

-- a change's run is one of addresses, and its targets differ
pub record IsChange (c : Change) : Type 0 where
  pub ends : c.run.lo ≤ c.run.hi
  pub below : c.run.hi < 2 ^ 32
  pub differ : c.before ≡ c.after → ⊥

-- by router, then address
abbrev pub GoesBefore : Change → Change → Type 0
GoesBefore c d = (c.router.0 < d.router.0) ⊎ ((c.router.0 ≡ d.router.0) × (c.run.hi < d.run.lo))

-- the second is the first going on: it begins where the first ends, with the same targets
pub record GoesOn (c d : Change) : Type 0 where
  pub router : c.router.0 ≡ d.router.0
  pub touch : c.run.hi + 1 ≡ d.run.lo
  pub before : c.before ≡ d.before
  pub after : c.after ≡ d.after

-- what stands beside each other is in order, and not one run
pub record IsApart (c d : Change) : Type 0 where
  pub order : GoesBefore c d
  pub two : GoesOn c d → ⊥

abbrev pub IsApartFromFirst : Change → List Change → Type 0
IsApartFromFirst c [] = Unit {0}
IsApartFromFirst c (d ∷ ds) = IsApart c d

-- changes in order, of which touching ones of a router with the same two targets are one
abbrev pub AreChanges : List Change → Type 0
AreChanges [] = Unit {0}
AreChanges (c ∷ cs) = IsChange c × IsApartFromFirst c cs × AreChanges cs

-- what is told of a router at an address whose targets are these: the two where they differ, else nothing
abbrev pub TellsChange : Target → Target → Option (Target × Target) → Type 0
TellsChange before after None = before ≡ after
TellsChange before after (Some p) = (p ≡ (before, after)) × (before ≡ after → ⊥)

-- where what routers do with addresses differs between two moments, before and after
pub record IsDelta (before after : RouterId → ℕ → Target) (changes : List Change) : Type 0 where
  pub form : AreChanges changes
  pub exact : (r : RouterId) (a : ℕ) → a < 2 ^ 32 → TellsChange (before r a) (after r a) (change_at changes r a)
