-- Following an address hop by hop, with links taken as down.
use Rattle.std.specs.Prelude.{ℕ, zero, suc, List, [], ◌∷◌, ◌++◌, ◌≡◌, ◌<◌}
use Rattle.base.specs.declared.ids.RouterId.{RouterId}
use Rattle.base.specs.declared.ids.LinkId.{LinkId}
use Rattle.base.specs.declared.target.Target.{Target}
use Rattle.base.specs.declared.target.Target.TheVariants.{NoRoute, Dropped, Local, Exit, OnLink, To, LinkDown}
use Rattle.base.specs.declared.path_end.PathEnd.{PathEnd}
use Rattle.base.specs.declared.path_end.PathEnd.TheVariants.{At, Loop}
use Rattle.base.specs.Links.{without}

-- what each router does with each address, with these links down
abbrev pub with_down : List LinkId → (RouterId → ℕ → Target) → RouterId → ℕ → Target
with_down down does r a = without down (does r a)

-- what each router does with one address
abbrev pub at_address : (RouterId → ℕ → Target) → ℕ → RouterId → Target
at_address does a r = does r a

-- what is made of the router that a target goes on to, or of none
abbrev pub on_far : {A : Type 0} → Target → A → (RouterId → A) → A
on_far (To s l) none some = some s
on_far NoRoute none some = none
on_far (Dropped kind) none some = none
on_far Local none some = none
on_far (Exit i) none some = none
on_far (OnLink i) none some = none
on_far (LinkDown l) none some = none

-- The routers of a walk, of which each goes on to the next, and where it ends. At most `hops` hops are made, and a
-- walk that has made as many has no end: it is in a loop.
abbrev pub walk : (RouterId → Target) → ℕ → RouterId → List RouterId
walk target_at zero r = r ∷ []
walk target_at (suc hops) r = r ∷ on_far (target_at r) [] (λ s. walk target_at hops s)

abbrev pub walk_end : (RouterId → Target) → ℕ → RouterId → PathEnd
walk_end target_at zero r = Loop
walk_end target_at (suc hops) r = on_far (target_at r) (At (target_at r)) (λ s. walk_end target_at hops s)

-- the last router of a walk of at most so many hops
abbrev pub walk_last : (RouterId → Target) → ℕ → RouterId → RouterId
walk_last target_at zero r = r
walk_last target_at (suc hops) r = on_far (target_at r) r (λ s. walk_last target_at hops s)

-- of so many routers each goes on to one of them, if to any
abbrev pub LeadsWithin : ℕ → (RouterId → Target) → Type 0
LeadsWithin n target_at = (r s : RouterId) (l : LinkId) → r.0 < n → target_at r ≡ To s l → s.0 < n

-- the last of these routers does this with the address, and goes on to none
pub record EndsWith (target_at : RouterId → Target) (routers : List RouterId) (last_target : Target) : Type 0 where
  pub front : List RouterId
  pub last : RouterId
  pub split : routers ≡ front ++ last ∷ []
  pub is : target_at last ≡ last_target
  pub stays : (s : RouterId) (l : LinkId) → last_target ≡ To s l → ⊥
