-- Following one row from a router on until it comes back to it.
use Rattle.std.specs.Prelude.{Bool, true, false, not, List, ◌∷◌, ◌++◌, ◌≡◌, ◌≤◌, IsTrue}
use Rattle.std.specs.List.{list_all}
use Rattle.base.specs.Cycles.{go_round}
use Rattle.base.specs.Reach.{is_router}
use Rattle.base.specs.declared.ids.RouterId.{RouterId}
use Rattle.base.specs.declared.target.Target.{Target}
use Rattle.loop_check.specs.Following.{IsInNone, is_among}

-- the routers passed, of which the first comes back to itself and is not among the others
pub record ComesBack (target_at : RouterId → Target) (first : RouterId) (path : List RouterId) : Type 0 where
  pub rest : List RouterId
  pub is : path ≡ first ∷ rest
  pub others : IsTrue (list_all (λ r. not (is_router first r)) rest)
  pub round : IsTrue (go_round target_at first (first ∷ rest))

-- whether it came back
abbrev pub IsFollowed : (RouterId → Target) → RouterId → List RouterId → Bool → Type 0
IsFollowed target_at first path false = IsInNone target_at first
IsFollowed target_at first path true = ComesBack target_at first path

-- routers that go round, from the first of them in the topology's order on
pub record IsTurned (path turned : List RouterId) : Type 0 where
  pub front : List RouterId
  pub back : List RouterId
  pub first : RouterId
  pub is : path ≡ front ++ first ∷ back
  pub turn : turned ≡ first ∷ (back ++ front)
  pub least : (r : RouterId) → IsTrue (is_among path r) → first.0 ≤ r.0
