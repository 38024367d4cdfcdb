-- Following one row from router to router.
use Rattle.std.specs.Prelude.{Bool, true, false, List, Option, None, ◌≡◌, ◌<◌, length, slice_index_or, IsSome, IsTrue}
use Rattle.std.specs.List.{list_any}
use Rattle.base.specs.Cycles.{is_cycle}
use Rattle.base.specs.Reach.{is_router}
use Rattle.base.specs.declared.ids.LinkId.{LinkId}
use Rattle.base.specs.declared.ids.RouterId.{RouterId}
use Rattle.base.specs.declared.target.Target.{Target}
use Rattle.base.specs.declared.target.Target.TheVariants.{NoRoute, To}
use Rattle.loop_check.specs.declared.follow.Followed.{Followed}
use Rattle.loop_check.specs.declared.follow.Followed.TheVariants.{Round, Ends, Earlier}

-- what each router does, by a list of that in the order of their numbers
abbrev pub hops : List Target → RouterId → Target
hops targets r = slice_index_or targets r.0 NoRoute

-- each router goes on to one of them, if to any
pub record LeadInside (targets : List Target) : Type 0 where
  pub inside : (r s : RouterId) (l : LinkId) → hops targets r ≡ To s l → s.0 < length targets

-- whether a router is one of these
abbrev pub is_among : List RouterId → RouterId → Bool
is_among routers r = list_any (is_router r) routers

-- each cycle that has a router has another one
abbrev pub Follows : (RouterId → Target) → RouterId → RouterId → Type 0
Follows target_at x y =
    (routers : List RouterId) → IsTrue (is_cycle target_at routers) → IsTrue (is_among routers x)
    → IsTrue (is_among routers y)

-- no cycle has a router
abbrev pub IsInNone : (RouterId → Target) → RouterId → Type 0
IsInNone target_at r = (routers : List RouterId) → IsTrue (is_cycle target_at routers) → IsTrue (is_among routers r) → ⊥

-- how following from a router on ends, with the routers passed
abbrev pub IsFollowed : (RouterId → Target) → RouterId → List RouterId → Followed → Type 0
IsFollowed target_at first path Round = IsTrue (is_cycle target_at path) × IsTrue (is_among path first)
IsFollowed target_at first path Ends = IsInNone target_at first
IsFollowed target_at first path (Earlier far) = (far.0 < first.0) × Follows target_at first far

-- whether these routers are the one cycle that has a router, or there is none
abbrev pub IsCycleAt : (RouterId → Target) → RouterId → List RouterId → Bool → Type 0
IsCycleAt target_at r path false = IsInNone target_at r
IsCycleAt target_at r path true =
    IsTrue (is_cycle target_at path)
    × ((routers : List RouterId) → IsTrue (is_cycle target_at routers) → IsTrue (is_among routers r) → routers ≡ path)

-- a router was passed
abbrev pub IsPassed : List (Option RouterId) → RouterId → Type 0
IsPassed passed r = IsSome (slice_index_or passed r.0 None)

-- one of these routers was passed
pub record MeetsPassed (passed : List (Option RouterId)) (routers : List RouterId) : Type 0 where
  pub router : RouterId
  pub is_passed : IsPassed passed router
  pub among : IsTrue (is_among routers router)
