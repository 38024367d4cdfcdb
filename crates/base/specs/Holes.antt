-- Black holes: where walks end without a way on, and for which cause: no route, a route that drops, or a link that is
-- down or taken as down.
use Rattle.std.specs.Prelude.{ℕ, Bool, false, true, List, [], ◌∷◌, ◌≡◌, ◌≢◌, ◌+◌, ◌<◌, ◌^◌, ◌⊎◌, ◌&&◌, ◌==◌, Contains, IsTrue}
use Rattle.base.specs.Reach.{is_router}
use Rattle.base.specs.Runs.{AreRuns}
use Rattle.base.specs.Walk.{at_address, walk_end, walk_last}
use Rattle.base.specs.declared.hole.Hole.{Hole}
use Rattle.base.specs.declared.path_end.PathEnd.{PathEnd}
use Rattle.base.specs.declared.path_end.PathEnd.TheVariants.{At, Loop}
use Rattle.base.specs.declared.ids.RouterId.{RouterId}
use Rattle.base.specs.declared.target.DropKind.TheVariants.{Blackhole, Unreachable, Prohibit}
use Rattle.base.specs.declared.target.Target.{Target}
use Rattle.base.specs.declared.target.Target.TheVariants.{NoRoute, Dropped, Local, Exit, OnLink, To, LinkDown}

-- the causes in the order in which they are told: no route, dropped (by kind), down (by link); other targets are none
abbrev pub cause_rank : Target → ℕ
cause_rank NoRoute = 1
cause_rank (Dropped Blackhole) = 2
cause_rank (Dropped Unreachable) = 3
cause_rank (Dropped Prohibit) = 4
cause_rank (LinkDown l) = 5 + l.0
cause_rank Local = 0
cause_rank (Exit i) = 0
cause_rank (OnLink i) = 0
cause_rank (To s l) = 0

-- whether a target is a cause
abbrev pub is_cause : Target → Bool
is_cause NoRoute = true
is_cause (Dropped kind) = true
is_cause (LinkDown l) = true
is_cause Local = false
is_cause (Exit i) = false
is_cause (OnLink i) = false
is_cause (To s l) = false

-- whether a walk's end is of this cause; a loop is of none
abbrev pub ends_by : Target → PathEnd → Bool
ends_by cause (At target) = is_cause target && (cause_rank target == cause_rank cause)
ends_by cause Loop = false

-- whether an address's walk from a router ends at this last router by this cause: so many routers are there
abbrev pub falls : ℕ → (RouterId → ℕ → Target) → RouterId → RouterId → Target → ℕ → Bool
falls routers does first last cause a =
    is_router last (walk_last (at_address does a) routers first) && ends_by cause (walk_end (at_address does a) routers first)

-- a hole: the runs of the addresses that fall there, of which there is one
pub record IsHole (routers : ℕ) (does : RouterId → ℕ → Target) (first : RouterId) (h : Hole) : Type 0 where
  pub cause : IsTrue (is_cause h.cause)
  pub runs : AreRuns h.runs (falls routers does first h.router h.cause)
  pub some : h.runs ≢ []

-- by router, then cause
abbrev pub ComesBefore : Hole → Hole → Type 0
ComesBefore x y = (x.router.0 < y.router.0) ⊎ ((x.router.0 ≡ y.router.0) × (cause_rank x.cause < cause_rank y.cause))

abbrev pub AreInOrder : List Hole → Type 0
AreInOrder [] = Unit {0}
AreInOrder (x ∷ []) = Unit {0}
AreInOrder (x ∷ y ∷ rest) = ComesBefore x y × AreInOrder (y ∷ rest)

-- a hole among these where an address falls
pub record HasHole (holes : List Hole) (last : RouterId) (cause : Target) : Type 0 where
  pub hole : Hole
  pub among : Contains holes hole
  pub router : hole.router.0 ≡ last.0
  pub same : cause_rank hole.cause ≡ cause_rank cause

-- the black holes of a router's walks, in order, each router and cause once
pub record AreHoles (routers : ℕ) (does : RouterId → ℕ → Target) (first : RouterId) (holes : List Hole) : Type 0 where
  pub order : AreInOrder holes
  pub each : (h : Hole) → Contains holes h → IsHole routers does first h
  pub all : (last : RouterId) (cause : Target) (a : ℕ) → a < 2 ^ 32 → IsTrue (falls routers does first last cause a) → HasHole holes last cause
