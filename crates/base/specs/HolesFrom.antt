-- The black holes of the addresses from one on: a part of those of all addresses.
use Rattle.std.specs.Prelude.{ℕ, Bool, List, Option, None, Some, ◌≡◌, ◌<◌, ◌≤◌, ◌^◌, ◌⊎◌, ◌&&◌, ◌||◌, ◌==◌, nat_lt, Contains, IsTrue, if◌then◌else◌}
use Rattle.base.specs.Holes.{cause_rank, is_cause, falls, IsHole, AreInOrder, HasHole}
use Rattle.base.specs.Walk.{at_address, walk_end, walk_last}
use Rattle.base.specs.declared.hole.Hole.{Hole}
use Rattle.base.specs.declared.path_end.PathEnd.{PathEnd}
use Rattle.base.specs.declared.path_end.PathEnd.TheVariants.{At, Loop}
use Rattle.base.specs.declared.ids.RouterId.{RouterId}
use Rattle.base.specs.declared.target.Target.{Target}

-- whether a hole is at this last router, by this cause
abbrev pub is_hole_of : RouterId → Target → Hole → Bool
is_hole_of last cause h = (h.router.0 == last.0) && (cause_rank h.cause == cause_rank cause)

-- whether a hole comes before another: by router, then cause
abbrev pub is_before : Hole → Hole → Bool
is_before x y =
    nat_lt x.router.0 y.router.0 || ((x.router.0 == y.router.0) && nat_lt (cause_rank x.cause) (cause_rank y.cause))

-- where a walk with this last router and end falls, and by which cause
abbrev pub fall_of : RouterId → PathEnd → Option (RouterId × Target)
fall_of last (At cause) = if is_cause cause then Some (last, cause) else None
fall_of last Loop = None

-- where the walk of an address from a router falls, and by which cause
abbrev pub fall_at : ℕ → (RouterId → ℕ → Target) → RouterId → ℕ → Option (RouterId × Target)
fall_at routers does first a =
    fall_of (walk_last (at_address does a) routers first) (walk_end (at_address does a) routers first)

-- a hole put in its place among others
pub record IsPutAmong (h : Hole) (old new : List Hole) : Type 0 where
  pub order : AreInOrder new
  pub only : (x : Hole) → Contains new x → (h ≡ x) ⊎ Contains old x
  pub here : Contains new h
  pub kept : (x : Hole) → Contains old x → Contains new x

-- black holes of all of a router's walks, in order
pub record AreSomeHoles (routers : ℕ) (does : RouterId → ℕ → Target) (first : RouterId) (holes : List Hole) : Type 0 where
  pub order : AreInOrder holes
  pub each : (h : Hole) → Contains holes h → IsHole routers does first h

-- holes told beside others: that of an address is among them
pub record TellsHole (routers : ℕ) (does : RouterId → ℕ → Target) (first : RouterId) (a : ℕ) (old new : List Hole) : Type 0 where
  pub form : AreSomeHoles routers does first new
  pub told : (last : RouterId) (cause : Target)
      → IsTrue (falls routers does first last cause a) → HasHole new last cause
  pub kept : (x : Hole) → Contains old x → Contains new x

-- the black holes of the addresses from `at` on
pub record AreHolesFrom (routers : ℕ) (does : RouterId → ℕ → Target) (first : RouterId) (at : ℕ) (holes : List Hole) : Type 0 where
  pub form : AreSomeHoles routers does first holes
  pub all : (last : RouterId) (cause : Target) (a : ℕ) → at ≤ a → a < 2 ^ 32
      → IsTrue (falls routers does first last cause a) → HasHole holes last cause
