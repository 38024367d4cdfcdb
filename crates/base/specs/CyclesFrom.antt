-- The cycles of the addresses from one on: a part of those of all addresses.
use Rattle.std.specs.Prelude.{ℕ, Bool, List, Option, None, Some, ◌≡◌, ◌<◌, ◌≤◌, ◌^◌, ◌⊎◌, ◌&&◌, ◌||◌, ◌==◌, nat_lt, Contains, IsTrue, IsFalse}
use Rattle.base.specs.Cycles.{is_cycle, goes_round, first_router, IsCycle, AreInOrder, HasCycle}
use Rattle.base.specs.declared.cycle.Cycle.{Cycle}
use Rattle.base.specs.declared.ids.RouterId.{RouterId}
use Rattle.base.specs.declared.target.Target.{Target}

-- the cycle of one address in which a router is the first, if there is one
abbrev pub IsCycleFrom : (RouterId → Target) → RouterId → Option (List RouterId) → Type 0
IsCycleFrom target_at first None =
    (routers : List RouterId) → IsTrue (is_cycle target_at routers) → first_router routers ≡ first.0 → ⊥
IsCycleFrom target_at first (Some routers) = IsTrue (is_cycle target_at routers) × (first_router routers ≡ first.0)

-- whether a cycle comes before another: by least address, then by first router
abbrev pub is_before : Cycle → Cycle → Bool
is_before x y =
    nat_lt x.least y.least || ((x.least == y.least) && nat_lt (first_router x.routers) (first_router y.routers))

-- the cycle of these routers, if addresses go round it
abbrev pub IsCycleOf : (RouterId → ℕ → Target) → List RouterId → Option Cycle → Type 0
IsCycleOf does routers None = (a : ℕ) → a < 2 ^ 32 → IsFalse (goes_round does routers a)
IsCycleOf does routers (Some c) = IsCycle does c × (c.routers ≡ routers)

-- a cycle put in its place among others
pub record IsPutAmong (c : Cycle) (old new : List Cycle) : Type 0 where
  pub order : AreInOrder new
  pub only : (x : Cycle) → Contains new x → (c ≡ x) ⊎ Contains old x
  pub here : Contains new c
  pub kept : (x : Cycle) → Contains old x → Contains new x

-- some cycles, in order
pub record AreSomeCycles (does : RouterId → ℕ → Target) (cycles : List Cycle) : Type 0 where
  pub order : AreInOrder cycles
  pub each : (c : Cycle) → Contains cycles c → IsCycle does c

-- cycles told beside others: that of these routers, if addresses go round it
pub record TellsCycle (does : RouterId → ℕ → Target) (routers : List RouterId) (old new : List Cycle) : Type 0 where
  pub form : AreSomeCycles does new
  pub told : (a : ℕ) → a < 2 ^ 32 → IsTrue (goes_round does routers a) → HasCycle new routers
  pub kept : (x : Cycle) → Contains old x → Contains new x

-- cycles told beside others: those of an address of which the first router is one from `low` on and before `past`
pub record TellsCycles (does : RouterId → ℕ → Target) (low past a : ℕ) (old new : List Cycle) : Type 0 where
  pub form : AreSomeCycles does new
  pub told : (routers : List RouterId) → low ≤ first_router routers → first_router routers < past
      → IsTrue (goes_round does routers a) → HasCycle new routers
  pub kept : (x : Cycle) → Contains old x → Contains new x

-- the cycles of the addresses from `at` on
pub record AreCyclesFrom (does : RouterId → ℕ → Target) (at : ℕ) (cycles : List Cycle) : Type 0 where
  pub form : AreSomeCycles does cycles
  pub all : (routers : List RouterId) (a : ℕ) → at ≤ a → a < 2 ^ 32
      → IsTrue (goes_round does routers a) → HasCycle cycles routers
