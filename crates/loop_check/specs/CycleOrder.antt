-- Cycles before they stand in order.
use Rattle.std.specs.Prelude.{ℕ, List, [], ◌∷◌, Option, None, Some, ◌≡◌, ◌<◌, ◌^◌, ◌⊎◌, Contains, IsTrue, length, slice_index_or}
use Rattle.base.specs.Cycles.{HasCycle, IsCycle, first_router, goes_round}
use Rattle.base.specs.declared.cycle.Cycle.{Cycle}
use Rattle.base.specs.declared.ids.RouterId.{RouterId}
use Rattle.base.specs.declared.target.Target.{Target}

-- by what cycles are put in order: the least address, then the first router
abbrev pub order_key : Cycle → ℕ × ℕ
order_key c = (c.least, first_router c.routers)

-- the cycle, if there is one
abbrev pub listed_cycle : Option Cycle → List Cycle
listed_cycle None = []
listed_cycle (Some c) = c ∷ []

-- no two are of the same routers
abbrev pub AreOfOtherRouters : List Cycle → Type 0
AreOfOtherRouters cycles =
    (i j : ℕ) (d : Cycle) → i < j → j < length cycles
    → (slice_index_or cycles i d).routers ≡ (slice_index_or cycles j d).routers → ⊥

-- cycles of a network in any order, each once
pub record AreUnsorted (does : RouterId → ℕ → Target) (cycles : List Cycle) : Type 0 where
  pub each : (c : Cycle) → Contains cycles c → IsCycle does c
  pub differ : AreOfOtherRouters cycles

-- cycles behind others: that of these routers, of which there was none, if addresses go round it
pub record AddsCycle (does : RouterId → ℕ → Target) (routers : List RouterId) (old new : List Cycle) : Type 0 where
  pub form : AreUnsorted does new
  pub only : (x : Cycle) → Contains new x → Contains old x ⊎ (x.routers ≡ routers)
  pub told : (a : ℕ) → a < 2 ^ 32 → IsTrue (goes_round does routers a) → HasCycle new routers
  pub kept : (x : Cycle) → Contains old x → Contains new x
