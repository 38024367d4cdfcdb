-- Cycles of ranges of addresses, and what is put together of them.
use Rattle.std.specs.Prelude.{ℕ, Bool, List, [], ◌≡◌, ◌≢◌, ◌+◌, ◌<◌, ◌≤◌, ◌^◌, IsTrue, Contains, length, slice_index_or}
use Rattle.base.specs.Cycles.{BeginAt, HasCycle, goes_round}
use Rattle.base.specs.Runs.{AreRuns, addresses_in}
use Rattle.base.specs.declared.cycle.Cycle.{Cycle}
use Rattle.base.specs.declared.ids.RouterId.{RouterId}
use Rattle.base.specs.declared.run.Run.{Run}
use Rattle.base.specs.declared.target.Target.{Target}
use Rattle.loop_check.specs.CycleOrder.{AreOfOtherRouters}
use Rattle.loop_check.specs.Bounds.{AreBounds, only_within}
use Rattle.loop_check.specs.declared.share.Share.{Share}

-- a cycle of some address between two bounds, with the least such address and the number of them
pub record IsCycleWithin (low past : ℕ) (does : RouterId → ℕ → Target) (c : Cycle) : Type 0 where
  pub runs : List Run
  pub are : AreRuns runs (only_within low past (goes_round does c.routers))
  pub least : BeginAt runs c.least
  pub addresses : c.addresses ≡ addresses_in runs

-- all cycles of the addresses between two bounds
pub record AreCyclesWithin (low past : ℕ) (does : RouterId → ℕ → Target) (cycles : List Cycle) : Type 0 where
  pub each : (c : Cycle) → Contains cycles c → IsCycleWithin low past does c
  pub differ : AreOfOtherRouters cycles
  pub all : (routers : List RouterId) (a : ℕ) → low ≤ a → a < past → a < 2 ^ 32
      → IsTrue (goes_round does routers a) → HasCycle cycles routers

-- the cycles of the addresses between two bounds, for each two in order
pub record AreCyclesByRange (at : ℕ → ℕ) (does : RouterId → ℕ → Target) (pieces : List (List Cycle)) : Type 0 where
  pub each : (k : ℕ) (d : List Cycle) → k < length pieces
      → AreCyclesWithin (at k) (at (k + 1)) does (slice_index_or pieces k d)

-- the cycles of all addresses, range by range
pub record AreCyclePieces (does : RouterId → ℕ → Target) (pieces : List (List Cycle)) : Type 0 where
  pub at : ℕ → ℕ
  pub bounds : AreBounds at
  pub end : at (length pieces) ≡ 2 ^ 32
  pub cycles : AreCyclesByRange at does pieces

-- the least of the addresses that pass a test, if there is one, and the number of them
pub record IsShare (test : ℕ → Bool) (share : Share) : Type 0 where
  pub runs : List Run
  pub are : AreRuns runs test
  pub least : runs ≢ [] → BeginAt runs share.least
  pub addresses : share.addresses ≡ addresses_in runs
