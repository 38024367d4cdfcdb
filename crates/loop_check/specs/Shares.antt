-- What is known of the cycles of the addresses before a bound: under the routers of each the share of those addresses.
use Rattle.std.specs.Prelude.{ℕ, List, Some, ◌≡◌, ◌+◌, ◌<◌, ◌^◌, IsTrue}
use Rattle.std.specs.Global.{Vec}
use Rattle.std.specs.Option.{unwrap_or}
use Rattle.base.specs.Cycles.{HasCycle, goes_round}
use Rattle.base.specs.declared.cycle.Cycle.{Cycle}
use Rattle.base.specs.declared.ids.RouterId.{RouterId}
use Rattle.base.specs.declared.target.Target.{Target}
use Rattle.loop_check.specs.CycleOrder.{AreUnsorted}
use Rattle.loop_check.specs.CycleRuns.{HasKnown, value_under}
use Rattle.loop_check.specs.CyclesByRange.{IsShare}
use Rattle.loop_check.specs.Bounds.{only_within}
use Rattle.loop_check.specs.declared.share.Share.{Share}

-- the addresses that a cycle tells of
abbrev pub share_of : Cycle → Share
share_of c = record { least = c.least; addresses = c.addresses }

-- no address
abbrev pub no_share : Share
no_share = record { least = 0; addresses = 0 }

-- the cycle of these routers with these addresses
abbrev pub cycle_from : Vec RouterId × Share → Cycle
cycle_from e = record { routers = e.0.items; least = e.1.least; addresses = e.1.addresses }

-- two shares as one, the addresses of the first before those of the second
pub record AreBoth (x y z : Share) : Type 0 where
  pub count : x.addresses + y.addresses < 2 ^ 64 → z.addresses ≡ x.addresses + y.addresses
  pub later : 0 < x.addresses → z.least ≡ x.least
  pub first : x.addresses ≡ 0 → z.least ≡ y.least

-- the addresses of a cycle added to its share
pub record IsShareAdded (c : Cycle) (old new : List (Vec RouterId × Share)) : Type 0 where
  pub now : Share
  pub there : value_under new c.routers ≡ Some now
  pub both : AreBoth (unwrap_or (value_under old c.routers) no_share) (share_of c) now
  pub other : (others : List RouterId) → (c.routers ≡ others → ⊥) → value_under new others ≡ value_under old others

-- the shares of all cycles of the addresses before a bound
pub record AreShares (past : ℕ) (does : RouterId → ℕ → Target) (known : List (Vec RouterId × Share)) : Type 0 where
  pub each : (routers : List RouterId) (share : Share) → value_under known routers ≡ Some share
      → IsShare (only_within 0 past (goes_round does routers)) share
  pub some : (routers : List RouterId) (share : Share) → value_under known routers ≡ Some share → 0 < share.addresses
  pub all : (routers : List RouterId) (a : ℕ) → a < past → a < 2 ^ 32 → IsTrue (goes_round does routers a)
      → HasKnown known routers

-- all cycles of all addresses, in any order, each once
pub record AreAllUnsorted (does : RouterId → ℕ → Target) (cycles : List Cycle) : Type 0 where
  pub form : AreUnsorted does cycles
  pub all : (routers : List RouterId) (a : ℕ) → a < 2 ^ 32 → IsTrue (goes_round does routers a) → HasCycle cycles routers
