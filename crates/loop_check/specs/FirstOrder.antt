-- Cycles of one row that were found so far, by first router.
use Rattle.std.specs.Prelude.{ℕ, List, Option, ◌≡◌, ◌⊎◌, Contains, IsTrue}
use Rattle.base.specs.Cycles.{is_cycle, first_router}
use Rattle.base.specs.declared.ids.RouterId.{RouterId}
use Rattle.base.specs.declared.target.Target.{Target}
use Rattle.loop_check.specs.Following.{MeetsPassed}
use Rattle.loop_check.specs.RowCycles.{AreInFirstOrder}

-- one of these has this first router
pub record HasFirst (cycles : List (List RouterId)) (first : ℕ) : Type 0 where
  pub cycle : List RouterId
  pub among : Contains cycles cycle
  pub is : first_router cycle ≡ first

-- a cycle put among others, unless one with its first router is there
pub record IsPutByFirst (path : List RouterId) (old new : List (List RouterId)) : Type 0 where
  pub order : AreInFirstOrder new
  pub only : (x : List RouterId) → Contains new x → (path ≡ x) ⊎ Contains old x
  pub kept : (x : List RouterId) → Contains old x → Contains new x
  pub there : HasFirst new (first_router path)

-- some cycles, by first router
pub record AreSomeOf (target_at : RouterId → Target) (cycles : List (List RouterId)) : Type 0 where
  pub order : AreInFirstOrder cycles
  pub each : (x : List RouterId) → Contains cycles x → IsTrue (is_cycle target_at x)

-- all cycles of which a router was passed are among these
pub record TellPassed (target_at : RouterId → Target) (passed : List (Option RouterId)) (cycles : List (List RouterId)) :
    Type 0 where
  pub all : (x : List RouterId) → IsTrue (is_cycle target_at x) → MeetsPassed passed x → Contains cycles x
