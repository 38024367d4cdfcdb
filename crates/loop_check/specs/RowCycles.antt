-- The cycles of one address, or of addresses that every router treats alike.
use Rattle.std.specs.Prelude.{ℕ, List, [], ◌∷◌, ◌<◌, Contains, IsTrue, slice_index_or}
use Rattle.base.specs.Cycles.{is_cycle, first_router}
use Rattle.base.specs.Forwarding.{target_of}
use Rattle.base.specs.declared.forwarding_row.ForwardingRow.{ForwardingRow}
use Rattle.base.specs.declared.ids.RouterId.{RouterId}
use Rattle.base.specs.declared.target.Target.{Target}

-- by first router, no two with the same one
abbrev pub AreInFirstOrder : List (List RouterId) → Type 0
AreInFirstOrder [] = Unit {0}
AreInFirstOrder (x ∷ []) = Unit {0}
AreInFirstOrder (x ∷ y ∷ rest) = (first_router x < first_router y) × AreInFirstOrder (y ∷ rest)

-- all cycles, each once, by first router
pub record AreCyclesOf (target_at : RouterId → Target) (cycles : List (List RouterId)) : Type 0 where
  pub order : AreInFirstOrder cycles
  pub each : (routers : List RouterId) → Contains cycles routers → IsTrue (is_cycle target_at routers)
  pub all : (routers : List RouterId) → IsTrue (is_cycle target_at routers) → Contains cycles routers

-- all cycles of the addresses of the row at a place
abbrev pub AreCyclesAt : List ForwardingRow → ℕ → List (List RouterId) → Type 0
AreCyclesAt rows i cycles = (d : ForwardingRow) → AreCyclesOf (target_of (slice_index_or rows i d)) cycles
