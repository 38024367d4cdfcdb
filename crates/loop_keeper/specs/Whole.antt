-- Cycles of a row, as they are found.
use Rattle.std.specs.Prelude.{ℕ, List}
use Rattle.base.specs.declared.ids.RouterId.{RouterId}
use Rattle.loop_keeper.specs.declared.found.Found.{Found}

-- the cycle of these routers, from one address up to, and without, another one
abbrev pub found_between : ℕ → ℕ → List RouterId → Found
found_between low past routers = record { routers = routers; low = low; past = past }
