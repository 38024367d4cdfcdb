-- What kept segments tell of cycles.
use Rattle.std.specs.Prelude.{ℕ, zero, suc, List, [], ◌∷◌, ◌≡◌, ◌+◌, ◌-◌, ◌<◌, ◌^◌, length, map, slice_index_or}
use Rattle.base.specs.declared.cycle.Cycle.{Cycle}
use Rattle.base.specs.declared.ids.RouterId.{RouterId}
use Rattle.loop_keeper.specs.Kept.{Kept}

-- where the segment at a place begins; behind the last one all addresses end
abbrev pub begin_at : List Kept → ℕ → ℕ
begin_at [] place = 2 ^ 32
begin_at (k ∷ ks) zero = k.low
begin_at (k ∷ ks) (suc place) = begin_at ks place

-- the cycles of the segment at a place
abbrev pub cycles_at : List Kept → ℕ → List (List RouterId)
cycles_at [] place = []
cycles_at (k ∷ ks) zero = k.cycles
cycles_at (k ∷ ks) (suc place) = cycles_at ks place

-- the cycle of these routers with the addresses from `low` up to, and without, `past`
abbrev pub cycle_between : ℕ → ℕ → List RouterId → Cycle
cycle_between low past routers = record { routers = routers; least = low; addresses = past - low }

-- the cycles of the segment at a place, as they are told
abbrev pub piece_of : List Kept → ℕ → List Cycle
piece_of kept place = map (cycle_between (begin_at kept place) (begin_at kept (place + 1))) (cycles_at kept place)

-- the cycles of the segments before a place, behind none
pub record ArePieces (kept : List Kept) (place : ℕ) (pieces : List (List Cycle)) : Type 0 where
  pub long : length pieces ≡ place + 1
  pub first : (d : List Cycle) → slice_index_or pieces 0 d ≡ []
  pub rest : (k : ℕ) (d : List Cycle) → k < place → slice_index_or pieces (k + 1) d ≡ piece_of kept k
