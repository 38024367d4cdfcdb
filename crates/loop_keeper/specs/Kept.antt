-- Cycles that are kept, by segments: each from an address up to the next segment's.
use Rattle.std.specs.Prelude.{ℕ, List, [], ◌∷◌, ◌+◌, ◌<◌, ◌≤◌, ◌^◌, Contains, IsTrue, refl, length, slice_index_or}
use Rattle.std.specs.Coded.{Coded, code_by, coded_list, coded_ℕ, coded×}
use Rattle.base.specs.Cycles.{goes_round}
use Rattle.base.specs.declared.ids.RouterId.{RouterId}
use Rattle.base.specs.declared.target.Target.{Target}

-- a segment's first address, and the cycles that its addresses go round
pub record Kept : Type 0 where
  pub low : ℕ
  pub cycles : List (List RouterId)

-- a router is stored as its number
abbrev pub router_code : Coded RouterId
router_code = code_by ℕ coded_ℕ (λ r. r.0) (λ n. record { 0 = n }) (λ _. refl)

-- it is stored as the pair of its fields
abbrev pub kept_code : Coded Kept
kept_code =
    code_by (ℕ × List (List RouterId)) (coded× coded_ℕ (coded_list (coded_list router_code))) (λ k. (k.low, k.cycles))
    (λ p. record { low = p.0; cycles = p.1 }) (λ _. refl)

-- the segment at a place has an address: it doesn't begin above it, and the next one does
pub record IsAt (kept : List Kept) (place a : ℕ) : Type 0 where
  pub inside : place < length kept
  pub from : (d : Kept) → (slice_index_or kept place d).low ≤ a
  pub to : (d : Kept) → place + 1 < length kept → a < (slice_index_or kept (place + 1) d).low

-- the segment of an address has the cycle of these routers
pub record HasKept (kept : List Kept) (routers : List RouterId) (a : ℕ) : Type 0 where
  pub place : ℕ
  pub at : IsAt kept place a
  pub among : (d : Kept) → Contains (slice_index_or kept place d).cycles routers

-- no cycle comes twice
abbrev pub IsOnce : List (List RouterId) → Type 0
IsOnce [] = Unit {0}
IsOnce (rs ∷ rest) = (Contains rest rs → ⊥) × IsOnce rest

-- segments in order of their addresses, each with cycles that differ
pub record AreSegments (kept : List Kept) : Type 0 where
  pub rise : (i j : ℕ) (d : Kept) → i < j → j < length kept → (slice_index_or kept i d).low < (slice_index_or kept j d).low
  pub below : (i : ℕ) (d : Kept) → i < length kept → (slice_index_or kept i d).low < 2 ^ 32
  pub once : (i : ℕ) (d : Kept) → i < length kept → IsOnce (slice_index_or kept i d).cycles

-- What is kept of a network is all its cycles: an address goes round the cycle of these routers exactly where its
-- segment has that cycle.
pub record AreKept (does : RouterId → ℕ → Target) (kept : List Kept) : Type 0 where
  pub form : AreSegments kept
  pub sound : (routers : List RouterId) (a : ℕ) → a < 2 ^ 32 → HasKept kept routers a → IsTrue (goes_round does routers a)
  pub all : (routers : List RouterId) (a : ℕ) → a < 2 ^ 32 → IsTrue (goes_round does routers a) → HasKept kept routers a

-- no address goes round
abbrev pub IsLoopFree : (RouterId → ℕ → Target) → Type 0
IsLoopFree does = (routers : List RouterId) (a : ℕ) → a < 2 ^ 32 → IsTrue (goes_round does routers a) → ⊥
