-- Rows of half-closed intervals that cover the addresses once, in order. What a row's two bounds are is given: `low` is
-- its first address and `high` the one after its last.
use Rattle.std.specs.Prelude.{ℕ, Bool, List, [], ◌∷◌, Option, None, Some, ◌≡◌, ◌<◌, ◌^◌, ◌&&◌, nat_le, nat_lt, if◌then◌else◌}

-- whether an address is one of those from `low` up to, and without, `high`
abbrev pub is_within : ℕ → ℕ → ℕ → Bool
is_within low high a = nat_le low a && nat_lt a high

-- the first row begins at `start`, each other one where the one before it ends, and the last ends at 2^32
abbrev pub CoverFrom : {X : Type 0} → (X → ℕ) → (X → ℕ) → ℕ → List X → Type 0
CoverFrom low high start [] = start ≡ 2 ^ 32
CoverFrom low high start (x ∷ xs) = (low x ≡ start) × (low x < high x) × CoverFrom low high (high x) xs

-- the row that has an address
abbrev pub holder : {X : Type 0} → (X → ℕ) → (X → ℕ) → List X → ℕ → Option X
holder low high [] a = None
holder low high (x ∷ xs) a = if is_within (low x) (high x) a then Some x else holder low high xs a
