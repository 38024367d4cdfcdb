-- The key of a list's first element.
use Rattle.std.specs.Prelude.{ℕ, List, [], ◌∷◌}

-- and 0 where there is no element
abbrev pub first_key : {T : Type 0} → (T → ℕ) → List T → ℕ
first_key key_of [] = 0
first_key key_of (x ∷ xs) = key_of x
