-- Lists whose elements' keys ascend, and the place of a key in them.
use Rattle.std.specs.Prelude.{ℕ, zero, suc, List, [], ◌∷◌, ◌≡◌, ◌+◌, ◌<◌, ◌≤◌}

-- the keys ascend, and none of them is below `start`
abbrev pub AscendsFrom : {T : Type 0} → (T → ℕ) → ℕ → List T → Type 0
AscendsFrom key_of start [] = Unit {0}
AscendsFrom key_of start (x ∷ xs) = (start ≤ key_of x) × AscendsFrom key_of (key_of x + 1) xs

-- before the place the keys are below k, and the one at the place is not
abbrev pub IsPlace : {T : Type 0} → (T → ℕ) → List T → ℕ → ℕ → Type 0
IsPlace key_of [] k i = i ≡ 0
IsPlace key_of (x ∷ xs) k zero = k ≤ key_of x
IsPlace key_of (x ∷ xs) k (suc i) = (key_of x < k) × IsPlace key_of xs k i

-- before the place the keys are below k, and the one at the place is k
abbrev pub IsFound : {T : Type 0} → (T → ℕ) → List T → ℕ → ℕ → Type 0
IsFound key_of [] k i = ⊥
IsFound key_of (x ∷ xs) k zero = key_of x ≡ k
IsFound key_of (x ∷ xs) k (suc i) = (key_of x < k) × IsFound key_of xs k i

-- before the place the keys are below k, and the one at the place is above it
abbrev pub IsGap : {T : Type 0} → (T → ℕ) → List T → ℕ → ℕ → Type 0
IsGap key_of [] k i = i ≡ 0
IsGap key_of (x ∷ xs) k zero = k < key_of x
IsGap key_of (x ∷ xs) k (suc i) = (key_of x < k) × IsGap key_of xs k i
