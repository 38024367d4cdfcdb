-- The text of a number of a few digits.
use Rattle.std.proofs.Common.{◌≡◌, ℕ, ◌+◌, ◌/◌, ◌%◌, ◌^◌, ◌<◌, ◌≤◌, List, [], ◌∷◌, ◌++◌, refl, arith, append_assoc}
use Rattle.std.proofs.lemmas.Fmt.{decimal_digit, decimal_step}
use Rattle.std.specs.Fmt.{decimal}

pub decimal_of_one : (n : ℕ) (out : List ℕ) → n < 10 → out ++ (48 + n) ∷ [] ≡ out ++ decimal n
decimal_of_one n out hi = rw (decimal_digit n hi) refl

decimal_two : (n : ℕ) → 10 ≤ n → n < 100 → decimal n ≡ (48 + n / 10) ∷ (48 + n % 10) ∷ []
decimal_two n lo hi = rw (decimal_step n lo (omega arith), decimal_digit (n / 10) (omega arith)) refl

decimal_three : (n : ℕ) → 100 ≤ n → n < 1000 → decimal n ≡ (48 + n / 100) ∷ (48 + n / 10 % 10) ∷ (48 + n % 10) ∷ []
decimal_three n lo hi =
    let a : n / 10 / 10 ≡ n / 100 = omega arith in
    rw (decimal_step n (omega arith) (omega arith), decimal_two (n / 10) (omega arith) (omega arith), a) refl

pub decimal_of_two : (n : ℕ) (out : List ℕ) → 10 ≤ n → n < 100 → (out ++ (48 + n / 10) ∷ []) ++ (48 + n % 10) ∷ [] ≡ out ++ decimal n
decimal_of_two n out lo hi = rw (decimal_two n lo hi, append_assoc) refl

pub decimal_of_three : (n : ℕ) (out : List ℕ) → 100 ≤ n → n < 1000 →
    ((out ++ (48 + n / 100) ∷ []) ++ (48 + n / 10 % 10) ∷ []) ++ (48 + n % 10) ∷ [] ≡ out ++ decimal n
decimal_of_three n out lo hi = rw (decimal_three n lo hi, append_assoc, append_assoc) refl

-- the thousands, and three digits
pub decimal_thousands : (n : ℕ) (out : List ℕ) → 1000 ≤ n → n < 2 ^ 64 →
    (((out ++ decimal (n / 1000)) ++ (48 + n / 100 % 10) ∷ []) ++ (48 + n / 10 % 10) ∷ []) ++ (48 + n % 10) ∷ [] ≡ out ++ decimal n
decimal_thousands n out lo hi =
    let a : n / 10 / 10 ≡ n / 100 = omega arith in
    let b : n / 100 / 10 ≡ n / 1000 = omega arith in
    rw (decimal_step n (omega arith) hi, decimal_step (n / 10) (omega arith) (omega arith), a, decimal_step (n / 100) (omega arith) (omega arith), b)
    (simp append_assoc refl)
