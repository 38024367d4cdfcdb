-- Rows of codes in one list, where one code is written, or a row is added.
use Rattle.std.proofs.Common.{◌≡◌, ℕ, zero, suc, ◌+◌, ◌-◌, ◌*◌, ◌<◌, ◌≤◌, ltb, Bool, true, false, List, ◌∷◌, ◌++◌, length, map, take, drop, get_or, set, refl, ap, ◌∙◌, arith}
use Rattle.std.specs.List.{range_with_len}
use Rattle.std.proofs.lemmas.Bool.Decides.{nat_tests}
use Rattle.std.proofs.lemmas.List.{drop-append-le, drop-set-add, drop-set-lt, drop_at, get_or-append-add, get_or_append_left, length-drop, take-append-le, take-set-le, take_all}
use Rattle.std.proofs.lemmas.Nat.{mul-le}
use Rattle.std.proofs.Math.Seq.{take-set-lt}
use Rattle.target_rows.specs.Rows.{code_at, codes_of}
use Rattle.target_rows.proofs.RowLemmas.{row-fits}

pub map-along : {X : Type 0} (f g : ℕ → X) (a n : ℕ) → ((k : ℕ) → a ≤ k → k < a + n → f k ≡ g k) → map f (range_with_len a n) ≡ map g (range_with_len a n)
map-along f g a zero same = refl
map-along f g a (suc n) same = ap (λ y. y ∷ map f (range_with_len (a + 1) n)) (same a (omega arith) (omega arith)) ∙ ap (λ ys. g a ∷ ys) (map-along f g (a + 1) n (λ k l m. same k (omega arith) (omega arith)))

-- ---- one code is written

pub row-written : (n a r c : ℕ) (codes : List ℕ) → r < n → codes_of n (set codes (a * n + r) c) a ≡ set (codes_of n codes a) r c
row-written n a r c codes l = ap (take n) (drop-set-add (a * n) codes r c) ∙ take-set-lt n (drop (a * n) codes) r c l

pub row-other : (n a b r c : ℕ) (codes : List ℕ) → r < n → (b ≡ a → ⊥) → codes_of n (set codes (a * n + r) c) b ≡ codes_of n codes b
row-other n a b r c codes l ne = by (ltb b a) refl
  where
    by : (t : Bool) → ltb b a ≡ t → codes_of n (set codes (a * n + r) c) b ≡ codes_of n codes b
    by true e =
        let lt : b < a = grind (arith, nat_tests) in
        let fits : b * n + n ≤ a * n = row-fits b a n lt in
        let split : a * n + r ≡ b * n + (a * n + r - b * n) = omega arith in
        ap (λ i. take n (drop (b * n) (set codes i c))) split
        ∙ ap (take n) (drop-set-add (b * n) codes (a * n + r - b * n) c)
        ∙ take-set-le n (drop (b * n) codes) (a * n + r - b * n) c (omega arith)
    by false e =
        let le : a ≤ b = grind (arith, nat_tests) in
        let lt : a < b = grind (arith, nat_tests) in
        ap (take n) (drop-set-lt (b * n) codes (a * n + r) c (omega (arith, row-fits a b n lt)))

-- ---- a row is added

pub row-kept : (n atoms b : ℕ) (codes row : List ℕ) → length codes ≡ atoms * n → b < atoms → codes_of n (codes ++ row) b ≡ codes_of n codes b
row-kept n atoms b codes row long l =
    let fits : b * n + n ≤ atoms * n = row-fits b atoms n l in
    ap (take n) (drop-append-le (b * n) codes row (omega arith))
    ∙ take-append-le n (drop (b * n) codes) row (omega (arith, length-drop (b * n) codes))

pub row-added : (n atoms : ℕ) (codes row : List ℕ) → length codes ≡ atoms * n → length row ≡ n → codes_of n (codes ++ row) atoms ≡ row
row-added n atoms codes row long len = ap (take n) (drop_at codes row (atoms * n) long) ∙ take_all n row (omega arith)

pub code-kept : (n atoms b q : ℕ) (codes row : List ℕ) → length codes ≡ atoms * n → b < atoms → q < n → code_at n (codes ++ row) b q ≡ code_at n codes b q
code-kept n atoms b q codes more long l m = get_or_append_left codes more 0 (b * n + q) (omega (arith, row-fits b atoms n l))

pub code-added : (n atoms q : ℕ) (codes row : List ℕ) → length codes ≡ atoms * n → code_at n (codes ++ row) atoms q ≡ get_or row q 0
code-added n atoms q codes row long = let at : atoms * n + q ≡ length codes + q = omega arith in ap (λ i. get_or (codes ++ row) i 0) at ∙ get_or-append-add codes row q 0

-- where the row of an atom ends fits into 64 bits
pub from-fits : (a n : ℕ) → a < 4294967296 → n < 4294967296 → a * n + n < 18446744073709551616
from-fits a n la ln = let m : a * n ≤ 4294967295 * 4294967295 = mul-le a n 4294967295 4294967295 (omega arith) (omega arith) in omega arith
