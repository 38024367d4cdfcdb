-- How many bits of words are 1.
use Rattle.std.proofs.Common.{◌≡◌, ℕ, zero, suc, ◌+◌, ◌*◌, ◌/◌, ◌%◌, ◌^◌, ◌<◌, ◌≤◌, eqb, Bool, cond, List, ◌∷◌, ◌++◌, get_or, refl, ap, sym, ◌∙◌, arith, add-zero, zero-add, count_by, pow-suc}
use Rattle.std.specs.Int.{bit_at}
use Rattle.std.specs.Int.RustNames.{count_ones}
use Rattle.std.specs.List.{range_with_len}
use Rattle.std.proofs.lemmas.Bool.Decides.{nat_tests}
use Rattle.std.proofs.lemmas.List.Sums.{sum_by-append, sum_by-cons}
use Rattle.std.proofs.lemmas.Nat.Bits.{bit_at-lt, bit_at-suc, bit_at_lowest}
use Rattle.edge_labels.specs.Bits.{count_below}
use Rattle.edge_labels.proofs.BitLemmas.{word_bit}
use lib.Count.{ones_step, ones-le}

pub range-cat : (a m n : ℕ) → range_with_len a (m + n) ≡ range_with_len a m ++ range_with_len (a + m) n
range-cat a zero n = ap (λ k. range_with_len a k) (zero-add n) ∙ ap (λ b. range_with_len b n) (sym (add-zero a))
range-cat a (suc m) n =
    let left : suc m + n ≡ suc (m + n) = omega arith in
    let right : (a + 1) + m ≡ a + suc m = omega arith in
    ap (λ k. range_with_len a k) left
    ∙ ap (λ xs. a ∷ xs) (range-cat (a + 1) m n ∙ ap (λ b. range_with_len (a + 1) m ++ range_with_len b n) right)

-- two tests that agree along two ranges pass as many
pub count-along : (p q : ℕ → Bool) (a b n : ℕ) → ((k : ℕ) → k < n → p (a + k) ≡ q (b + k)) → count_by p (range_with_len a n) ≡ count_by q (range_with_len b n)
count-along p q a b zero same = refl
count-along p q a b (suc n) same =
    let first : p a ≡ q b = ap p (sym (add-zero a)) ∙ same 0 (omega arith) ∙ ap q (add-zero b) in
    let rest : count_by p (range_with_len (a + 1) n) ≡ count_by q (range_with_len (b + 1) n) = count-along p q (a + 1) (b + 1) n (λ k l. let ea : a + 1 + k ≡ a + (k + 1) = omega arith in let eb : b + (k + 1) ≡ b + 1 + k = omega arith in ap p ea ∙ same (k + 1) (omega arith) ∙ ap q eb) in
    sum_by-cons (λ x. cond (p x) 1 0) a (range_with_len (a + 1) n)
    ∙ ap (λ t. cond t 1 0 + count_by p (range_with_len (a + 1) n)) first
    ∙ ap (λ m. cond (q b) 1 0 + m) rest
    ∙ sym (sum_by-cons (λ x. cond (q x) 1 0) b (range_with_len (b + 1) n))

low-count : (x : ℕ) → x < 2 → cond (eqb x 1) 1 0 ≡ x
low-count x l = grind (arith, nat_tests)

-- the ones of a word of so many bits
ones-range : (d w : ℕ) → w < 2 ^ d → count_ones w ≡ count_by (λ k. eqb (bit_at w k) 1) (range_with_len 0 d)
ones-range zero w lt = omega (arith, ones-le 0 w lt)
ones-range (suc d) w lt =
    let half : w / 2 < 2 ^ d = omega (arith, pow-suc 2 d) in
    let rest : count_by (λ k. eqb (bit_at (w / 2) k) 1) (range_with_len 0 d) ≡ count_by (λ k. eqb (bit_at w k) 1) (range_with_len 1 d) = count-along (λ k. eqb (bit_at (w / 2) k) 1) (λ k. eqb (bit_at w k) 1) 0 1 d (λ k l. let e : 0 + k ≡ k = zero-add k in let s : suc k ≡ 1 + k = omega arith in ap (λ i. eqb (bit_at (w / 2) i) 1) e ∙ ap (λ x. eqb x 1) (sym (bit_at-suc w k)) ∙ ap (λ i. eqb (bit_at w i) 1) s) in
    ones_step w
    ∙ ap (λ m. w % 2 + m) (ones-range d (w / 2) half ∙ rest)
    ∙ ap (λ m. m + count_by (λ k. eqb (bit_at w k) 1) (range_with_len 1 d)) (sym (bit_at_lowest w) ∙ sym (low-count (bit_at w 0) (bit_at-lt w 0)))
    ∙ sym (sum_by-cons (λ x. cond (eqb (bit_at w x) 1) 1 0) 0 (range_with_len 1 d))

word-place : (i k : ℕ) → k < 64 → ((64 * i + k) / 64 ≡ i) × ((64 * i + k) % 64 ≡ k)
word-place i k l = (omega arith, omega arith)

-- one word more
pub words-more : (ws : List ℕ) (i : ℕ) → get_or ws i 0 < 2 ^ 64 → count_below (word_bit ws) (64 * (i + 1)) ≡ count_below (word_bit ws) (64 * i) + count_ones (get_or ws i 0)
unfolding count_below
words-more ws i lt =
    let more : 64 * (i + 1) ≡ 64 * i + 64 = omega arith in
    let first : 0 + 64 * i ≡ 64 * i = omega arith in
    ap (λ n. count_by (word_bit ws) (range_with_len 0 n)) more
    ∙ ap (λ xs. count_by (word_bit ws) xs) (range-cat 0 (64 * i) 64)
    ∙ sum_by-append (λ x. cond (word_bit ws x) 1 0) (range_with_len 0 (64 * i)) (range_with_len (0 + 64 * i) 64)
    ∙ ap (λ m. count_by (word_bit ws) (range_with_len 0 (64 * i)) + m)
    (ap (λ b. count_by (word_bit ws) (range_with_len b 64)) first
    ∙ count-along (word_bit ws) (λ k. eqb (bit_at (get_or ws i 0) k) 1) (64 * i) 0 64 (λ k l. let e = word-place i k l in let z : 0 + k ≡ k = zero-add k in
    ap (λ m. eqb (bit_at (get_or ws m 0) ((64 * i + k) % 64)) 1) e.0 ∙ ap (λ m. eqb (bit_at (get_or ws i 0) m) 1) (e.1 ∙ sym z))
    ∙ sym (ones-range 64 (get_or ws i 0) lt))

pub none-below : (p : ℕ → Bool) → count_below p 0 ≡ 0
unfolding count_below
none-below p = refl

pub word-ones : (w : ℕ) → w < 2 ^ 64 → count_ones w ≤ 64
word-ones w lt = ones-le 64 w lt
