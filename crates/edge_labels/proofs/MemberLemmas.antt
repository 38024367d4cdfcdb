-- The numbers of bits.
use Rattle.std.proofs.Common.{◌≡◌, ℕ, zero, suc, ◌+◌, ◌-◌, ◌*◌, ◌/◌, ◌%◌, ◌<◌, ◌≤◌, ◌||◌, ◌&&◌, not, eqb, ltb, Bool, true, false, cond, List, [], ◌∷◌, ◌++◌, length, get_or, refl, ap, sym, ◌∙◌, arith, add-zero, zero-add, count_by, append-nil, append_assoc}
use Rattle.std.specs.List.{filter, list_any, range_with_len}
use Rattle.std.specs.List.Sorted.{IsStrictlyIncreasing}
use Rattle.std.proofs.lemmas.Bool.Decides.{nat_tests}
use Rattle.std.proofs.lemmas.List.{map-append}
use Rattle.std.proofs.lemmas.List.Elements.{filter-append, filter_agree}
use Rattle.std.proofs.lemmas.List.FromFn.{length-range_with_len, get_or-range_with_len}
use Rattle.std.proofs.lemmas.List.Kept.{IsStrictlyIncreasing-filter}
use Rattle.std.proofs.lemmas.List.Sums.{length-filter, sum_by-append}
use Rattle.base.specs.declared.ids.AtomId.{AtomId}
use Rattle.edge_labels.specs.declared.chunk.Chunk.{Chunk}
use Rattle.edge_labels.specs.Atoms.{has_atom, numbers}
use Rattle.edge_labels.specs.Bits.{chunk_bit, count_below, empty_chunk, has_bit, members, numbers_from}
use Rattle.edge_labels.proofs.BitsLemmas.{bit-past}
use Rattle.edge_labels.proofs.CountLemmas.{count-along, range-cat}

-- a test fails along a range
filter-none : (p : ℕ → Bool) (a n : ℕ) → ((k : ℕ) → k < n → p (a + k) ≡ false) → filter p (range_with_len a n) ≡ []
filter-none p a zero no-one = refl
filter-none p a (suc n) no-one =
    ap (λ t. cond t (a ∷ filter p (range_with_len (a + 1) n)) (filter p (range_with_len (a + 1) n))) (ap p (sym (add-zero a)) ∙ no-one 0 (omega arith))
    ∙ filter-none p (a + 1) n (λ k l. let e : a + 1 + k ≡ a + (k + 1) = omega arith in ap p e ∙ no-one (k + 1) (omega arith))

-- more chunks than there are may be looked at
members-upto : (chunks : List Chunk) (n : ℕ) → length chunks ≤ n → members chunks ≡ filter (has_bit chunks) (range_with_len 0 (512 * n))
unfolding members
members-upto chunks n le =
    let all : 512 * n ≡ 512 * length chunks + 512 * (n - length chunks) = omega arith in
    sym (append-nil (filter (has_bit chunks) (range_with_len 0 (512 * length chunks))))
    ∙ ap (λ xs. filter (has_bit chunks) (range_with_len 0 (512 * length chunks)) ++ xs)
    (sym (filter-none (has_bit chunks) (0 + 512 * length chunks) (512 * (n - length chunks)) (λ k l. bit-past chunks (0 + 512 * length chunks + k) (omega arith))))
    ∙ sym (filter-append (has_bit chunks) (range_with_len 0 (512 * length chunks)) (range_with_len (0 + 512 * length chunks) (512 * (n - length chunks))))
    ∙ ap (λ xs. filter (has_bit chunks) xs) (sym (range-cat 0 (512 * length chunks) (512 * (n - length chunks))))
    ∙ ap (λ m. filter (has_bit chunks) (range_with_len 0 m)) (sym all)

-- the same bits have the same numbers
pub members-same : (old new : List Chunk) → ((a : ℕ) → has_bit new a ≡ has_bit old a) → members new ≡ members old
members-same old new same =
    let n : ℕ = length old + length new in
    members-upto new (length old + length new) (omega arith)
    ∙ filter_agree (has_bit new) (has_bit old) same (range_with_len 0 (512 * (length old + length new)))
    ∙ sym (members-upto old (length old + length new) (omega arith))

abbrev inside : ℕ → ℕ → ℕ → Bool
inside b n a = not (ltb a b) && ltb a (b + n)

inside-none : (b a : ℕ) → inside b 0 a ≡ false
inside-none b a = grind (arith, nat_tests)

inside-first : (b n a : ℕ) → b ≡ a → inside b (suc n) a ≡ true
inside-first b n a e = grind (arith, nat_tests)

inside-later : (b n a : ℕ) → b ≡ a → inside (b + 1) n a ≡ false
inside-later b n a e = grind (arith, nat_tests)

inside-more : (b n a : ℕ) → (b ≡ a → ⊥) → inside (b + 1) n a ≡ inside b (suc n) a
inside-more b n a e = grind (arith, nat_tests)

and-false : (b : Bool) → (b && false) ≡ false
and-false true = refl
and-false false = refl

atom-in : (p : ℕ → Bool) (b n a : ℕ) → list_any (λ k. eqb k a) (filter p (range_with_len b n)) ≡ (inside b n a && p a)
atom-in p b zero a = sym (ap (λ x. x && p a) (inside-none b a))
atom-in p b (suc n) a = by (p b) (eqb b a) refl refl (atom-in p (b + 1) n a)
  where
    by : (t u : Bool) → p b ≡ t → eqb b a ≡ u → list_any (λ k. eqb k a) (filter p (range_with_len (b + 1) n)) ≡ (inside (b + 1) n a && p a) → list_any (λ k. eqb k a) (cond (p b) (b ∷ filter p (range_with_len (b + 1) n)) (filter p (range_with_len (b + 1) n))) ≡ (inside b (suc n) a && p a)
    by true true e f rest =
        let same : b ≡ a = grind (arith, nat_tests) in
        ap (λ t. list_any (λ k. eqb k a) (cond t (b ∷ filter p (range_with_len (b + 1) n)) (filter p (range_with_len (b + 1) n)))) e
        ∙ ap (λ u. u || list_any (λ k. eqb k a) (filter p (range_with_len (b + 1) n))) f
        ∙ sym (ap (λ x. x && p a) (inside-first b n a same) ∙ ap p (sym same) ∙ e)
    by true false e f rest =
        let other : b ≡ a → ⊥ = grind (arith, nat_tests) in
        ap (λ t. list_any (λ k. eqb k a) (cond t (b ∷ filter p (range_with_len (b + 1) n)) (filter p (range_with_len (b + 1) n)))) e
        ∙ ap (λ u. u || list_any (λ k. eqb k a) (filter p (range_with_len (b + 1) n))) f
        ∙ rest
        ∙ ap (λ x. x && p a) (inside-more b n a other)
    by false true e f rest =
        let same : b ≡ a = grind (arith, nat_tests) in
        ap (λ t. list_any (λ k. eqb k a) (cond t (b ∷ filter p (range_with_len (b + 1) n)) (filter p (range_with_len (b + 1) n)))) e
        ∙ rest
        ∙ ap (λ x. x && p a) (inside-later b n a same)
        ∙ sym (ap (λ x. inside b (suc n) a && x) (ap p (sym same) ∙ e) ∙ and-false (inside b (suc n) a))
    by false false e f rest =
        let other : b ≡ a → ⊥ = grind (arith, nat_tests) in
        ap (λ t. list_any (λ k. eqb k a) (cond t (b ∷ filter p (range_with_len (b + 1) n)) (filter p (range_with_len (b + 1) n)))) e
        ∙ rest
        ∙ ap (λ x. x && p a) (inside-more b n a other)

inside-yes : (n a : ℕ) → a < n → inside 0 n a ≡ true
inside-yes n a l = grind (arith, nat_tests)

inside-past : (n a : ℕ) → n ≤ a → inside 0 n a ≡ false
inside-past n a l = grind (arith, nat_tests)

pub has-member : (chunks : List Chunk) (a : ℕ) → has_atom (members chunks) a ≡ has_bit chunks a
unfolding members
has-member chunks a = atom-in (has_bit chunks) 0 (512 * length chunks) a ∙ by (ltb a (512 * length chunks)) refl
  where
    by : (t : Bool) → ltb a (512 * length chunks) ≡ t → (inside 0 (512 * length chunks) a && has_bit chunks a) ≡ has_bit chunks a
    by true e =
        let lt : a < 512 * length chunks = grind (arith, nat_tests) in
        ap (λ x. x && has_bit chunks a) (inside-yes (512 * length chunks) a lt)
    by false e =
        let le : 512 * length chunks ≤ a = grind (arith, nat_tests) in
        ap (λ x. x && has_bit chunks a) (inside-past (512 * length chunks) a le) ∙ sym (bit-past chunks a (omega arith))

range-increasing : (a n : ℕ) → IsStrictlyIncreasing (range_with_len a n)
range-increasing a n k l =
    let len : length (range_with_len a n) ≡ n = length-range_with_len a n in
    let e : get_or (range_with_len a n) k 0 ≡ a + k = get_or-range_with_len a n k 0 (omega arith) in
    let f : get_or (range_with_len a n) (k + 1) 0 ≡ a + (k + 1) = get_or-range_with_len a n (k + 1) 0 (omega arith) in
    omega arith

pub members-ascend : (chunks : List Chunk) → IsStrictlyIncreasing (members chunks)
unfolding members
members-ascend chunks = IsStrictlyIncreasing-filter (has_bit chunks) (range_with_len 0 (512 * length chunks)) (range-increasing 0 (512 * length chunks))

-- ---- a loop over chunks

chunk-place : (i k : ℕ) → k < 512 → ((512 * i + k) / 512 ≡ i) × ((512 * i + k) % 512 ≡ k)
chunk-place i k l = (omega arith, omega arith)

pub count-more : (chunks : List Chunk) (i : ℕ) → count_below (has_bit chunks) (512 * (i + 1)) ≡ count_below (has_bit chunks) (512 * i) + count_below (chunk_bit (get_or chunks i empty_chunk)) 512
unfolding count_below has_bit
count-more chunks i =
    let more : 512 * (i + 1) ≡ 512 * i + 512 = omega arith in
    let first : 0 + 512 * i ≡ 512 * i = omega arith in
    ap (λ n. count_by (has_bit chunks) (range_with_len 0 n)) more
    ∙ ap (λ xs. count_by (has_bit chunks) xs) (range-cat 0 (512 * i) 512)
    ∙ sum_by-append (λ x. cond (has_bit chunks x) 1 0) (range_with_len 0 (512 * i)) (range_with_len (0 + 512 * i) 512)
    ∙ ap (λ m. count_by (has_bit chunks) (range_with_len 0 (512 * i)) + m)
    (ap (λ b. count_by (has_bit chunks) (range_with_len b 512)) first
    ∙ count-along (has_bit chunks) (chunk_bit (get_or chunks i empty_chunk)) (512 * i) 0 512 (λ k l. let e = chunk-place i k l in let z : 0 + k ≡ k = zero-add k in
    ap (λ m. chunk_bit (get_or chunks m empty_chunk) ((512 * i + k) % 512)) e.0 ∙ ap (λ m. chunk_bit (get_or chunks i empty_chunk) m) (e.1 ∙ sym z)))

pub count-all : (chunks : List Chunk) → count_below (has_bit chunks) (512 * length chunks) ≡ length (members chunks)
unfolding count_below members
count-all chunks = sym (length-filter (has_bit chunks) (range_with_len 0 (512 * length chunks)))

-- ---- the numbers one after another

filter-along : (p q : ℕ → Bool) (a n : ℕ) → ((k : ℕ) → k < n → p (a + k) ≡ q (a + k)) → filter p (range_with_len a n) ≡ filter q (range_with_len a n)
filter-along p q a zero same = refl
filter-along p q a (suc n) same =
    let first : p a ≡ q a = ap p (sym (add-zero a)) ∙ same 0 (omega arith) ∙ ap q (add-zero a) in
    let rest : filter p (range_with_len (a + 1) n) ≡ filter q (range_with_len (a + 1) n) = filter-along p q (a + 1) n (λ k l. let e : a + 1 + k ≡ a + (k + 1) = omega arith in ap p e ∙ same (k + 1) (omega arith) ∙ ap q (sym e)) in
    ap (λ t. cond t (a ∷ filter p (range_with_len (a + 1) n)) (filter p (range_with_len (a + 1) n))) first
    ∙ ap (λ xs. cond (q a) (a ∷ xs) xs) rest

pub numbers-none : (c : Chunk) (base : ℕ) → numbers_from c base 0 ≡ []
unfolding numbers_from
numbers-none c base = refl

numbers-more : (c : Chunk) (base k : ℕ) (t : Bool) → chunk_bit c k ≡ t → numbers_from c base (k + 1) ≡ numbers_from c base k ++ cond t ((base + k) ∷ []) []
unfolding numbers_from
numbers-more c base k t e =
    let at : base + k - base ≡ k = omega arith in
    ap (λ xs. filter (λ a. chunk_bit c (a - base)) xs) (range-cat base k 1)
    ∙ filter-append (λ a. chunk_bit c (a - base)) (range_with_len base k) (range_with_len (base + k) 1)
    ∙ ap (λ u. filter (λ a. chunk_bit c (a - base)) (range_with_len base k) ++ cond u ((base + k) ∷ []) []) (ap (λ n. chunk_bit c n) at ∙ e)

pub pushed-yes : (c : Chunk) (base k : ℕ) (old before after : List AtomId) (x : AtomId) → chunk_bit c k ≡ true → x.0 ≡ base + k → after ≡ before ++ x ∷ [] → numbers before ≡ numbers old ++ numbers_from c base k → numbers after ≡ numbers old ++ numbers_from c base (k + 1)
pushed-yes c base k old before after x e is push inv =
    ap numbers push
    ∙ map-append (λ (a : AtomId). a.0) before (x ∷ [])
    ∙ ap (λ n. numbers before ++ n ∷ []) is
    ∙ ap (λ xs. xs ++ (base + k) ∷ []) inv
    ∙ append_assoc (numbers old) (numbers_from c base k) ((base + k) ∷ [])
    ∙ ap (λ xs. numbers old ++ xs) (sym (numbers-more c base k true e))

pub pushed-no : (c : Chunk) (base k : ℕ) (old before : List AtomId) → chunk_bit c k ≡ false → numbers before ≡ numbers old ++ numbers_from c base k → numbers before ≡ numbers old ++ numbers_from c base (k + 1)
pushed-no c base k old before e inv =
    inv ∙ ap (λ xs. numbers old ++ xs) (sym (numbers-more c base k false e ∙ append-nil (numbers_from c base k)))

-- the numbers of the bits of the first chunks
unfoldable pub members_below : List Chunk → ℕ → List ℕ
members_below chunks i = filter (has_bit chunks) (range_with_len 0 (512 * i))

pub below-none : (chunks : List Chunk) → members_below chunks 0 ≡ []
unfolding members_below
below-none chunks = refl

pub below-all : (chunks : List Chunk) → members_below chunks (length chunks) ≡ members chunks
unfolding members_below members
below-all chunks = refl

pub below-more : (chunks : List Chunk) (i : ℕ) → members_below chunks (i + 1) ≡ members_below chunks i ++ numbers_from (get_or chunks i empty_chunk) (i * 512) 512
unfolding members_below has_bit numbers_from
below-more chunks i =
    let more : 512 * (i + 1) ≡ 512 * i + 512 = omega arith in
    let first : 0 + 512 * i ≡ i * 512 = omega arith in
    ap (λ n. filter (has_bit chunks) (range_with_len 0 n)) more
    ∙ ap (λ xs. filter (has_bit chunks) xs) (range-cat 0 (512 * i) 512)
    ∙ filter-append (has_bit chunks) (range_with_len 0 (512 * i)) (range_with_len (0 + 512 * i) 512)
    ∙ ap (λ xs. filter (has_bit chunks) (range_with_len 0 (512 * i)) ++ xs)
    (ap (λ b. filter (has_bit chunks) (range_with_len b 512)) first
    ∙ filter-along (has_bit chunks) (λ a. chunk_bit (get_or chunks i empty_chunk) (a - i * 512)) (i * 512) 512 (λ k l.
    let high : (i * 512 + k) / 512 ≡ i = omega arith in
    let low : (i * 512 + k) % 512 ≡ i * 512 + k - i * 512 = omega arith in
    ap (λ m. chunk_bit (get_or chunks m empty_chunk) ((i * 512 + k) % 512)) high ∙ ap (λ m. chunk_bit (get_or chunks i empty_chunk) m) low))
