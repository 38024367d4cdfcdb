-- One bit of words of 64 bits.
use Rattle.std.proofs.Common.{◌≡◌, ◌≢◌, ℕ, ◌+◌, ◌-◌, ◌*◌, ◌/◌, ◌%◌, ◌^◌, ◌<◌, ◌≤◌, ◌||◌, ◌&&◌, not, cond, eqb, ltb, max, min, Bool, true, false, List, length, get_or, set, refl, ap, sym, ◌∙◌, arith, bit_and, bit_or, bit_xor, w64, get_or-set_other, get_or-set_same}
use Rattle.std.specs.Int.{bit_at}
use Rattle.std.specs.Simd.Lanes.{zip2}
use Rattle.std.proofs.lemmas.Bool.Decides.{nat_tests}
use Rattle.std.proofs.lemmas.List.{get_or_past}
use Rattle.std.proofs.lemmas.Nat.Bits.{bit_at-lt, bit_at-zero, bit_at_and, bit_at_clear_other, bit_at_clear_same, bit_at_or, bit_at_xor, bit_at_set_other, bit_at_set_same}
use Rattle.std.proofs.lemmas.Simd.{get_or-zip2, length-zip2}

-- whether a bit of words is 1
abbrev pub word_bit : List ℕ → ℕ → Bool
word_bit ws j = eqb (bit_at (get_or ws (j / 64) 0) (j % 64)) 1

same-number : (j k : ℕ) → j / 64 ≡ k / 64 → j % 64 ≡ k % 64 → j ≡ k
same-number j k h l = omega arith

apart : (j k : ℕ) → (j ≡ k → ⊥) → eqb j k ≡ false
apart j k h = grind (arith, nat_tests)

itself : (j k : ℕ) → j ≡ k → eqb j k ≡ true
itself j k h = grind (arith, nat_tests)

-- a word in which one bit became `v` stands in the place of the word that has bit k
written : (ws : List ℕ) (w k j : ℕ) (v : Bool) → k / 64 < length ws → eqb (bit_at w (k % 64)) 1 ≡ v → ((i : ℕ) → i < 64 → i ≢ k % 64 → bit_at w i ≡ bit_at (get_or ws (k / 64) 0) i) → (f : Bool → Bool → Bool) → ((old : Bool) → f true old ≡ v) → ((old : Bool) → f false old ≡ old) → word_bit (set ws (k / 64) w) j ≡ f (eqb j k) (word_bit ws j)
written ws w k j v inside here other f at-k elsewhere = by (eqb (j / 64) (k / 64)) (eqb (j % 64) (k % 64)) refl refl
  where
    by : (high low : Bool) → eqb (j / 64) (k / 64) ≡ high → eqb (j % 64) (k % 64) ≡ low → word_bit (set ws (k / 64) w) j ≡ f (eqb j k) (word_bit ws j)
    by false low h l =
        let ne : j / 64 ≢ k / 64 = grind (arith, nat_tests) in
        ap (λ x. eqb (bit_at x (j % 64)) 1) (get_or-set_other ws (k / 64) (j / 64) w 0 ne)
        ∙ sym (elsewhere (word_bit ws j))
        ∙ ap (λ b. f b (word_bit ws j)) (sym (apart j k (λ e. ne (ap (λ x. x / 64) e))))
    by true true h l =
        let high : j / 64 ≡ k / 64 = grind (arith, nat_tests) in
        let low : j % 64 ≡ k % 64 = grind (arith, nat_tests) in
        ap (λ x. eqb (bit_at (get_or (set ws (k / 64) w) x 0) (j % 64)) 1) high
        ∙ ap (λ x. eqb (bit_at x (j % 64)) 1) (get_or-set_same ws (k / 64) w 0 inside)
        ∙ ap (λ x. eqb (bit_at w x) 1) low
        ∙ here
        ∙ sym (at-k (word_bit ws j))
        ∙ ap (λ b. f b (word_bit ws j)) (sym (itself j k (same-number j k high low)))
    by true false h l =
        let high : j / 64 ≡ k / 64 = grind (arith, nat_tests) in
        let ne : j % 64 ≢ k % 64 = grind (arith, nat_tests) in
        ap (λ x. eqb (bit_at (get_or (set ws (k / 64) w) x 0) (j % 64)) 1) high
        ∙ ap (λ x. eqb (bit_at x (j % 64)) 1) (get_or-set_same ws (k / 64) w 0 inside)
        ∙ ap (λ x. eqb x 1) (other (j % 64) (omega arith) ne)
        ∙ ap (λ x. eqb (bit_at (get_or ws x 0) (j % 64)) 1) (sym high)
        ∙ sym (elsewhere (word_bit ws j))
        ∙ ap (λ b. f b (word_bit ws j)) (sym (apart j k (λ e. ne (ap (λ x. x % 64) e))))

pub bit-added : (ws : List ℕ) (k j : ℕ) → k / 64 < length ws → word_bit (set ws (k / 64) (bit_or (get_or ws (k / 64) 0) (1 * 2 ^ (k % 64) % 18446744073709551616))) j ≡ (eqb j k || word_bit ws j)
bit-added ws k j inside =
    let low : k % 64 < 64 = omega arith in
    written ws (bit_or (get_or ws (k / 64) 0) (1 * 2 ^ (k % 64) % 18446744073709551616)) k j true inside
    (ap (λ x. eqb x 1) (bit_at_set_same w64 (get_or ws (k / 64) 0) (k % 64) low))
    (λ i l ne. bit_at_set_other w64 (get_or ws (k / 64) 0) (k % 64) low i ne)
    (λ b old. b || old) (λ old. refl) (λ old. refl)

pub bit-cleared : (ws : List ℕ) (k j : ℕ) → k / 64 < length ws → word_bit (set ws (k / 64) (bit_and (get_or ws (k / 64) 0) (18446744073709551615 - 1 * 2 ^ (k % 64) % 18446744073709551616))) j ≡ (not (eqb j k) && word_bit ws j)
bit-cleared ws k j inside =
    let low : k % 64 < 64 = omega arith in
    written ws (bit_and (get_or ws (k / 64) 0) (18446744073709551615 - 1 * 2 ^ (k % 64) % 18446744073709551616)) k j false inside
    (ap (λ x. eqb x 1) (bit_at_clear_same w64 (get_or ws (k / 64) 0) (k % 64) low))
    (λ i l ne. bit_at_clear_other w64 (get_or ws (k / 64) 0) (k % 64) low i l ne)
    (λ b old. not b && old) (λ old. refl) (λ old. refl)

-- ---- word by word

or-test : (x y : ℕ) → x < 2 → y < 2 → eqb (max x y) 1 ≡ (eqb x 1 || eqb y 1)
or-test x y h l = grind (arith, nat_tests)

and-test : (x y : ℕ) → x < 2 → y < 2 → eqb (min x y) 1 ≡ (eqb x 1 && eqb y 1)
and-test x y h l = grind (arith, nat_tests)

not-test : (x y : ℕ) → x < 2 → y < 2 → eqb (min x (1 - y)) 1 ≡ (eqb x 1 && not (eqb y 1))
not-test x y h l = grind (arith, nat_tests)

zipped : (f : ℕ → ℕ → ℕ) (h : Bool → Bool → Bool) (xs ys : List ℕ) (k : ℕ) → length xs ≡ 8 → length ys ≡ 8 → h false false ≡ false → ((x i : ℕ) → i < 64 → eqb (bit_at (f x (get_or ys (k / 64) 0)) i) 1 ≡ h (eqb (bit_at x i) 1) (eqb (bit_at (get_or ys (k / 64) 0) i) 1)) → word_bit (zip2 f xs ys) k ≡ h (word_bit xs k) (word_bit ys k)
zipped f h xs ys k ex ey none each = by (ltb (k / 64) 8) refl
  where
    by : (b : Bool) → ltb (k / 64) 8 ≡ b → word_bit (zip2 f xs ys) k ≡ h (word_bit xs k) (word_bit ys k)
    by true e =
        let lt : k / 64 < 8 = grind (arith, nat_tests) in
        ap (λ x. eqb (bit_at x (k % 64)) 1) (get_or-zip2 f xs ys (k / 64) 0 0 0 (omega arith) (omega arith))
        ∙ each (get_or xs (k / 64) 0) (k % 64) (omega arith)
    by false e =
        let le : 8 ≤ k / 64 = grind (arith, nat_tests) in
        let zero-bit : eqb (bit_at 0 (k % 64)) 1 ≡ false = ap (λ x. eqb x 1) (bit_at-zero (k % 64)) in
        ap (λ x. eqb (bit_at x (k % 64)) 1) (get_or_past (zip2 f xs ys) (k / 64) 0 (omega (arith, length-zip2 f xs ys (omega arith))))
        ∙ zero-bit ∙ sym none
        ∙ ap (λ b. h b false) (sym (ap (λ x. eqb (bit_at x (k % 64)) 1) (get_or_past xs (k / 64) 0 (omega arith)) ∙ zero-bit))
        ∙ ap (λ b. h (word_bit xs k) b) (sym (ap (λ x. eqb (bit_at x (k % 64)) 1) (get_or_past ys (k / 64) 0 (omega arith)) ∙ zero-bit))

pub bit-or : (xs ys : List ℕ) (k : ℕ) → length xs ≡ 8 → length ys ≡ 8 → word_bit (zip2 bit_or xs ys) k ≡ (word_bit xs k || word_bit ys k)
bit-or xs ys k ex ey = zipped bit_or (λ a b. a || b) xs ys k ex ey refl (λ x i l. let y : ℕ = get_or ys (k / 64) 0 in ap (λ n. eqb n 1) (bit_at_or x y i) ∙ or-test (bit_at x i) (bit_at y i) (bit_at-lt x i) (bit_at-lt y i))

pub bit-and : (xs ys : List ℕ) (k : ℕ) → length xs ≡ 8 → length ys ≡ 8 → word_bit (zip2 bit_and xs ys) k ≡ (word_bit xs k && word_bit ys k)
bit-and xs ys k ex ey = zipped bit_and (λ a b. a && b) xs ys k ex ey refl (λ x i l. let y : ℕ = get_or ys (k / 64) 0 in ap (λ n. eqb n 1) (bit_at_and x y i) ∙ and-test (bit_at x i) (bit_at y i) (bit_at-lt x i) (bit_at-lt y i))

xor-test : (x y : ℕ) → x < 2 → y < 2 → eqb ((x + y) % 2) 1 ≡ cond (eqb x 1) (not (eqb y 1)) (eqb y 1)
xor-test x y h l = grind (arith, nat_tests)

xor-and : (a b : Bool) → cond a (not (a && b)) (a && b) ≡ (a && not b)
xor-and true b = refl
xor-and false b = refl

pub bit-without : (xs ys : List ℕ) (k : ℕ) → length xs ≡ 8 → length ys ≡ 8 → word_bit (zip2 bit_xor xs (zip2 bit_and xs ys)) k ≡ (word_bit xs k && not (word_bit ys k))
bit-without xs ys k ex ey =
    zipped bit_xor (λ a b. cond a (not b) b) xs (zip2 bit_and xs ys) k ex (length-zip2 bit_and xs ys (omega arith) ∙ ex) refl
    (λ x i l. let y : ℕ = get_or (zip2 bit_and xs ys) (k / 64) 0 in ap (λ n. eqb n 1) (bit_at_xor x y i) ∙ xor-test (bit_at x i) (bit_at y i) (bit_at-lt x i) (bit_at-lt y i))
    ∙ ap (λ b. cond (word_bit xs k) (not b) b) (bit-and xs ys k ex ey)
    ∙ xor-and (word_bit xs k) (word_bit ys k)
