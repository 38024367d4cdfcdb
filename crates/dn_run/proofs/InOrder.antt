-- A permutation of a list that is numbered from a first number on, in the order of the numbers, is that list.
use Rattle.std.proofs.Common.{◌⊎◌, inl, inr, ◌≡◌, ℕ, zero, suc, ◌+◌, ◌<◌, ◌≤◌, ◌-◌, ◌==◌, List, [], ◌∷◌, length, get_or, map, All, refl, ap, sym, ◌∙◌, arith}
use Rattle.std.specs.Prelude.{if◌then◌else◌}
use Rattle.std.specs.List.{sum_by}
use Rattle.std.specs.List.Sorted.{IsNonDecreasingBy, IsPermutation}
use Rattle.std.proofs.lemmas.Bool.{cases_lt}
use Rattle.std.proofs.lemmas.Bool.Decides.{nat_tests}
use Rattle.std.proofs.lemmas.List.Elements.{All-cons, All-head, All-tail, All-nil}
use Rattle.std.proofs.lemmas.List.Sorted.{All-permutation, length_permutation, sum_by-IsPermutation}
use Rattle.std.proofs.lemmas.List.Sums.{sum_by-cons}

module _ {X : Type 0} (no : X → ℕ) where
  -- the items are numbered in order, from this number
  abbrev pub IsFrom : ℕ → List X → Type 0
  IsFrom n [] = Unit {0}
  IsFrom n (x ∷ xs) = (no x ≡ n) × IsFrom (suc n) xs

  -- no number falls
  abbrev Rises : List X → Type 0
  Rises [] = Unit {0}
  Rises (x ∷ xs) = All (λ y. no x ≤ no y) xs × Rises xs

  rises : (xs : List X) → IsNonDecreasingBy no xs → Rises xs
  rises [] is = tt
  rises (x ∷ xs) is = ((λ k d less. is 0 (suc k) d (omega arith) (omega (arith, less))), rises xs (λ i j d le less. is (suc i) (suc j) d (omega (arith, le)) (omega (arith, less))))

  -- two lists have the same numbers, each as often
  abbrev HaveSame : List X → List X → Type 0
  HaveSame xs ys = (f : ℕ → ℕ) → sum_by (λ x. f (no x)) ys ≡ sum_by (λ x. f (no x)) xs

  abbrev one : ℕ → ℕ
  one n = 1

  abbrev at : ℕ → ℕ → ℕ
  at k n = if n == k then 1 else 0

  below : ℕ → ℕ → ℕ
  below k zero = if k == 0 then 0 else 1
  below zero (suc n) = 0
  below (suc k) (suc n) = below k n

  sums : (f : ℕ → ℕ) (x : X) (xs : List X) → sum_by (λ x. f (no x)) (x ∷ xs) ≡ f (no x) + sum_by (λ x. f (no x)) xs
  sums f x xs = sum_by-cons (λ x. f (no x)) x xs

  at-same : (k n : ℕ) → n ≡ k → at k n ≡ 1
  at-same k n is = grind (arith, nat_tests, is)

  at-other : (k n : ℕ) → k < n → at k n ≡ 0
  at-other k n is = grind (arith, nat_tests, is)

  at-under : (k n : ℕ) → n < k → at k n ≡ 0
  at-under k n is = grind (arith, nat_tests, is)

  none-past : (k : ℕ) (xs : List X) → All (λ x. k < no x) xs → sum_by (λ x. at k (no x)) xs ≡ 0
  none-past k [] past = refl
  none-past k (x ∷ xs) past =
      let here : at k (no x) ≡ 0 = at-other k (no x) (All-head (λ x. k < no x) x xs past) in
      let rest : sum_by (λ x. at k (no x)) xs ≡ 0 = none-past k xs (All-tail (λ x. k < no x) x xs past) in
      sums (at k) x xs ∙ omega (arith, here, rest)

  from-past : (k n : ℕ) (xs : List X) → k < n → IsFrom n xs → sum_by (λ x. at k (no x)) xs ≡ 0
  from-past k n [] less is = refl
  from-past k n (x ∷ xs) less is =
      let here : at k (no x) ≡ 0 = at-other k (no x) (omega (arith, less, is.0)) in
      let rest : sum_by (λ x. at k (no x)) xs ≡ 0 = from-past k (suc n) xs (omega (arith, less)) is.1 in
      sums (at k) x xs ∙ omega (arith, here, rest)

  cancel : (x y : X) (xs ys : List X) → no y ≡ no x → HaveSame (x ∷ xs) (y ∷ ys) → HaveSame xs ys
  cancel x y xs ys is same = λ f.
      let a = sums f x xs in
      let b = sums f y ys in
      let c = same f in
      let d : f (no y) ≡ f (no x) = ap f is in
      omega (arith, a, b, c, d)

  -- the first number of the one is that of the other
  first : (n : ℕ) (x y : X) (xs ys : List X) → IsFrom n (x ∷ xs) → HaveSame (x ∷ xs) (y ∷ ys) → Rises (y ∷ ys) → no y ≡ n
  first n x y xs ys from same up = by-less (cases_lt (no y) n)
    where
      by-less : (no y < n) ⊎ (n ≤ no y) → no y ≡ n
      by-less (inl less) =
          let a = sums (at (no y)) y ys in
          let b : at (no y) (no y) ≡ 1 = at-same (no y) (no y) refl in
          let c = same (at (no y)) in
          let d : sum_by (λ x. at (no y) (no x)) (x ∷ xs) ≡ 0 = from-past (no y) n (x ∷ xs) less from in
          absurd (omega (arith, a, b, c, d))
      by-less (inr le) = by-more (cases_lt n (no y)) le
        where
          by-more : (n < no y) ⊎ (no y ≤ n) → n ≤ no y → no y ≡ n
          by-more (inr more) le = omega (arith, more, le)
          by-more (inl more) le =
              let a = sums (at n) x xs in
              let b : at n (no x) ≡ 1 = at-same n (no x) from.0 in
              let c = same (at n) in
              let d : sum_by (λ x. at n (no x)) (y ∷ ys) ≡ 0 =
              none-past n (y ∷ ys) (All-cons (λ x. n < no x) y ys more (λ k d less. let le' = up.0 k d less in omega (arith, more, le'))) in
              absurd (omega (arith, a, b, c, d))

  same-numbers : (n : ℕ) (xs ys : List X) → IsFrom n xs → HaveSame xs ys → Rises ys → map no ys ≡ map no xs
  same-numbers n [] [] from same up = refl
  same-numbers n [] (y ∷ ys) from same up = let a = sums one y ys in let b = same one in absurd (omega (arith, a, b))
  same-numbers n (x ∷ xs) [] from same up = let a = sums one x xs in let b = same one in absurd (omega (arith, a, b))
  same-numbers n (x ∷ xs) (y ∷ ys) from same up =
      let head : no y ≡ no x = first n x y xs ys from same up ∙ sym from.0 in
      let rest : map no ys ≡ map no xs = same-numbers (suc n) xs ys from.1 (cancel x y xs ys head same) up.1 in
      rw (head, rest) refl

  -- ---- the items by their numbers

  -- each item stands at the place that its number says
  placed : (n : ℕ) (d : X) (xs : List X) → IsFrom n xs → All (λ x. x ≡ get_or xs (no x - n) d) xs
  placed n d [] from = All-nil (λ x. x ≡ get_or [] (no x - n) d)
  placed n d (x ∷ xs) from =
      All-cons (λ y. y ≡ get_or (x ∷ xs) (no y - n) d) x xs
      (let zero-at : no x - n ≡ 0 = omega (arith, from.0) in rw zero-at refl)
      (moved n (suc n) d x xs xs (omega arith) from.1 (placed (suc n) d xs from.1))
    where
      at-next : (n : ℕ) (d x y : X) (xs : List X) → suc n ≤ no y → y ≡ get_or xs (no y - suc n) d → y ≡ get_or (x ∷ xs) (no y - n) d
      at-next n d x y xs le is =
          let step : no y - n ≡ suc (no y - suc n) = omega (arith, le) in
          rw step is

      moved : (n m : ℕ) (d x : X) (all xs : List X) → suc n ≤ m → IsFrom m xs → All (λ y. y ≡ get_or all (no y - suc n) d) xs → All (λ y. y ≡ get_or (x ∷ all) (no y - n) d) xs
      moved n m d x all [] le from each = All-nil (λ y. y ≡ get_or (x ∷ all) (no y - n) d)
      moved n m d x all (y ∷ ys) le from each =
          All-cons (λ y. y ≡ get_or (x ∷ all) (no y - n) d) y ys
          (at-next n d x y all (omega (arith, le, from.0)) (All-head (λ y. y ≡ get_or all (no y - suc n) d) y ys each))
          (moved n (suc m) d x all ys (omega (arith, le)) from.1 (All-tail (λ y. y ≡ get_or all (no y - suc n) d) y ys each))

  each-by : (h : ℕ → X) (xs : List X) → All (λ x. x ≡ h (no x)) xs → xs ≡ map h (map no xs)
  each-by h [] each = refl
  each-by h (x ∷ xs) each =
      let head : x ≡ h (no x) = All-head (λ x. x ≡ h (no x)) x xs each in
      let rest : xs ≡ map h (map no xs) = each-by h xs (All-tail (λ x. x ≡ h (no x)) x xs each) in
      ap (λ ys. x ∷ ys) rest ∙ ap (λ z. z ∷ map h (map no xs)) head

  pub in-order : (n : ℕ) (xs ys : List X) → IsFrom n xs → IsPermutation xs ys → IsNonDecreasingBy no ys → ys ≡ xs
  in-order n [] ys from moves up = nil ys (length_permutation [] ys moves)
    where
      nil : (ys : List X) → length ys ≡ 0 → ys ≡ []
      nil [] is = refl
      nil (y ∷ ys) is = absurd (omega (arith, is))
  in-order n (x ∷ xs) ys from moves up =
      let all : List X = x ∷ xs in
      let h : ℕ → X = λ k. get_or all (k - n) x in
      let mine : All (λ y. y ≡ h (no y)) all = placed n x all from in
      let theirs : All (λ y. y ≡ h (no y)) ys = All-permutation (λ y. y ≡ h (no y)) all ys moves mine in
      let numbers : map no ys ≡ map no all = same-numbers n all ys from (λ f. sum_by-IsPermutation (λ x. f (no x)) all ys moves) (rises ys up) in
      each-by h ys theirs ∙ ap (map h) numbers ∙ sym (each-by h all mine)
