-- What came back of the readers of jobs, and what was read by each, put beside the readers in the order of the feeds.
use Rattle.std.proofs.Common.{◌≡◌, ℕ, suc, ◌<◌, ◌==◌, Bool, true, false, List, [], ◌∷◌, ◌++◌, length, map, All, refl, ap, sym, subst, arith}
use Rattle.std.specs.List.{AllZip, IsDistinct, AllByRecursion, flat_map}
use Rattle.std.specs.List.Sorted.{IsPermutation}
use Rattle.std.proofs.lemmas.Bool.Decides.{nat_tests}
use Rattle.std.proofs.lemmas.List.Elements.{All-cons, All-head, All-tail, All-nil}
use Rattle.std.proofs.lemmas.List.Sorted.{All-permutation, IsPermutation-map, IsPermutation-sym}
use Rattle.std.proofs.lemmas.Map.Keys.{IsDistinct-IsPermutation}
use Rattle.dn_run.proofs.DealLemmas.{Differ, matched, other-num, picks, pieces, same-num}
use Rattle.dn_run.proofs.InOrder.{IsFrom}

-- ---- numbers that differ

module _ {X : Type 0} (of : X → ℕ) where
  abbrev same_of : X → X → Bool
  same_of x y = of x == of y

  flips : (x y : X) → same_of x y ≡ same_of y x
  flips x y = by-test (of x == of y) refl
    where
      by-test : (b : Bool) → (of x == of y) ≡ b → (of x == of y) ≡ (of y == of x)
      by-test true is = let equal : of x ≡ of y = grind (arith, nat_tests, is) in rw (same-num (of x) (of y) equal, same-num (of y) (of x) (sym equal)) refl
      by-test false is = rw (is, other-num (of x) (of y) is) refl

  later-other : (n : ℕ) (x : X) (xs : List X) → of x < n → IsFrom of n xs → AllByRecursion (λ y. same_of x y ≡ false) xs
  later-other n x [] less from = tt
  later-other n x (y ∷ ys) less from = (grind (arith, nat_tests, less, from.0), later-other (suc n) x ys (omega (arith, less)) from.1)

  from-distinct : (n : ℕ) (xs : List X) → IsFrom of n xs → IsDistinct same_of xs
  unfolding IsDistinct
  from-distinct n [] from = tt
  from-distinct n (x ∷ xs) from = (later-other (suc n) x xs (omega (arith, from.0)) from.1, from-distinct (suc n) xs from.1)

  all-by : (P : X → Type 0) (xs : List X) → AllByRecursion P xs → All P xs
  all-by P [] all = All-nil P
  all-by P (x ∷ xs) all = All-cons P x xs all.0 (all-by P xs all.1)

  distinct-differ : (xs : List X) → IsDistinct same_of xs → Differ of xs
  unfolding IsDistinct
  distinct-differ [] is = tt
  distinct-differ (x ∷ xs) is = (all-by (λ y. same_of x y ≡ false) xs is.0, distinct-differ xs is.1)

  -- the numbers of a permutation of numbered items differ
  pub differs : (n : ℕ) (xs ys : List X) → IsFrom of n xs → IsPermutation xs ys → Differ of ys
  differs n xs ys from moves = distinct-differ ys (IsDistinct-IsPermutation same_of flips xs ys moves (from-distinct n xs from))

  all-rec : (P : X → Type 0) (xs : List X) → All P xs → AllByRecursion P xs
  all-rec P [] all = tt
  all-rec P (x ∷ xs) all = (All-head P x xs all, all-rec P xs (All-tail P x xs all))

  differ-distinct : (xs : List X) → Differ of xs → IsDistinct same_of xs
  unfolding IsDistinct
  differ-distinct [] differ = tt
  differ-distinct (x ∷ xs) differ = (all-rec (λ y. same_of x y ≡ false) xs differ.0, differ-distinct xs differ.1)

  -- where the numbers differ they do so in any order
  pub differ-moves : (xs ys : List X) → Differ of xs → IsPermutation xs ys → Differ of ys
  differ-moves xs ys differ moves = distinct-differ ys (IsDistinct-IsPermutation same_of flips xs ys moves (differ-distinct xs differ))

-- ---- three lists side by side

module _ {X B F : Type 0} (R : X → B → F → Type 0) where
  abbrev pub AllZip3 : List X → List B → List F → Type 0
  AllZip3 [] [] [] = Unit {0}
  AllZip3 (x ∷ xs) (b ∷ bs) (f ∷ fs) = R x b f × AllZip3 xs bs fs
  AllZip3 xs bs fs = ⊥

  -- the same of lists of them
  abbrev pub AllPieces : List (List X) → List (List B) → List (List F) → Type 0
  AllPieces [] [] [] = Unit {0}
  AllPieces (xs ∷ xss) (bs ∷ bss) (fs ∷ fss) = AllZip3 xs bs fs × AllPieces xss bss fss
  AllPieces xss bss fss = ⊥

  zip3-append : (xs : List X) (bs : List B) (fs : List F) (xs' : List X) (bs' : List B) (fs' : List F) → AllZip3 xs bs fs → AllZip3 xs' bs' fs' → AllZip3 (xs ++ xs') (bs ++ bs') (fs ++ fs')
  zip3-append [] [] [] xs' bs' fs' zip more = more
  zip3-append [] [] (f ∷ fs) xs' bs' fs' zip more = absurd zip
  zip3-append [] (b ∷ bs) fs xs' bs' fs' zip more = absurd zip
  zip3-append (x ∷ xs) [] fs xs' bs' fs' zip more = absurd zip
  zip3-append (x ∷ xs) (b ∷ bs) [] xs' bs' fs' zip more = absurd zip
  zip3-append (x ∷ xs) (b ∷ bs) (f ∷ fs) xs' bs' fs' zip more = (zip.0, zip3-append xs bs fs xs' bs' fs' zip.1 more)

  abbrev row : {Z : Type 0} → List (List Z) → List Z
  row zss = flat_map (λ zs. zs) zss

  in-a-row : (xss : List (List X)) (bss : List (List B)) (fss : List (List F)) → AllPieces xss bss fss → AllZip3 (row xss) (row bss) (row fss)
  in-a-row [] [] [] all = tt
  in-a-row [] [] (f ∷ fss) all = absurd all
  in-a-row [] (b ∷ bss) fss all = absurd all
  in-a-row (x ∷ xss) [] fss all = absurd all
  in-a-row (x ∷ xss) (b ∷ bss) [] all = absurd all
  in-a-row (xs ∷ xss) (bs ∷ bss) (fs ∷ fss) all = zip3-append xs bs fs (row xss) (row bss) (row fss) all.0 (in-a-row xss bss fss all.1)

  module _ (of : X → ℕ) (nob : B → ℕ) (nof : F → ℕ) (says-b : (x : X) (b : B) (f : F) → R x b f → nob b ≡ of x) (says-f : (x : X) (b : B) (f : F) → R x b f → nof f ≡ of x) where
    backs-zip : (xs : List X) (bs : List B) (fs : List F) → AllZip3 xs bs fs → AllZip (λ x b. nob b ≡ of x) xs bs
    backs-zip [] [] [] zip = tt
    backs-zip [] [] (f ∷ fs) zip = absurd zip
    backs-zip [] (b ∷ bs) fs zip = absurd zip
    backs-zip (x ∷ xs) [] fs zip = absurd zip
    backs-zip (x ∷ xs) (b ∷ bs) [] zip = absurd zip
    backs-zip (x ∷ xs) (b ∷ bs) (f ∷ fs) zip = (says-b x b f zip.0, backs-zip xs bs fs zip.1)

    feeds-zip : (xs : List X) (bs : List B) (fs : List F) → AllZip3 xs bs fs → AllZip (λ x f. nof f ≡ of x) xs fs
    feeds-zip [] [] [] zip = tt
    feeds-zip [] [] (f ∷ fs) zip = absurd zip
    feeds-zip [] (b ∷ bs) fs zip = absurd zip
    feeds-zip (x ∷ xs) [] fs zip = absurd zip
    feeds-zip (x ∷ xs) (b ∷ bs) [] zip = absurd zip
    feeds-zip (x ∷ xs) (b ∷ bs) (f ∷ fs) zip = (says-f x b f zip.0, feeds-zip xs bs fs zip.1)

    lengths : (xss : List (List X)) (bss : List (List B)) (fss : List (List F)) → AllPieces xss bss fss → AllZip (λ xs fs. length xs ≡ length fs) xss fss
    lengths [] [] [] all = tt
    lengths [] [] (f ∷ fss) all = absurd all
    lengths [] (b ∷ bss) fss all = absurd all
    lengths (x ∷ xss) [] fss all = absurd all
    lengths (x ∷ xss) (b ∷ bss) [] all = absurd all
    lengths (xs ∷ xss) (bs ∷ bss) (fs ∷ fss) all = (length-zip xs fs (feeds-zip xs bs fs all.0), lengths xss bss fss all.1)
      where
        length-zip : (xs : List X) (fs : List F) → AllZip (λ x f. nof f ≡ of x) xs fs → length xs ≡ length fs
        length-zip [] [] zip = refl
        length-zip [] (f ∷ fs) zip = absurd zip
        length-zip (x ∷ xs) [] zip = absurd zip
        length-zip (x ∷ xs) (f ∷ fs) zip = ap suc (length-zip xs fs zip.1)

    each-of : (b : X → B) (g : X → F) (xs : List X) → AllZip3 xs (map b xs) (map g xs) → All (λ x. R x (b x) (g x)) xs
    each-of b g [] zip = All-nil (λ x. R x (b x) (g x))
    each-of b g (x ∷ xs) zip = All-cons (λ x. R x (b x) (g x)) x xs zip.0 (each-of b g xs zip.1)

    -- What came back and what was read stand beside the items, in their order, by functions of them.
    pub record Matched (xs : List X) (xss : List (List X)) (bss : List (List B)) (fss : List (List F)) : Type 0 where
      pub back : X → B
      pub feed : X → F
      pub feeds_are : map (map feed) xss ≡ fss
      pub feeds_row : map feed (row xss) ≡ row fss
      pub backs_are : IsPermutation (map back xs) (row bss)
      pub each : All (λ x. R x (back x) (feed x)) xs

    pub matches : (n : ℕ) (db : X → B) (df : X → F) (xs : List X) (xss : List (List X)) (bss : List (List B)) (fss : List (List F)) →
        IsFrom of n xs → IsPermutation xs (row xss) → AllPieces xss bss fss → Matched xs xss bss fss
    matches n db df xs xss bss fss from moves all =
        let zip = in-a-row xss bss fss all in
        let differ : Differ of (row xss) = differs of n xs (row xss) from moves in
        let back : X → B = matched of nob db (row bss) in
        let feed : X → F = matched of nof df (row fss) in
        let backs : map back (row xss) ≡ row bss = picks of nob db (row xss) (row bss) (backs-zip (row xss) (row bss) (row fss) zip) differ in
        let feeds : map feed (row xss) ≡ row fss = picks of nof df (row xss) (row fss) (feeds-zip (row xss) (row bss) (row fss) zip) differ in
        let zipped : AllZip3 (row xss) (map back (row xss)) (map feed (row xss)) =
        subst (λ bs. AllZip3 (row xss) bs (map feed (row xss))) (sym backs) (subst (λ fs. AllZip3 (row xss) (row bss) fs) (sym feeds) zip) in
        record {
          back = back;
          feed = feed;
          feeds_are = pieces feed xss fss (lengths xss bss fss all) feeds;
          feeds_row = feeds;
          backs_are = subst (λ bs. IsPermutation (map back xs) bs) backs (IsPermutation-map back xs (row xss) moves);
          each = All-permutation (λ x. R x (back x) (feed x)) (row xss) xs (IsPermutation-sym xs (row xss) moves) (each-of back feed (row xss) zipped);
        }
