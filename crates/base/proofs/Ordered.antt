-- Lists in order by two numbers: an insert, and that such a list is fixed by its elements.
use Rattle.std.proofs.Common.{◌≡◌, ℕ, zero, suc, ◌<◌, ◌≤◌, ◌⊎◌, ◌∙◌, Bool, true, false, ◌&&◌, ◌||◌, ltb, eqb, List, [], ◌∷◌, take, drop, length, get_or, refl, ap, sym, subst, inl, inr, ⊎_elim, arith}
use Rattle.std.specs.List.{Contains, insert}
use Rattle.std.proofs.lemmas.Bool.{cases_order, ltb-true, ltb-false, eqb-true, lt-ltb, eq-eqb, or_cases, or_parts, and_parts, and_from, both_ways}
use Rattle.std.proofs.lemmas.List.Elements.{Contains-append_right}
use Rattle.base.proofs.Elements.{contains-here, contains-there, contains-cases, contains-none}

-- by the first number, then by the second
abbrev pub Before : {X : Type 0} → (X → ℕ) → (X → ℕ) → X → X → Type 0
Before k l x y = (k x < k y) ⊎ ((k x ≡ k y) × (l x < l y))

abbrev pub before : {X : Type 0} → (X → ℕ) → (X → ℕ) → X → X → Bool
before k l x y = ltb (k x) (k y) || (eqb (k x) (k y) && ltb (l x) (l y))

pub before-yes : {X : Type 0} (k l : X → ℕ) (x y : X) → before k l x y ≡ true → Before k l x y
before-yes k l x y h = ⊎_elim
    (λ (m : ltb (k x) (k y) ≡ true). inl (ltb-true (k x) (k y) m))
    (λ (m : (eqb (k x) (k y) && ltb (l x) (l y)) ≡ true).
    let p : (eqb (k x) (k y) ≡ true) × (ltb (l x) (l y) ≡ true) = and_parts (eqb (k x) (k y)) (ltb (l x) (l y)) m in
    inr (eqb-true (k x) (k y) p.0, ltb-true (l x) (l y) p.1))
    (or_cases (ltb (k x) (k y)) (eqb (k x) (k y) && ltb (l x) (l y)) h)

-- what doesn't come before and isn't the same comes after
pub before-not : {X : Type 0} (k l : X → ℕ) (x y : X) → before k l x y ≡ false → (k x ≡ k y → l x ≡ l y → ⊥) → Before k l y x
before-not k l x y h n =
    let p : (ltb (k x) (k y) ≡ false) × ((eqb (k x) (k y) && ltb (l x) (l y)) ≡ false) = or_parts (ltb (k x) (k y)) (eqb (k x) (k y) && ltb (l x) (l y)) h in
    let first : k y ≤ k x = ltb-false (k x) (k y) p.0 in
    ⊎_elim
    (λ (e : k x ≡ k y). inr (
      sym e,
      ⊎_elim
          (λ (f : l x ≡ l y). absurd (n e f))
          (λ (o : (l x < l y) ⊎ (l y < l x)). ⊎_elim
          (λ (m : l x < l y). absurd (both_ways (eqb (k x) (k y) && ltb (l x) (l y)) p.1 (and_from (eqb (k x) (k y)) (ltb (l x) (l y)) (eq-eqb (k x) (k y) e) (lt-ltb (l x) (l y) m))))
          (λ (m : l y < l x). m)
          o)
          (cases_order (l x) (l y)),
    ))
    (λ (o : (k x < k y) ⊎ (k y < k x)). ⊎_elim
    (λ (m : k x < k y). absurd (let z : ⊥ = omega arith in z))
    (λ (m : k y < k x). inl m)
    o)
    (cases_order (k x) (k y))

before-trans : {X : Type 0} (k l : X → ℕ) (x y z : X) → Before k l x y → Before k l y z → Before k l x z
before-trans k l x y z h i = ⊎_elim
    (λ (a : k x < k y). ⊎_elim
    (λ (b : k y < k z). inl (omega arith))
    (λ (b : (k y ≡ k z) × (l y < l z)). inl (let e : k y ≡ k z = b.0 in omega arith))
    i)
    (λ (a : (k x ≡ k y) × (l x < l y)). ⊎_elim
    (λ (b : k y < k z). inl (let e : k x ≡ k y = a.0 in omega arith))
    (λ (b : (k y ≡ k z) × (l y < l z)). inr (a.0 ∙ b.0, (let c : l x < l y = a.1 in let d : l y < l z = b.1 in omega arith)))
    i)
    h

before-self : {X : Type 0} (k l : X → ℕ) (x : X) → Before k l x x → ⊥
before-self k l x h = ⊎_elim
    (λ (a : k x < k x). let z : ⊥ = omega arith in z)
    (λ (a : (k x ≡ k x) × (l x < l x)). let c : l x < l x = a.1 in let z : ⊥ = omega arith in z)
    h

abbrev pub Ordered : {X : Type 0} → (X → ℕ) → (X → ℕ) → List X → Type 0
Ordered k l [] = Unit {0}
Ordered k l (x ∷ []) = Unit {0}
Ordered k l (x ∷ y ∷ rest) = Before k l x y × Ordered k l (y ∷ rest)

ordered-tail : {X : Type 0} (k l : X → ℕ) (x : X) (xs : List X) → Ordered k l (x ∷ xs) → Ordered k l xs
ordered-tail k l x [] h = tt
ordered-tail k l x (y ∷ ys) h = h.1

ordered-cons : {X : Type 0} (k l : X → ℕ) (x d : X) (xs : List X) → (0 < length xs → Before k l x (get_or xs 0 d)) → Ordered k l xs → Ordered k l (x ∷ xs)
ordered-cons k l x d [] b h = tt
ordered-cons k l x d (y ∷ ys) b h = (b (omega arith), h)

-- the first of a list comes before all others
ordered-all : {X : Type 0} (k l : X → ℕ) (x z : X) (xs : List X) → Ordered k l (x ∷ xs) → Contains xs z → Before k l x z
ordered-all k l x z [] h i = absurd (contains-none z i)
ordered-all {X} k l x z (y ∷ ys) h i = ⊎_elim
    (λ (e : y ≡ z). let P : X → Type 0 = λ v. Before k l x v in subst P e h.0)
    (λ (j : Contains ys z). before-trans k l x y z h.0 (ordered-all k l y z ys h.1 j))
    (contains-cases y z ys i)

-- lists in order that have the same elements are equal
pub ordered-once : {X : Type 0} (k l : X → ℕ) (xs ys : List X) → Ordered k l xs → Ordered k l ys → ((z : X) → Contains xs z → Contains ys z) → ((z : X) → Contains ys z → Contains xs z) → xs ≡ ys
ordered-once k l [] [] h i f g = refl
ordered-once k l [] (y ∷ ys) h i f g = absurd (contains-none y (g y (contains-here y ys)))
ordered-once k l (x ∷ xs) [] h i f g = absurd (contains-none x (f x (contains-here x xs)))
ordered-once {X} k l (x ∷ xs) (y ∷ ys) h i f g =
    let same : x ≡ y = ⊎_elim
    (λ (e : y ≡ x). sym e)
    (λ (a : Contains ys x). ⊎_elim
    (λ (e : x ≡ y). e)
    (λ (b : Contains xs y). absurd (before-self k l x (before-trans k l x y x (ordered-all k l x y xs h b) (ordered-all k l y x ys i a))))
    (contains-cases x y xs (g y (contains-here y ys))))
    (contains-cases y x ys (f x (contains-here x xs))) in
    let P : X → Type 0 = λ v. Before k l v v → ⊥ in
    let rest : xs ≡ ys = ordered-once k l xs ys (ordered-tail k l x xs h) (ordered-tail k l y ys i)
    (λ z a. ⊎_elim
    (λ (e : y ≡ z). absurd (let Q : X → Type 0 = λ v. Before k l x v in before-self k l x (subst Q (sym (same ∙ e)) (ordered-all k l x z xs h a))))
    (λ (b : Contains ys z). b)
    (contains-cases y z ys (f z (contains-there x z xs a))))
    (λ z a. ⊎_elim
    (λ (e : x ≡ z). absurd (let Q : X → Type 0 = λ v. Before k l y v in before-self k l y (subst Q (sym (sym same ∙ e)) (ordered-all k l y z ys i a))))
    (λ (b : Contains xs z). b)
    (contains-cases x z xs (g z (contains-there y z ys a)))) in
    ap (λ v. v ∷ xs) same ∙ ap (λ vs. y ∷ vs) rest

-- an insert after all that come before, and before one that comes after
pub ordered-insert : {X : Type 0} (k l : X → ℕ) (xs : List X) (i : ℕ) (x d : X) → Ordered k l xs → i ≤ length xs → ((n : ℕ) → n < i → Before k l (get_or xs n d) x) → (i < length xs → Before k l x (get_or xs i d)) → Ordered k l (insert xs i x)
ordered-insert k l xs zero x d h le below above = ordered-cons k l x d xs above h
ordered-insert k l [] (suc i) x d h le below above = absurd (omega arith)
ordered-insert k l (y ∷ []) (suc zero) x d h le below above = (below 0 (omega arith), tt)
ordered-insert k l (y ∷ []) (suc (suc i)) x d h le below above = absurd (omega arith)
ordered-insert k l (y ∷ z ∷ zs) (suc zero) x d h le below above = (below 0 (omega arith), (above (omega arith), h.1))
ordered-insert k l (y ∷ z ∷ zs) (suc (suc i)) x d h le below above =
    (h.0, ordered-insert k l (z ∷ zs) (suc i) x d h.1 (omega arith) (λ n b. below (suc n) (omega arith)) (λ b. above (omega arith)))

-- what an insert has
pub insert-here : {X : Type 0} (xs : List X) (i : ℕ) (x : X) → Contains (insert xs i x) x
insert-here xs i x = Contains-append_right (take i xs) (x ∷ drop i xs) x (contains-here x (drop i xs))

pub insert-kept : {X : Type 0} (xs : List X) (i : ℕ) (x z : X) → Contains xs z → Contains (insert xs i x) z
insert-kept xs zero x z h = contains-there x z xs h
insert-kept [] (suc i) x z h = absurd (contains-none z h)
insert-kept {X} (y ∷ ys) (suc i) x z h = ⊎_elim
    (λ (e : y ≡ z). let P : X → Type 0 = λ v. Contains (y ∷ insert ys i x) v in subst P e (contains-here y (insert ys i x)))
    (λ (m : Contains ys z). contains-there y z (insert ys i x) (insert-kept ys i x z m))
    (contains-cases y z ys h)

contains-first : {X : Type 0} (y z : X) (ys : List X) → y ≡ z → Contains (y ∷ ys) z
contains-first {X} y z ys e = let P : X → Type 0 = λ v. Contains (y ∷ ys) v in subst P e (contains-here y ys)

pub insert-only : {X : Type 0} (xs : List X) (i : ℕ) (x z : X) → Contains (insert xs i x) z → (x ≡ z) ⊎ Contains xs z
insert-only xs zero x z h = contains-cases x z xs h
insert-only [] (suc i) x z h = contains-cases x z [] h
insert-only (y ∷ ys) (suc i) x z h = ⊎_elim
    (λ (e : y ≡ z). inr (contains-first y z ys e))
    (λ (m : Contains (insert ys i x) z). ⊎_elim
    (λ (e : x ≡ z). inl e)
    (λ (n : Contains ys z). inr (contains-there y z ys n))
    (insert-only ys i x z m))
    (contains-cases y z (insert ys i x) h)
