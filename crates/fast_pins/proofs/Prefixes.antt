-- Beginnings of one list.
use Rattle.std.proofs.Common.{◌≡◌, ◌≤◌, ◌⊎◌, inl, inr, List, [], ◌∷◌, ◌++◌, length, refl, ap, sym, ◌∙◌, arith, append_assoc, length-append}
use Rattle.std.proofs.lemmas.List.{append-nil}
use mathlib.Core.List.{IsPrefix}

-- each list begins with itself
pub prefix_self : {A : Type 0} (xs : List A) → IsPrefix xs xs
prefix_self xs = ([], append-nil xs)

-- the empty list begins each list
pub prefix_none : {A : Type 0} (xs ys : List A) → xs ≡ [] → IsPrefix xs ys
prefix_none {A = A} xs ys e = (ys, ap (λ (l : List A). l ++ ys) e)

pub prefix_more : {A : Type 0} (xs ys : List A) → IsPrefix xs (xs ++ ys)
prefix_more xs ys = (ys, refl)

pub prefix_trans : {A : Type 0} (xs ys zs : List A) → IsPrefix xs ys → IsPrefix ys zs → IsPrefix xs zs
prefix_trans xs ys zs p q = (p.0 ++ q.0, sym (append_assoc xs p.0 q.0) ∙ (ap (λ w. w ++ q.0) p.1 ∙ q.1))

-- of two beginnings of one list the shorter begins the longer
pub prefix_shorter : {A : Type 0} (xs ys zs : List A) → IsPrefix xs zs → IsPrefix ys zs → length xs ≤ length ys → IsPrefix xs ys
prefix_shorter [] ys zs p q le = (ys, refl)
prefix_shorter (x ∷ xs) [] zs p q le = absurd (omega arith)
prefix_shorter (x ∷ xs) (y ∷ ys) [] p q le = absurd (cc (p.1))
prefix_shorter (x ∷ xs) (y ∷ ys) (z ∷ zs) p q le =
    let heads : x ≡ y = cc (p.1, q.1) in
    let rest = prefix_shorter xs ys zs (p.0, cc (p.1)) (q.0, cc (q.1)) (omega arith) in
    (rest.0, cc (heads, rest.1))

-- a beginning as long as the whole is the whole
pub prefix_whole : {A : Type 0} (xs ys : List A) → IsPrefix xs ys → length ys ≤ length xs → xs ≡ ys
prefix_whole [] [] p le = refl
prefix_whole [] (y ∷ ys) p le = absurd (omega arith)
prefix_whole (x ∷ xs) [] p le = absurd (cc (p.1))
prefix_whole (x ∷ xs) (y ∷ ys) p le =
    let rest = prefix_whole xs ys (p.0, cc (p.1)) (omega arith) in cc (p.1, rest)

pub prefix_length : {A : Type 0} (xs ys : List A) → IsPrefix xs ys → length xs ≤ length ys
prefix_length xs ys p = omega (arith, sym (ap length p.1) ∙ length-append xs p.0)

-- a beginning of a list with one more is one of the list, or all of it
pub prefix_snoc : {A : Type 0} (xs log : List A) (a : A) → IsPrefix xs (log ++ a ∷ []) → IsPrefix xs log ⊎ (xs ≡ log ++ a ∷ [])
prefix_snoc [] log a p = inl (log, refl)
prefix_snoc (x ∷ xs) [] a p = let tail : xs ++ p.0 ≡ [] = cc (p.1) in let empty : xs ≡ [] = front_none xs p.0 tail in inr (cc (p.1, empty))
  where
    front_none : {B : Type 0} (xs ys : List B) → xs ++ ys ≡ [] → xs ≡ []
    front_none [] ys e = refl
    front_none (x ∷ xs) ys e = absurd (cc)
prefix_snoc (x ∷ xs) (y ∷ log) a p = next (prefix_snoc xs log a (p.0, cc (p.1)))
  where
    next : IsPrefix xs log ⊎ (xs ≡ log ++ a ∷ []) → IsPrefix (x ∷ xs) (y ∷ log) ⊎ (x ∷ xs ≡ y ∷ (log ++ a ∷ []))
    next (inl q) = inl (q.0, cc (p.1, q.1))
    next (inr e) = inr (cc (p.1, e))
