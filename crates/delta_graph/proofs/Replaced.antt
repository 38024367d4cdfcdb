-- Lists with one element in the place of two.
use Rattle.std.proofs.Common.{◌≡◌, ℕ, ◌+◌, ◌<◌, ◌∙◌, suc, List, [], ◌∷◌, ◌++◌, length, set, take, drop, ap, append_assoc, arith}
use Rattle.std.specs.List.{remove}
use Rattle.std.proofs.lemmas.List.{drop-set-lt, set_split, take_more_set}

pub one-for-one : {X : Type 0} (xs : List X) (from to : ℕ) (x : X) → from < length xs → to ≡ from + 1 → set xs from x ≡ take from xs ++ x ∷ drop to xs
one-for-one xs from to x lt e = set_split xs from x lt ∙ ap (λ n. take from xs ++ x ∷ drop n xs) (let s : suc from ≡ to = omega arith in s)

pub one-for-two : {X : Type 0} (xs ys : List X) (from to : ℕ) (x : X) → from < length xs → to ≡ from + 2 → ys ≡ remove (set xs from x) (from + 1) → ys ≡ take from xs ++ x ∷ drop to xs
one-for-two {X} xs ys from to x lt e is =
    is
    ∙ ap (λ (zs : List X). zs ++ drop (suc (from + 1)) (set xs from x)) (take_more_set xs from x lt)
    ∙ append_assoc (take from xs) (x ∷ []) (drop (suc (from + 1)) (set xs from x))
    ∙ ap (λ (zs : List X). take from xs ++ x ∷ zs) (drop-set-lt (suc (from + 1)) xs from x (omega arith) ∙ ap (λ n. drop n xs) (let s : suc (from + 1) ≡ to = omega arith in s))
