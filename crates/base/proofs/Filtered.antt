-- Filters of filters, and their lengths.
use Rattle.std.proofs.Common.{◌≡◌, ◌<◌, ◌≤◌, ◌∙◌, Bool, true, false, cond, List, [], ◌∷◌, length, filter, refl, ap, sym, subst, ⊎_elim, arith}
use Rattle.std.specs.List.{Contains}
use Rattle.std.proofs.lemmas.Bool.{both_ways, cond_both, cases_Bool}
use Rattle.base.proofs.Elements.{contains-cases, contains-here, contains-there, contains-none}

-- what the second test takes away doesn't matter where the first takes it away too
pub filter-after : {X : Type 0} (p q : X → Bool) (xs : List X) → ((r : X) → p r ≡ true → q r ≡ true) → filter p (filter q xs) ≡ filter p xs
filter-after {X} p q [] h = refl
filter-after {X} p q (x ∷ xs) h = by (q x) refl (filter-after p q xs h)
  where
    by : (b : Bool) → q x ≡ b → filter p (filter q xs) ≡ filter p xs → filter p (filter q (x ∷ xs)) ≡ filter p (x ∷ xs)
    by true t rest = ap (λ b. filter p (cond b (x ∷ filter q xs) (filter q xs))) t ∙ ap (λ ys. cond (p x) (x ∷ ys) ys) rest
    by false f rest =
        let out : p x ≡ false = ⊎_elim (λ (t : p x ≡ true). absurd (both_ways (q x) f (h x t))) (λ (e : p x ≡ false). e) (cases_Bool (p x)) in
        ap (λ b. filter p (cond b (x ∷ filter q xs) (filter q xs))) f ∙ rest ∙ sym (ap (λ b. cond b (x ∷ filter p xs) (filter p xs)) out)

-- where all pass, all are left
pub filter-whole : {X : Type 0} (p : X → Bool) (xs : List X) → ((r : X) → Contains xs r → p r ≡ true) → filter p xs ≡ xs
filter-whole {X} p [] h = refl
filter-whole {X} p (x ∷ xs) h =
    ap (λ b. cond b (x ∷ filter p xs) (filter p xs)) (h x (contains-here x xs))
    ∙ ap (λ ys. x ∷ ys) (filter-whole p xs (λ r i. h r (contains-there x r xs i)))

pub filter-upto : {X : Type 0} (q : X → Bool) (xs : List X) → length (filter q xs) ≤ length xs
filter-upto {X} q [] = omega arith
filter-upto {X} q (x ∷ xs) =
    let rest : length (filter q xs) ≤ length xs = filter-upto q xs in
    let P : List X → Type 0 = λ ys. length ys ≤ length (x ∷ xs) in
    cond_both (q x) (x ∷ filter q xs) (filter q xs) P (λ t. omega arith) (λ f. omega arith)

-- where one doesn't pass, fewer are left
pub filter-fewer : {X : Type 0} (q : X → Bool) (xs : List X) (y : X) → Contains xs y → q y ≡ false → length (filter q xs) < length xs
filter-fewer {X} q [] y h e = absurd (contains-none y h)
filter-fewer {X} q (x ∷ xs) y h e =
    let upto : length (filter q xs) ≤ length xs = filter-upto q xs in
    ⊎_elim
    (λ (same : x ≡ y).
    let out : q x ≡ false = ap q same ∙ e in
    let P : Bool → Type 0 = λ b. length (cond b (x ∷ filter q xs) (filter q xs)) < length (x ∷ xs) in
    subst P (sym out) (let less : length (filter q xs) < length (x ∷ xs) = omega arith in less))
    (λ (there : Contains xs y).
    let less : length (filter q xs) < length xs = filter-fewer q xs y there e in
    let P : List X → Type 0 = λ ys. length ys < length (x ∷ xs) in
    cond_both (q x) (x ∷ filter q xs) (filter q xs) P (λ t. omega arith) (λ f. omega arith))
    (contains-cases x y xs h)
