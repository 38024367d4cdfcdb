-- Elements of lists.
use Rattle.std.proofs.Common.{◌≡◌, ℕ, zero, suc, ◌<◌, ◌⊎◌, ◌∙◌, Bool, true, cond, List, [], ◌∷◌, length, get_or, filter, map, refl, ap, sym, subst, inl, inr, ⊎_elim, arith}
use Rattle.std.specs.List.{Contains}
use Rattle.std.proofs.lemmas.Bool.{cond_both}

pub contains-here : {X : Type 0} (x : X) (xs : List X) → Contains (x ∷ xs) x
contains-here x xs = (0, omega arith, refl)

pub contains-there : {X : Type 0} (x r : X) (xs : List X) → Contains xs r → Contains (x ∷ xs) r
contains-there x r xs h = (suc h.0, (let l : h.0 < length xs = h.1 in omega arith), h.2)

contains-at : {X : Type 0} (x r : X) (xs : List X) (k : ℕ) → k < length (x ∷ xs) → get_or (x ∷ xs) k r ≡ r → (x ≡ r) ⊎ Contains xs r
contains-at x r xs zero l e = inl e
contains-at x r xs (suc k) l e = inr (k, omega arith, e)

pub contains-cases : {X : Type 0} (x r : X) (xs : List X) → Contains (x ∷ xs) r → (x ≡ r) ⊎ Contains xs r
contains-cases x r xs h = contains-at x r xs h.0 h.1 h.2

pub contains-none : {X : Type 0} (r : X) → Contains [] r → ⊥
contains-none r h = let l : h.0 < 0 = h.1 in omega arith

pub contains-filter : {X : Type 0} (p : X → Bool) (r : X) (xs : List X) → Contains xs r → p r ≡ true → Contains (filter p xs) r
contains-filter {X} p r [] h e = absurd (contains-none r h)
contains-filter {X} p r (x ∷ xs) h e = ⊎_elim
    (λ (same : x ≡ r).
    let here : p x ≡ true = ap p same ∙ e in
    let P : X → Type 0 = λ y. Contains (cond (p x) (x ∷ filter p xs) (filter p xs)) y in
    let Q : Bool → Type 0 = λ b. Contains (cond b (x ∷ filter p xs) (filter p xs)) x in
    subst P same (subst Q (sym here) (contains-here x (filter p xs))))
    (λ (rest : Contains xs r).
    let P : List X → Type 0 = λ ys. Contains ys r in
    cond_both (p x) (x ∷ filter p xs) (filter p xs) P (λ t. contains-there x r (filter p xs) (contains-filter p r xs rest e)) (λ f. contains-filter p r xs rest e))
    (contains-cases x r xs h)

pub filter-contains : {X : Type 0} (p : X → Bool) (r : X) (xs : List X) → Contains (filter p xs) r → Contains xs r × (p r ≡ true)
filter-contains {X} p r [] h = absurd (contains-none r h)
filter-contains {X} p r (x ∷ xs) h =
    let P : List X → Type 0 = λ ys. Contains ys r → Contains (x ∷ xs) r × (p r ≡ true) in
    cond_both (p x) (x ∷ filter p xs) (filter p xs) P
    (λ t k. ⊎_elim
    (λ (same : x ≡ r). (let Q : X → Type 0 = λ y. Contains (x ∷ xs) y in subst Q same (contains-here x xs), ap p (sym same) ∙ t))
    (λ (rest : Contains (filter p xs) r). (contains-there x r xs (filter-contains p r xs rest).0, (filter-contains p r xs rest).1))
    (contains-cases x r (filter p xs) k))
    (λ f k. (contains-there x r xs (filter-contains p r xs k).0, (filter-contains p r xs k).1))
    h

-- what stands in a mapped list comes of an element
pub contains-map : {X Y : Type 0} (f : X → Y) (xs : List X) (y : Y) → Contains (map f xs) y → (x : X) × Contains xs x × (f x ≡ y)
contains-map {X} {Y} f [] y h = absurd (contains-none y h)
contains-map {X} {Y} f (x ∷ xs) y h = ⊎_elim
    (λ (same : f x ≡ y). (x, contains-here x xs, same))
    (λ (rest : Contains (map f xs) y). let w : (z : X) × Contains xs z × (f z ≡ y) = contains-map f xs y rest in (w.0, contains-there x w.0 xs w.1, w.2))
    (contains-cases (f x) y (map f xs) h)

pub map-contains : {X Y : Type 0} (f : X → Y) (xs : List X) (x : X) → Contains xs x → Contains (map f xs) (f x)
map-contains {X} {Y} f [] x h = absurd (contains-none x h)
map-contains {X} {Y} f (z ∷ xs) x h = ⊎_elim
    (λ (same : z ≡ x). let P : X → Type 0 = λ w. Contains (map f (z ∷ xs)) (f w) in subst P same (contains-here (f z) (map f xs)))
    (λ (rest : Contains xs x). contains-there (f z) (f x) (map f xs) (map-contains f xs x rest))
    (contains-cases z x xs h)
