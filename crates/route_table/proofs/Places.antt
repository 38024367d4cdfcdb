-- Places in lists whose keys ascend.
use Rattle.std.proofs.Common.{◌≡◌, ℕ, ◌+◌, ◌-◌, ◌<◌, ◌≤◌, ◌≢◌, zero, suc, Bool, true, false, cond, not, List, [], ◌∷◌, ◌++◌, length, get_or, set, filter, take, drop, refl, ap, sym, subst, ◌∙◌, ⊎_elim, arith, eqb}
use Rattle.std.specs.List.{Contains, insert}
use Rattle.std.specs.List.Sorted.{IsPermutation}
use Rattle.std.proofs.lemmas.Bool.{cases_Bool, eq-eqb, eqb-true, false_from_ne_true}
use Rattle.std.proofs.lemmas.List.Sorted.{IsPermutation-cons, IsPermutation-refl, IsPermutation-to_front, IsPermutation-sym}
use Rattle.base.proofs.Elements.{contains-cases, contains-none}
use Rattle.route_table.specs.Ascending.{AscendsFrom, IsFound, IsGap, IsPlace}

-- ---- order

pub keys-from : {T : Type 0} (key : T → ℕ) (start : ℕ) (xs : List T) (i : ℕ) (d : T) → AscendsFrom key start xs → i < length xs → start ≤ key (get_or xs i d)
keys-from key start [] i d h l = absurd (omega arith)
keys-from key start (x ∷ xs) zero d h l = h.0
keys-from key start (x ∷ xs) (suc i) d h l =
    let k : key x + 1 ≤ key (get_or xs i d) = keys-from key (key x + 1) xs i d h.1 (omega arith) in
    let f : start ≤ key x = h.0 in
    omega arith

pub ascends-lower : {T : Type 0} (key : T → ℕ) (start low : ℕ) (xs : List T) → low ≤ start → AscendsFrom key start xs → AscendsFrom key low xs
ascends-lower key start low [] l h = tt
ascends-lower key start low (x ∷ xs) l h = (let f : start ≤ key x = h.0 in omega arith, h.1)

pub ascends-filter : {T : Type 0} (key : T → ℕ) (q : T → Bool) (start : ℕ) (xs : List T) → AscendsFrom key start xs → AscendsFrom key start (filter q xs)
ascends-filter key q start [] h = tt
ascends-filter key q start (x ∷ xs) h =
    let f : start ≤ key x = h.0 in
    let rest : AscendsFrom key (key x + 1) (filter q xs) = ascends-filter key q (key x + 1) xs h.1 in
    ⊎_elim
    (λ (t : q x ≡ true). subst (λ b. AscendsFrom key start (cond b (x ∷ filter q xs) (filter q xs))) (sym t) (f, rest))
    (λ (e : q x ≡ false). subst (λ b. AscendsFrom key start (cond b (x ∷ filter q xs) (filter q xs))) (sym e) (ascends-lower key (key x + 1) start (filter q xs) (omega arith) rest))
    (cases_Bool (q x))

pub all-from : {T : Type 0} (key : T → ℕ) (start : ℕ) (xs : List T) (y : T) → AscendsFrom key start xs → Contains xs y → start ≤ key y
all-from key start [] y h i = absurd (contains-none y i)
all-from key start (x ∷ xs) y h i = ⊎_elim
    (λ (e : x ≡ y). subst (λ z. start ≤ key z) e h.0)
    (λ (j : Contains xs y).
    let l : key x + 1 ≤ key y = all-from key (key x + 1) xs y h.1 j in
    let f : start ≤ key x = h.0 in
    omega arith)
    (contains-cases x y xs i)

-- ---- what a search finds

-- where the key before a place is below this one, and the one at it is not, so it is with all
place-by : {T : Type 0} (key : T → ℕ) (start : ℕ) (xs : List T) (k i : ℕ) → AscendsFrom key start xs → i ≤ length xs → ((d : T) (j : ℕ) → suc j ≡ i → key (get_or xs j d) < k) → ((d : T) → i < length xs → k ≤ key (get_or xs i d)) → IsPlace key xs k i
place-by key start [] k i h l before after = omega arith
place-by key start (x ∷ xs) k zero h l before after = after x (omega arith)
place-by key start (x ∷ xs) k (suc zero) h l before after = (before x zero refl, place-by key (key x + 1) xs k zero h.1 (omega arith) (λ d j e. absurd (omega arith)) (λ d m. after d (omega arith)))
place-by key start (x ∷ xs) k (suc (suc i)) h l before after =
    let b : key (get_or xs i x) < k = before x (suc i) refl in
    let f : key x + 1 ≤ key (get_or xs i x) = keys-from key (key x + 1) xs i x h.1 (omega arith) in
    (omega arith, place-by key (key x + 1) xs k (suc i) h.1 (omega arith) (λ d j e. before d (suc j) (omega arith)) (λ d m. after d (omega arith)))

pub place-of : {T : Type 0} (key : T → ℕ) (start : ℕ) (xs : List T) (k i : ℕ) → AscendsFrom key start xs → i ≤ length xs → ((d : T) → 0 < i → key (get_or xs (i - 1) d) < k) → ((d : T) → i < length xs → k ≤ key (get_or xs i d)) → IsPlace key xs k i
place-of key start xs k i h l before after =
    place-by key start xs k i h l
    (λ d j e.
    let n : j ≡ i - 1 = omega arith in
    subst (λ m. key (get_or xs m d) < k) (sym n) (before d (omega arith)))
    after

pub found-at : {T : Type 0} (key : T → ℕ) (xs : List T) (k i : ℕ) (d : T) → IsPlace key xs k i → i < length xs → key (get_or xs i d) ≡ k → IsFound key xs k i
found-at key [] k i d h l e = absurd (omega arith)
found-at key (x ∷ xs) k zero d h l e = e
found-at key (x ∷ xs) k (suc i) d h l e = (h.0, found-at key xs k i d h.1 (omega arith) e)

pub gap-at : {T : Type 0} (key : T → ℕ) (xs : List T) (k i : ℕ) → IsPlace key xs k i → ((d : T) → i < length xs → key (get_or xs i d) ≢ k) → IsGap key xs k i
gap-at key [] k i h e = h
gap-at key (x ∷ xs) k zero h e = let n : key x ≢ k = e x (omega arith) in omega arith
gap-at key (x ∷ xs) k (suc i) h e = (h.0, gap-at key xs k i h.1 (λ d l. e d (omega arith)))

pub found-inside : {T : Type 0} (key : T → ℕ) (xs : List T) (k i : ℕ) → IsFound key xs k i → i < length xs
found-inside key [] k i h = absurd h
found-inside key (x ∷ xs) k zero h = omega arith
found-inside key (x ∷ xs) k (suc i) h = let l : i < length xs = found-inside key xs k i h.1 in omega arith

pub found-key : {T : Type 0} (key : T → ℕ) (xs : List T) (k i : ℕ) (d : T) → IsFound key xs k i → key (get_or xs i d) ≡ k
found-key key [] k i d h = absurd h
found-key key (x ∷ xs) k zero d h = h
found-key key (x ∷ xs) k (suc i) d h = found-key key xs k i d h.1

pub gap-inside : {T : Type 0} (key : T → ℕ) (xs : List T) (k i : ℕ) → IsGap key xs k i → i ≤ length xs
gap-inside key [] k i h = omega arith
gap-inside key (x ∷ xs) k zero h = omega arith
gap-inside key (x ∷ xs) k (suc i) h = let l : i ≤ length xs = gap-inside key xs k i h.1 in omega arith

pub place-inside : {T : Type 0} (key : T → ℕ) (xs : List T) (k i : ℕ) → IsPlace key xs k i → i ≤ length xs
place-inside key [] k i h = omega arith
place-inside key (x ∷ xs) k zero h = omega arith
place-inside key (x ∷ xs) k (suc i) h = let l : i ≤ length xs = place-inside key xs k i h.1 in omega arith

-- what is put in the place of what was found is found there
pub found-set : {T : Type 0} (key : T → ℕ) (xs : List T) (k i : ℕ) (v : T) → IsFound key xs k i → key v ≡ k → IsFound key (set xs i v) k i
found-set key [] k i v h e = absurd h
found-set key (x ∷ xs) k zero v h e = e
found-set key (x ∷ xs) k (suc i) v h e = (h.0, found-set key xs k i v h.1 e)

pub found-insert : {T : Type 0} (key : T → ℕ) (xs : List T) (k i : ℕ) (v : T) → IsGap key xs k i → key v ≡ k → IsFound key (insert xs i v) k i
found-insert key [] k zero v h e = e
found-insert key [] k (suc i) v h e = absurd (omega arith)
found-insert key (x ∷ xs) k zero v h e = e
found-insert key (x ∷ xs) k (suc i) v h e = (h.0, found-insert key xs k i v h.1 e)

-- ---- what keeps the order

pub ascends-set : {T : Type 0} (key : T → ℕ) (start : ℕ) (xs : List T) (k i : ℕ) (v : T) → AscendsFrom key start xs → IsFound key xs k i → key v ≡ k → AscendsFrom key start (set xs i v)
ascends-set key start [] k i v h f e = absurd f
ascends-set key start (x ∷ xs) k zero v h f e =
    let same : key x ≡ key v = f ∙ sym e in
    (subst (λ n. start ≤ n) same h.0, subst (λ n. AscendsFrom key (n + 1) xs) same h.1)
ascends-set key start (x ∷ xs) k (suc i) v h f e = (h.0, ascends-set key (key x + 1) xs k i v h.1 f.1 e)

pub ascends-insert : {T : Type 0} (key : T → ℕ) (start : ℕ) (xs : List T) (k i : ℕ) (v : T) → AscendsFrom key start xs → IsGap key xs k i → start ≤ k → key v ≡ k → AscendsFrom key start (insert xs i v)
ascends-insert key start [] k zero v h g l e = (omega arith, tt)
ascends-insert key start [] k (suc i) v h g l e = absurd (omega arith)
ascends-insert key start (x ∷ xs) k zero v h g l e = (omega arith, (omega arith, h.1))
ascends-insert key start (x ∷ xs) k (suc i) v h g l e = (h.0, ascends-insert key (key x + 1) xs k i v h.1 g.1 (let m : key x < k = g.0 in omega arith) e)

-- ---- the others

abbrev pub others : {T : Type 0} → (T → ℕ) → ℕ → List T → List T
others key k xs = filter (λ x. not (eqb (key x) k)) xs

other-kept : {T : Type 0} (key : T → ℕ) (k : ℕ) (x : T) (xs : List T) → key x ≢ k → others key k (x ∷ xs) ≡ x ∷ others key k xs
other-kept key k x xs n =
    let f : eqb (key x) k ≡ false = false_from_ne_true (eqb (key x) k) (λ t. n (eqb-true (key x) k t)) in
    ap (λ b. cond (not b) (x ∷ others key k xs) (others key k xs)) f

other-gone : {T : Type 0} (key : T → ℕ) (k : ℕ) (x : T) (xs : List T) → key x ≡ k → others key k (x ∷ xs) ≡ others key k xs
other-gone key k x xs e = ap (λ b. cond (not b) (x ∷ others key k xs) (others key k xs)) (eq-eqb (key x) k e)

-- those after it are all others
pub others-above : {T : Type 0} (key : T → ℕ) (k start : ℕ) (xs : List T) → AscendsFrom key start xs → k < start → others key k xs ≡ xs
others-above key k start [] h l = refl
others-above key k start (x ∷ xs) h l =
    let f : start ≤ key x = h.0 in
    other-kept key k x xs (omega arith) ∙ ap (λ ys. x ∷ ys) (others-above key k (key x + 1) xs h.1 (omega arith))

pub others-gap : {T : Type 0} (key : T → ℕ) (start : ℕ) (xs : List T) (k i : ℕ) → AscendsFrom key start xs → IsGap key xs k i → others key k xs ≡ xs
others-gap key start [] k i h g = refl
others-gap key start (x ∷ xs) k zero h g = others-above key k (key x) (x ∷ xs) (omega arith, h.1) g
others-gap key start (x ∷ xs) k (suc i) h g =
    let l : key x < k = g.0 in
    other-kept key k x xs (omega arith) ∙ ap (λ ys. x ∷ ys) (others-gap key (key x + 1) xs k i h.1 g.1)

-- put in the place of the one with the key
pub others-set : {T : Type 0} (key : T → ℕ) (start : ℕ) (xs : List T) (k i : ℕ) (v : T) → AscendsFrom key start xs → IsFound key xs k i → IsPermutation (set xs i v) (others key k xs ++ v ∷ [])
others-set key start [] k i v h f = absurd f
others-set key start (x ∷ xs) k zero v h f =
    let is : others key k (x ∷ xs) ≡ xs = other-gone key k x xs f ∙ others-above key k (key x + 1) xs h.1 (omega arith) in
    subst (λ ys. IsPermutation (v ∷ xs) (ys ++ v ∷ [])) (sym is) (IsPermutation-sym (xs ++ v ∷ []) (v ∷ xs) (IsPermutation-to_front xs v))
others-set key start (x ∷ xs) k (suc i) v h f =
    let l : key x < k = f.0 in
    subst (λ ys. IsPermutation (x ∷ set xs i v) (ys ++ v ∷ [])) (sym (other-kept key k x xs (omega arith)))
    (IsPermutation-cons x (set xs i v) (others key k xs ++ v ∷ []) (others-set key (key x + 1) xs k i v h.1 f.1))

-- put where no one has the key
pub others-insert : {T : Type 0} (key : T → ℕ) (start : ℕ) (xs : List T) (k i : ℕ) (v : T) → AscendsFrom key start xs → IsGap key xs k i → IsPermutation (insert xs i v) (others key k xs ++ v ∷ [])
others-insert key start [] k zero v h g = IsPermutation-refl (v ∷ [])
others-insert key start [] k (suc i) v h g = absurd (omega arith)
others-insert key start (x ∷ xs) k zero v h g =
    let is : others key k (x ∷ xs) ≡ x ∷ xs = others-above key k (key x) (x ∷ xs) (omega arith, h.1) g in
    subst (λ ys. IsPermutation (v ∷ x ∷ xs) (ys ++ v ∷ [])) (sym is) (IsPermutation-sym ((x ∷ xs) ++ v ∷ []) (v ∷ x ∷ xs) (IsPermutation-to_front (x ∷ xs) v))
others-insert key start (x ∷ xs) k (suc i) v h g =
    let l : key x < k = g.0 in
    subst (λ ys. IsPermutation (x ∷ insert xs i v) (ys ++ v ∷ [])) (sym (other-kept key k x xs (omega arith)))
    (IsPermutation-cons x (insert xs i v) (others key k xs ++ v ∷ []) (others-insert key (key x + 1) xs k i v h.1 g.1))

-- taken out
pub others-drop : {T : Type 0} (key : T → ℕ) (start : ℕ) (xs : List T) (k i : ℕ) → AscendsFrom key start xs → IsFound key xs k i → take i xs ++ drop (suc i) xs ≡ others key k xs
others-drop key start [] k i h f = absurd f
others-drop key start (x ∷ xs) k zero h f = sym (other-gone key k x xs f ∙ others-above key k (key x + 1) xs h.1 (omega arith))
others-drop key start (x ∷ xs) k (suc i) h f =
    let l : key x < k = f.0 in
    ap (λ ys. x ∷ ys) (others-drop key (key x + 1) xs k i h.1 f.1) ∙ sym (other-kept key k x xs (omega arith))

-- the first has the least key
pub first-least : {T : Type 0} (key : T → ℕ) (start : ℕ) (x : T) (xs : List T) (y : T) → AscendsFrom key start (x ∷ xs) → Contains (x ∷ xs) y → key x ≤ key y
first-least key start x xs y h i = ⊎_elim
    (λ (e : x ≡ y). subst (λ z. key x ≤ key z) e (omega arith))
    (λ (j : Contains xs y). let l : key x + 1 ≤ key y = all-from key (key x + 1) xs y h.1 j in omega arith)
    (contains-cases x y xs i)
