-- Rows that cover the addresses once: their bounds by place, and the row of an address.
use Rattle.std.proofs.Common.{◌≡◌, ℕ, ◌+◌, ◌<◌, ◌≤◌, ◌^◌, ◌∙◌, ⊎_elim, zero, suc, true, false, cond, Some, List, [], ◌∷◌, length, get_or, ap, subst, arith, leb, ltb}
use Rattle.std.proofs.lemmas.Bool.{cases_lt, le-leb, lt-leb, lt-ltb, le-ltb, and_from, and_left, and_right}
use Rattle.base.specs.Rows.{is_within, CoverFrom, holder}

-- which addresses are within bounds
pub within-yes : (low high a : ℕ) → low ≤ a → a < high → is_within low high a ≡ true
within-yes low high a l h = and_from (leb low a) (ltb a high) (le-leb low a l) (lt-ltb a high h)

pub within-below : (low high a : ℕ) → a < low → is_within low high a ≡ false
within-below low high a h = and_left (leb low a) (ltb a high) (lt-leb low a h)

pub within-above : (low high a : ℕ) → high ≤ a → is_within low high a ≡ false
within-above low high a h = and_right (leb low a) (ltb a high) (le-ltb a high h)

-- the first row has the address, or not
pub holder-first : {X : Type 0} (low high : X → ℕ) (x : X) (xs : List X) (a : ℕ) → is_within (low x) (high x) a ≡ true → holder low high (x ∷ xs) a ≡ Some x
holder-first low high x xs a e = ap (λ b. cond b (Some x) (holder low high xs a)) e

pub holder-rest : {X : Type 0} (low high : X → ℕ) (x : X) (xs : List X) (a : ℕ) → is_within (low x) (high x) a ≡ false → holder low high (x ∷ xs) a ≡ holder low high xs a
holder-rest low high x xs a e = ap (λ b. cond b (Some x) (holder low high xs a)) e

-- rows end at 2^32, and each lies between where they start and there
pub starts-below : {X : Type 0} (low high : X → ℕ) (start : ℕ) (xs : List X) → CoverFrom low high start xs → start ≤ 2 ^ 32
starts-below low high start [] h = let e : start ≡ 2 ^ 32 = h in omega arith
starts-below low high start (x ∷ xs) h =
    let e : low x ≡ start = h.0 in
    let o : low x < high x = h.1 in
    let k : high x ≤ 2 ^ 32 = starts-below low high (high x) xs h.2 in
    omega arith

-- there is a row where there is an address left
pub some-row : {X : Type 0} (low high : X → ℕ) (start : ℕ) (xs : List X) → CoverFrom low high start xs → start < 2 ^ 32 → 0 < length xs
some-row low high start [] h l = let e : start ≡ 2 ^ 32 = h in omega arith
some-row low high start (x ∷ xs) h l = omega arith

-- there are no more rows than addresses
pub few-rows : {X : Type 0} (low high : X → ℕ) (start : ℕ) (xs : List X) → CoverFrom low high start xs → start + length xs ≤ 2 ^ 32
few-rows low high start [] h = let e : start ≡ 2 ^ 32 = h in omega arith
few-rows low high start (x ∷ xs) h =
    let e : low x ≡ start = h.0 in
    let o : low x < high x = h.1 in
    let k : high x + length xs ≤ 2 ^ 32 = few-rows low high (high x) xs h.2 in
    omega arith

-- by place: the order of the bounds
pub ordered-at : {X : Type 0} (low high : X → ℕ) (start : ℕ) (xs : List X) (i : ℕ) (d : X) → CoverFrom low high start xs → i < length xs → low (get_or xs i d) < high (get_or xs i d)
ordered-at low high start [] i d h l = absurd (omega arith)
ordered-at low high start (x ∷ xs) zero d h l = h.1
ordered-at low high start (x ∷ xs) (suc i) d h l = ordered-at low high (high x) xs i d h.2 (omega arith)

pub low-at : {X : Type 0} (low high : X → ℕ) (start : ℕ) (xs : List X) (i : ℕ) (d : X) → CoverFrom low high start xs → i < length xs → start ≤ low (get_or xs i d)
low-at low high start [] i d h l = absurd (omega arith)
low-at low high start (x ∷ xs) zero d h l = let e : low x ≡ start = h.0 in omega arith
low-at low high start (x ∷ xs) (suc i) d h l =
    let e : low x ≡ start = h.0 in
    let o : low x < high x = h.1 in
    let k : high x ≤ low (get_or xs i d) = low-at low high (high x) xs i d h.2 (omega arith) in
    omega arith

pub high-at : {X : Type 0} (low high : X → ℕ) (start : ℕ) (xs : List X) (i : ℕ) (d : X) → CoverFrom low high start xs → i < length xs → high (get_or xs i d) ≤ 2 ^ 32
high-at low high start [] i d h l = absurd (omega arith)
high-at low high start (x ∷ xs) zero d h l = starts-below low high (high x) xs h.2
high-at low high start (x ∷ xs) (suc i) d h l = high-at low high (high x) xs i d h.2 (omega arith)

-- the first row begins where the rows start
pub first-low : {X : Type 0} (low high : X → ℕ) (start : ℕ) (xs : List X) (d : X) → CoverFrom low high start xs → 0 < length xs → low (get_or xs 0 d) ≡ start
first-low low high start [] d h l = absurd (omega arith)
first-low low high start (x ∷ xs) d h l = h.0

-- a row ends where the next one begins, and the last at 2^32
pub next-low : {X : Type 0} (low high : X → ℕ) (start : ℕ) (xs : List X) (i : ℕ) (d : X) → CoverFrom low high start xs → suc i < length xs → low (get_or xs (suc i) d) ≡ high (get_or xs i d)
next-low low high start [] i d h l = absurd (omega arith)
next-low low high start (x ∷ []) i d h l = absurd (omega arith)
next-low low high start (x ∷ y ∷ ys) zero d h l = h.2.0
next-low low high start (x ∷ y ∷ ys) (suc i) d h l = next-low low high (high x) (y ∷ ys) i d h.2 (omega arith)

pub last-high : {X : Type 0} (low high : X → ℕ) (start : ℕ) (xs : List X) (i : ℕ) (d : X) → CoverFrom low high start xs → suc i ≡ length xs → high (get_or xs i d) ≡ 2 ^ 32
last-high low high start [] i d h l = absurd (omega arith)
last-high low high start (x ∷ []) zero d h l = h.2
last-high low high start (x ∷ []) (suc i) d h l = absurd (omega arith)
last-high low high start (x ∷ y ∷ ys) zero d h l = absurd (omega arith)
last-high low high start (x ∷ y ∷ ys) (suc i) d h l = last-high low high (high x) (y ∷ ys) i d h.2 (omega arith)

-- the row of an address is the one within whose bounds it is
pub holder-at : {X : Type 0} (low high : X → ℕ) (start : ℕ) (xs : List X) (i : ℕ) (d : X) (a : ℕ) → CoverFrom low high start xs → i < length xs → low (get_or xs i d) ≤ a → a < high (get_or xs i d) → holder low high xs a ≡ Some (get_or xs i d)
holder-at low high start [] i d a h l from to = absurd (omega arith)
holder-at low high start (x ∷ xs) zero d a h l from to = holder-first low high x xs a (within-yes (low x) (high x) a from to)
holder-at low high start (x ∷ xs) (suc i) d a h l from to =
    let k : high x ≤ low (get_or xs i d) = low-at low high (high x) xs i d h.2 (omega arith) in
    let past : high x ≤ a = omega arith in
    holder-rest low high x xs a (within-above (low x) (high x) a past) ∙ holder-at low high (high x) xs i d a h.2 (omega arith) from to

-- a search by halving: the row whose low bound is not above the address, while the next one's is
pub halved : {X : Type 0} (low high : X → ℕ) (xs : List X) (i j : ℕ) (d : X) (a : ℕ) → CoverFrom low high 0 xs → i < j → j ≤ suc i → j ≤ length xs → a < 2 ^ 32 → (j < length xs → a < low (get_or xs j d)) → a < high (get_or xs i d)
halved {X} low high xs i j d a h o near inside below next =
    let e : j ≡ suc i = omega arith in
    ⊎_elim
    (λ (l : suc i < length xs).
    let n : low (get_or xs (suc i) d) ≡ high (get_or xs i d) = next-low low high 0 xs i d h l in
    let P : ℕ → Type 0 = λ k. k < length xs → a < low (get_or xs k d) in
    let m : a < low (get_or xs (suc i) d) = subst P e next l in
    omega arith)
    (λ (l : length xs ≤ suc i).
    let n : high (get_or xs i d) ≡ 2 ^ 32 = last-high low high 0 xs i d h (omega arith) in
    omega arith)
    (cases_lt (suc i) (length xs))
