-- Looks at rows, counted.
use Rattle.std.proofs.Common.{◌≡◌, ℕ, zero, suc, ◌+◌, ◌-◌, ◌*◌, ◌<◌, ◌≤◌, Bool, true, List, [], ◌∷◌, length, get_or, take, ⊎_elim, arith}
use Rattle.std.specs.Prelude.{cond, count_by}
use Rattle.std.proofs.Math.Nat.{mul-add}
use Rattle.std.proofs.lemmas.Bool.{cases_lt}
use Rattle.std.proofs.lemmas.List.Sums.{count_by_more_yes, sum_by-cons}
use Rattle.std.proofs.lemmas.Nat.{mul-le}
use Rattle.base.specs.declared.forwarding_row.ForwardingRow.{ForwardingRow}
use Rattle.label_view.proofs.InRow.{some_row}
use Rattle.loop_keeper.specs.Looks.{AreLookedAt}

count-cons : (p : ForwardingRow → Bool) (row : ForwardingRow) (rows : List ForwardingRow) → count_by p (row ∷ rows) ≡ cond (p row) 1 0 + count_by p rows
count-cons p row rows = sum_by-cons (λ (x : ForwardingRow). cond (p x) 1 0) row rows

-- ---- how many of the first rows pass a test

count-rise : (p : ForwardingRow → Bool) (rows : List ForwardingRow) (i j : ℕ) → i ≤ j → count_by p (take i rows) ≤ count_by p (take j rows)
count-rise p rows zero j h = omega arith
count-rise p rows (suc i) zero h = absurd (omega arith)
count-rise p [] (suc i) (suc j) h = omega arith
count-rise p (row ∷ rows) (suc i) (suc j) h =
    let x : count_by p (take (suc i) (row ∷ rows)) ≡ cond (p row) 1 0 + count_by p (take i rows) = count-cons p row (take i rows) in
    let y : count_by p (take (suc j) (row ∷ rows)) ≡ cond (p row) 1 0 + count_by p (take j rows) = count-cons p row (take j rows) in
    let rest : count_by p (take i rows) ≤ count_by p (take j rows) = count-rise p rows i j (omega arith) in
    omega arith

count-front : (p : ForwardingRow → Bool) (rows : List ForwardingRow) (i : ℕ) → count_by p (take i rows) ≤ count_by p rows
count-front p rows zero = omega arith
count-front p [] (suc i) = omega arith
count-front p (row ∷ rows) (suc i) =
    let x : count_by p (take (suc i) (row ∷ rows)) ≡ cond (p row) 1 0 + count_by p (take i rows) = count-cons p row (take i rows) in
    let y : count_by p (row ∷ rows) ≡ cond (p row) 1 0 + count_by p rows = count-cons p row rows in
    let rest : count_by p (take i rows) ≤ count_by p rows = count-front p rows i in
    omega arith

-- rows side by side that all pass it
count-pass : (p : ForwardingRow → Bool) (rows : List ForwardingRow) (i n : ℕ) → i + n ≤ length rows → ((k : ℕ) → i ≤ k → k < i + n → p (get_or rows k some_row) ≡ true) → count_by p (take i rows) + n ≤ count_by p (take (i + n) rows)
count-pass p rows i zero l h = let r : count_by p (take i rows) ≤ count_by p (take (i + zero) rows) = count-rise p rows i (i + zero) (omega arith) in omega arith
count-pass p rows i (suc n) l h =
    let so_far : count_by p (take i rows) + n ≤ count_by p (take (i + n) rows) = count-pass p rows i n (omega arith) (λ k f b. h k f (omega arith)) in
    let one : count_by p (take (i + n + 1) rows) ≡ count_by p (take (i + n) rows) + 1 = count_by_more_yes p rows (i + n) some_row (omega arith) (h (i + n) (omega arith) (omega arith)) in
    let same : count_by p (take (i + n + 1) rows) ≤ count_by p (take (i + suc n) rows) = count-rise p rows (i + n + 1) (i + suc n) (omega arith) in
    omega arith

-- ---- looks

-- none
pub looks-none : (w : ℕ) (rows : List ForwardingRow) (p : ForwardingRow → Bool) (i j n : ℕ) → i ≤ j → AreLookedAt w rows p i j n n
looks-none w rows p i j n h =
    let few : w * count_by p (take i rows) ≤ w * count_by p (take j rows) = mul-le w (count_by p (take i rows)) w (count_by p (take j rows)) (omega arith) (count-rise p rows i j h) in
    record { most = omega arith }

pub looks-then : (w : ℕ) (rows : List ForwardingRow) (p : ForwardingRow → Bool) (i j k x y z : ℕ) → AreLookedAt w rows p i j x y → AreLookedAt w rows p j k y z → AreLookedAt w rows p i k x z
looks-then w rows p i j k x y z g h =
    let a : y + w * count_by p (take i rows) ≤ x + w * count_by p (take j rows) = g.most in
    let b : z + w * count_by p (take j rows) ≤ y + w * count_by p (take k rows) = h.most in
    record { most = omega arith }

-- at rows that all pass
pub looks-pass : (w : ℕ) (rows : List ForwardingRow) (p : ForwardingRow → Bool) (i first past j x y : ℕ) → i ≤ first → i ≤ j → (first < past → past ≤ j) → past ≤ length rows → ((k : ℕ) → first ≤ k → k < past → p (get_or rows k some_row) ≡ true) → y ≤ x + w * (past - first) → AreLookedAt w rows p i j x y
looks-pass w rows p i first past j x y f t e l h cost =
    let before : count_by p (take i rows) ≤ count_by p (take first rows) = count-rise p rows i first f in
    let all : count_by p (take i rows) + (past - first) ≤ count_by p (take j rows) = ⊎_elim
    (λ (s : first < past).
    let pass : count_by p (take first rows) + (past - first) ≤ count_by p (take (first + (past - first)) rows) = count-pass p rows first (past - first) (omega arith) (λ k g b. h k g (omega arith)) in
    let after : count_by p (take (first + (past - first)) rows) ≤ count_by p (take j rows) = count-rise p rows (first + (past - first)) j (let q : past ≤ j = e s in omega arith) in
    omega arith)
    (λ (s : past ≤ first).
    let rise : count_by p (take i rows) ≤ count_by p (take j rows) = count-rise p rows i j t in
    omega arith)
    (cases_lt first past) in
    let sum : w * (count_by p (take i rows) + (past - first)) ≡ w * count_by p (take i rows) + w * (past - first) = mul-add w (count_by p (take i rows)) (past - first) in
    let most : w * (count_by p (take i rows) + (past - first)) ≤ w * count_by p (take j rows) = mul-le w (count_by p (take i rows) + (past - first)) w (count_by p (take j rows)) (omega arith) all in
    record { most = omega arith }

pub looks-all : (w : ℕ) (rows : List ForwardingRow) (p : ForwardingRow → Bool) (i j x y : ℕ) → AreLookedAt w rows p i j x y → y ≤ x + w * count_by p rows
looks-all w rows p i j x y h =
    let a : y + w * count_by p (take i rows) ≤ x + w * count_by p (take j rows) = h.most in
    let most : w * count_by p (take j rows) ≤ w * count_by p rows = mul-le w (count_by p (take j rows)) w (count_by p rows) (omega arith) (count-front p rows j) in
    omega arith

-- looks at so many rows, and then at more
pub looks-more : (w first now new a b c : ℕ) → now ≤ first + w * a → new ≤ now + w * b → a + b ≤ c → new ≤ first + w * c
looks-more w first now new a b c h k l =
    let sum : w * (a + b) ≡ w * a + w * b = mul-add w a b in
    let most : w * (a + b) ≤ w * c = mul-le w (a + b) w c (omega arith) l in
    omega arith

pub looks-most : (w first now a b : ℕ) → now ≤ first + w * a → a ≤ b → now ≤ first + w * b
looks-most w first now a b h l =
    let most : w * a ≤ w * b = mul-le w a w b (omega arith) l in
    omega arith
