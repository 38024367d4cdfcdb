-- The row that has an address, among rows that cover the addresses once: where it begins and ends.
use Rattle.std.proofs.Common.{◌≡◌, ℕ, ◌<◌, ◌≤◌, ◌^◌, ◌∙◌, ⊎_elim, true, false, None, Some, List, [], ◌∷◌, sym, subst, arith, leb, ltb}
use Rattle.std.proofs.lemmas.Bool.{and_parts, cases_Bool, cases_lt, leb-true, ltb-true}
use Rattle.base.specs.Rows.{is_within, CoverFrom, holder}
use Rattle.base.proofs.Covers.{holder-first, holder-rest, starts-below, within-above, within-yes}

-- an address within bounds
pub within-low : (low high a : ℕ) → is_within low high a ≡ true → low ≤ a
within-low low high a h = leb-true low a (and_parts (leb low a) (ltb a high) h).0

pub within-high : (low high a : ℕ) → is_within low high a ≡ true → a < high
within-high low high a h = ltb-true a high (and_parts (leb low a) (ltb a high) h).1

-- the row that has an address lies between where the rows start and 2^32
pub record Held {X : Type 0} (low high : X → ℕ) (begin a : ℕ) (y : X) : Type 0 where
  pub start : begin ≤ low y
  pub from : low y ≤ a
  pub to : a < high y
  pub ends : high y ≤ 2 ^ 32

pub held : {X : Type 0} (low high : X → ℕ) (start : ℕ) (xs : List X) (a : ℕ) (y : X) → CoverFrom low high start xs → holder low high xs a ≡ Some y → Held low high start a y
held low high start [] a y h e = absurd (let f : None ≡ Some y = e in cc)
held {X} low high start (x ∷ xs) a y h e = ⊎_elim
    (λ (t : is_within (low x) (high x) a ≡ true).
    let same : Some x ≡ Some y = sym (holder-first low high x xs a t) ∙ e in
    let one : x ≡ y = cc in
    let P : X → Type 0 = λ z. Held low high start a z in
    let first : low x ≡ start = h.0 in
    let mine : Held low high start a x = record {
      start = omega arith;
      from = within-low (low x) (high x) a t;
      to = within-high (low x) (high x) a t;
      ends = starts-below low high (high x) xs h.2;
    } in
    subst P one mine)
    (λ (f : is_within (low x) (high x) a ≡ false).
    let rest : Held low high (high x) a y = held low high (high x) xs a y h.2 (sym (holder-rest low high x xs a f) ∙ e) in
    let first : low x ≡ start = h.0 in
    let order : low x < high x = h.1 in
    let after : high x ≤ low y = rest.start in
    record {
      start = omega arith;
      from = rest.from;
      to = rest.to;
      ends = rest.ends;
    })
    (cases_Bool (is_within (low x) (high x) a))

-- each address from where the rows start has one
pub record Holds {X : Type 0} (low high : X → ℕ) (xs : List X) (a : ℕ) : Type 0 where
  pub row : X
  pub is : holder low high xs a ≡ Some row

pub holds : {X : Type 0} (low high : X → ℕ) (start : ℕ) (xs : List X) (a : ℕ) → CoverFrom low high start xs → start ≤ a → a < 2 ^ 32 → Holds low high xs a
holds low high start [] a h l b = let e : start ≡ 2 ^ 32 = h in absurd (omega arith)
holds {X} low high start (x ∷ xs) a h l b =
    let first : low x ≡ start = h.0 in
    ⊎_elim
    (λ (t : a < high x). record { row = x; is = holder-first low high x xs a (within-yes (low x) (high x) a (omega arith) t) })
    (λ (f : high x ≤ a).
    let rest : Holds low high xs a = holds low high (high x) xs a h.2 f b in
    record { row = rest.row; is = holder-rest low high x xs a (within-above (low x) (high x) a f) ∙ rest.is })
    (cases_lt a (high x))

-- another address of that row has it too
pub held-too : {X : Type 0} (low high : X → ℕ) (start : ℕ) (xs : List X) (a b : ℕ) (y : X) → CoverFrom low high start xs → holder low high xs a ≡ Some y → low y ≤ b → b < high y → holder low high xs b ≡ Some y
held-too low high start [] a b y h e l m = absurd (let f : None ≡ Some y = e in cc)
held-too {X} low high start (x ∷ xs) a b y h e l m = ⊎_elim
    (λ (t : is_within (low x) (high x) a ≡ true).
    let same : Some x ≡ Some y = sym (holder-first low high x xs a t) ∙ e in
    let one : x ≡ y = cc in
    let P : X → Type 0 = λ z. low z ≤ b → b < high z → holder low high (x ∷ xs) b ≡ Some z in
    subst P one (λ u v. holder-first low high x xs b (within-yes (low x) (high x) b u v)) l m)
    (λ (f : is_within (low x) (high x) a ≡ false).
    let there : holder low high xs a ≡ Some y = sym (holder-rest low high x xs a f) ∙ e in
    let rest : Held low high (high x) a y = held low high (high x) xs a y h.2 there in
    let after : high x ≤ low y = rest.start in
    holder-rest low high x xs b (within-above (low x) (high x) b (omega arith)) ∙ held-too low high (high x) xs a b y h.2 there l m)
    (cases_Bool (is_within (low x) (high x) a))
