-- Spans of which one is cut in two.
use Rattle.std.proofs.Common.{◌≡◌, ℕ, ◌<◌, ◌≤◌, ◌^◌, ◌∙◌, ⊎_elim, zero, suc, true, false, cond, ◌||◌, List, [], ◌∷◌, length, get_or, refl, ap, sym, subst, arith, leb, ltb, eqb}
use Rattle.std.proofs.lemmas.Bool.{cases_Bool, cases_lt, leb-true, ltb-true, eqb-false, ne_eqb, and_parts, or_from, both_ways}
use Rattle.base.specs.Rows.{CoverFrom}
use Rattle.atom_map.specs.Spans.{Span, AreSpans, span_low, span_past, has_address, is_boundary, lower_part, upper_part, cut_spans}
use Rattle.base.proofs.Covers.{within-yes, within-above, low-at}

abbrev pub Cover : ℕ → List Span → Type 0
Cover start spans = CoverFrom span_low span_past start spans

-- the cut at the first span, or after it
pub cut-first : (r : Span) (rs : List Span) (at : ℕ) → has_address at r ≡ true → cut_spans (r ∷ rs) at ≡ lower_part at r ∷ upper_part at r ∷ rs
cut-first r rs at e = ap (λ b. cond b (lower_part at r ∷ upper_part at r ∷ rs) (r ∷ cut_spans rs at)) e

pub cut-rest : (r : Span) (rs : List Span) (at : ℕ) → has_address at r ≡ false → cut_spans (r ∷ rs) at ≡ r ∷ cut_spans rs at
cut-rest r rs at e = ap (λ b. cond b (lower_part at r ∷ upper_part at r ∷ rs) (r ∷ cut_spans rs at)) e

-- boundaries
pub boundary-parts : (r : Span) (rs : List Span) (at : ℕ) → is_boundary (r ∷ rs) at ≡ false → (r.low ≡ at → ⊥) × (is_boundary rs at ≡ false)
boundary-parts r rs at n =
    ⊎_elim
    (λ (e : eqb r.low at ≡ true). absurd (both_ways (is_boundary (r ∷ rs) at) n (ap (λ b. b || is_boundary rs at) e)))
    (λ (e : eqb r.low at ≡ false). (eqb-false r.low at e, sym (ap (λ b. b || is_boundary rs at) e) ∙ n))
    (cases_Bool (eqb r.low at))

-- a cut keeps the cover
pub cover-after-cut : (start : ℕ) (spans : List Span) (at : ℕ) → Cover start spans → is_boundary spans at ≡ false → Cover start (cut_spans spans at)
cover-after-cut start [] at h n = h
cover-after-cut start (r ∷ rs) at h n =
    let P : List Span → Type 0 = λ xs. Cover start xs in
    let k : (r.low ≡ at → ⊥) × (is_boundary rs at ≡ false) = boundary-parts r rs at n in
    ⊎_elim
    (λ (e : has_address at r ≡ true).
    let b : (leb r.low at ≡ true) × (ltb at r.past ≡ true) = and_parts (leb r.low at) (ltb at r.past) e in
    let from : r.low ≤ at = leb-true r.low at b.0 in
    let to : at < r.past = ltb-true at r.past b.1 in
    let apart : r.low ≡ at → ⊥ = k.0 in
    let above : r.low < at = omega arith in
    subst P (sym (cut-first r rs at e)) (h.0, above, (refl, to, h.2)))
    (λ (e : has_address at r ≡ false).
    subst P (sym (cut-rest r rs at e)) (h.0, h.1, cover-after-cut r.past rs at h.2 k.1))
    (cases_Bool (has_address at r))

pub spans-after-cut : (spans : List Span) (at : ℕ) → AreSpans spans → is_boundary spans at ≡ false → AreSpans (cut_spans spans at)
spans-after-cut spans at h n = record { cover = cover-after-cut 0 spans at h.cover n }

-- a cut makes one more, where the address is covered
pub length-after-cut : (start : ℕ) (spans : List Span) (at : ℕ) → Cover start spans → start ≤ at → at < 2 ^ 32 → length (cut_spans spans at) ≡ suc (length spans)
length-after-cut start [] at h l b = let e : start ≡ 2 ^ 32 = h in absurd (omega arith)
length-after-cut start (r ∷ rs) at h l b =
    let e : r.low ≡ start = h.0 in
    ⊎_elim
    (λ (t : at < r.past). ap (λ (xs : List Span). length xs) (cut-first r rs at (within-yes r.low r.past at (omega arith) t)))
    (λ (t : r.past ≤ at).
    ap (λ (xs : List Span). length xs) (cut-rest r rs at (within-above r.low r.past at t))
    ∙ ap (λ n. suc n) (length-after-cut r.past rs at h.2 t b))
    (cases_lt at r.past)

-- by place: whether an address is a boundary
no-boundary-below : (start : ℕ) (spans : List Span) (at : ℕ) → Cover start spans → at < start → is_boundary spans at ≡ false
no-boundary-below start [] at h l = refl
no-boundary-below start (r ∷ rs) at h l =
    let e : r.low ≡ start = h.0 in
    let o : r.low < r.past = h.1 in
    let apart : r.low ≡ at → ⊥ = λ (q : r.low ≡ at). omega arith in
    or_from (eqb r.low at) (is_boundary rs at) (ne_eqb r.low at apart) (no-boundary-below r.past rs at h.2 (omega arith))

pub boundary-at : (start : ℕ) (spans : List Span) (i : ℕ) (d : Span) (at : ℕ) → Cover start spans → i < length spans → span_low (get_or spans i d) ≤ at → at < span_past (get_or spans i d) → is_boundary spans at ≡ eqb (span_low (get_or spans i d)) at
boundary-at start [] i d at h l from to = absurd (omega arith)
boundary-at start (r ∷ rs) zero d at h l from to =
    ⊎_elim
    (λ (e : eqb r.low at ≡ true). ap (λ b. b || is_boundary rs at) e ∙ sym e)
    (λ (e : eqb r.low at ≡ false). ap (λ b. b || is_boundary rs at) e ∙ no-boundary-below r.past rs at h.2 to ∙ sym e)
    (cases_Bool (eqb r.low at))
boundary-at start (r ∷ rs) (suc i) d at h l from to =
    let o : r.low < r.past = h.1 in
    let k : r.past ≤ span_low (get_or rs i d) = low-at span_low span_past r.past rs i d h.2 (omega arith) in
    let apart : r.low ≡ at → ⊥ = λ (q : r.low ≡ at). omega arith in
    ap (λ b. b || is_boundary rs at) (ne_eqb r.low at apart) ∙ boundary-at r.past rs i d at h.2 (omega arith) from to
