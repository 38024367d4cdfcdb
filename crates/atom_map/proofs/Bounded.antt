-- Spans by the addresses where they begin: their bounds by place, the one of an address, and one that is cut.
use Rattle.std.proofs.Common.{◌≡◌, ℕ, ◌+◌, ◌<◌, ◌≤◌, ◌^◌, ◌∙◌, ◌-◌, ⊎_elim, zero, suc, true, false, List, [], ◌∷◌, length, get_or, take, drop, min, refl, ap, sym, subst, arith, eqb, lit<}
use Rattle.std.specs.List.{insert}
use Rattle.std.proofs.lemmas.Bool.{cases_lt, eq-eqb, ne_eqb}
use Rattle.std.proofs.lemmas.List.Folds.{list_any_at}
use Rattle.std.proofs.lemmas.List.{get_or-drop, get_or-take, get_or_default, length-drop, length-take}
use Rattle.base.proofs.Covers.{few-rows, first-low, low-at, some-row, within-above, within-yes}
use Rattle.atom_map.specs.Spans.{Span, AreSpans, IsLastBegun, IsSpanAt, IsSpanPlace, span_low, span_past, next_low, spans_of, is_boundary, cut_spans}
use Rattle.atom_map.proofs.SpanCuts.{Cover, boundary-at, cut-first, cut-rest, spans-after-cut}

-- ---- by place

pub length-spans : (lows : List ℕ) → length (spans_of lows) ≡ length lows
length-spans [] = refl
length-spans (l ∷ ls) = ap (λ n. suc n) (length-spans ls)

pub low-of : (lows : List ℕ) (i : ℕ) (d : Span) (n : ℕ) → i < length lows → span_low (get_or (spans_of lows) i d) ≡ get_or lows i n
low-of [] i d n h = absurd (omega arith)
low-of (l ∷ ls) zero d n h = refl
low-of (l ∷ ls) (suc i) d n h = low-of ls i d n (omega arith)

-- one ends where the next begins, and the last with all addresses
pub past-of : (lows : List ℕ) (i : ℕ) (d : Span) (n : ℕ) → suc i < length lows → span_past (get_or (spans_of lows) i d) ≡ get_or lows (suc i) n
past-of [] i d n h = absurd (omega arith)
past-of (l ∷ []) i d n h = absurd (omega arith)
past-of (l ∷ m ∷ ls) zero d n h = refl
past-of (l ∷ m ∷ ls) (suc i) d n h = past-of (m ∷ ls) i d n (omega arith)

pub end-of : (lows : List ℕ) (i : ℕ) (d : Span) → suc i ≡ length lows → span_past (get_or (spans_of lows) i d) ≡ 2 ^ 32
end-of [] i d h = absurd (omega arith)
end-of (l ∷ []) zero d h = refl
end-of (l ∷ []) (suc i) d h = absurd (omega arith)
end-of (l ∷ m ∷ ls) zero d h = absurd (omega arith)
end-of (l ∷ m ∷ ls) (suc i) d h = end-of (m ∷ ls) i d (omega arith)

-- there are few, and one at least
pub few-lows : (lows : List ℕ) → AreSpans (spans_of lows) → length lows ≤ 2 ^ 32
few-lows lows h =
    let few : 0 + length (spans_of lows) ≤ 2 ^ 32 = few-rows span_low span_past 0 (spans_of lows) h.cover in
    let long : length (spans_of lows) ≡ length lows = length-spans lows in
    omega arith

pub some-low : (lows : List ℕ) → AreSpans (spans_of lows) → 0 < length lows
some-low lows h =
    let some : 0 < length (spans_of lows) = some-row span_low span_past 0 (spans_of lows) h.cover (lit< tt) in
    let long : length (spans_of lows) ≡ length lows = length-spans lows in
    omega arith

pub one-spans : (lows : List ℕ) → lows ≡ 0 ∷ [] → AreSpans (spans_of lows)
one-spans lows e = subst (λ (ls : List ℕ). AreSpans (spans_of ls)) (sym e) (record { cover = (refl, lit< tt, refl) })

-- ---- the one of an address

-- the last that doesn't begin above it
pub place-found : (lows : List ℕ) (place a : ℕ) → place < length lows → a < 2 ^ 32 → ((n : ℕ) → get_or lows place n ≤ a) → ((n : ℕ) → place + 1 < length lows → a < get_or lows (place + 1) n) → IsSpanPlace (spans_of lows) place a
place-found lows place a l b from next =
    let long : length (spans_of lows) ≡ length lows = length-spans lows in
    record {
      inside = omega arith;
      from = λ d. let e : span_low (get_or (spans_of lows) place d) ≡ get_or lows place 0 = low-of lows place d 0 l in let f : get_or lows place 0 ≤ a = from 0 in omega arith;
      to = λ d. ⊎_elim
          (λ (m : suc place < length lows).
          let one : place + 1 ≡ suc place = omega arith in
          let e : span_past (get_or (spans_of lows) place d) ≡ get_or lows (suc place) 0 = past-of lows place d 0 m in
          let g : a < get_or lows (suc place) 0 = subst (λ k. a < get_or lows k 0) one (next 0 (omega arith)) in
          omega arith)
          (λ (m : length lows ≤ suc place).
          let e : span_past (get_or (spans_of lows) place d) ≡ 2 ^ 32 = end-of lows place d (omega arith) in
          omega arith)
          (cases_lt (suc place) (length lows));
    }

-- and the address where it begins
pub spot-found : (lows : List ℕ) (place a low : ℕ) → IsSpanPlace (spans_of lows) place a → ((n : ℕ) → low ≡ get_or lows place n) → IsSpanAt (spans_of lows) place a low
spot-found lows place a low p is =
    let long : length (spans_of lows) ≡ length lows = length-spans lows in
    let inside : place < length (spans_of lows) = p.inside in
    let here : (d : Span) → low ≡ span_low (get_or (spans_of lows) place d) = λ d. is 0 ∙ sym (low-of lows place d 0 (omega arith)) in
    let none : Span = record { low = 0; past = 0 } in
    record {
      inside = p.inside;
      is = here;
      from = subst (λ n. n ≤ a) (sym (here none)) (p.from none);
      to = p.to;
    }

pub place-of-spot : (spans : List Span) (place a low : ℕ) → IsSpanAt spans place a low → IsSpanPlace spans place a
place-of-spot spans place a low s = record {
  inside = s.inside;
  from = λ d. subst (λ n. n ≤ a) (s.is d) s.from;
  to = s.to;
}

-- some begin at or below any address
pub some-begun : (lows : List ℕ) (a past : ℕ) → AreSpans (spans_of lows) → ((n : ℕ) → past < length lows → a + 1 ≤ get_or lows past n) → 0 < past
some-begun lows a past h after = ⊎_elim
    (λ (y : 0 < past). y)
    (λ (y : past ≤ 0).
    let z : past ≡ 0 = omega arith in
    let none : Span = record { low = 0; past = 0 } in
    let some : 0 < length lows = some-low lows h in
    let above : a + 1 ≤ get_or lows 0 0 = subst (λ k. k < length lows → a + 1 ≤ get_or lows k 0) z (after 0) some in
    let first : span_low (get_or (spans_of lows) 0 none) ≡ 0 = first-low span_low span_past 0 (spans_of lows) none h.cover (some-row span_low span_past 0 (spans_of lows) h.cover (lit< tt)) in
    let same : span_low (get_or (spans_of lows) 0 none) ≡ get_or lows 0 0 = low-of lows 0 none 0 some in
    absurd (omega arith))
    (cases_lt 0 past)

-- the one before the first that begins above it
pub place-before : (lows : List ℕ) (past a : ℕ) → 0 < past → a < 2 ^ 32 → past ≤ length lows → ((n : ℕ) → 0 < past → get_or lows (past - 1) n < a + 1) → ((n : ℕ) → past < length lows → a + 1 ≤ get_or lows past n) → IsSpanPlace (spans_of lows) (past - 1) a
place-before lows past a some b inside before after =
    place-found lows (past - 1) a (omega arith) b
    (λ n. let k : get_or lows (past - 1) n < a + 1 = before n some in omega arith)
    (λ n m.
    let one : past ≡ past - 1 + 1 = omega arith in
    let k : a + 1 ≤ get_or lows past n = after n (omega arith) in
    subst (λ j. a < get_or lows j n) one (omega arith))

-- ---- in a page

pub page-read : (lows page : List ℕ) (first k m n : ℕ) → take (length page) (drop first lows) ≡ page → k < length page → get_or lows (first + k) m ≡ get_or page k n
page-read lows page first k m n is l =
    sym (get_or-take (length page) (drop first lows) k m l ∙ get_or-drop first lows k m)
    ∙ ap (λ (xs : List ℕ). get_or xs k m) is
    ∙ get_or_default page k m n l

pub page-inside : (lows page : List ℕ) (first k : ℕ) → take (length page) (drop first lows) ≡ page → k < length page → first + k < length lows
page-inside lows page first k is l =
    let e : length (take (length page) (drop first lows)) ≡ length page = ap (λ (xs : List ℕ). length xs) is in
    let m : length (take (length page) (drop first lows)) ≡ min (length page) (length (drop first lows)) = length-take (length page) (drop first lows) in
    let n : length (drop first lows) ≡ length lows - first = length-drop first lows in
    omega arith

-- what is found in a page is found among all
pub page-place : (lows page : List ℕ) (first left k a : ℕ) → take (length page) (drop first lows) ≡ page → left ≡ length lows - first → a < 2 ^ 32 → IsLastBegun page left k a → IsSpanPlace (spans_of lows) (first + k) a
page-place lows page first left k a is e b p =
    let inside : first + k < length lows = page-inside lows page first k is p.inside in
    place-found lows (first + k) a inside b
    (λ n. subst (λ x. x ≤ a) (sym (page-read lows page first k n n is p.inside)) (p.from n))
    (λ n m.
    let more : k + 1 < left = omega arith in
    let one : first + k + 1 ≡ first + (k + 1) = omega arith in
    subst (λ x. a < x) (sym (ap (λ j. get_or lows j n) one ∙ page-read lows page first (k + 1) n n is (p.seen more))) (p.next n more))

-- ---- a cut

-- the part of a span that begins at an address is put behind the span
pub spans-cut : (start : ℕ) (lows : List ℕ) (place at : ℕ) (d : Span) → Cover start (spans_of lows) → place < length lows → span_low (get_or (spans_of lows) place d) ≤ at → at < span_past (get_or (spans_of lows) place d) → spans_of (insert lows (suc place) at) ≡ cut_spans (spans_of lows) at
spans-cut start [] place at d h l from to = absurd (omega arith)
spans-cut start (x ∷ xs) zero at d h l from to = sym (cut-first (record { low = x; past = next_low xs }) (spans_of xs) at (within-yes x (next_low xs) at from to))
spans-cut start (x ∷ []) (suc place) at d h l from to = absurd (omega arith)
spans-cut start (x ∷ y ∷ ys) (suc place) at d h l from to =
    let long : length (spans_of (y ∷ ys)) ≡ length (y ∷ ys) = length-spans (y ∷ ys) in
    let k : y ≤ span_low (get_or (spans_of (y ∷ ys)) place d) = low-at span_low span_past y (spans_of (y ∷ ys)) place d h.2 (omega arith) in
    ap (λ (zs : List Span). record { low = x; past = y } ∷ zs) (spans-cut y (y ∷ ys) place at d h.2 (omega arith) from to)
    ∙ sym (cut-rest (record { low = x; past = y }) (spans_of (y ∷ ys)) at (within-above x y at (omega arith)))

no-span : Span
no-span = record { low = 0; past = 0 }

-- ---- as `cut_at` needs it

pub begun-already : (spans : List Span) (place at low : ℕ) → IsSpanAt spans place at low → low ≡ at → is_boundary spans at ≡ true
begun-already spans place at low s e = list_any_at (λ (x : Span). eqb x.low at) spans place no-span s.inside (eq-eqb (span_low (get_or spans place no-span)) at (sym (s.is no-span) ∙ e))

pub not-begun : (spans : List Span) (place at low : ℕ) → AreSpans spans → IsSpanAt spans place at low → (low ≡ at → ⊥) → is_boundary spans at ≡ false
not-begun spans place at low h s apart =
    boundary-at 0 spans place no-span at h.cover s.inside ((place-of-spot spans place at low s).from no-span) (s.to no-span)
    ∙ ne_eqb (span_low (get_or spans place no-span)) at (λ e. apart (s.is no-span ∙ e))

pub parted : (spans : List Span) (lows made : List ℕ) (place at low : ℕ) → spans_of lows ≡ spans → AreSpans spans → IsSpanAt spans place at low → made ≡ insert lows (place + 1) at → spans_of made ≡ cut_spans spans at
parted spans lows made place at low view h s is =
    let t : IsSpanAt (spans_of lows) place at low = subst (λ (ss : List Span). IsSpanAt ss place at low) (sym view) s in
    let g : AreSpans (spans_of lows) = subst (λ (ss : List Span). AreSpans ss) (sym view) h in
    let long : length (spans_of lows) ≡ length lows = length-spans lows in
    let inside : place < length (spans_of lows) = t.inside in
    let one : place + 1 ≡ suc place = omega arith in
    ap spans_of is
    ∙ ap (λ k. spans_of (insert lows k at)) one
    ∙ spans-cut 0 lows place at no-span g.cover (omega arith) ((place-of-spot (spans_of lows) place at low t).from no-span) (t.to no-span)
    ∙ ap (λ (ss : List Span). cut_spans ss at) view

pub spans-parted : (spans : List Span) (lows made : List ℕ) (place at low : ℕ) → spans_of lows ≡ spans → AreSpans spans → IsSpanAt spans place at low → (low ≡ at → ⊥) → made ≡ insert lows (place + 1) at → AreSpans (spans_of made)
spans-parted spans lows made place at low view h s apart is = subst (λ (ss : List Span). AreSpans ss) (sym (parted spans lows made place at low view h s is)) (spans-after-cut spans at h (not-begun spans place at low h s apart))

pub spans-seen : (lows : List ℕ) (spans : List Span) → spans_of lows ≡ spans → AreSpans (spans_of lows) → AreSpans spans
spans-seen lows spans view h = subst (λ (ss : List Span). AreSpans ss) view h

pub place-inside : (lows : List ℕ) (spans : List Span) (i : ℕ) → spans_of lows ≡ spans → i < length spans → i < length lows
place-inside lows spans i view l = subst (λ n. i < n) (sym (ap (λ (ss : List Span). length ss) view) ∙ length-spans lows) l

-- ---- as the other calls need it

pub past-there : (lows : List ℕ) (i : ℕ) (d : Span) (past : ℕ) → i + 1 < length lows → past ≡ get_or lows (i + 1) 0 → past ≡ span_past (get_or (spans_of lows) i d)
past-there lows i d past l e =
    let one : i + 1 ≡ suc i = omega arith in
    e ∙ ap (λ k. get_or lows k 0) one ∙ sym (past-of lows i d 0 (omega arith))

pub past-last : (lows : List ℕ) (i : ℕ) (d : Span) → i < length lows → (i + 1 < length lows → ⊥) → 2 ^ 32 ≡ span_past (get_or (spans_of lows) i d)
past-last lows i d l none = ⊎_elim
    (λ (m : i + 1 < length lows). absurd (none m))
    (λ (m : length lows ≤ i + 1). sym (end-of lows i d (omega arith)))
    (cases_lt (i + 1) (length lows))

pub bound-seen : (f : Span → ℕ) (lows : List ℕ) (spans : List Span) (i n : ℕ) (d : Span) → spans_of lows ≡ spans → n ≡ f (get_or (spans_of lows) i d) → n ≡ f (get_or spans i d)
bound-seen f lows spans i n d view e = e ∙ ap (λ (ss : List Span). f (get_or ss i d)) view
