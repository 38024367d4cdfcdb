-- The runs of spans side by side, as the addresses where they begin follow one another in a page.
use Rattle.std.proofs.Common.{◌≡◌, ℕ, zero, suc, ◌+◌, ◌<◌, ◌≤◌, ◌^◌, ◌∙◌, ⊎_elim, List, length, get_or, slice_set, take, drop, ap, sym, subst, arith}
use Rattle.std.proofs.lemmas.Bool.{cases_lt}
use Rattle.std.proofs.lemmas.List.{get_or-set_other, get_or-set_same, get_or_default}
use Rattle.base.specs.declared.run.Run.{Run}
use Rattle.base.proofs.Covers.{high-at, ordered-at}
use Rattle.atom_map.specs.Spans.{Span, AreRunsIn, AreRunsOf, AreSpans, DoRise, span_low, span_past, spans_of}
use Rattle.atom_map.proofs.Bounded.{length-spans, low-of, page-inside, page-read, past-of, past-there}

none : Span
none = record { low = 0; past = 0 }

-- a span ends after it begins, and at 2^32 at most
pub span-order : (spans : List Span) (i low past : ℕ) → AreSpans spans → i < length spans → ((d : Span) → low ≡ (get_or spans i d).low) → ((d : Span) → past ≡ (get_or spans i d).past) → low < past
span-order spans i low past h l begin end =
    let o : span_low (get_or spans i none) < span_past (get_or spans i none) = ordered-at span_low span_past 0 spans i none h.cover l in
    omega (arith, begin none, end none)

pub span-bound : (spans : List Span) (i past : ℕ) → AreSpans spans → i < length spans → ((d : Span) → past ≡ (get_or spans i d).past) → past ≤ 2 ^ 32
span-bound spans i past h l end =
    let o : span_past (get_or spans i none) ≤ 2 ^ 32 = high-at span_low span_past 0 spans i none h.cover l in
    omega (arith, end none)

-- the addresses where spans begin ascend
lows-rise : (lows : List ℕ) (i : ℕ) → AreSpans (spans_of lows) → i + 1 < length lows → get_or lows i 0 < get_or lows (i + 1) 0
lows-rise lows i h l =
    let long : length (spans_of lows) ≡ length lows = length-spans lows in
    let order : span_low (get_or (spans_of lows) i none) < span_past (get_or (spans_of lows) i none) = ordered-at span_low span_past 0 (spans_of lows) i none h.cover (omega arith) in
    let low : span_low (get_or (spans_of lows) i none) ≡ get_or lows i 0 = low-of lows i none 0 (omega arith) in
    let past : span_past (get_or (spans_of lows) i none) ≡ get_or lows (suc i) 0 = past-of lows i none 0 (omega arith) in
    let one : suc i ≡ i + 1 = omega arith in
    subst (λ j. get_or lows i 0 < get_or lows j 0) one (omega arith)

pub page-rises : (lows page : List ℕ) (first : ℕ) → AreSpans (spans_of lows) → take (length page) (drop first lows) ≡ page → DoRise page
page-rises lows page first h is k e l =
    let here : get_or lows (first + k) 0 ≡ get_or page k e = page-read lows page first k 0 e is (omega arith) in
    let next : get_or lows (first + (k + 1)) 0 ≡ get_or page (k + 1) e = page-read lows page first (k + 1) 0 e is l in
    let inside : first + (k + 1) < length lows = page-inside lows page first (k + 1) is l in
    let one : first + k + 1 ≡ first + (k + 1) = omega arith in
    let at : get_or lows (first + k) 0 < get_or lows (first + (k + 1)) 0 = subst (λ j. get_or lows (first + k) 0 < get_or lows j 0) one (lows-rise lows (first + k) h (omega arith)) in
    omega arith

-- so many end where the next in the page begins
pub runs-of-page : (lows page : List ℕ) (first count : ℕ) (runs : List Run) → take (length page) (drop first lows) ≡ page → (0 < count → count < length page) → AreRunsIn page count runs → AreRunsOf (spans_of lows) first count runs
runs-of-page lows page first count runs is inside h k d s m =
    let few : count < length page = inside (omega arith) in
    let r = h k d 0 m in
    let here : first + k < length lows = page-inside lows page first k is (omega arith) in
    let there : first + (k + 1) < length lows = page-inside lows page first (k + 1) is (omega arith) in
    let one : first + (k + 1) ≡ first + k + 1 = omega arith in (
      r.0 ∙ sym (page-read lows page first k 0 0 is (omega arith)) ∙ sym (low-of lows (first + k) s 0 here),
      past-there lows (first + k) s ((get_or runs k d).hi + 1) (omega arith) (r.1 ∙ sym (page-read lows page first (k + 1) 0 0 is (omega arith)) ∙ ap (λ j. get_or lows j 0) one),
    )

-- one more in a page
pub runs-more : (page : List ℕ) (k : ℕ) (runs : List Run) (run : Run) → k < length runs → k + 1 < length page → AreRunsIn page k runs → run.lo ≡ get_or page k 0 → run.hi + 1 ≡ get_or page (k + 1) 0 → AreRunsIn page (k + 1) (slice_set runs k run)
runs-more page k runs run room more h lo hi j d e m = ⊎_elim
    (λ (l : j < k).
    let old : get_or (slice_set runs k run) j d ≡ get_or runs j d = get_or-set_other runs k j run d (λ (same : j ≡ k). omega arith) in
    let is = h j d e l in
    (ap (λ (r : Run). r.lo) old ∙ is.0, ap (λ (r : Run). r.hi + 1) old ∙ is.1))
    (λ (l : k ≤ j).
    let same : k ≡ j = omega arith in
    let new : get_or (slice_set runs k run) k d ≡ run = get_or-set_same runs k run d room in
    let P : ℕ → Type 0 = λ i. ((get_or (slice_set runs k run) i d).lo ≡ get_or page i e) × ((get_or (slice_set runs k run) i d).hi + 1 ≡ get_or page (i + 1) e) in
    subst P same (
      ap (λ (r : Run). r.lo) new ∙ lo ∙ get_or_default page k 0 e (omega arith),
      ap (λ (r : Run). r.hi + 1) new ∙ hi ∙ get_or_default page (k + 1) 0 e more,
    ))
    (cases_lt j k)

-- where a span of a page begins
pub low-in-page : (lows page : List ℕ) (first k low : ℕ) → take (length page) (drop first lows) ≡ page → k < length page → low ≡ get_or page k 0 → (d : Span) → low ≡ (get_or (spans_of lows) (first + k) d).low
low-in-page lows page first k low is l e d = e ∙ sym (page-read lows page first k 0 0 is l) ∙ sym (low-of lows (first + k) d 0 (page-inside lows page first k is l))

-- one more span
pub spans-more : (spans : List Span) (i k low past : ℕ) (runs : List Run) (run : Run) → k < length runs → AreRunsOf spans i k runs → ((d : Span) → low ≡ (get_or spans (i + k) d).low) → ((d : Span) → past ≡ (get_or spans (i + k) d).past) → run.lo ≡ low → run.hi + 1 ≡ past → AreRunsOf spans i (k + 1) (slice_set runs k run)
spans-more spans i k low past runs run room h begin end lo hi j d s m = ⊎_elim
    (λ (l : j < k).
    let old : get_or (slice_set runs k run) j d ≡ get_or runs j d = get_or-set_other runs k j run d (λ (same : j ≡ k). omega arith) in
    let is = h j d s l in
    (ap (λ (r : Run). r.lo) old ∙ is.0, ap (λ (r : Run). r.hi + 1) old ∙ is.1))
    (λ (l : k ≤ j).
    let same : k ≡ j = omega arith in
    let new : get_or (slice_set runs k run) k d ≡ run = get_or-set_same runs k run d room in
    let P : ℕ → Type 0 = λ p. ((get_or (slice_set runs k run) p d).lo ≡ (get_or spans (i + p) s).low) × ((get_or (slice_set runs k run) p d).hi + 1 ≡ (get_or spans (i + p) s).past) in
    subst P same (ap (λ (r : Run). r.lo) new ∙ lo ∙ begin s, ap (λ (r : Run). r.hi + 1) new ∙ hi ∙ end s))
    (cases_lt j k)
