-- A router does something else with the atoms of a span, which stand side by side.
use Rattle.std.proofs.Common.{◌≡◌, ℕ, ◌+◌, ◌<◌, ◌≤◌, ◌^◌, ◌∙◌, ◌⊎◌, ⊎_elim, inl, inr, zero, suc, true, false, List, [], ◌∷◌, length, get_or, drop, refl, ap, sym, subst, arith}
use Rattle.std.proofs.lemmas.Bool.{both_ways, cases_Bool, cases_lt, eqb-true, ne_eqb}
use Rattle.std.proofs.lemmas.List.{get_or_default}
use Rattle.atom_map.specs.Spans.{AreSpans, Span, is_boundary, span_low, span_past}
use Rattle.base.specs.Forwarding.{forwarding_at, row_low, row_past}
use Rattle.base.specs.Rows.{CoverFrom, is_within}
use Rattle.base.specs.declared.target.Target.{Target}
use Rattle.base.specs.declared.target.Target.TheVariants.{NoRoute}
use Rattle.base.proofs.Covers.{high-at, holder-first, holder-rest, last-high, low-at, next-low, ordered-at, within-above, within-yes}
use Rattle.atom_map.proofs.SpanCuts.{boundary-at}
use Rattle.target_rows.specs.Labels.{Labels, moved_run, target_at, targets_of}
use Rattle.target_rows.proofs.MovedRun.{moved_run-away, moved_run-here, moved_run-long, moved_run-others, moved_run-wide}
use Rattle.net_engine.specs.Paired.{AreLabelled, does_at, does_in, rows_with}
use Rattle.net_engine.specs.Rerouted.{AtomBegins, AtomsEnd, IsRelabelled}
use Rattle.net_engine.proofs.Held.{within-high, within-low}
use Rattle.net_engine.proofs.Standing.{row_with}

-- ---- what stands at the place of the atom that has an address

rest-at : (tss : List (List Target)) (k : ℕ) → get_or (drop 1 tss) k [] ≡ get_or tss (suc k) []
rest-at [] k = refl
rest-at (ts ∷ more) k = refl

-- whether the atom at a place has the address
abbrev has_at : List Span → ℕ → Span → ℕ → Type 0
has_at rows k d a = is_within (span_low (get_or rows k d)) (span_past (get_or rows k d)) a ≡ true

-- where the same stands there, a router does the same
same-there : (rows : List Span) (tss uss : List (List Target)) (q a : ℕ) → ((k : ℕ) (d : Span) → k < length rows → has_at rows k d a → get_or (get_or tss k []) q NoRoute ≡ get_or (get_or uss k []) q NoRoute) → does_in q (forwarding_at (rows_with rows tss) a) ≡ does_in q (forwarding_at (rows_with rows uss) a)
same-there [] tss uss q a same = refl
same-there (r ∷ rs) tss uss q a same = ⊎_elim
    (λ (y : is_within r.low r.past a ≡ true).
    ap (does_in q) (holder-first row_low row_past (row_with r (get_or tss 0 [])) (rows_with rs (drop 1 tss)) a y)
    ∙ same 0 r (omega arith) y
    ∙ sym (ap (does_in q) (holder-first row_low row_past (row_with r (get_or uss 0 [])) (rows_with rs (drop 1 uss)) a y)))
    (λ (n : is_within r.low r.past a ≡ false).
    ap (does_in q) (holder-rest row_low row_past (row_with r (get_or tss 0 [])) (rows_with rs (drop 1 tss)) a n)
    ∙ same-there rs (drop 1 tss) (drop 1 uss) q a
    (λ k d l w.
    ap (λ (ts : List Target). get_or ts q NoRoute) (rest-at tss k)
    ∙ same (suc k) d (omega arith) w
    ∙ sym (ap (λ (ts : List Target). get_or ts q NoRoute) (rest-at uss k)))
    ∙ sym (ap (does_in q) (holder-rest row_low row_past (row_with r (get_or uss 0 [])) (rows_with rs (drop 1 uss)) a n)))
    (cases_Bool (is_within r.low r.past a))

-- and where a target stands there, it does that
does-what_stands : (start : ℕ) (rows : List Span) (tss : List (List Target)) (q a : ℕ) (t : Target) → CoverFrom span_low span_past start rows → start ≤ a → a < 2 ^ 32 → ((k : ℕ) (d : Span) → k < length rows → has_at rows k d a → get_or (get_or tss k []) q NoRoute ≡ t) → does_in q (forwarding_at (rows_with rows tss) a) ≡ t
does-what_stands start [] tss q a t h l b is = let e : start ≡ 2 ^ 32 = h in absurd (omega arith)
does-what_stands start (r ∷ rs) tss q a t h l b is =
    let e : r.low ≡ start = h.0 in
    ⊎_elim
    (λ (m : a < r.past).
    let y : is_within r.low r.past a ≡ true = within-yes r.low r.past a (omega arith) m in
    ap (does_in q) (holder-first row_low row_past (row_with r (get_or tss 0 [])) (rows_with rs (drop 1 tss)) a y)
    ∙ is 0 r (omega arith) y)
    (λ (m : r.past ≤ a).
    ap (does_in q) (holder-rest row_low row_past (row_with r (get_or tss 0 [])) (rows_with rs (drop 1 tss)) a (within-above r.low r.past a m))
    ∙ does-what_stands r.past rs (drop 1 tss) q a t h.2 m b
    (λ k d n w. ap (λ (ts : List Target). get_or ts q NoRoute) (rest-at tss k) ∙ is (suc k) d (omega arith) w))
    (cases_lt a r.past)

-- ---- atoms by place

pub atom-begins : (rows : List Span) (place at : ℕ) → AreSpans rows → place < length rows → ((d : Span) → (get_or rows place d).low ≤ at) → ((d : Span) → at < (get_or rows place d).past) → is_boundary rows at ≡ true → AtomBegins rows place at
atom-begins rows place at h l from to b = record {
  inside = l;
  low = λ d. eqb-true (span_low (get_or rows place d)) at (sym (boundary-at 0 rows place d at h.cover l (from d) (to d)) ∙ b);
}

-- an atom that stands before another ends where the other begins or below
past-low : (start : ℕ) (rows : List Span) (i j : ℕ) (d : Span) → CoverFrom span_low span_past start rows → i < j → j < length rows → span_past (get_or rows i d) ≤ span_low (get_or rows j d)
past-low start [] i j d h m l = absurd (omega arith)
past-low start (r ∷ rs) i zero d h m l = absurd (omega arith)
past-low start (r ∷ rs) zero (suc j) d h m l = low-at span_low span_past r.past rs j d h.2 (omega arith)
past-low start (r ∷ rs) (suc i) (suc j) d h m l = past-low r.past rs i j d h.2 (omega arith) (omega arith)

low-low : (rows : List Span) (i j : ℕ) (d : Span) → AreSpans rows → i ≤ j → j < length rows → span_low (get_or rows i d) ≤ span_low (get_or rows j d)
low-low rows i j d h m l = ⊎_elim
    (λ (k : i < j).
    let o : span_low (get_or rows i d) < span_past (get_or rows i d) = ordered-at span_low span_past 0 rows i d h.cover (omega arith) in
    let n : span_past (get_or rows i d) ≤ span_low (get_or rows j d) = past-low 0 rows i j d h.cover k l in
    omega arith)
    (λ (k : j ≤ i).
    let e : i ≡ j = omega arith in
    let s : span_low (get_or rows i d) ≡ span_low (get_or rows j d) = ap (λ n. span_low (get_or rows n d)) e in
    omega arith)
    (cases_lt i j)

-- the atom that has the last address of a span ends with it
ends-at : (rows : List Span) (k past : ℕ) (d : Span) → AreSpans rows → k < length rows → span_low (get_or rows k d) < past → past ≤ span_past (get_or rows k d) → past ≤ 2 ^ 32 → (past < 2 ^ 32 → is_boundary rows past ≡ true) → span_past (get_or rows k d) ≡ past
ends-at rows k past d h l from to b f = ⊎_elim
    (λ (m : past < span_past (get_or rows k d)).
    let o : span_past (get_or rows k d) ≤ 2 ^ 32 = high-at span_low span_past 0 rows k d h.cover l in
    let n : is_boundary rows past ≡ false = boundary-at 0 rows k d past h.cover l (omega arith) m ∙ ne_eqb (span_low (get_or rows k d)) past (λ z. omega arith) in
    absurd (both_ways (is_boundary rows past) n (f (omega arith))))
    (λ (m : span_past (get_or rows k d) ≤ past). omega arith)
    (cases_lt past (span_past (get_or rows k d)))

end-after : (rows : List Span) (k past : ℕ) (d : Span) → AreSpans rows → k < length rows → ((d : Span) → span_past (get_or rows k d) ≡ past) → past < 2 ^ 32 → AtomBegins rows (suc k) past
end-after rows k past d h l e m = ⊎_elim
    (λ (n : suc k < length rows). record {
      inside = n;
      low = λ d. next-low span_low span_past 0 rows k d h.cover n ∙ e d;
    })
    (λ (n : length rows ≤ suc k).
    let w : span_past (get_or rows k d) ≡ 2 ^ 32 = last-high span_low span_past 0 rows k d h.cover (omega arith) in
    let v : span_past (get_or rows k d) ≡ past = e d in
    absurd (omega arith))
    (cases_lt (suc k) (length rows))

last-of_all : (rows : List Span) (k past : ℕ) (d : Span) → AreSpans rows → k < length rows → span_past (get_or rows k d) ≡ past → 2 ^ 32 ≤ past → suc k ≡ length rows
last-of_all rows k past d h l e m = ⊎_elim
    (λ (n : suc k < length rows).
    let w : span_low (get_or rows (suc k) d) ≡ span_past (get_or rows k d) = next-low span_low span_past 0 rows k d h.cover n in
    let o : span_low (get_or rows (suc k) d) < span_past (get_or rows (suc k) d) = ordered-at span_low span_past 0 rows (suc k) d h.cover n in
    let p : span_past (get_or rows (suc k) d) ≤ 2 ^ 32 = high-at span_low span_past 0 rows (suc k) d h.cover n in
    absurd (omega arith))
    (λ (n : length rows ≤ suc k). omega arith)
    (cases_lt (suc k) (length rows))

pub atoms-end : (rows : List Span) (k last past : ℕ) → AreSpans rows → k < length rows → ((d : Span) → (get_or rows k d).low ≤ last) → ((d : Span) → last < (get_or rows k d).past) → last + 1 ≡ past → past ≤ 2 ^ 32 → (past < 2 ^ 32 → is_boundary rows past ≡ true) → AtomsEnd rows (k + 1) past
atoms-end rows k last past h l from to s b f =
    let e : (d : Span) → span_past (get_or rows k d) ≡ past = λ d.
    let low : span_low (get_or rows k d) ≤ last = from d in
    let high : last < span_past (get_or rows k d) = to d in
    ends-at rows k past d h l (omega arith) (omega arith) b f in
    let none : Span = record { low = 0; past = 0 } in
    let one : suc k ≡ k + 1 = omega arith in
    record {
      inside = omega arith;
      below = λ m. subst (λ n. AtomBegins rows n past) one (end-after rows k past none h l e m);
      all = λ m. sym one ∙ last-of_all rows k past none h l (e none) m;
    }

-- one atom has an address
place-once : (rows : List Span) (i j a : ℕ) (d : Span) → AreSpans rows → i < length rows → j < length rows → has_at rows i d a → has_at rows j d a → i ≡ j
place-once rows i j a d h l m u v =
    let from_i : span_low (get_or rows i d) ≤ a = within-low (span_low (get_or rows i d)) (span_past (get_or rows i d)) a u in
    let to_i : a < span_past (get_or rows i d) = within-high (span_low (get_or rows i d)) (span_past (get_or rows i d)) a u in
    let from_j : span_low (get_or rows j d) ≤ a = within-low (span_low (get_or rows j d)) (span_past (get_or rows j d)) a v in
    let to_j : a < span_past (get_or rows j d) = within-high (span_low (get_or rows j d)) (span_past (get_or rows j d)) a v in
    ⊎_elim
    (λ (o : i < j). let x : span_past (get_or rows i d) ≤ span_low (get_or rows j d) = past-low 0 rows i j d h.cover o m in absurd (omega arith))
    (λ (o : j ≤ i). ⊎_elim
    (λ (n : j < i). let x : span_past (get_or rows j d) ≤ span_low (get_or rows i d) = past-low 0 rows j i d h.cover n l in absurd (omega arith))
    (λ (n : i ≤ j). omega arith)
    (cases_lt j i))
    (cases_lt i j)

-- what stands at the place of an address is done there
pub does-at-place : (rows : List Span) (labels : Labels) (q a place : ℕ) → AreSpans rows → place < length rows → a < 2 ^ 32 → ((d : Span) → (get_or rows place d).low ≤ a) → ((d : Span) → a < (get_or rows place d).past) → does_at rows labels q a ≡ target_at labels q place
does-at-place rows labels q a place h l b low past =
    does-what_stands 0 rows labels.rows q a (target_at labels q place) h.cover (omega arith) b
    (λ k d m w. ap (λ n. get_or (get_or labels.rows n []) q NoRoute) (place-once rows k place a d h m l w (within-yes (span_low (get_or rows place d)) (span_past (get_or rows place d)) a (low d) (past d))))

-- the atom of an address stands where the first of a span does or behind it, or before it
from-first : (rows : List Span) (first lo k a : ℕ) (d : Span) → AreSpans rows → AtomBegins rows first lo → k < length rows → lo ≤ a → a < span_past (get_or rows k d) → first ≤ k
from-first rows first lo k a d h b l from to = ⊎_elim
    (λ (m : k < first).
    let e : span_low (get_or rows first d) ≡ lo = b.low d in
    let o : span_past (get_or rows k d) ≤ span_low (get_or rows first d) = past-low 0 rows k first d h.cover m b.inside in
    absurd (omega arith))
    (λ (m : first ≤ k). m)
    (cases_lt k first)

before-first : (rows : List Span) (first lo k a : ℕ) (d : Span) → AreSpans rows → AtomBegins rows first lo → k < length rows → a < lo → span_low (get_or rows k d) ≤ a → k < first
before-first rows first lo k a d h b l to from = ⊎_elim
    (λ (m : k < first). m)
    (λ (m : first ≤ k).
    let e : span_low (get_or rows first d) ≡ lo = b.low d in
    let o : span_low (get_or rows first d) ≤ span_low (get_or rows k d) = low-low rows first k d h m l in
    absurd (omega arith))
    (cases_lt k first)

-- and before the end of a span, or behind it
before-end : (rows : List Span) (last past k a : ℕ) (d : Span) → AreSpans rows → AtomsEnd rows last past → k < length rows → a < past → span_low (get_or rows k d) ≤ a → k < last
before-end rows last past k a d h b l to from = ⊎_elim
    (λ (m : past < 2 ^ 32). before-first rows last past k a d h (b.below m) l to from)
    (λ (m : 2 ^ 32 ≤ past). let e : last ≡ length rows = b.all m in omega arith)
    (cases_lt past (2 ^ 32))

from-end : (rows : List Span) (last past k a : ℕ) (d : Span) → AreSpans rows → AtomsEnd rows last past → k < length rows → past ≤ a → a < span_past (get_or rows k d) → last ≤ k
from-end rows last past k a d h b l from to = ⊎_elim
    (λ (m : past < 2 ^ 32). from-first rows last past k a d h (b.below m) l from to)
    (λ (m : 2 ^ 32 ≤ past).
    let o : span_past (get_or rows k d) ≤ 2 ^ 32 = high-at span_low span_past 0 rows k d h.cover l in
    absurd (omega arith))
    (cases_lt past (2 ^ 32))

no-atom : Span
no-atom = record { low = 0; past = 0 }

pub some-between : (rows : List Span) (first last lo past : ℕ) → AreSpans rows → AtomBegins rows first lo → AtomsEnd rows last past → lo < past → first < last
some-between rows first last lo past h b e o =
    let low : span_low (get_or rows first no-atom) ≡ lo = b.low no-atom in
    before-end rows last past first lo no-atom h e b.inside o (omega arith)

-- what is done with the first address of a span stands at the place of its first atom
pub does-at-first : (rows : List Span) (labels : Labels) (q first lo : ℕ) → AreSpans rows → AtomBegins rows first lo → lo < 2 ^ 32 → does_at rows labels q lo ≡ target_at labels q first
does-at-first rows labels q first lo h b l = does-at-place rows labels q lo first h b.inside l
    (λ d. let low : span_low (get_or rows first d) ≡ lo = b.low d in omega arith)
    (λ d.
    let low : span_low (get_or rows first d) ≡ lo = b.low d in
    let some : span_low (get_or rows first d) < span_past (get_or rows first d) = ordered-at span_low span_past 0 rows first d h.cover b.inside in
    omega arith)

-- an atom that stands before the end of a span begins below it
low-below : (rows : List Span) (last past k : ℕ) (d : Span) → AreSpans rows → AtomsEnd rows last past → k < last → span_low (get_or rows k d) < past
low-below rows last past k d h e l =
    let inside : k < length rows = omega (arith, e.inside) in
    let some : span_low (get_or rows k d) < span_past (get_or rows k d) = ordered-at span_low span_past 0 rows k d h.cover inside in
    ⊎_elim
    (λ (m : past < 2 ^ 32).
    let b = e.below m in
    let low : span_low (get_or rows last d) ≡ past = b.low d in
    let o : span_past (get_or rows k d) ≤ span_low (get_or rows last d) = past-low 0 rows k last d h.cover l b.inside in
    omega arith)
    (λ (m : 2 ^ 32 ≤ past).
    let o : span_past (get_or rows k d) ≤ 2 ^ 32 = high-at span_low span_past 0 rows k d h.cover inside in
    omega arith)
    (cases_lt past (2 ^ 32))

-- where a router does one and the same with a span, that stands at each of its places
pub same-by-place : (rows : List Span) (labels : Labels) (q first last lo past : ℕ) → AreSpans rows → AtomBegins rows first lo → AtomsEnd rows last past → lo < past → past ≤ 2 ^ 32 → ((a : ℕ) → lo ≤ a → a < past → does_at rows labels q a ≡ does_at rows labels q lo) → (k : ℕ) → first ≤ k → k < last → target_at labels q k ≡ target_at labels q first
same-by-place rows labels q first last lo past h b e o few same k low high =
    let inside : k < length rows = omega (arith, e.inside) in
    let begin : span_low (get_or rows first no-atom) ≡ lo = b.low no-atom in
    let from : span_low (get_or rows first no-atom) ≤ span_low (get_or rows k no-atom) = low-low rows first k no-atom h low inside in
    let to : span_low (get_or rows k no-atom) < past = low-below rows last past k no-atom h e high in
    let some : span_low (get_or rows k no-atom) < span_past (get_or rows k no-atom) = ordered-at span_low span_past 0 rows k no-atom h.cover inside in
    let any : (d : Span) → get_or rows k d ≡ get_or rows k no-atom = λ d. get_or_default rows k d no-atom inside in
    sym (does-at-place rows labels q (span_low (get_or rows k no-atom)) k h inside (omega arith)
    (λ d. let s : span_low (get_or rows k d) ≡ span_low (get_or rows k no-atom) = ap span_low (any d) in omega arith)
    (λ d. let s : span_past (get_or rows k d) ≡ span_past (get_or rows k no-atom) = ap span_past (any d) in omega arith))
    ∙ same (span_low (get_or rows k no-atom)) (omega arith) to
    ∙ does-at-first rows labels q first lo h b (omega arith)

pub in-order : (rows : List Span) (first last lo past : ℕ) → AreSpans rows → AtomBegins rows first lo → AtomsEnd rows last past → lo < past → first ≤ last
in-order rows first last lo past h b e o =
    let low : span_low (get_or rows first no-atom) ≡ lo = b.low no-atom in
    let m : first < last = before-end rows last past first lo no-atom h e b.inside o (omega arith) in
    omega arith

-- ---- the rows of a span

-- a router does something else with the atoms from one place on up to another
pub record IsRunMoved (x y : Labels) (r first last : ℕ) (after : Target) : Type 0 where
  pub routers : y.routers ≡ x.routers
  pub long : length y.rows ≡ length x.rows
  pub wide : (k : ℕ) → length (targets_of y k) ≡ length (targets_of x k)
  pub here : (k : ℕ) → first ≤ k → k < last → target_at y r k ≡ after
  pub away : (k : ℕ) → (k < first) ⊎ (last ≤ k) → target_at y r k ≡ target_at x r k
  pub others : (q k : ℕ) → (q ≡ r → ⊥) → target_at y q k ≡ target_at x q k

-- an address outside of a span is one of an atom before the first or behind the last
outside : (rows : List Span) (first last lo past k a : ℕ) (d : Span) → AreSpans rows → AtomBegins rows first lo → AtomsEnd rows last past → k < length rows → has_at rows k d a → is_within lo past a ≡ false → (k < first) ⊎ (last ≤ k)
outside rows first last lo past k a d h b e l w n =
    let from : span_low (get_or rows k d) ≤ a = within-low (span_low (get_or rows k d)) (span_past (get_or rows k d)) a w in
    let to : a < span_past (get_or rows k d) = within-high (span_low (get_or rows k d)) (span_past (get_or rows k d)) a w in
    ⊎_elim
    (λ (m : a < lo). inl (before-first rows first lo k a d h b l m from))
    (λ (m : lo ≤ a). ⊎_elim
    (λ (p : a < past). absurd (both_ways (is_within lo past a) n (within-yes lo past a m p)))
    (λ (p : past ≤ a). inr (from-end rows last past k a d h e l p to))
    (cases_lt a past))
    (cases_lt a lo)

pub relabelled-run : (rows : List Span) (x y : Labels) (r lo past first last : ℕ) (after : Target) → AreLabelled rows x → AtomBegins rows first lo → AtomsEnd rows last past → past ≤ 2 ^ 32 → IsRunMoved x y r first last after → IsRelabelled rows x y r lo past after
relabelled-run rows x y r lo past first last after h b e o m = record {
  labelled = record {
    atoms = h.atoms;
    there = m.long ∙ h.there;
    wide = λ n l. m.wide n ∙ h.wide n l ∙ sym m.routers;
  };
  routers = m.routers;
  here = λ a l n. does-what_stands 0 rows y.rows r a after h.atoms.cover (omega arith) (omega arith)
      (λ k d i w.
      let from : span_low (get_or rows k d) ≤ a = within-low (span_low (get_or rows k d)) (span_past (get_or rows k d)) a w in
      let to : a < span_past (get_or rows k d) = within-high (span_low (get_or rows k d)) (span_past (get_or rows k d)) a w in
      m.here k (from-first rows first lo k a d h.atoms b i l to) (before-end rows last past k a d h.atoms e i n from));
  away = λ a n. same-there rows y.rows x.rows r a (λ k d i w. m.away k (outside rows first last lo past k a d h.atoms b e i w n));
  others = λ q a n. same-there rows y.rows x.rows q a (λ k d i w. m.others q k n);
}

pub run-moved : (rows : List Span) (x y : Labels) (r first last : ℕ) (after : Target) → AreLabelled rows x → r < x.routers → first ≤ last → last ≤ length rows → y ≡ moved_run x r first last after → IsRunMoved x y r first last after
run-moved rows x y r first last after h mine order inside is =
    let there : last ≤ length x.rows = subst (λ n. last ≤ n) (sym h.there) inside in
    subst (λ (l : Labels). IsRunMoved x l r first last after) (sym is) (record {
      routers = refl;
      long = moved_run-long x r first last after order there;
      wide = moved_run-wide x r first last after order there;
      here = λ k l m. moved_run-here x r first last after order there k l m (subst (λ n. r < n) (sym (h.wide k (omega arith))) mine);
      away = λ k o. ap (λ (ts : List Target). get_or ts r NoRoute) (moved_run-away x r first last after order there k (λ l m. ⊎_elim (λ (n : k < first). omega arith) (λ (n : last ≤ k). omega arith) o));
      others = moved_run-others x r first last after order there;
    })
