-- An atom that is cut in two: what routers do with it comes to stand twice.
use Rattle.std.proofs.Common.{◌≡◌, ℕ, ◌+◌, ◌-◌, ◌<◌, ◌≤◌, ◌^◌, ◌∙◌, ◌∷◌, ◌||◌, ◌&&◌, not, ⊎_elim, zero, suc, cond, true, false, Bool, Some, List, [], length, get_or, map, refl, ap, sym, subst, arith, eqb}
use Rattle.std.specs.List.{insert}
use Rattle.std.proofs.lemmas.Bool.{cases_Bool, cases_lt, eqb-true, ne_eqb, or_left}
use Rattle.std.proofs.lemmas.List.Edits.{get_or-insert_above, get_or-insert_at, get_or-insert_below, length-insert}
use Rattle.atom_map.specs.Spans.{AreSpans, IsCut, Span, cut_spans, has_address, is_boundary, span_low, span_past}
use Rattle.base.specs.Forwarding.{forwarding_at, row_low, row_past}
use Rattle.base.specs.Rows.{CoverFrom, is_within}
use Rattle.net_engine.specs.Version.{Atom, begins_at, first_of, past_of, target_at as target_of_router}
use Rattle.base.specs.declared.forwarding_row.ForwardingRow.{ForwardingRow}
use Rattle.base.specs.declared.ids.RouterId.{RouterId}
use Rattle.base.proofs.Covers.{few-rows, holder-first, holder-rest, low-at, within-above, within-below, within-yes}
use Rattle.atom_map.proofs.SpanCuts.{boundary-parts, cut-first, cut-rest, length-after-cut}
use Rattle.base.specs.declared.target.Target.{Target}
use Rattle.target_rows.specs.Labels.{Labels, parted, targets_of}
use Rattle.net_engine.specs.Cuts.{IsCutThere}
use Rattle.net_engine.specs.Net.{between, cut_atoms}
use Rattle.net_engine.specs.Paired.{AreLabelled, ArePaired, atoms_with, does_at, owned, owners_at, rows_with}
use Rattle.net_engine.proofs.Atoms.{cut-begins, cut-target}
use Rattle.net_engine.proofs.Does.{begins-paired, owners-in_row, target-paired}
use Rattle.net_engine.proofs.Standing.{AllRoutes, is-net, row_with, same-parts}

-- ---- what a cut makes of atoms, the first of which is given

cut-atom : (x : Atom) (xs : List Atom) (at : ℕ) → is_within (first_of x) (past_of x) at ≡ true → eqb (first_of x) at ≡ false → cut_atoms (x ∷ xs) at ≡ between (first_of x) at x ∷ between at (past_of x) x ∷ xs
cut-atom x xs at e n =
    ap (λ b. cond (b && not (eqb (first_of x) at)) (between (first_of x) at x ∷ between at (past_of x) x ∷ xs) (x ∷ cut_atoms xs at)) e
    ∙ ap (λ b. cond (not b) (between (first_of x) at x ∷ between at (past_of x) x ∷ xs) (x ∷ cut_atoms xs at)) n

uncut-atom : (x : Atom) (xs : List Atom) (at : ℕ) → is_within (first_of x) (past_of x) at ≡ false → cut_atoms (x ∷ xs) at ≡ x ∷ cut_atoms xs at
uncut-atom x xs at e = ap (λ b. cond (b && not (eqb (first_of x) at)) (between (first_of x) at x ∷ between at (past_of x) x ∷ xs) (x ∷ cut_atoms xs at)) e

and-never : {X : Type 0} (b : Bool) (x y : X) → cond (b && false) x y ≡ y
and-never true x y = refl
and-never false x y = refl

begun-atom : (x : Atom) (xs : List Atom) (at : ℕ) → eqb (first_of x) at ≡ true → cut_atoms (x ∷ xs) at ≡ x ∷ cut_atoms xs at
begun-atom x xs at e =
    ap (λ b. cond (is_within (first_of x) (past_of x) at && not b) (between (first_of x) at x ∷ between at (past_of x) x ∷ xs) (x ∷ cut_atoms xs at)) e
    ∙ and-never (is_within (first_of x) (past_of x) at) (between (first_of x) at x ∷ between at (past_of x) x ∷ xs) (x ∷ cut_atoms xs at)

-- ---- no cut

-- atoms that begin above an address are not cut there
uncut-above : (start : ℕ) (xs : List Atom) (at : ℕ) → CoverFrom first_of past_of start xs → at < start → cut_atoms xs at ≡ xs
uncut-above start [] at h l = refl
uncut-above start (x ∷ xs) at h l =
    let e : first_of x ≡ start = h.0 in
    let o : first_of x < past_of x = h.1 in
    uncut-atom x xs at (within-below (first_of x) (past_of x) at (omega arith))
    ∙ ap (λ ys. x ∷ ys) (uncut-above (past_of x) xs at h.2 (omega arith))

begins-from : (start : ℕ) (xs : List Atom) (at : ℕ) → CoverFrom first_of past_of start xs → begins_at xs at ≡ true → start ≤ at
begins-from start [] at h b = absurd (none b)
  where
    none : false ≡ true → ⊥
    none e = cc
begins-from start (x ∷ xs) at h b =
    let e : first_of x ≡ start = h.0 in
    let o : first_of x < past_of x = h.1 in
    ⊎_elim
    (λ (y : eqb (first_of x) at ≡ true). let k : first_of x ≡ at = eqb-true (first_of x) at y in omega arith)
    (λ (n : eqb (first_of x) at ≡ false).
    let k : past_of x ≤ at = begins-from (past_of x) xs at h.2 (sym (ap (λ c. c || begins_at xs at) n) ∙ b) in
    omega arith)
    (cases_Bool (eqb (first_of x) at))

-- where an atom begins none is cut
pub uncut-begun : (start : ℕ) (xs : List Atom) (at : ℕ) → CoverFrom first_of past_of start xs → begins_at xs at ≡ true → cut_atoms xs at ≡ xs
uncut-begun start [] at h b = refl
uncut-begun start (x ∷ xs) at h b =
    let o : first_of x < past_of x = h.1 in
    ⊎_elim
    (λ (y : eqb (first_of x) at ≡ true).
    let k : first_of x ≡ at = eqb-true (first_of x) at y in
    begun-atom x xs at y ∙ ap (λ ys. x ∷ ys) (uncut-above (past_of x) xs at h.2 (omega arith)))
    (λ (n : eqb (first_of x) at ≡ false).
    let c : begins_at xs at ≡ true = sym (ap (λ c. c || begins_at xs at) n) ∙ b in
    uncut-atom x xs at (within-above (first_of x) (past_of x) at (begins-from (past_of x) xs at h.2 c))
    ∙ ap (λ ys. x ∷ ys) (uncut-begun (past_of x) xs at h.2 c))
    (cases_Bool (eqb (first_of x) at))

pub uncut-paired : (labels : Labels) (owners : AllRoutes) (rows : List Span) (at : ℕ) → CoverFrom first_of past_of 0 (atoms_with rows labels owners) → is_boundary rows at ≡ true → cut_atoms (atoms_with rows labels owners) at ≡ atoms_with rows labels owners
uncut-paired labels owners rows at h b = uncut-begun 0 (atoms_with rows labels owners) at h (begins-paired labels owners rows at ∙ b)

-- ---- the targets of an atom come to stand twice

-- the atom at a place is cut: both parts have what the whole has
cut-owned : (os : AllRoutes) (start : ℕ) (rows : List Span) (tss : List (List Target)) (place : ℕ) (d : Span) (at : ℕ) → CoverFrom span_low span_past start rows → length tss ≡ length rows → place < length rows → span_low (get_or rows place d) ≤ at → at < span_past (get_or rows place d) → is_boundary rows at ≡ false → ((row : ForwardingRow) → forwarding_at (rows_with rows tss) at ≡ Some row → owners_at os at ≡ owners_at os row.low) → map (owned os) (rows_with (cut_spans rows at) (insert tss (suc place) (get_or tss place []))) ≡ cut_atoms (map (owned os) (rows_with rows tss)) at
cut-owned os start [] tss place d at h long l from past n f = absurd (omega arith)
cut-owned os start (r ∷ rs) [] place d at h long l from past n f = absurd (omega arith)
cut-owned os start (r ∷ rs) (ts ∷ more) zero d at h long l from past n f =
    let k : (r.low ≡ at → ⊥) × (is_boundary rs at ≡ false) = boundary-parts r rs at n in
    let e : has_address at r ≡ true = within-yes r.low r.past at from past in
    let same : owners_at os at ≡ owners_at os r.low = f (row_with r ts) (holder-first row_low row_past (row_with r ts) (rows_with rs more) at e) in
    ap (λ (zs : List Span). map (owned os) (rows_with zs (ts ∷ ts ∷ more))) (cut-first r rs at e)
    ∙ ap (λ (a : Atom). between r.low at (owned os (row_with r ts)) ∷ a ∷ map (owned os) (rows_with rs more))
    (same-parts at r.past ts ts (owners_at os at) (owners_at os r.low) refl same)
    ∙ sym (cut-atom (owned os (row_with r ts)) (map (owned os) (rows_with rs more)) at e (ne_eqb r.low at k.0))
cut-owned os start (r ∷ rs) (ts ∷ more) (suc place) d at h long l from past n f =
    let k : (r.low ≡ at → ⊥) × (is_boundary rs at ≡ false) = boundary-parts r rs at n in
    let first : r.past ≤ span_low (get_or rs place d) = low-at span_low span_past r.past rs place d h.2 (omega arith) in
    let e : has_address at r ≡ false = within-above r.low r.past at (omega arith) in
    ap (λ (zs : List Span). map (owned os) (rows_with zs (ts ∷ insert more (suc place) (get_or more place [])))) (cut-rest r rs at e)
    ∙ ap (λ (zs : List Atom). owned os (row_with r ts) ∷ zs)
    (cut-owned os r.past rs more place d at h.2 (omega arith) (omega arith) from past k.1
    (λ row p. f row (holder-rest row_low row_past (row_with r ts) (rows_with rs more) at e ∙ p)))
    ∙ sym (uncut-atom (owned os (row_with r ts)) (map (owned os) (rows_with rs more)) at e)

-- ---- as `cut` needs it

-- what a cut and what follows it made of the parts of a network: the atom at a place has the address
pub record Cuts (rows new : List Span) (x y : Labels) (at place : ℕ) : Type 0 where
  pub cut : IsCut rows new at true
  pub within : at < 2 ^ 32
  pub form : AreSpans new
  pub inside : place < length rows
  pub low : (d : Span) → (get_or rows place d).low ≤ at
  pub past : (d : Span) → at < (get_or rows place d).past
  pub labels : y ≡ parted x place

-- an atom, where one is asked for
some-atom : Span
some-atom = record { low = 0; past = 0 }

next-place : (x : Labels) (place : ℕ) → (parted x place).rows ≡ insert x.rows (suc place) (targets_of x place)
next-place x place =
    let next : place + 1 ≡ suc place = omega arith in
    ap (λ n. insert x.rows n (targets_of x place)) next

atoms-after-cut : (routers : ℕ) (rows new : List Span) (x y : Labels) (os : AllRoutes) (at place : ℕ) → ArePaired routers rows x os → Cuts rows new x y at place → atoms_with new y os ≡ cut_atoms (atoms_with rows x os) at
atoms-after-cut routers rows new x y os at place h c =
    ap (λ (z : Labels). map (owned os) (rows_with new z.rows)) c.labels
    ∙ ap (λ (tss : List (List Target)). map (owned os) (rows_with new tss)) (next-place x place)
    ∙ ap (λ (zs : List Span). map (owned os) (rows_with zs (insert x.rows (suc place) (targets_of x place)))) c.cut.1
    ∙ cut-owned os 0 rows x.rows place some-atom at h.labelled.atoms.cover h.labelled.there c.inside (c.low some-atom) (c.past some-atom) c.cut.0
    (λ row p. owners-in_row routers rows x os at row h p)

-- routers do what they did, and atoms begin where they began
does-after-cut : (routers : ℕ) (rows new : List Span) (x y : Labels) (os : AllRoutes) (at place : ℕ) → ArePaired routers rows x os → Cuts rows new x y at place → (r a : ℕ) → does_at new y r a ≡ does_at rows x r a
does-after-cut routers rows new x y os at place h c r a =
    let q : RouterId = record { 0 = r } in
    sym (target-paired y os new q a)
    ∙ ap (λ (zs : List Atom). target_of_router zs q a) (atoms-after-cut routers rows new x y os at place h c)
    ∙ cut-target (atoms_with rows x os) at q a
    ∙ target-paired x os rows q a

boundary-after-cut : (routers : ℕ) (rows new : List Span) (x y : Labels) (os : AllRoutes) (at place : ℕ) → ArePaired routers rows x os → Cuts rows new x y at place → (b : ℕ) → is_boundary rows b ≡ true → is_boundary new b ≡ true
boundary-after-cut routers rows new x y os at place h c b e =
    sym (begins-paired y os new b)
    ∙ ap (λ (zs : List Atom). begins_at zs b) (atoms-after-cut routers rows new x y os at place h c)
    ∙ cut-begins 0 (atoms_with rows x os) at b (is-net routers rows x os h).cover (omega arith) c.within
    ∙ or_left (begins_at (atoms_with rows x os) b) (eqb b at) (begins-paired x os rows b ∙ e)

-- each place has the targets of all routers
wide-parted : (x : Labels) (place k : ℕ) → place < length x.rows → ((j : ℕ) → j < length x.rows → length (targets_of x j) ≡ x.routers) → k < length x.rows + 1 → length (targets_of (parted x place) k) ≡ x.routers
wide-parted x place k l wide m =
    let ts : List Target = targets_of x place in
    ⊎_elim
    (λ (o : k < place + 1). ap (λ (zs : List Target). length zs) (get_or-insert_below x.rows (place + 1) ts [] k o (omega arith)) ∙ wide k (omega arith))
    (λ (o : place + 1 ≤ k). ⊎_elim
    (λ (q : place + 1 < k).
    let e : k ≡ k - 1 + 1 = omega arith in
    ap (λ j. length (targets_of (parted x place) j)) e
    ∙ ap (λ (zs : List Target). length zs) (get_or-insert_above x.rows (place + 1) ts [] (k - 1) (omega arith) (omega arith))
    ∙ wide (k - 1) (omega arith))
    (λ (q : k ≤ place + 1).
    let e : k ≡ place + 1 = omega arith in
    ap (λ j. length (targets_of (parted x place) j)) e
    ∙ ap (λ (zs : List Target). length zs) (get_or-insert_at x.rows (place + 1) ts [] (omega arith))
    ∙ wide place l)
    (cases_lt (place + 1) k))
    (cases_lt k (place + 1))

pub length-cut : (rows new : List Span) (x : Labels) (at : ℕ) → AreLabelled rows x → at < 2 ^ 32 → IsCut rows new at true → length new ≡ length rows + 1
length-cut rows new x at h b c =
    let long : length new ≡ suc (length rows) = ap (λ (zs : List Span). length zs) c.1 ∙ length-after-cut 0 rows at h.atoms.cover (omega arith) b in
    omega arith

pub room-to-cut : (rows new : List Span) (x : Labels) (at : ℕ) → AreLabelled rows x → at < 2 ^ 32 → AreSpans new → IsCut rows new at true → length x.rows < 2 ^ 32
room-to-cut rows new x at h b form c =
    let long : length new ≡ length rows + 1 = length-cut rows new x at h b c in
    let few : 0 + length new ≤ 2 ^ 32 = few-rows span_low span_past 0 new form.cover in
    let there : length x.rows ≡ length rows = h.there in
    omega arith

labelled-after-cut : (rows new : List Span) (x y : Labels) (at place : ℕ) → AreLabelled rows x → Cuts rows new x y at place → AreLabelled new y
labelled-after-cut rows new x y at place h c =
    let long : length new ≡ length rows + 1 = length-cut rows new x at h c.within c.cut in
    let there : length x.rows ≡ length rows = h.there in
    let below : place < length rows = c.inside in
    let more : length (insert x.rows (place + 1) (targets_of x place)) ≡ length x.rows + 1 = length-insert x.rows (place + 1) (targets_of x place) (omega arith) in
    let same : y.routers ≡ x.routers = ap (λ (z : Labels). z.routers) c.labels in
    record {
      atoms = c.form;
      there = ap (λ (z : Labels). length z.rows) c.labels ∙ (omega arith);
      wide = λ k l.
          ap (λ (z : Labels). length (targets_of z k)) c.labels
          ∙ wide-parted x place k (omega arith) (λ j m. h.wide j (omega arith)) (omega arith)
          ∙ sym same;
    }

paired-after-cut : (routers : ℕ) (rows new : List Span) (x y : Labels) (os : AllRoutes) (at place : ℕ) → ArePaired routers rows x os → Cuts rows new x y at place → ArePaired routers new y os
paired-after-cut routers rows new x y os at place h c = record {
  labelled = labelled-after-cut rows new x y at place h.labelled c;
  same_routers = ap (λ (z : Labels). z.routers) c.labels ∙ h.same_routers;
  each = h.each;
  along = λ r l. record {
    table = (h.along r l).table;
    ends = λ b m e. boundary-after-cut routers rows new x y os at place h c b ((h.along r l).ends b m e);
    does = λ a b. does-after-cut routers rows new x y os at place h c r a ∙ (h.along r l).does a b;
  };
}

-- ---- whatever routes the atoms stand beside

pub cut-there : (rows new : List Span) (x y : Labels) (at place : ℕ) → AreLabelled rows x → Cuts rows new x y at place → IsCutThere rows new x y at
cut-there rows new x y at place h c = record {
  labelled = labelled-after-cut rows new x y at place h c;
  paired = λ routers os k. paired-after-cut routers rows new x y os at place k c;
  atoms = λ routers os k. atoms-after-cut routers rows new x y os at place k c;
}

pub not-cut : (rows new : List Span) (x : Labels) (at : ℕ) → AreLabelled rows x → IsCut rows new at false → IsCutThere rows new x x at
not-cut rows new x at h c = subst (λ (zs : List Span). IsCutThere rows zs x x at) (sym c.1) (record {
  labelled = h;
  paired = λ routers os k. k;
  atoms = λ routers os k. sym (uncut-paired x os rows at (is-net routers rows x os k).cover c.0);
})

-- from what the calls answer
pub is-cut-at : (rows new : List Span) (at : ℕ) (o p : Bool) → o ≡ p → IsCut rows new at o → IsCut rows new at p
is-cut-at rows new at o p e h = subst (λ (q : Bool). IsCut rows new at q) e h
