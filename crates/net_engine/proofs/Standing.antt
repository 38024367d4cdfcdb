-- What follows of a network from how its atoms stand beside what routers do: its form, and what is read of it.
use Rattle.std.proofs.Common.{◌≡◌, ℕ, ◌<◌, ◌≤◌, ◌^◌, ◌∙◌, ◌∷◌, ⊎_elim, zero, suc, true, false, None, Some, List, [], length, get_or, drop, map, replicate, refl, ap, sym, subst, arith}
use Rattle.std.proofs.lemmas.Bool.{cases_Bool, cases_lt}
use Rattle.std.proofs.lemmas.List.{length-map, length-replicate, get_or-map as get_or-map_below, get_or-replicate, get_or_past}
use Rattle.atom_map.specs.Spans.{Span, one_span, span_low, span_past}
use Rattle.base.specs.Forwarding.{row_low, row_past, target_of as target_of_row}
use Rattle.base.specs.Rows.{CoverFrom, is_within}
use Rattle.base.proofs.Elements.{contains-none}
use Rattle.base.proofs.Covers.{holder-first, holder-rest}
use Rattle.net_engine.specs.Version.{Atom, atom_at, first_of, past_of}
use Rattle.dn_model.specs.declared.entry.Route.{Route}
use Rattle.base.specs.declared.forwarding_row.ForwardingRow.{ForwardingRow}
use Rattle.base.specs.declared.ids.RouterId.{RouterId}
use Rattle.dn_model.specs.declared.rule.Rule.{Rule}
use Rattle.base.specs.declared.target.Target.{Target}
use Rattle.base.specs.declared.target.Target.TheVariants.{NoRoute}
use Rattle.atom_map.proofs.Bounded.{one-spans}
use Rattle.target_rows.specs.Labels.{Labels, first_labels, target_at, targets_of}
use Rattle.net_engine.specs.Net.{AreWide, IsNet, IsWide, Net, first_atom}
use Rattle.net_engine.specs.Paired.{ArePaired, GoAlong, atoms_with, does_at, does_in, net_of, owned, owners_at, rows_with}
use Rattle.net_engine.specs.Seen.{IsPaired, net_in}
use Rattle.net_engine.specs.Routed.{rules_covering}
use Rattle.net_engine.specs.declared.net.Net.{Net as NetFields}

-- each router's routes
abbrev pub AllRoutes : Type 0
AllRoutes = List (List Route)

-- an atom from its parts
abbrev pub atom_of_parts : ℕ → ℕ → List Target → List (List Rule) → Atom
atom_of_parts lo hi targets owners = record { row = record { low = lo; past = hi; targets = targets }; owners = owners }

pub same-parts : (lo hi : ℕ) (ts us : List Target) (xs ys : List (List Rule)) → ts ≡ us → xs ≡ ys → atom_of_parts lo hi ts xs ≡ atom_of_parts lo hi us ys
same-parts lo hi ts us xs ys t o = ap (λ zs. atom_of_parts lo hi zs xs) t ∙ ap (λ zs. atom_of_parts lo hi us zs) o

-- ---- the form

pub cover-rows : (start : ℕ) (rows : List Span) (tss : List (List Target)) → CoverFrom span_low span_past start rows → CoverFrom row_low row_past start (rows_with rows tss)
cover-rows start [] tss h = h
cover-rows start (r ∷ rs) tss h = (h.0, h.1, cover-rows r.past rs (drop 1 tss) h.2)

cover-owned : (owners : AllRoutes) (start : ℕ) (rows : List Span) (tss : List (List Target)) → CoverFrom span_low span_past start rows → CoverFrom first_of past_of start (map (owned owners) (rows_with rows tss))
cover-owned owners start [] tss h = h
cover-owned owners start (r ∷ rs) tss h = (h.0, h.1, cover-owned owners r.past rs (drop 1 tss) h.2)

pub cover-paired : (labels : Labels) (owners : AllRoutes) (start : ℕ) (rows : List Span) → CoverFrom span_low span_past start rows → CoverFrom first_of past_of start (atoms_with rows labels owners)
cover-paired labels owners start rows h = cover-owned owners start rows labels.rows h

wide-owned : (routers : ℕ) (owners : AllRoutes) (rows : List Span) (tss : List (List Target)) → ((k : ℕ) → k < length rows → length (get_or tss k []) ≡ routers) → length owners ≡ routers → AreWide routers (map (owned owners) (rows_with rows tss))
wide-owned routers owners [] tss wide full = tt
wide-owned routers owners (r ∷ rs) [] wide full = (
  record { targets = wide 0 (omega arith); owners = length-map owners (λ routes. rules_covering routes r.low) ∙ full },
  wide-owned routers owners rs [] (λ k l. wide (suc k) (omega arith)) full,
)
wide-owned routers owners (r ∷ rs) (ts ∷ more) wide full = (
  record { targets = wide 0 (omega arith); owners = length-map owners (λ routes. rules_covering routes r.low) ∙ full },
  wide-owned routers owners rs more (λ k l. wide (suc k) (omega arith)) full,
)

-- the places have targets of all routers
pub wide-for_all : (routers : ℕ) (rows : List Span) (labels : Labels) (owners : AllRoutes) → ArePaired routers rows labels owners → (k : ℕ) → k < length rows → length (targets_of labels k) ≡ routers
wide-for_all routers rows labels owners h k l = h.labelled.wide k l ∙ h.same_routers

pub is-net : (routers : ℕ) (rows : List Span) (labels : Labels) (owners : AllRoutes) → ArePaired routers rows labels owners → IsNet (net_of routers rows labels owners)
is-net routers rows labels owners h = record {
  cover = cover-paired labels owners 0 rows h.labelled.atoms.cover;
  wide = wide-owned routers owners rows labels.rows (wide-for_all routers rows labels owners h) h.each;
}

pub net-form : (n : NetFields) → IsPaired n → IsNet (net_in n)
net-form n h = is-net n.routers n.atoms n.labels n.tables h

pub paired-again : (routers : ℕ) (rows new : List Span) (x y : Labels) (os ps : AllRoutes) → ArePaired routers rows x os → new ≡ rows → y ≡ x → ps ≡ os → ArePaired routers new y ps
paired-again routers rows new x y os ps h r l o =
    subst (λ (zs : List Span). ArePaired routers zs y ps) (sym r)
    (subst (λ (z : Labels). ArePaired routers rows z ps) (sym l)
    (subst (λ (zs : AllRoutes). ArePaired routers rows x zs) (sym o) h))

-- ---- reads by place

length-owned : (owners : AllRoutes) (rows : List Span) (tss : List (List Target)) → length (map (owned owners) (rows_with rows tss)) ≡ length rows
length-owned owners [] tss = refl
length-owned owners (r ∷ rs) tss = ap (λ n. suc n) (length-owned owners rs (drop 1 tss))

pub length-paired : (labels : Labels) (owners : AllRoutes) (rows : List Span) → length (atoms_with rows labels owners) ≡ length rows
length-paired labels owners rows = length-owned owners rows labels.rows

pub length-now : (net : Net) (routers : ℕ) (rows : List Span) (labels : Labels) (owners : AllRoutes) → net_of routers rows labels owners ≡ net → length rows ≡ length net.atoms
length-now net routers rows labels owners e = sym (length-paired labels owners rows) ∙ ap (λ (n : Net). length n.atoms) e

pub place-below : (net : Net) (routers : ℕ) (rows : List Span) (labels : Labels) (owners : AllRoutes) (i : ℕ) → net_of routers rows labels owners ≡ net → i < length net.atoms → i < length rows
place-below net routers rows labels owners i e l = subst (λ n. i < n) (sym (length-now net routers rows labels owners e)) l

-- a place has targets
pub there-below : (routers : ℕ) (rows : List Span) (labels : Labels) (owners : AllRoutes) (place : ℕ) → ArePaired routers rows labels owners → place < length rows → place < length labels.rows
there-below routers rows labels owners place h l = subst (λ n. place < n) (sym h.labelled.there) l

-- the row at a place
abbrev pub row_with : Span → List Target → ForwardingRow
row_with row targets = record { low = row.low; past = row.past; targets = targets }

pub row-at_place : (rows : List Span) (tss : List (List Target)) (i : ℕ) (d : Span) (e : ForwardingRow) → i < length rows → get_or (rows_with rows tss) i e ≡ row_with (get_or rows i d) (get_or tss i [])
row-at_place [] tss i d e l = absurd (omega arith)
row-at_place (r ∷ rs) [] zero d e l = refl
row-at_place (r ∷ rs) [] (suc i) d e l = row-at_place rs [] i d e (omega arith)
row-at_place (r ∷ rs) (ts ∷ more) zero d e l = refl
row-at_place (r ∷ rs) (ts ∷ more) (suc i) d e l = row-at_place rs more i d e (omega arith)

pub length-rows : (rows : List Span) (tss : List (List Target)) → length (rows_with rows tss) ≡ length rows
length-rows [] tss = refl
length-rows (r ∷ rs) tss = ap (λ n. suc n) (length-rows rs (drop 1 tss))

pub rows-inside : (rows : List Span) (tss : List (List Target)) (i : ℕ) → i < length rows → i < length (rows_with rows tss)
rows-inside rows tss i l = subst (λ n. i < n) (sym (length-rows rows tss)) l

pub atom-at-place : (net : Net) (routers : ℕ) (rows : List Span) (labels : Labels) (owners : AllRoutes) (i : ℕ) (d : Atom) (e : Span) → net_of routers rows labels owners ≡ net → i < length rows → owned owners (row_with (get_or rows i e) (targets_of labels i)) ≡ get_or net.atoms i d
atom-at-place net routers rows labels owners i d e is l =
    ap (owned owners) (sym (row-at_place rows labels.rows i e (row_with e []) l))
    ∙ sym (get_or-map_below (owned owners) (rows_with rows labels.rows) i (row_with e []) d (rows-inside rows labels.rows i l))
    ∙ ap (λ (n : Net). get_or n.atoms i d) is

-- the atom that a row at a place is there
pub some-row : Span
some-row = record { low = 0; past = 0 }

pub target-at-place : (net : Net) (routers : ℕ) (rows : List Span) (labels : Labels) (owners : AllRoutes) (i : ℕ) (d : Atom) (r : RouterId) → net_of routers rows labels owners ≡ net → i < length rows → target_at labels r.0 i ≡ target_of_row (get_or net.atoms i d).row r
target-at-place net routers rows labels owners i d r is l = ap (λ (x : Atom). target_of_row x.row r) (atom-at-place net routers rows labels owners i d some-row is l)

-- an atom's bounds by its place
pub low-is_place : (net : Net) (routers : ℕ) (rows : List Span) (labels : Labels) (owners : AllRoutes) (i n : ℕ) (d : Atom) → net_of routers rows labels owners ≡ net → i < length rows → ((e : Span) → n ≡ (get_or rows i e).low) → n ≡ first_of (get_or net.atoms i d)
low-is_place net routers rows labels owners i n d e l is = is some-row ∙ ap (λ (x : Atom). first_of x) (atom-at-place net routers rows labels owners i d some-row e l)

pub past-is_place : (net : Net) (routers : ℕ) (rows : List Span) (labels : Labels) (owners : AllRoutes) (i n : ℕ) (d : Atom) → net_of routers rows labels owners ≡ net → i < length rows → ((e : Span) → n ≡ (get_or rows i e).past) → n ≡ past_of (get_or net.atoms i d)
past-is_place net routers rows labels owners i n d e l is = is some-row ∙ ap (λ (x : Atom). past_of x) (atom-at-place net routers rows labels owners i d some-row e l)

pub low-at-place : (net : Net) (routers : ℕ) (rows : List Span) (labels : Labels) (owners : AllRoutes) (i a : ℕ) (d : Atom) → net_of routers rows labels owners ≡ net → i < length rows → ((e : Span) → (get_or rows i e).low ≤ a) → first_of (get_or net.atoms i d) ≤ a
low-at-place net routers rows labels owners i a d e l from =
    subst (λ (x : Atom). first_of x ≤ a) (atom-at-place net routers rows labels owners i d some-row e l) (from some-row)

pub high-at-place : (net : Net) (routers : ℕ) (rows : List Span) (labels : Labels) (owners : AllRoutes) (i a : ℕ) (d : Atom) → net_of routers rows labels owners ≡ net → i < length rows → ((e : Span) → a < (get_or rows i e).past) → a < past_of (get_or net.atoms i d)
high-at-place net routers rows labels owners i a d e l to =
    subst (λ (x : Atom). a < past_of x) (atom-at-place net routers rows labels owners i d some-row e l) (to some-row)

-- ---- the first atom

first-wide : (routers n : ℕ) → n < 1 → length (targets_of (first_labels routers) n) ≡ routers
first-wide routers zero l = length-replicate routers NoRoute
first-wide routers (suc n) l = absurd (omega arith)

all-none : (routers i : ℕ) → get_or (replicate routers NoRoute) i NoRoute ≡ NoRoute
all-none routers i = ⊎_elim
    (λ (l : i < routers). get_or-replicate routers i NoRoute NoRoute l)
    (λ (l : routers ≤ i). get_or_past (replicate routers NoRoute) i NoRoute (rw length-replicate l))
    (cases_lt i routers)

first-does : (routers r a : ℕ) → does_at one_span (first_labels routers) r a ≡ NoRoute
first-does routers r a =
    let row : ForwardingRow = record { low = 0; past = 2 ^ 32; targets = replicate routers NoRoute } in
    ⊎_elim
    (λ (y : is_within 0 (2 ^ 32) a ≡ true). ap (does_in r) (holder-first row_low row_past row [] a y) ∙ all-none routers r)
    (λ (n : is_within 0 (2 ^ 32) a ≡ false). ap (does_in r) (holder-rest row_low row_past row [] a n))
    (cases_Bool (is_within 0 (2 ^ 32) a))

-- no router has a route
first-along : (routers r : ℕ) → GoAlong one_span (first_labels routers) r []
first-along routers r = record {
  table = record { keys = refl; prefixes = λ x h. absurd (contains-none x h) };
  ends = λ a l b. absurd (let f : false ≡ true = b in cc);
  does = λ a l. first-does routers r a;
}

abbrev no_route : List Route
no_route = []

no-routes : (routers r : ℕ) → r < routers → get_or (replicate routers no_route) r no_route ≡ no_route
no-routes routers r l = get_or-replicate routers r no_route no_route l

pub first-paired : (routers : ℕ) (rows : List Span) (labels : Labels) (owners : AllRoutes) → rows ≡ one_span → labels ≡ first_labels routers → owners ≡ replicate routers [] → ArePaired routers rows labels owners
first-paired routers rows labels owners one first none =
    subst (λ (rs : List Span). ArePaired routers rs labels owners) (sym one)
    (subst (λ (x : Labels). ArePaired routers one_span x owners) (sym first)
    (subst (λ (os : AllRoutes). ArePaired routers one_span (first_labels routers) os) (sym none) (record {
      labelled = record { atoms = one-spans (0 ∷ []) refl; there = refl; wide = first-wide routers };
      same_routers = refl;
      each = length-replicate routers [];
      along = λ r l. subst (λ ss. GoAlong one_span (first_labels routers) r ss) (sym (no-routes routers r l)) (first-along routers r);
    })))

no-rules : (routers a : ℕ) → owners_at (replicate routers []) a ≡ replicate routers []
no-rules zero a = refl
no-rules (suc routers) a = ap (λ (xs : List (List Rule)). [] ∷ xs) (no-rules routers a)

pub first-atoms : (routers : ℕ) (rows : List Span) (labels : Labels) (owners : AllRoutes) → rows ≡ one_span → labels ≡ first_labels routers → owners ≡ replicate routers [] → atoms_with rows labels owners ≡ first_atom routers ∷ []
first-atoms routers rows labels owners one first none =
    ap (λ (rs : List Span). atoms_with rs labels owners) one
    ∙ ap (λ (x : Atom). x ∷ []) (same-parts 0 (2 ^ 32) (targets_of labels 0) (replicate routers NoRoute) (owners_at owners 0) (replicate routers []) targets (ap (λ (os : AllRoutes). owners_at os 0) none ∙ no-rules routers 0))
  where
    targets : targets_of labels 0 ≡ replicate routers NoRoute
    targets = ap (λ (l : Labels). targets_of l 0) first

-- an atom that has an address has all routers
pub wide-at : (routers : ℕ) (xs : List Atom) (a : ℕ) (y : Atom) → AreWide routers xs → atom_at xs a ≡ Some y → IsWide routers y
wide-at routers [] a y h has = absurd (let f : None ≡ Some y = has in cc)
wide-at routers (x ∷ xs) a y h has = ⊎_elim
    (λ (u : is_within (first_of x) (past_of x) a ≡ true).
    let same : Some x ≡ Some y = sym (holder-first first_of past_of x xs a u) ∙ has in
    let one : x ≡ y = cc in
    let P : Atom → Type 0 = λ z. IsWide routers z in
    subst P one h.0)
    (λ (f : is_within (first_of x) (past_of x) a ≡ false). wide-at routers xs a y h.1 (sym (holder-rest first_of past_of x xs a f) ∙ has))
    (cases_Bool (is_within (first_of x) (past_of x) a))
