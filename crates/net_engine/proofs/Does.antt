-- What atoms say of an address: a router does what stands at the place of the atom that has it, and its rules are those of its
-- routes that cover it.
use Rattle.std.proofs.Common.{◌≡◌, ℕ, ◌+◌, ◌<◌, ◌≤◌, ◌^◌, ◌∙◌, ◌||◌, ⊎_elim, suc, true, false, Option, None, Some, option_map, List, [], ◌∷◌, length, get_or, drop, map, refl, ap, sym, subst, arith, eqb}
use Rattle.std.specs.List.{Contains}
use Rattle.std.proofs.lemmas.Bool.{cases_Bool, eq-eqb, or_left, or_right}
use Rattle.std.proofs.lemmas.List.{get_or-map}
use Rattle.atom_map.specs.Spans.{AreSpans, Span, is_boundary}
use Rattle.base.specs.Cidr.{IsCidr, size}
use Rattle.dn_model.specs.Entry.{is_bound_of}
use Rattle.base.specs.Forwarding.{forwarding_at, row_low, row_past}
use Rattle.base.specs.Rows.{is_within}
use Rattle.net_engine.specs.Version.{atom_at, begins_at, first_of, past_of, rules_at, rules_in, target_at, target_in_atom}
use Rattle.dn_model.specs.declared.entry.Route.{Route}
use Rattle.base.specs.declared.forwarding_row.ForwardingRow.{ForwardingRow}
use Rattle.base.specs.declared.ids.RouterId.{RouterId}
use Rattle.dn_model.specs.declared.rule.Rule.{Rule}
use Rattle.base.specs.declared.target.Target.{Target}
use Rattle.base.proofs.Covers.{holder-first, holder-rest}
use Rattle.target_rows.specs.Labels.{Labels}
use Rattle.net_engine.specs.Paired.{ArePaired, GoAlong, atoms_with, does_at, does_in, owned, owners_at, rows_with}
use Rattle.net_engine.specs.Routed.{ends_in, rules_covering}
use Rattle.net_engine.specs.Whole.{HasEnds}
use Rattle.net_engine.proofs.Along.{alike-within}
use Rattle.net_engine.proofs.Held.{Held, Holds, held, holds}
use Rattle.net_engine.proofs.Owned.{Alike, any-of, covering-along}
use Rattle.net_engine.proofs.Standing.{AllRoutes, cover-paired, cover-rows}

-- the atom of an address is that of the row that has it
atom-owned : (owners : AllRoutes) (fs : List ForwardingRow) (a : ℕ) → atom_at (map (owned owners) fs) a ≡ option_map (owned owners) (forwarding_at fs a)
atom-owned owners [] a = refl
atom-owned owners (f ∷ fs) a = ⊎_elim
    (λ (y : is_within f.low f.past a ≡ true).
    holder-first first_of past_of (owned owners f) (map (owned owners) fs) a y
    ∙ sym (ap (option_map (owned owners)) (holder-first row_low row_past f fs a y)))
    (λ (n : is_within f.low f.past a ≡ false).
    holder-rest first_of past_of (owned owners f) (map (owned owners) fs) a n
    ∙ atom-owned owners fs a
    ∙ sym (ap (option_map (owned owners)) (holder-rest row_low row_past f fs a n)))
    (cases_Bool (is_within f.low f.past a))

pub atom-paired : (labels : Labels) (owners : AllRoutes) (rows : List Span) (a : ℕ) → atom_at (atoms_with rows labels owners) a ≡ option_map (owned owners) (forwarding_at (rows_with rows labels.rows) a)
atom-paired labels owners rows a = atom-owned owners (rows_with rows labels.rows) a

begins-owned : (owners : AllRoutes) (rows : List Span) (tss : List (List Target)) (at : ℕ) → begins_at (map (owned owners) (rows_with rows tss)) at ≡ is_boundary rows at
begins-owned owners [] tss at = refl
begins-owned owners (r ∷ rs) tss at = ap (λ b. eqb r.low at || b) (begins-owned owners rs (drop 1 tss) at)

pub begins-paired : (labels : Labels) (owners : AllRoutes) (rows : List Span) (at : ℕ) → begins_at (atoms_with rows labels owners) at ≡ is_boundary rows at
begins-paired labels owners rows at = begins-owned owners rows labels.rows at

-- targets
target-in : (owners : AllRoutes) (r : RouterId) (o : Option ForwardingRow) → target_in_atom (option_map (owned owners) o) r ≡ does_in r.0 o
target-in owners r None = refl
target-in owners r (Some row) = refl

pub target-paired : (labels : Labels) (owners : AllRoutes) (rows : List Span) (r : RouterId) (a : ℕ) → target_at (atoms_with rows labels owners) r a ≡ does_at rows labels r.0 a
target-paired labels owners rows r a = ap (λ o. target_in_atom o r) (atom-paired labels owners rows a) ∙ target-in owners r (forwarding_at (rows_with rows labels.rows) a)

-- atoms begin at the ends of a route's prefix
pub has-ends : (rows : List Span) (labels : Labels) (tables : AllRoutes) (routes : List Route) (x : Route) → ((c : ℕ) → c < 2 ^ 32 → ends_in routes c ≡ true → is_boundary rows c ≡ true) → IsCidr x.prefix → Contains routes x → HasEnds (atoms_with rows labels tables) x
has-ends rows labels tables routes x ends sound h = record {
  first = begins-paired labels tables rows x.prefix.base
      ∙ ends x.prefix.base sound.base (any-of (λ (y : Route). is_bound_of y.prefix x.prefix.base) routes x h (or_left (eqb x.prefix.base x.prefix.base) (eqb (x.prefix.base + size x.prefix) x.prefix.base) (eq-eqb x.prefix.base x.prefix.base refl)));
  past = λ l. begins-paired labels tables rows (x.prefix.base + size x.prefix)
      ∙ ends (x.prefix.base + size x.prefix) l (any-of (λ (y : Route). is_bound_of y.prefix (x.prefix.base + size x.prefix)) routes x h (or_right (eqb x.prefix.base (x.prefix.base + size x.prefix)) (eqb (x.prefix.base + size x.prefix) (x.prefix.base + size x.prefix)) (eq-eqb (x.prefix.base + size x.prefix) (x.prefix.base + size x.prefix) refl)));
}

-- the routes that cover an address cover the first one of its row
pub alike-in_row : (rows : List Span) (labels : Labels) (r : ℕ) (routes : List Route) (a : ℕ) (row : ForwardingRow) → AreSpans rows → GoAlong rows labels r routes → forwarding_at (rows_with rows labels.rows) a ≡ Some row → Alike routes a row.low
alike-in_row rows labels r routes a row h along e =
    let w : Held row_low row_past 0 a row = held row_low row_past 0 (rows_with rows labels.rows) a row (cover-rows 0 rows labels.rows h.cover) e in
    let from : row.low ≤ a = w.from in
    let to : a < row.past = w.to in
    let there : atom_at (atoms_with rows labels []) a ≡ Some (owned [] row) = atom-paired labels [] rows a ∙ ap (option_map (owned [])) e in
    alike-within (atoms_with rows labels []) routes a row.low (owned [] row) (cover-paired labels [] 0 rows h.cover) (λ x k. has-ends rows labels [] routes x along.ends (along.table.prefixes x k) k) there (omega arith) (omega arith)

-- each router's rules at an address
owners-same : (xs : AllRoutes) (a b : ℕ) → ((r : ℕ) → r < length xs → Alike (get_or xs r []) a b) → owners_at xs a ≡ owners_at xs b
owners-same [] a b same = refl
owners-same (x ∷ xs) a b same =
    ap (λ (rs : List Rule). rs ∷ owners_at xs a) (covering-along x a b (same 0 (omega arith)))
    ∙ ap (λ (zs : List (List Rule)). rules_covering x b ∷ zs) (owners-same xs a b (λ r l. same (suc r) (omega arith)))

pub owners-in_row : (routers : ℕ) (rows : List Span) (labels : Labels) (owners : AllRoutes) (a : ℕ) (row : ForwardingRow) → ArePaired routers rows labels owners → forwarding_at (rows_with rows labels.rows) a ≡ Some row → owners_at owners a ≡ owners_at owners row.low
owners-in_row routers rows labels owners a row h e = owners-same owners a row.low (λ r l. alike-in_row rows labels r (get_or owners r []) a row h.labelled.atoms (h.along r (subst (λ n. r < n) h.each l)) e)

pub rules-paired : (routers : ℕ) (rows : List Span) (labels : Labels) (owners : AllRoutes) (r : RouterId) (a : ℕ) → ArePaired routers rows labels owners → r.0 < routers → a < 2 ^ 32 → rules_at (atoms_with rows labels owners) r a ≡ rules_covering (get_or owners r.0 []) a
rules-paired routers rows labels owners r a h l b =
    let w : Holds row_low row_past (rows_with rows labels.rows) a = holds row_low row_past 0 (rows_with rows labels.rows) a (cover-rows 0 rows labels.rows h.labelled.atoms.cover) (omega arith) b in
    ap (λ o. rules_in o r) (atom-paired labels owners rows a ∙ ap (option_map (owned owners)) w.is)
    ∙ ap (λ (zs : List (List Rule)). get_or zs r.0 []) (sym (owners-in_row routers rows labels owners a w.row h w.is))
    ∙ get_or-map (λ (routes : List Route). rules_covering routes a) owners r.0 [] [] (subst (λ n. r.0 < n) (sym h.each) l)
