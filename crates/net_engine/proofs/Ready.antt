-- Where an update puts a route atoms begin at the ends of its prefix, once they were cut there where the prefix is new to the
-- routers that were looked at.
use Rattle.std.proofs.Common.{◌≡◌, ℕ, ◌+◌, ◌<◌, ◌≤◌, ◌^◌, ◌∙◌, ◌||◌, ⊎_elim, Bool, true, false, suc, eqb, List, [], ◌∷◌, length, get_or, refl, sym, subst, arith}
use Rattle.std.specs.List.{Contains, list_any}
use Rattle.std.proofs.lemmas.Bool.{and_parts, cases_lt, eqb-true, or_cases}
use Rattle.atom_map.specs.Spans.{Span}
use Rattle.base.specs.Cidr.{Cidr, size}
use Rattle.base.specs.Delta.{TellsChange, change_at}
use Rattle.base.specs.declared.change.Change.{Change}
use Rattle.base.specs.declared.ids.RouterId.{RouterId}
use Rattle.dn_model.specs.Entry.{is_bound_of}
use Rattle.dn_model.specs.Table.{is_of_prefix, prefix_of_op}
use Rattle.dn_model.specs.declared.entry.Route.{Route}
use Rattle.dn_model.specs.declared.table_op.TableOp.{TableOp}
use Rattle.dn_model.specs.declared.table_op.TableOp.TheVariants.{Put, Clear}
use Rattle.route_table.specs.Own.{TellsNew, is_held}
use Rattle.target_rows.specs.Labels.{Labels}
use Rattle.net_engine.specs.Cuts.{AreEndsCut, AreEndsCutIf}
use Rattle.net_engine.specs.Looks.{atoms_met, atoms_put, more_at, more_at_ends}
use Rattle.net_engine.specs.Paired.{ArePaired, GoAlong, atoms_with}
use Rattle.net_engine.specs.Updates.{IsPut, puts_end}
use Rattle.net_engine.specs.Version.{Atom, begins_at, target_at}
use Rattle.net_engine.specs.Walked.{AreUpdated, BeginsAtEnds, IsParted, IsRetold}
use Rattle.net_engine.specs.Whole.{HasEnds}
use Rattle.net_engine.proofs.Does.{has-ends}
use Rattle.net_engine.proofs.Looking.{more-begun, more-past}
use Rattle.net_engine.proofs.Parting.{parted-ends}
use Rattle.net_engine.proofs.Rerouting.{any-one}
use Rattle.net_engine.proofs.Standing.{AllRoutes}

-- ---- where a router has a route of a prefix

-- one of the routers that has
table-one : (p : Cidr) (tables : AllRoutes) → is_held tables p ≡ true → (r : ℕ) × (r < length tables) × (list_any (is_of_prefix p) (get_or tables r []) ≡ true)
table-one p [] t = absurd (let f : false ≡ true = t in cc)
table-one p (routes ∷ more) t = ⊎_elim
    (λ (h : list_any (is_of_prefix p) routes ≡ true). (0, omega arith, h))
    (λ (h : is_held more p ≡ true).
    let v : (r : ℕ) × (r < length more) × (list_any (is_of_prefix p) (get_or more r []) ≡ true) = table-one p more h in
    let w : v.0 < length more = v.1 in
    (suc v.0, omega arith, v.2))
    (or_cases (list_any (is_of_prefix p) routes) (is_held more p) t)

-- atoms begin at the prefix's ends
held-ends : (routers : ℕ) (rows : List Span) (x : Labels) (tables : AllRoutes) (p : Cidr) → ArePaired routers rows x tables → is_held tables p ≡ true → BeginsAtEnds (atoms_with rows x tables) p
held-ends routers rows x tables p h held =
    let v : (r : ℕ) × (r < length tables) × (list_any (is_of_prefix p) (get_or tables r []) ≡ true) = table-one p tables held in
    let along : GoAlong rows x v.0 (get_or tables v.0 []) = h.along v.0 (subst (λ n. v.0 < n) h.each v.1) in
    let w : (y : Route) × Contains (get_or tables v.0 []) y × (is_of_prefix p y ≡ true) = any-one (is_of_prefix p) (get_or tables v.0 []) v.2 in
    let ends : HasEnds (atoms_with rows x tables) w.0 = has-ends rows x tables (get_or tables v.0 []) w.0 along.ends (along.table.prefixes w.0 w.1) w.1 in
    let parts : (eqb w.0.prefix.base p.base ≡ true) × (eqb w.0.prefix.len p.len ≡ true) = and_parts (eqb w.0.prefix.base p.base) (eqb w.0.prefix.len p.len) w.2 in
    let base : w.0.prefix.base ≡ p.base = eqb-true w.0.prefix.base p.base parts.0 in
    let len : w.0.prefix.len ≡ p.len = eqb-true w.0.prefix.len p.len parts.1 in
    let E : ℕ → ℕ → Type 0 = λ b l. BeginsAtEnds (atoms_with rows x tables) (record { base = b; len = l }) in
    subst (E p.base) len (subst (λ b. E b w.0.prefix.len) base (record { first = ends.first; past = ends.past }))

end-begins : (atoms : List Atom) (p : Cidr) (a : ℕ) → BeginsAtEnds atoms p → a < 2 ^ 32 → is_bound_of p a ≡ true → begins_at atoms a ≡ true
end-begins atoms p a ends l e = ⊎_elim
    (λ (b : eqb p.base a ≡ true). subst (λ n. begins_at atoms n ≡ true) (eqb-true p.base a b) ends.first)
    (λ (b : eqb (p.base + size p) a ≡ true).
    let at : p.base + size p ≡ a = eqb-true (p.base + size p) a b in
    subst (λ n. begins_at atoms n ≡ true) at (ends.past (omega arith)))
    (or_cases (eqb p.base a) (eqb (p.base + size p) a) e)

or-held : (x y : Bool) → (y ≡ true → x ≡ true) → x ≡ (x || y)
or-held true y f = refl
or-held false true f = f refl
or-held false false f = refl

none-more : (atoms : List Atom) (p : Cidr) → BeginsAtEnds atoms p → more_at_ends atoms p ≡ 0
none-more atoms p ends =
    let first : more_at atoms p.base ≡ 0 = more-begun atoms p.base ends.first in
    let past : more_at atoms (p.base + size p) ≡ 0 = ⊎_elim
    (λ (l : p.base + size p < 2 ^ 32). more-begun atoms (p.base + size p) (ends.past l))
    (λ (l : 2 ^ 32 ≤ p.base + size p). more-past atoms (p.base + size p) l)
    (cases_lt (p.base + size p) (2 ^ 32)) in
    omega arith

-- ---- what stands before routers are told of an update

pub record IsReady (routers : ℕ) (rows new : List Span) (x y : Labels) (tables : AllRoutes) (op : TableOp) : Type 0 where
  pub paired : ArePaired routers new y tables
  pub ends : IsPut op → BeginsAtEnds (atoms_with new y tables) (prefix_of_op op)
  pub begins : (a : ℕ) → a < 2 ^ 32 → begins_at (atoms_with new y tables) a ≡ (begins_at (atoms_with rows x tables) a || puts_end a op)
  pub targets : (r : RouterId) (a : ℕ) → a < 2 ^ 32 → target_at (atoms_with new y tables) r a ≡ target_at (atoms_with rows x tables) r a
  pub more : length (atoms_with new y tables) ≡ length (atoms_with rows x tables) + atoms_put (atoms_with rows x tables) op
  pub met : atoms_met (atoms_with new y tables) (prefix_of_op op) ≡ atoms_met (atoms_with rows x tables) (prefix_of_op op)

or-never : (b : Bool) → b ≡ (b || false)
or-never true = refl
or-never false = refl

-- where nothing is cut
ready-same : (routers : ℕ) (rows : List Span) (x : Labels) (tables : AllRoutes) (op : TableOp) → ArePaired routers rows x tables → TellsNew tables op false → IsReady routers rows rows x x tables op
ready-same routers rows x tables (Put p m w) h held =
    let ends : BeginsAtEnds (atoms_with rows x tables) p = held-ends routers rows x tables p h held in
    let none : more_at_ends (atoms_with rows x tables) p ≡ 0 = none-more (atoms_with rows x tables) p ends in
    record {
      paired = h;
      ends = λ u. ends;
      begins = λ a l. or-held (begins_at (atoms_with rows x tables) a) (is_bound_of p a) (end-begins (atoms_with rows x tables) p a ends l);
      targets = λ r a l. refl;
      more = omega arith;
      met = refl;
    }
ready-same routers rows x tables (Clear p m) h held = record {
  paired = h;
  ends = λ u. absurd u;
  begins = λ a l. or-never (begins_at (atoms_with rows x tables) a);
  targets = λ r a l. refl;
  more = omega arith;
  met = refl;
}

ready-cut : (routers : ℕ) (rows new : List Span) (x y : Labels) (tables : AllRoutes) (op : TableOp) → ArePaired routers rows x tables → TellsNew tables op true → AreEndsCut rows new x y (prefix_of_op op) → IsReady routers rows new x y tables op
ready-cut routers rows new x y tables (Put p m w) h t c =
    let k : IsParted (atoms_with rows x tables) (atoms_with new y tables) p = c.parted routers tables h in
    record {
      paired = c.paired routers tables h;
      ends = λ u. parted-ends (atoms_with rows x tables) (atoms_with new y tables) p c.sound k;
      begins = k.begins;
      targets = k.targets;
      more = k.more;
      met = k.met;
    }
ready-cut routers rows new x y tables (Clear p m) h t c = absurd t

pub ready : (routers : ℕ) (rows new : List Span) (x y : Labels) (tables : AllRoutes) (op : TableOp) (is_new : Bool) (p : Cidr) → ArePaired routers rows x tables → p ≡ prefix_of_op op → TellsNew tables op is_new → AreEndsCutIf is_new rows new x y p → IsReady routers rows new x y tables op
ready routers rows new x y tables op true p h is t c = ready-cut routers rows new x y tables op h t (subst (λ (q : Cidr). AreEndsCut rows new x y q) is c)
ready routers rows new x y tables op false p h is t c =
    subst (λ (zs : List Span). IsReady routers rows zs x y tables op) (sym c.0)
    (subst (λ (z : Labels). IsReady routers rows rows x z tables op) (sym c.1) (ready-same routers rows x tables op h t))

-- and after it
pub updated : (routers : ℕ) (rows new : List Span) (x y z : Labels) (tables made : AllRoutes) (op : TableOp) (changes : List Change) → IsReady routers rows new x y tables op → IsRetold (atoms_with new y tables) (atoms_with new z made) changes → AreUpdated (atoms_with rows x tables) (atoms_with new z made) op changes
updated routers rows new x y z tables made op changes h told = record {
  begins = λ a l. told.begins a ∙ h.begins a l;
  form = told.form;
  tells = λ q a l. subst (λ t. TellsChange t (target_at (atoms_with new z made) q a) (change_at changes q a)) (h.targets q a l) (told.tells q a l);
  added = told.long ∙ h.more;
  met = told.met (prefix_of_op op).base ((prefix_of_op op).base + size (prefix_of_op op)) ∙ h.met;
}
