-- Where an interface stands among the ends of links and the edges, there it is found: no other has it.
use Rattle.std.proofs.Common.{◌≡◌, ℕ, ◌+◌, ◌<◌, Bool, true, false, ◌||◌, not, ◌&&◌, IfSome, List, [], ◌∷◌, ◌++◌, length, get_or, Option, Some, None, refl, ap₂, sym, subst, ◌∙◌, zero, suc, arith, inl, inr, ◌==◌, eqb-true}
use Rattle.std.specs.List.{list_any}
use Rattle.std.specs.Map.{lookup}
use Rattle.std.proofs.lemmas.Bool.{and_parts, cases_Bool, not-true, true≢false}
use Rattle.base.specs.declared.ids.RouterId.{RouterId}
use Rattle.dn_model.specs.declared.topology.RouterTable.{RouterTable}
use Rattle.dn_model.specs.declared.topology.TopoEnd.{TopoEnd}
use Rattle.dn_model.specs.declared.topology.TopoLink.{TopoLink}
use Rattle.dn_model.specs.declared.topology.Topology.{Topology}
use Rattle.dn_model.specs.declared.ports.Port.{Port}
use Rattle.dn_model.specs.declared.ports.Port.TheVariants.{Link, Edge}
use Rattle.dn_model.specs.Topology.{same_end, all_ends, device_in}
use Rattle.base.specs.Lists.{all_differ}
use Rattle.dn_model.specs.Lookup.{ports_of_links, port_of, IsPortWithin}
use Rattle.dn_model.proofs.Lookups.{lookup-edges, port_of-parts, port_within}

-- one interface stands where the other does
same-stands : (ts : List RouterTable) (a b : TopoEnd) (xs : List TopoEnd) → same_end ts a b ≡ true → list_any (same_end ts a) xs ≡ list_any (same_end ts b) xs
same-stands ts a b xs h =
    let parts = and_parts ((device_in ts a.router).0 == (device_in ts b.router).0) (a.index == b.index) h in
    ap₂ (λ (d i : ℕ). list_any (λ (x : TopoEnd). (d == (device_in ts x.router).0) && (i == x.index)) xs) (eqb-true _ _ parts.0) (eqb-true _ _ parts.1)

-- an interface that stands among the rest is none that stands nowhere among them
fresh : (ts : List RouterTable) (at x : TopoEnd) (xs : List TopoEnd) → not (list_any (same_end ts x) xs) ≡ true → list_any (same_end ts at) xs ≡ true → same_end ts at x ≡ false
fresh ts at x xs new stands =
    elim (cases_Bool (same_end ts at x)) [
      | inl here ↦ absurd (true≢false (sym stands ∙ same-stands ts at x xs here ∙ not-true _ new))
      | inr other ↦ other
    ]

-- ---- interfaces that stand somewhere

-- one end of the link is the interface
abbrev pub IsEndOf : List RouterTable → TopoEnd → TopoLink → Type 0
IsEndOf ts at l = (same_end ts at l.first || same_end ts at l.second) ≡ true

edge-stands : (ts : List RouterTable) (at : TopoEnd) (es : List TopoEnd) (k : ℕ) (d : TopoEnd) → k < length es → same_end ts at (get_or es k d) ≡ true → list_any (same_end ts at) es ≡ true
edge-stands ts at [] k d within is = absurd (omega arith)
edge-stands ts at (e ∷ es) zero d within is = rw is refl
edge-stands ts at (e ∷ es) (suc k) d within is =
    elim (cases_Bool (same_end ts at e)) [ inl here ↦ rw here refl | inr other ↦ rw other (edge-stands ts at es k d (omega arith) is) ]

any-behind : (p : TopoEnd → Bool) (xs ys : List TopoEnd) → list_any p ys ≡ true → list_any p (xs ++ ys) ≡ true
any-behind p [] ys h = h
any-behind p (x ∷ xs) ys h = elim (cases_Bool (p x)) [ inl here ↦ rw here refl | inr other ↦ rw other (any-behind p xs ys h) ]

end-stands : (ts : List RouterTable) (at : TopoEnd) (ls : List TopoLink) (es : List TopoEnd) (k : ℕ) (d : TopoLink) → k < length ls → IsEndOf ts at (get_or ls k d) → list_any (same_end ts at) (all_ends ls ++ es) ≡ true
end-stands ts at [] es k d within is = absurd (omega arith)
end-stands ts at (l ∷ ls) es zero d within is =
    elim (cases_Bool (same_end ts at l.first)) [
      | inl here ↦ rw here refl
      | inr other ↦ elim (cases_Bool (same_end ts at l.second)) [ inl there ↦ rw (other, there) refl | inr neither ↦ absurd (true≢false (sym is ∙ rw (other, neither) refl)) ]
    ]
end-stands ts at (l ∷ ls) es (suc k) d within is =
    any-behind (same_end ts at) (l.first ∷ l.second ∷ []) (all_ends ls ++ es) (end-stands ts at ls es k d (omega arith) is)

-- ---- what is found

-- the parts of a list of links and edges that all differ
record Apart (ts : List RouterTable) (l : TopoLink) (ls : List TopoLink) (es : List TopoEnd) : Type 0 where
  first : not (list_any (same_end ts l.first) (l.second ∷ all_ends ls ++ es)) ≡ true
  second : not (list_any (same_end ts l.second) (all_ends ls ++ es)) ≡ true
  rest : all_differ (same_end ts) (all_ends ls ++ es) ≡ true

apart : (ts : List RouterTable) (l : TopoLink) (ls : List TopoLink) (es : List TopoEnd) → all_differ (same_end ts) (all_ends (l ∷ ls) ++ es) ≡ true → Apart ts l ls es
apart ts l ls es differ =
    let one = and_parts (not (list_any (same_end ts l.first) (l.second ∷ all_ends ls ++ es))) (all_differ (same_end ts) (l.second ∷ all_ends ls ++ es)) differ in
    let two = and_parts (not (list_any (same_end ts l.second) (all_ends ls ++ es))) (all_differ (same_end ts) (all_ends ls ++ es)) one.1 in
    record { first = one.0; second = two.0; rest = two.1 }

-- an interface that stands behind a link is neither of its ends
record Neither (ts : List RouterTable) (at : TopoEnd) (l : TopoLink) : Type 0 where
  first : same_end ts at l.first ≡ false
  second : same_end ts at l.second ≡ false

neither : (ts : List RouterTable) (at : TopoEnd) (l : TopoLink) (ls : List TopoLink) (es : List TopoEnd) → Apart ts l ls es → list_any (same_end ts at) (all_ends ls ++ es) ≡ true → Neither ts at l
neither ts at l ls es differ stands = record {
  first = fresh ts at l.first (l.second ∷ all_ends ls ++ es) differ.first (any-behind (same_end ts at) (l.second ∷ []) (all_ends ls ++ es) stands);
  second = fresh ts at l.second (all_ends ls ++ es) differ.second stands;
}

-- what a link puts at an interface that is its first end, and what at its second
abbrev first_port : TopoLink → ℕ → Port
first_port l n = Link l.second.router (record { 0 = n }) l.unnumbered

abbrev second_port : TopoLink → ℕ → Port
second_port l n = Link l.first.router (record { 0 = n }) l.unnumbered

first_found : (ts : List RouterTable) (at : TopoEnd) (ls : List TopoLink) (es : List TopoEnd) (i k n : ℕ) (d : TopoLink) → all_differ (same_end ts) (all_ends ls ++ es) ≡ true → k < length ls → n ≡ i + k
    → same_end ts at (get_or ls k d).first ≡ true → lookup (same_end ts at) (ports_of_links i ls) ≡ Some (first_port (get_or ls k d) n)
first_found ts at [] es i k n d differ within e is = absurd (omega arith)
first_found ts at (l ∷ ls) es i zero n d differ within e is = let same : n ≡ i = omega arith in rw (is, same) refl
first_found ts at (l ∷ ls) es i (suc k) n d differ within e is =
    let parts : Apart ts l ls es = apart ts l ls es differ in
    let none : Neither ts at l = neither ts at l ls es parts (end-stands ts at ls es k d (omega arith) (rw is refl)) in
    rw (none.first, none.second) (first_found ts at ls es (i + 1) k n d parts.rest (omega arith) (omega arith) is)

second_found : (ts : List RouterTable) (at : TopoEnd) (ls : List TopoLink) (es : List TopoEnd) (i k n : ℕ) (d : TopoLink) → all_differ (same_end ts) (all_ends ls ++ es) ≡ true → k < length ls → n ≡ i + k
    → same_end ts at (get_or ls k d).first ≡ false → same_end ts at (get_or ls k d).second ≡ true → lookup (same_end ts at) (ports_of_links i ls) ≡ Some (second_port (get_or ls k d) n)
second_found ts at [] es i k n d differ within e other is = absurd (omega arith)
second_found ts at (l ∷ ls) es i zero n d differ within e other is = let same : n ≡ i = omega arith in rw (other, is, same) refl
second_found ts at (l ∷ ls) es i (suc k) n d differ within e other is =
    let parts : Apart ts l ls es = apart ts l ls es differ in
    let none : Neither ts at l = neither ts at l ls es parts (end-stands ts at ls es k d (omega arith) (rw (other, is) refl)) in
    rw (none.first, none.second) (second_found ts at ls es (i + 1) k n d parts.rest (omega arith) (omega arith) other is)

-- an edge is no end of a link
edge_only : (ts : List RouterTable) (at : TopoEnd) (ls : List TopoLink) (es : List TopoEnd) (i : ℕ) → all_differ (same_end ts) (all_ends ls ++ es) ≡ true → list_any (same_end ts at) es ≡ true
    → lookup (same_end ts at) (ports_of_links i ls) ≡ None
edge_only ts at [] es i differ stands = refl
edge_only ts at (l ∷ ls) es i differ stands =
    let parts : Apart ts l ls es = apart ts l ls es differ in
    let none : Neither ts at l = neither ts at l ls es parts (any-behind (same_end ts at) (all_ends ls) es stands) in
    rw (none.first, none.second) (edge_only ts at ls es (i + 1) parts.rest stands)

-- ---- the same of a topology

differ_in : (t : Topology) → all_differ (same_end t.tables) (all_ends t.links ++ t.edges) ≡ true
differ_in t = (and_parts _ _ t.sound).1

pub at_first : (t : Topology) (at : TopoEnd) (ls : List TopoLink) (k : ℕ) (d l : TopoLink) (port : Port) → ls ≡ t.links → k < length ls → l ≡ get_or ls k d
    → same_end t.tables at l.first ≡ true → port ≡ first_port l k → port_of t at.router at.index ≡ Some port
at_first t at ls k d l port all within e is over =
    let found : lookup (same_end t.tables at) (ports_of_links 0 ls) ≡ Some (first_port (get_or ls k d) k) =
    first_found t.tables at ls t.edges 0 k k d (rw all (differ_in t)) within (omega arith) (rw (← e) is) in
    let same : lookup (same_end t.tables at) (ports_of_links 0 t.links) ≡ Some port = rw (← all, over, e) found in
    port_of-parts t at.router at.index ∙ rw same refl

pub at_second : (t : Topology) (at : TopoEnd) (ls : List TopoLink) (k : ℕ) (d l : TopoLink) (port : Port) → ls ≡ t.links → k < length ls → l ≡ get_or ls k d
    → same_end t.tables at l.first ≡ false → same_end t.tables at l.second ≡ true → port ≡ second_port l k → port_of t at.router at.index ≡ Some port
at_second t at ls k d l port all within e other is over =
    let found : lookup (same_end t.tables at) (ports_of_links 0 ls) ≡ Some (second_port (get_or ls k d) k) =
    second_found t.tables at ls t.edges 0 k k d (rw all (differ_in t)) within (omega arith) (rw (← e) other) (rw (← e) is) in
    let same : lookup (same_end t.tables at) (ports_of_links 0 t.links) ≡ Some port = rw (← all, over, e) found in
    port_of-parts t at.router at.index ∙ rw same refl

pub at_edge : (t : Topology) (at : TopoEnd) (es : List TopoEnd) (k : ℕ) (d : TopoEnd) → es ≡ t.edges → k < length es → same_end t.tables at (get_or es k d) ≡ true
    → port_of t at.router at.index ≡ Some Edge
at_edge t at es k d all within is =
    let stands : list_any (same_end t.tables at) t.edges ≡ true = rw (← all) (edge-stands t.tables at es k d within is) in
    port_of-parts t at.router at.index ∙ rw (edge_only t.tables at t.links t.edges 0 (differ_in t) stands, lookup-edges (same_end t.tables at) t.edges, stands) refl

pub guess_within : (t : Topology) (r : RouterId) (index : ℕ) (port : Port) → port_of t r index ≡ Some port → IsPortWithin t port
guess_within t r index port is = subst (λ (o : Option Port). IfSome o (IsPortWithin t)) is (port_within t r index)
