-- What the look-up of an interface finds, list by list, and that it lies within the topology.
use Rattle.std.proofs.Common.{◌≡◌, ℕ, ◌+◌, ◌<◌, ◌≤◌, Bool, true, ◌&&◌, IfSome, List, [], ◌∷◌, ◌++◌, length, get_or, drop, map, Option, Some, None, cond, refl, arith, inl, inr}
use Rattle.std.proofs.lemmas.Bool.{and_parts, cases_Bool}
use Rattle.std.proofs.lemmas.List.{drop_more}
use Rattle.std.specs.List.{list_any, list_all}
use borrow.Author.Tests.{ltb-true}
use Rattle.std.specs.Map.{lookup}
use Rattle.std.specs.Option.{option_or}
use Rattle.base.specs.declared.ids.RouterId.{RouterId}
use Rattle.base.specs.declared.ids.LinkId.{LinkId}
use Rattle.dn_model.specs.declared.topology.TopoEnd.{TopoEnd}
use Rattle.dn_model.specs.declared.topology.TopoLink.{TopoLink}
use Rattle.dn_model.specs.declared.topology.Topology.{Topology}
use Rattle.dn_model.specs.declared.ports.Port.{Port}
use Rattle.dn_model.specs.declared.ports.Port.TheVariants.{Link, Edge}
use Rattle.base.specs.Name.{is_name_text}
use Rattle.dn_model.specs.Topology.{is_link_of, is_end_of, same_end}
use Rattle.dn_model.specs.Lookup.{ports_of_link, ports_of_links, port_of, IsPortWithin}

pub lookup-append : {K X : Type 0} (test : K → Bool) (xs ys : List (K × X)) → lookup test (xs ++ ys) ≡ option_or (lookup test xs) (lookup test ys)
lookup-append test [] ys = refl
lookup-append test (x ∷ xs) ys = elim (cases_Bool (test x.0)) [ inl here ↦ rw here | inr other ↦ rw other (lookup-append test xs ys) ]

-- one link more
pub ports_of_links-drop : (test : TopoEnd → Bool) (ls : List TopoLink) (i : ℕ) (d : TopoLink) → i < length ls
    → lookup test (ports_of_links i (drop i ls)) ≡ option_or (lookup test (ports_of_link (record { 0 = i }) (get_or ls i d))) (lookup test (ports_of_links (i + 1) (drop (i + 1) ls)))
ports_of_links-drop test ls i d within = rw (drop_more ls i d within) (lookup-append test (ports_of_link (record { 0 = i }) (get_or ls i d)) (ports_of_links (i + 1) (drop (i + 1) ls)))

pub lookup-edges : (test : TopoEnd → Bool) (es : List TopoEnd) → lookup test (map (λ e. (e, Edge)) es) ≡ cond (list_any test es) (Some Edge) None
lookup-edges test [] = refl
lookup-edges test (e ∷ es) = elim (cases_Bool (test e)) [ inl here ↦ rw here | inr other ↦ rw other (lookup-edges test es) ]

within_option : {A : Type 0} (P : A → Type 0) (x y : Option A) → IfSome x P → IfSome y P → IfSome (option_or x y) P
within_option P None y px py = py
within_option P (Some a) y px py = px

-- the router of a sound end is in the topology
end_within : (routers : ℕ) (e : TopoEnd) → is_end_of routers e ≡ true → e.router.0 < routers
end_within routers e sound = ltb-true _ _ (and_parts _ _ (and_parts _ _ sound).0).0

abbrev IsWithin : ℕ → ℕ → Port → Type 0
IsWithin routers links (Link far id unnumbered) = (far.0 < routers) × (id.0 < links)
IsWithin routers links Edge = Unit {0}

within_link : (routers links : ℕ) (test : TopoEnd → Bool) (id : LinkId) (l : TopoLink) → id.0 < links → l.first.router.0 < routers → l.second.router.0 < routers
    → IfSome (lookup test (ports_of_link id l)) (IsWithin routers links)
within_link routers links test id l low first second =
    elim (cases_Bool (test l.first)) [
      | inl at_first ↦ rw at_first (second, low)
      | inr other ↦ rw other (elim (cases_Bool (test l.second)) [ inl at_second ↦ rw at_second (first, low) | inr neither ↦ rw neither tt ])
    ]

within_links : (routers links : ℕ) (test : TopoEnd → Bool) (i : ℕ) (ls : List TopoLink) → i + length ls ≤ links → list_all (is_link_of routers) ls ≡ true
    → IfSome (lookup test (ports_of_links i ls)) (IsWithin routers links)
within_links routers links test i [] low sound = tt
within_links routers links test i (l ∷ ls) low sound =
    let here : is_link_of routers l ≡ true = (and_parts _ _ sound).0 in
    let there : list_all (is_link_of routers) ls ≡ true = (and_parts _ _ sound).1 in
    let ends : (is_name_text l.name && is_end_of routers l.first && is_end_of routers l.second) ≡ true = (and_parts _ _ here).0 in
    let first : l.first.router.0 < routers = end_within routers l.first (and_parts _ _ (and_parts _ _ ends).0).1 in
    let second : l.second.router.0 < routers = end_within routers l.second (and_parts _ _ ends).1 in
    let one = ports_of_link (record { 0 = i }) l in
    let rest = ports_of_links (i + 1) ls in
    rw (lookup-append test one rest)
    (within_option {A = Port} (IsWithin routers links) (lookup test one) (lookup test rest)
    (within_link routers links test (record { 0 = i }) l (omega arith) first second) (within_links routers links test (i + 1) ls (omega arith) there))

within_edges : (routers links : ℕ) (test : TopoEnd → Bool) (es : List TopoEnd) → IfSome (lookup test (map (λ e. (e, Edge)) es)) (IsWithin routers links)
within_edges routers links test es = rw (lookup-edges test es) (elim (cases_Bool (list_any test es)) [ inl here ↦ rw here tt | inr other ↦ rw other tt ])

same_within : (t : Topology) (o : Option Port) → IfSome o (IsWithin (length t.routers) (length t.links)) → IfSome o (IsPortWithin t)
same_within t None h = tt
same_within t (Some Edge) h = tt
same_within t (Some (Link far id unnumbered)) h = h

-- what is at an interface of a topology is in the topology
pub port_within : (t : Topology) (r : RouterId) (index : ℕ) → IfSome (port_of t r index) (IsPortWithin t)
port_within t r index =
    let at : TopoEnd = record { router = r; index = index } in
    let ends = ports_of_links 0 t.links in
    let edges : List (TopoEnd × Port) = map (λ e. (e, Edge)) t.edges in
    let sound : list_all (is_link_of (length t.routers)) t.links ≡ true = (and_parts _ _ (and_parts _ _ (and_parts _ _ (and_parts _ _ t.sound).0).0).0).1 in
    same_within t (port_of t r index)
    (rw (lookup-append (same_end t.tables at) ends edges)
    (within_option {A = Port} (IsWithin (length t.routers) (length t.links)) (lookup (same_end t.tables at) ends) (lookup (same_end t.tables at) edges)
    (within_links (length t.routers) (length t.links) (same_end t.tables at) 0 t.links (omega arith) sound) (within_edges (length t.routers) (length t.links) (same_end t.tables at) t.edges)))

-- an interface is an end of a link or else an edge
pub port_of-parts : (t : Topology) (r : RouterId) (index : ℕ)
    → port_of t r index ≡ option_or (lookup (same_end t.tables (record { router = r; index = index })) (ports_of_links 0 t.links)) (lookup (same_end t.tables (record { router = r; index = index })) (map (λ e. (e, Edge)) t.edges))
port_of-parts t r index = lookup-append (same_end t.tables (record { router = r; index = index })) (ports_of_links 0 t.links) (map (λ e. (e, Edge)) t.edges)
