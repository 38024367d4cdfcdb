-- All lists of a topology's text, and the whole text.
use Rattle.std.proofs.Common.{◌≡◌, ℕ, true, List, [], ◌∷◌, ◌++◌, map, fold, Some, None, Ok, Err, sym, ap, ◌∙◌, subst}
use Rattle.std.proofs.lemmas.Option.{same_Some}
use Rattle.toml.specs.Data.{Data, Members}
use Rattle.dn_model.specs.declared.topology.RouterTable.{RouterTable}
use Rattle.dn_model.specs.declared.topology.TopoEnd.{TopoEnd}
use Rattle.dn_model.specs.declared.topology.TopoLink.{TopoLink}
use Rattle.dn_formats.specs.declared.mark.Mark.{Mark}
use Rattle.dn_formats.specs.declared.topology_fault.TopoFault.{TopoFault}
use Rattle.dn_formats.specs.declared.topology_fault.TopoPart.TheVariants as Part
use Rattle.dn_formats.specs.declared.topology_fault.TopoPart.TheVariants.{Vrf, Link, Edge, Router}
use Rattle.dn_formats.specs.declared.topology_fault.TopoRefused.{TopoRefused}
use Rattle.dn_formats.specs.declared.topology_fault.TopoRefused.TheVariants.{Fault, OutOfMemory}
use Rattle.dn_model.specs.Topology.{Parts, is_sound_topology}
use Rattle.dn_formats.specs.TopologyText.{top_causes, top_fault, faults_of, Sections, sections_of, names_with, tables_with, names_said, unmarked_tables, tables_said, marked, parts_said, parts_of, list_faults, unless_faulty, standing, faults_along, router_rows, vrf_rows, link_rows, edge_rows, mark_rows, links_said}
use Rattle.dn_formats.proofs.TopologyLinksSound.{lists_sound as said_sound}
use Rattle.topology.specs.Reading.{first_standing, first_of, IsFirstFault, SayRouters, SayVrfs, SayAllRouters, SayLinks, SayEdges, SayMarks}
use Rattle.topology.specs.declared.all_routers.Routers.{Routers}
use Rattle.topology.proofs.Runs.{none_from_first, standing-none}

-- ---- faults in order

pub first_of-front : (xs ys : List TopoFault) (refused : TopoRefused) → IsFirstFault xs refused → IsFirstFault (xs ++ ys) refused
first_of-front xs ys OutOfMemory h = tt
first_of-front [] ys (Fault f) h = cc
first_of-front (x ∷ xs) ys (Fault f) h = h

pub first_of-back : (xs ys : List TopoFault) (refused : TopoRefused) → xs ≡ [] → IsFirstFault ys refused → IsFirstFault (xs ++ ys) refused
first_of-back xs ys refused none h = let P : List TopoFault → Type 0 = λ zs. IsFirstFault (zs ++ ys) refused in subst P (sym none) h

no_faults : (xs ys : List TopoFault) → xs ≡ [] → ys ≡ [] → xs ++ ys ≡ []
no_faults xs ys one two = rw (one, two)

-- ---- devices and VRFs

pub all_routers : (lists : Sections) (devices names : List (List ℕ)) (tables : List RouterTable) → SayRouters lists.routers devices → SayVrfs devices lists.vrfs names tables
    → SayAllRouters lists (record { names = names; tables = tables })
all_routers lists devices names tables r v =
    let P : List (List ℕ) → Type 0 = λ ds. faults_along Vrf (vrf_rows ds) [] lists.vrfs ≡ [] in
    record {
      faultless = no_faults _ _ r.faultless (subst P r.said v.faultless);
      named = v.named ∙ ap (λ ds. names_with ds lists.vrfs) r.said;
      said = v.said ∙ ap (λ ds. tables_with ds lists.vrfs) r.said;
      few = v.few;
    }

-- ---- all lists

-- what is said over these routers is said over those that the lists say
links_over : (names all : List (List ℕ)) (ts us : List RouterTable) (es : List Data) (ls : List TopoLink) → names ≡ all → ts ≡ us → SayLinks names ts es ls → SayLinks all us es ls
links_over names all ts us es ls one two h =
    let P : List (List ℕ) → Type 0 = λ n. SayLinks n us es ls in
    let Q : List RouterTable → Type 0 = λ t. SayLinks names t es ls in
    subst P one (subst Q two h)

edges_over : (names all : List (List ℕ)) (ts us : List RouterTable) (ls ks : List TopoLink) (es : List Data) (xs : List TopoEnd) → names ≡ all → ts ≡ us → ls ≡ ks
    → SayEdges names ts ls es xs → SayEdges all us ks es xs
edges_over names all ts us ls ks es xs one two three h =
    let P : List (List ℕ) → Type 0 = λ n. SayEdges n us ks es xs in
    let Q : List RouterTable → Type 0 = λ t. SayEdges names t ks es xs in
    let R : List TopoLink → Type 0 = λ l. SayEdges names ts l es xs in
    subst P one (subst Q two (subst R three h))

marks_over : (names all : List (List ℕ)) (es : List Data) (ms : List Mark) → names ≡ all → SayMarks names es ms → SayMarks all es ms
marks_over names all es ms one h =
    let P : List (List ℕ) → Type 0 = λ n. SayMarks n es ms in
    subst P one h

-- what all lists say: what is read of each
pub record SayAll (lists : Sections) (all : Routers) (links : List TopoLink) (edges : List TopoEnd) (marks : List Mark) : Type 0 where
  pub routers : SayAllRouters lists all
  pub links_said : SayLinks all.names all.tables lists.links links
  pub edges_said : SayEdges all.names all.tables links lists.edges edges
  pub marks_said : SayMarks all.names lists.marks marks

-- the same over the routers that the lists say
record SaidAll (lists : Sections) (links : List TopoLink) (edges : List TopoEnd) (marks : List Mark) : Type 0 where
  links_are : SayLinks (names_said lists) (unmarked_tables lists) lists.links links
  edges_are : SayEdges (names_said lists) (unmarked_tables lists) (links_said (names_said lists) lists.links) lists.edges edges
  marks_are : SayMarks (names_said lists) lists.marks marks

said_all : (lists : Sections) (all : Routers) (links : List TopoLink) (edges : List TopoEnd) (marks : List Mark) → SayAll lists all links edges marks → SaidAll lists links edges marks
said_all lists all links edges marks h =
    let l : SayLinks (names_said lists) (unmarked_tables lists) lists.links links =
    links_over all.names (names_said lists) all.tables (unmarked_tables lists) lists.links links h.routers.named h.routers.said h.links_said in
    record {
      links_are = l;
      edges_are = edges_over all.names (names_said lists) all.tables (unmarked_tables lists) links (links_said (names_said lists) lists.links) lists.edges edges
          h.routers.named h.routers.said l.said h.edges_said;
      marks_are = marks_over all.names (names_said lists) lists.marks marks h.routers.named h.marks_said;
    }

pub lists_faultless : (lists : Sections) (all : Routers) (links : List TopoLink) (edges : List TopoEnd) (marks : List Mark) → SayAll lists all links edges marks → list_faults lists ≡ []
lists_faultless lists all links edges marks h =
    let s : SaidAll lists links edges marks = said_all lists all links edges marks h in
    no_faults _ _ (no_faults _ _ (no_faults _ _ h.routers.faultless s.links_are.faultless) s.edges_are.faultless) s.marks_are.faultless

abbrev made : List (List ℕ) → List RouterTable → List TopoLink → List TopoEnd → Parts
made routers tables links edges = record { routers = routers; tables = tables; links = links; edges = edges }

same_parts : (rs xs : List (List ℕ)) (ts us : List RouterTable) (ls ks : List TopoLink) (es fs : List TopoEnd) → rs ≡ xs → ts ≡ us → ls ≡ ks → es ≡ fs → made rs ts ls es ≡ made xs us ks fs
same_parts rs xs ts us ls ks es fs one two three four = cc

pub lists_said : (lists : Sections) (all : Routers) (links : List TopoLink) (edges : List TopoEnd) (marks : List Mark) → SayAll lists all links edges marks
    → made all.names (fold marked all.tables marks) links edges ≡ parts_said lists
lists_said lists all links edges marks h =
    let s : SaidAll lists links edges marks = said_all lists all links edges marks h in
    let tables : fold marked all.tables marks ≡ tables_said lists =
    ap (λ ts. fold marked ts marks) h.routers.said ∙ ap (fold marked (unmarked_tables lists)) s.marks_are.said in
    same_parts _ _ _ _ _ _ _ _ h.routers.named tables s.links_are.said s.edges_are.said

pub lists_sound : (lists : Sections) (all : Routers) (links : List TopoLink) (edges : List TopoEnd) (marks : List Mark) → SayAll lists all links edges marks
    → is_sound_topology (made all.names (fold marked all.tables marks) links edges) ≡ true
lists_sound lists all links edges marks h =
    let P : Parts → Type 0 = λ q. is_sound_topology q ≡ true in
    subst P (sym (lists_said lists all links edges marks h)) (said_sound lists (lists_faultless lists all links edges marks h))

-- ---- refusals

pub lists_refused-routers : (lists : Sections) (refused : TopoRefused) → IsFirstFault (faults_along Part.Routers router_rows [] lists.routers) refused → IsFirstFault (list_faults lists) refused
lists_refused-routers lists refused h =
    first_of-front _ _ refused (first_of-front _ _ refused (first_of-front _ _ refused (first_of-front _ _ refused h)))

pub lists_refused-vrfs : (lists : Sections) (devices : List (List ℕ)) (refused : TopoRefused) → SayRouters lists.routers devices
    → IsFirstFault (faults_along Vrf (vrf_rows devices) [] lists.vrfs) refused → IsFirstFault (list_faults lists) refused
lists_refused-vrfs lists devices refused r h =
    let P : List (List ℕ) → Type 0 = λ ds. IsFirstFault (faults_along Vrf (vrf_rows ds) [] lists.vrfs) refused in
    first_of-front _ _ refused (first_of-front _ _ refused (first_of-front _ _ refused (first_of-back _ _ refused r.faultless (subst P r.said h))))

pub lists_refused-links : (lists : Sections) (all : Routers) (refused : TopoRefused) → SayAllRouters lists all
    → IsFirstFault (faults_along Link (link_rows all.names all.tables) [] lists.links) refused → IsFirstFault (list_faults lists) refused
lists_refused-links lists all refused r h =
    let P : List (List ℕ) → Type 0 = λ n. IsFirstFault (faults_along Link (link_rows n (unmarked_tables lists)) [] lists.links) refused in
    let Q : List RouterTable → Type 0 = λ t. IsFirstFault (faults_along Link (link_rows all.names t) [] lists.links) refused in
    first_of-front _ _ refused (first_of-front _ _ refused (first_of-back _ _ refused r.faultless (subst P r.named (subst Q r.said h))))

pub lists_refused-edges : (lists : Sections) (all : Routers) (links : List TopoLink) (refused : TopoRefused) → SayAllRouters lists all → SayLinks all.names all.tables lists.links links
    → IsFirstFault (faults_along Edge (edge_rows all.names all.tables links) [] lists.edges) refused → IsFirstFault (list_faults lists) refused
lists_refused-edges lists all links refused r l h =
    let over : SayLinks (names_said lists) (unmarked_tables lists) lists.links links =
    links_over all.names (names_said lists) all.tables (unmarked_tables lists) lists.links links r.named r.said l in
    let P : List (List ℕ) → Type 0 = λ n. IsFirstFault (faults_along Edge (edge_rows n (unmarked_tables lists) (links_said (names_said lists) lists.links)) [] lists.edges) refused in
    let Q : List RouterTable → Type 0 = λ t. IsFirstFault (faults_along Edge (edge_rows all.names t (links_said (names_said lists) lists.links)) [] lists.edges) refused in
    let R : List TopoLink → Type 0 = λ k. IsFirstFault (faults_along Edge (edge_rows all.names all.tables k) [] lists.edges) refused in
    first_of-front _ _ refused
    (first_of-back _ _ refused (no_faults _ _ r.faultless over.faultless) (subst P r.named (subst Q r.said (subst R over.said h))))

pub lists_refused-marks : (lists : Sections) (all : Routers) (links : List TopoLink) (edges : List TopoEnd) (refused : TopoRefused) → SayAllRouters lists all
    → SayLinks all.names all.tables lists.links links → SayEdges all.names all.tables links lists.edges edges
    → IsFirstFault (faults_along Router (mark_rows all.names) [] lists.marks) refused → IsFirstFault (list_faults lists) refused
lists_refused-marks lists all links edges refused r l e h =
    let over : SayLinks (names_said lists) (unmarked_tables lists) lists.links links =
    links_over all.names (names_said lists) all.tables (unmarked_tables lists) lists.links links r.named r.said l in
    let ends : SayEdges (names_said lists) (unmarked_tables lists) (links_said (names_said lists) lists.links) lists.edges edges =
    edges_over all.names (names_said lists) all.tables (unmarked_tables lists) links (links_said (names_said lists) lists.links) lists.edges edges r.named r.said over.said e in
    let P : List (List ℕ) → Type 0 = λ n. IsFirstFault (faults_along Router (mark_rows n) [] lists.marks) refused in
    first_of-back _ _ refused (no_faults _ _ (no_faults _ _ r.faultless over.faultless) ends.faultless) (subst P r.named h)

-- ---- the whole

-- a refusal by the first of the faults
pub said_refused : (faults : List TopoFault) (said : Parts) (f : TopoFault) → first_of faults ≡ Some f → unless_faulty faults said ≡ Err f
said_refused [] said f e = cc
said_refused (x ∷ more) said f e = ap Err (same_Some _ _ e)

-- a document with no cause at the top is refused for its lists
pub document_refused : (doc : Members) (lists : Sections) (refused : TopoRefused) → first_standing top_causes doc ≡ None → lists ≡ sections_of doc
    → IsFirstFault (list_faults lists) refused → IsFirstFault (faults_of doc) refused
document_refused doc lists refused none is h =
    let P : Sections → Type 0 = λ s. IsFirstFault (list_faults s) refused in
    first_of-back (map top_fault (standing top_causes doc)) (list_faults (sections_of doc)) refused
    (ap (map top_fault) (standing-none top_causes doc (none_from_first top_causes doc none))) (subst P is h)

-- a document with no cause at the top, whose lists have no fault, says what they say
pub document_said : (doc : Members) (lists : Sections) (p : Parts) → first_standing top_causes doc ≡ None → lists ≡ sections_of doc → list_faults lists ≡ [] → p ≡ parts_said lists
    → unless_faulty (faults_of doc) (parts_of doc) ≡ Ok p
document_said doc lists p none is faultless said =
    let P : Sections → Type 0 = λ s. list_faults s ≡ [] in
    let all : faults_of doc ≡ [] =
    no_faults (map top_fault (standing top_causes doc)) (list_faults (sections_of doc))
    (ap (map top_fault) (standing-none top_causes doc (none_from_first top_causes doc none))) (subst P is faultless) in
    ap (λ fs. unless_faulty fs (parts_of doc)) all ∙ ap Ok (sym (said ∙ ap parts_said is))
