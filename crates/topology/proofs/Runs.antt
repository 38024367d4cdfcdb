-- The entries of a topology's text, one after the other.
use Rattle.std.proofs.Common.{◌≡◌, ℕ, ◌+◌, ◌<◌, ◌≤◌, Bool, true, false, cond, List, [], ◌∷◌, ◌++◌, length, get_or, take, drop, map, filter, Option, Some, None, is_none, option_map, refl, sym, ap, ◌∙◌, subst, arith, lit≤, append_assoc, length-append}
use Rattle.std.proofs.lemmas.Bool.{true≢false, leb-false}
use Rattle.std.proofs.lemmas.List.{append-nil, drop_more, take_more, take_all, drop_all, length-map}
use Rattle.std.proofs.Math.ListN.{get_or-map}
use Rattle.toml.specs.declared.value.Value.{Value}
use Rattle.toml.specs.View.{view}
use Rattle.std.proofs.lemmas.List.Elements.{filter_map-append}
use Rattle.std.specs.List.{filter_map, cons_option}
use Rattle.std.specs.Option.{option_to_list}
use Rattle.toml.specs.Data.{Data, as_str}
use Rattle.dn_model.specs.declared.topology.Replace.TheVariants.{Key}
use Rattle.dn_model.specs.declared.topology.RouterTable.{RouterTable}
use Rattle.dn_model.specs.declared.topology.TopoEnd.{TopoEnd}
use Rattle.dn_model.specs.declared.topology.TopoLink.{TopoLink}
use Rattle.dn_formats.specs.declared.topology_fault.TopoFault.{TopoFault}
use Rattle.dn_formats.specs.declared.topology_fault.TopoPart.{TopoPart}
use Rattle.dn_formats.specs.declared.topology_fault.TopoPart.TheVariants.{Routers, Link, Edge}
use Rattle.dn_formats.specs.declared.topology_fault.TopoRefused.{TopoRefused}
use Rattle.dn_formats.specs.declared.topology_fault.TopoRefused.TheVariants.{Fault, OutOfMemory}
use Rattle.dn_model.specs.Topology.{all_ends}
use Rattle.dn_formats.specs.TopologyText.{main_tables_from, main_tables, standing, faults_along, router_causes, link_causes, edge_causes, router_rows, link_rows, edge_rows, routers_said, links_said, edges_said, link_of_entry, end_of_entry}
use Rattle.dn_formats.proofs.TopologySound.{NoneStands, AreRouters, router_next}
use Rattle.dn_formats.proofs.TopologyLinksSound.{AreLinks, link_next}
use Rattle.topology.specs.Reading.{first_standing, fault_at, IsRefusalAt, first_of, IsFirstFault, SayRouters, SayLinks, SayEdges}

-- ---- one entry

row_below : (here : Bool) (cause : ℕ) (rest : Option ℕ) → cond here (Some cause) rest ≡ None → (here ≡ false) × (rest ≡ None)
row_below true cause rest e = cc
row_below false cause rest e = (refl, e)

-- where no row is the first that stands, none stands
pub none_from_first : {A : Type 0} (rows : List (ℕ × (A → Bool))) (x : A) → first_standing rows x ≡ None → NoneStands rows x
none_from_first [] x e = tt
none_from_first (row ∷ rows) x e =
    let parts = row_below (row.1 x) row.0 (first_standing rows x) e in
    (parts.0, none_from_first rows x parts.1)

-- and the list of causes is empty
pub standing-none : {A : Type 0} (rows : List (ℕ × (A → Bool))) (x : A) → NoneStands rows x → standing rows x ≡ []
standing-none [] x h = refl
standing-none (row ∷ rows) x h = rw h.0 (standing-none rows x h.1)

map_or : {A B : Type 0} (f : A → B) (here : Bool) (xs ys : List A) → map f (cond here xs ys) ≡ cond here (map f xs) (map f ys)
map_or f true xs ys = refl
map_or f false xs ys = refl

-- the first of a list of causes, as a fault
first_at : (part : TopoPart) (entry : ℕ) → List ℕ → Option TopoFault → Option TopoFault
first_at part entry [] rest = rest
first_at part entry (cause ∷ more) rest = Some (fault_at part entry cause)

first_of_row : (part : TopoPart) (entry : ℕ) (here : Bool) (row : ℕ × (Data → Bool)) (rows : List (ℕ × (Data → Bool))) (others : List TopoFault) (c : Option ℕ) (f : TopoFault)
    → (option_map (fault_at part entry) c ≡ Some f → first_of (map (fault_at part entry) (map (λ r. r.0) rows) ++ others) ≡ Some f)
    → option_map (fault_at part entry) (cond here (Some row.0) c) ≡ Some f
    → first_of (map (fault_at part entry) (map (λ r. r.0) (cond here (row ∷ rows) rows)) ++ others) ≡ Some f
first_of_row part entry true row rows others c f go e = e
first_of_row part entry false row rows others c f go e = go e

-- the fault of the first row that stands is the first of an entry's faults
first_of_standing : (part : TopoPart) (entry : ℕ) (rows : List (ℕ × (Data → Bool))) (x : Data) (others : List TopoFault) (f : TopoFault)
    → option_map (fault_at part entry) (first_standing rows x) ≡ Some f → first_of (map (fault_at part entry) (standing rows x) ++ others) ≡ Some f
first_of_standing part entry [] x others f e = cc
first_of_standing part entry (row ∷ rows) x others f e =
    first_of_row part entry (row.1 x) row (filter (λ r. r.1 x) rows) others (first_standing rows x) f (first_of_standing part entry rows x others f) e

cons_option-nil : {A : Type 0} (o : Option A) → cons_option o [] ≡ option_to_list o
cons_option-nil None = refl
cons_option-nil (Some x) = refl

-- ---- a list of entries

-- the faults of all entries are those of the entries that are left
pub record Left (part : TopoPart) (causes : List Data → List (ℕ × (Data → Bool))) (all : List Data) (i : ℕ) : Type 0 where
  pub same : faults_along part causes [] all ≡ faults_along part causes (take i all) (drop i all)

pub left_more : (part : TopoPart) (causes : List Data → List (ℕ × (Data → Bool))) (all : List Data) (i : ℕ) (d : Data) → i < length all → Left part causes all i
    → NoneStands (causes (take i all)) (get_or all i d) → Left part causes all (i + 1)
unfolding faults_along
left_more part causes all i d within left none =
    record {
      same = left.same ∙ rw (drop_more all i d within, take_more all i d within, standing-none (causes (take i all)) (get_or all i d) none);
    }

pub left_refused : (part : TopoPart) (causes : List Data → List (ℕ × (Data → Bool))) (all : List Data) (i : ℕ) (d : Data) (refused : TopoRefused) → i < length all → Left part causes all i
    → IsRefusalAt part (length (take i all) + 1) (first_standing (causes (take i all)) (get_or all i d)) refused → IsFirstFault (faults_along part causes [] all) refused
unfolding faults_along
left_refused part causes all i d OutOfMemory within left here = tt
left_refused part causes all i d (Fault f) within left here =
    rw (left.same, drop_more all i d within)
    (first_of_standing part (length (take i all) + 1) (causes (take i all)) (get_or all i d) (faults_along part causes (take i all ++ get_or all i d ∷ []) (drop (i + 1) all)) f here)

pub left_none : (part : TopoPart) (causes : List Data → List (ℕ × (Data → Bool))) (all : List Data) (i : ℕ) → length all ≤ i → Left part causes all i → faults_along part causes [] all ≡ []
unfolding faults_along
left_none part causes all i past left = left.same ∙ rw (drop_all i all past)

-- one more entry, and what it says
pub said_more : {A : Type 0} (h : Data → Option A) (es : List Data) (x : Data) → filter_map h (es ++ x ∷ []) ≡ filter_map h es ++ option_to_list (h x)
said_more h es x = filter_map-append h es (x ∷ []) ∙ ap (λ more. filter_map h es ++ more) (cons_option-nil (h x))

-- an entry at which no row stands says something
pub one_said : {A : Type 0} (xs new : List A) (x : Option A) → is_none x ≡ false → new ≡ xs ++ option_to_list x → length new ≡ length xs + 1
one_said xs new None there pushed = absurd (true≢false there)
one_said xs new (Some x) there pushed = ap length pushed ∙ length-append xs (x ∷ [])

-- the fault of a cause is the refusal
pub refusal_is : (part : TopoPart) (entry : ℕ) (cause : ℕ) (first : Option ℕ) (refused : TopoRefused) → refused ≡ Fault (fault_at part entry cause) → first ≡ Some cause → IsRefusalAt part entry first refused
refusal_is part entry cause first refused is stands =
    let P : TopoRefused → Type 0 = λ r. IsRefusalAt part entry first r in
    subst P (sym is) (ap (option_map (fault_at part entry)) stands)

-- the entry at a place, as data
pub item_is : (vs : List Value) (i : ℕ) (v : Value) → v ≡ get_or vs i v → get_or (map view vs) i (view v) ≡ view v
item_is vs i v e = get_or-map view vs i v ∙ ap view (sym e)

pub item_within : (vs : List Value) (i : ℕ) → i < length vs → i < length (map view vs)
item_within vs i h = rw length-map h

-- ---- routers

pub record RoutersSoFar (all : List Data) (i : ℕ) (names : List (List ℕ)) : Type 0 where
  pub left : Left Routers router_rows all i
  pub said : names ≡ routers_said (take i all)
  pub sound : AreRouters (take i all)

pub routers_start : (all : List Data) → RoutersSoFar all 0 []
routers_start all = record { left = record { same = refl }; said = refl; sound = record { few = lit≤ tt; as_many = refl; names = refl; differ = refl } }

pub router_rows-so_far : (all : List Data) (i : ℕ) (names : List (List ℕ)) → RoutersSoFar all i names → router_rows (take i all) ≡ router_causes (length names) names
router_rows-so_far all i names far = rw (far.said, far.sound.as_many)

pub routers_few : (all : List Data) (i : ℕ) (names : List (List ℕ)) → RoutersSoFar all i names → length names ≤ 1024
routers_few all i names far =
    let same : length names ≡ length (take i all) = ap length far.said ∙ far.sound.as_many in
    let few : length (take i all) ≤ 1024 = far.sound.few in
    omega arith

pub routers_more : (all : List Data) (i : ℕ) (names new : List (List ℕ)) (d : Data) → i < length all → RoutersSoFar all i names
    → first_standing (router_causes (length names) names) (get_or all i d) ≡ None → new ≡ names ++ option_to_list (as_str (get_or all i d)) → RoutersSoFar all (i + 1) new
routers_more all i names new d within far none pushed =
    let rows : NoneStands (router_rows (take i all)) (get_or all i d) =
    none_from_first (router_rows (take i all)) (get_or all i d) (ap (λ rows. first_standing rows (get_or all i d)) (router_rows-so_far all i names far) ∙ none) in
    record {
      left = left_more Routers router_rows all i d within far.left rows;
      said = rw (pushed, take_more all i d within, far.said) (sym (said_more as_str (take i all) (get_or all i d)));
      sound = rw (take_more all i d within) (router_next (take i all) (get_or all i d) far.sound rows);
    }

pub routers_refused : (all : List Data) (i : ℕ) (names : List (List ℕ)) (d : Data) (refused : TopoRefused) → i < length all → RoutersSoFar all i names
    → IsRefusalAt Routers (length names + 1) (first_standing (router_causes (length names) names) (get_or all i d)) refused → IsFirstFault (faults_along Routers router_rows [] all) refused
routers_refused all i names d refused within far here =
    let same : length names ≡ length (take i all) = ap length far.said ∙ far.sound.as_many in
    let P : ℕ → Type 0 = λ n. IsRefusalAt Routers (n + 1) (first_standing (router_causes (length names) names) (get_or all i d)) refused in
    let Q : List (ℕ × (Data → Bool)) → Type 0 = λ rows. IsRefusalAt Routers (length (take i all) + 1) (first_standing rows (get_or all i d)) refused in
    left_refused Routers router_rows all i d refused within far.left (subst Q (sym (router_rows-so_far all i names far)) (subst P same here))

pub routers_done : (all : List Data) (i : ℕ) (names : List (List ℕ)) → length all ≤ i → RoutersSoFar all i names → SayRouters all names
routers_done all i names past far =
    record {
      faultless = left_none Routers router_rows all i past far.left;
      said = far.said ∙ ap routers_said (take_all i all past);
      few = routers_few all i names far;
    }

-- ---- links

pub record LinksSoFar (routers : List (List ℕ)) (tables : List RouterTable) (all : List Data) (i : ℕ) (links : List TopoLink) : Type 0 where
  pub left : Left Link (link_rows routers tables) all i
  pub said : links ≡ links_said routers (take i all)
  pub sound : AreLinks routers tables (take i all)

pub links_start : (routers : List (List ℕ)) (tables : List RouterTable) (all : List Data) → LinksSoFar routers tables all 0 []
links_start routers tables all =
    record { left = record { same = refl }; said = refl; sound = record { few = lit≤ tt; as_many = refl; sound = refl; named = refl; names = refl; ends = refl } }

pub link_table-so_far : (routers : List (List ℕ)) (tables : List RouterTable) (all : List Data) (i : ℕ) (links : List TopoLink) → LinksSoFar routers tables all i links
    → link_rows routers tables (take i all) ≡ link_causes routers tables (length links) (map (λ l. l.name) links) (all_ends links)
link_table-so_far routers tables all i links far = rw (far.said, far.sound.as_many, far.sound.named)

pub links_few : (routers : List (List ℕ)) (tables : List RouterTable) (all : List Data) (i : ℕ) (links : List TopoLink) → LinksSoFar routers tables all i links → length links ≤ 4096
links_few routers tables all i links far =
    let same : length links ≡ length (take i all) = ap length far.said ∙ far.sound.as_many in
    let few : length (take i all) ≤ 4096 = far.sound.few in
    omega arith

pub links_more : (routers : List (List ℕ)) (tables : List RouterTable) (all : List Data) (i : ℕ) (links new : List TopoLink) (d : Data) → i < length all → LinksSoFar routers tables all i links
    → first_standing (link_causes routers tables (length links) (map (λ l. l.name) links) (all_ends links)) (get_or all i d) ≡ None
    → new ≡ links ++ option_to_list (link_of_entry routers (get_or all i d)) → LinksSoFar routers tables all (i + 1) new
links_more routers tables all i links new d within far none pushed =
    let rows : NoneStands (link_rows routers tables (take i all)) (get_or all i d) =
    none_from_first (link_rows routers tables (take i all)) (get_or all i d) (ap (λ rows. first_standing rows (get_or all i d)) (link_table-so_far routers tables all i links far) ∙ none) in
    record {
      left = left_more Link (link_rows routers tables) all i d within far.left rows;
      said = rw (pushed, take_more all i d within, far.said) (sym (said_more (link_of_entry routers) (take i all) (get_or all i d)));
      sound = rw (take_more all i d within) (link_next routers tables (take i all) (get_or all i d) far.sound rows);
    }

pub links_refused : (routers : List (List ℕ)) (tables : List RouterTable) (all : List Data) (i : ℕ) (links : List TopoLink) (d : Data) (refused : TopoRefused) → i < length all → LinksSoFar routers tables all i links
    → IsRefusalAt Link (length links + 1) (first_standing (link_causes routers tables (length links) (map (λ l. l.name) links) (all_ends links)) (get_or all i d)) refused
    → IsFirstFault (faults_along Link (link_rows routers tables) [] all) refused
links_refused routers tables all i links d refused within far here =
    let same : length links ≡ length (take i all) = ap length far.said ∙ far.sound.as_many in
    let P : ℕ → Type 0 = λ n. IsRefusalAt Link (n + 1) (first_standing (link_causes routers tables (length links) (map (λ l. l.name) links) (all_ends links)) (get_or all i d)) refused in
    let Q : List (ℕ × (Data → Bool)) → Type 0 = λ rows. IsRefusalAt Link (length (take i all) + 1) (first_standing rows (get_or all i d)) refused in
    left_refused Link (link_rows routers tables) all i d refused within far.left (subst Q (sym (link_table-so_far routers tables all i links far)) (subst P same here))

pub links_done : (routers : List (List ℕ)) (tables : List RouterTable) (all : List Data) (i : ℕ) (links : List TopoLink) → length all ≤ i → LinksSoFar routers tables all i links → SayLinks routers tables all links
links_done routers tables all i links past far =
    record { faultless = left_none Link (link_rows routers tables) all i past far.left; said = far.said ∙ ap (links_said routers) (take_all i all past) }

-- ---- edges

pub record EdgesSoFar (routers : List (List ℕ)) (tables : List RouterTable) (links : List TopoLink) (all : List Data) (i : ℕ) (edges : List TopoEnd) : Type 0 where
  pub left : Left Edge (edge_rows routers tables links) all i
  pub said : edges ≡ edges_said routers (take i all)
  pub few : length edges ≤ 16384
  pub as_many : length edges ≡ length (take i all)

pub edges_start : (routers : List (List ℕ)) (tables : List RouterTable) (links : List TopoLink) (all : List Data) → EdgesSoFar routers tables links all 0 []
edges_start routers tables links all = record { left = record { same = refl }; said = refl; few = lit≤ tt; as_many = refl }

pub edge_table-so_far : (routers : List (List ℕ)) (tables : List RouterTable) (links : List TopoLink) (all : List Data) (i : ℕ) (edges : List TopoEnd) → EdgesSoFar routers tables links all i edges
    → edge_rows routers tables links (take i all) ≡ edge_causes routers tables (length edges) (all_ends links ++ edges)
edge_table-so_far routers tables links all i edges far = rw (← far.said, ← far.as_many)

pub edges_more : (routers : List (List ℕ)) (tables : List RouterTable) (links : List TopoLink) (all : List Data) (i : ℕ) (edges new : List TopoEnd) (d : Data) → i < length all → EdgesSoFar routers tables links all i edges
    → first_standing (edge_causes routers tables (length edges) (all_ends links ++ edges)) (get_or all i d) ≡ None
    → new ≡ edges ++ option_to_list (end_of_entry routers (get_or all i d)) → EdgesSoFar routers tables links all (i + 1) new
edges_more routers tables links all i edges new d within far none pushed =
    let x : Data = get_or all i d in
    let rows : NoneStands (edge_rows routers tables links (take i all)) (get_or all i d) =
    none_from_first (edge_rows routers tables links (take i all)) (get_or all i d) (ap (λ rows. first_standing rows (get_or all i d)) (edge_table-so_far routers tables links all i edges far) ∙ none) in
    let low : length (take i all) < 16384 = leb-false _ _ rows.0 in
    let same : length edges ≡ length (take i all) = far.as_many in
    let one_more : length new ≡ length edges + 1 = one_said edges new (end_of_entry routers (get_or all i d)) rows.1.1.1.1.0 pushed in
    let taken : length (take i all ++ get_or all i d ∷ []) ≡ length (take i all) + 1 = length-append (take i all) (get_or all i d ∷ []) in
    record {
      left = left_more Edge (edge_rows routers tables links) all i d within far.left rows;
      said = rw (pushed, take_more all i d within, far.said) (sym (said_more (end_of_entry routers) (take i all) (get_or all i d)));
      few = omega arith;
      as_many = rw (take_more all i d within) (omega arith);
    }

pub edges_refused : (routers : List (List ℕ)) (tables : List RouterTable) (links : List TopoLink) (all : List Data) (i : ℕ) (edges : List TopoEnd) (d : Data) (refused : TopoRefused) → i < length all → EdgesSoFar routers tables links all i edges
    → IsRefusalAt Edge (length edges + 1) (first_standing (edge_causes routers tables (length edges) (all_ends links ++ edges)) (get_or all i d)) refused
    → IsFirstFault (faults_along Edge (edge_rows routers tables links) [] all) refused
edges_refused routers tables links all i edges d refused within far here =
    let P : ℕ → Type 0 = λ n. IsRefusalAt Edge (n + 1) (first_standing (edge_causes routers tables (length edges) (all_ends links ++ edges)) (get_or all i d)) refused in
    let Q : List (ℕ × (Data → Bool)) → Type 0 = λ rows. IsRefusalAt Edge (length (take i all) + 1) (first_standing rows (get_or all i d)) refused in
    left_refused Edge (edge_rows routers tables links) all i d refused within far.left (subst Q (sym (edge_table-so_far routers tables links all i edges far)) (subst P far.as_many here))

pub edges_done : (routers : List (List ℕ)) (tables : List RouterTable) (links : List TopoLink) (all : List Data) (i : ℕ) (edges : List TopoEnd) → length all ≤ i → EdgesSoFar routers tables links all i edges → SayEdges routers tables links all edges
edges_done routers tables links all i edges past far =
    record { faultless = left_none Edge (edge_rows routers tables links) all i past far.left; said = far.said ∙ ap (edges_said routers) (take_all i all past) }

-- ---- the same at values of `toml`

pub routers_step : (vs : List Value) (i : ℕ) (names new : List (List ℕ)) (v : Value) → i < length vs → v ≡ get_or vs i v → RoutersSoFar (map view vs) i names
    → first_standing (router_causes (length names) names) (view v) ≡ None → new ≡ names ++ option_to_list (as_str (view v)) → RoutersSoFar (map view vs) (i + 1) new
routers_step vs i names new v within is far none pushed =
    routers_more (map view vs) i names new (view v) (item_within vs i within) far
    (ap (λ x. first_standing (router_causes (length names) names) x) (item_is vs i v is) ∙ none)
    (pushed ∙ ap (λ x. names ++ option_to_list (as_str x)) (sym (item_is vs i v is)))

pub routers_stop : (vs : List Value) (i : ℕ) (names : List (List ℕ)) (v : Value) (refused : TopoRefused) → i < length vs → v ≡ get_or vs i v → RoutersSoFar (map view vs) i names
    → IsRefusalAt Routers (length names + 1) (first_standing (router_causes (length names) names) (view v)) refused → IsFirstFault (faults_along Routers router_rows [] (map view vs)) refused
routers_stop vs i names v refused within is far here =
    let P : Data → Type 0 = λ x. IsRefusalAt Routers (length names + 1) (first_standing (router_causes (length names) names) x) refused in
    routers_refused (map view vs) i names (view v) refused (item_within vs i within) far (subst P (sym (item_is vs i v is)) here)

pub routers_end : (vs : List Value) (i : ℕ) (names : List (List ℕ)) → length vs ≤ i → RoutersSoFar (map view vs) i names → SayRouters (map view vs) names
routers_end vs i names past far = routers_done (map view vs) i names (rw length-map past) far

pub links_step : (routers : List (List ℕ)) (tables : List RouterTable) (vs : List Value) (i : ℕ) (links new : List TopoLink) (v : Value) → i < length vs → v ≡ get_or vs i v → LinksSoFar routers tables (map view vs) i links
    → first_standing (link_causes routers tables (length links) (map (λ l. l.name) links) (all_ends links)) (view v) ≡ None
    → new ≡ links ++ option_to_list (link_of_entry routers (view v)) → LinksSoFar routers tables (map view vs) (i + 1) new
links_step routers tables vs i links new v within is far none pushed =
    links_more routers tables (map view vs) i links new (view v) (item_within vs i within) far
    (ap (λ x. first_standing (link_causes routers tables (length links) (map (λ l. l.name) links) (all_ends links)) x) (item_is vs i v is) ∙ none)
    (pushed ∙ ap (λ x. links ++ option_to_list (link_of_entry routers x)) (sym (item_is vs i v is)))

pub links_stop : (routers : List (List ℕ)) (tables : List RouterTable) (vs : List Value) (i : ℕ) (links : List TopoLink) (v : Value) (refused : TopoRefused) → i < length vs → v ≡ get_or vs i v → LinksSoFar routers tables (map view vs) i links
    → IsRefusalAt Link (length links + 1) (first_standing (link_causes routers tables (length links) (map (λ l. l.name) links) (all_ends links)) (view v)) refused
    → IsFirstFault (faults_along Link (link_rows routers tables) [] (map view vs)) refused
links_stop routers tables vs i links v refused within is far here =
    let P : Data → Type 0 = λ x. IsRefusalAt Link (length links + 1) (first_standing (link_causes routers tables (length links) (map (λ l. l.name) links) (all_ends links)) x) refused in
    links_refused routers tables (map view vs) i links (view v) refused (item_within vs i within) far (subst P (sym (item_is vs i v is)) here)

pub links_end : (routers : List (List ℕ)) (tables : List RouterTable) (vs : List Value) (i : ℕ) (links : List TopoLink) → length vs ≤ i → LinksSoFar routers tables (map view vs) i links → SayLinks routers tables (map view vs) links
links_end routers tables vs i links past far = links_done routers tables (map view vs) i links (rw length-map past) far

pub edges_step : (routers : List (List ℕ)) (tables : List RouterTable) (links : List TopoLink) (vs : List Value) (i : ℕ) (edges new : List TopoEnd) (v : Value) → i < length vs → v ≡ get_or vs i v → EdgesSoFar routers tables links (map view vs) i edges
    → first_standing (edge_causes routers tables (length edges) (all_ends links ++ edges)) (view v) ≡ None
    → new ≡ edges ++ option_to_list (end_of_entry routers (view v)) → EdgesSoFar routers tables links (map view vs) (i + 1) new
edges_step routers tables links vs i edges new v within is far none pushed =
    edges_more routers tables links (map view vs) i edges new (view v) (item_within vs i within) far
    (ap (λ x. first_standing (edge_causes routers tables (length edges) (all_ends links ++ edges)) x) (item_is vs i v is) ∙ none)
    (pushed ∙ ap (λ x. edges ++ option_to_list (end_of_entry routers x)) (sym (item_is vs i v is)))

pub edges_stop : (routers : List (List ℕ)) (tables : List RouterTable) (links : List TopoLink) (vs : List Value) (i : ℕ) (edges : List TopoEnd) (v : Value) (refused : TopoRefused) → i < length vs → v ≡ get_or vs i v → EdgesSoFar routers tables links (map view vs) i edges
    → IsRefusalAt Edge (length edges + 1) (first_standing (edge_causes routers tables (length edges) (all_ends links ++ edges)) (view v)) refused
    → IsFirstFault (faults_along Edge (edge_rows routers tables links) [] (map view vs)) refused
edges_stop routers tables links vs i edges v refused within is far here =
    let P : Data → Type 0 = λ x. IsRefusalAt Edge (length edges + 1) (first_standing (edge_causes routers tables (length edges) (all_ends links ++ edges)) x) refused in
    edges_refused routers tables links (map view vs) i edges (view v) refused (item_within vs i within) far (subst P (sym (item_is vs i v is)) here)

pub edges_end : (routers : List (List ℕ)) (tables : List RouterTable) (links : List TopoLink) (vs : List Value) (i : ℕ) (edges : List TopoEnd) → length vs ≤ i → EdgesSoFar routers tables links (map view vs) i edges → SayEdges routers tables links (map view vs) edges
edges_end routers tables links vs i edges past far = edges_done routers tables links (map view vs) i edges (rw length-map past) far

-- ---- tables

-- the tables so far and those of the names that are left are those of all names
pub tables_next : (names : List (List ℕ)) (tables new : List RouterTable) (i : ℕ) → i < length names → tables ++ main_tables_from i (drop i names) ≡ main_tables names
    → new ≡ tables ++ record { device = record { 0 = i }; number = 254; replace = Key } ∷ [] → new ++ main_tables_from (i + 1) (drop (i + 1) names) ≡ main_tables names
tables_next names tables new i within so_far pushed =
    ap (λ (ts : List RouterTable). ts ++ main_tables_from (i + 1) (drop (i + 1) names)) pushed
    ∙ append_assoc tables (record { device = record { 0 = i }; number = 254; replace = Key } ∷ []) (main_tables_from (i + 1) (drop (i + 1) names))
    ∙ sym (ap (λ (ns : List (List ℕ)). tables ++ main_tables_from i ns) (drop_more names i [] within)) ∙ so_far

pub tables_end : (names : List (List ℕ)) (tables : List RouterTable) (i : ℕ) → length names ≤ i → tables ++ main_tables_from i (drop i names) ≡ main_tables names → tables ≡ main_tables names
tables_end names tables i past so_far = sym (append-nil tables) ∙ ap (λ (ns : List (List ℕ)). tables ++ main_tables_from i ns) (sym (drop_all i names past)) ∙ so_far
