-- The entries of `router`, one after the other, and the marks put onto the tables.
use Rattle.std.proofs.Common.{◌≡◌, ℕ, ◌+◌, ◌<◌, ◌≤◌, true, false, nat_lt, ◌==◌, List, [], ◌∷◌, ◌++◌, length, get_or, take, map, Option, Some, None, is_none, refl, sym, ap, ◌∙◌, subst, arith, lit≤}
use Rattle.std.proofs.lemmas.Bool.{or_parts, or_from, true≢false, ne_eqb, eqb-false, lt-ltb}
use Rattle.std.proofs.lemmas.Option.{same_Some}
use Rattle.std.proofs.lemmas.List.{take_more, take_all, length-map, length-append, map-append}
use Rattle.std.proofs.lemmas.List.Folds.{list_all-append}
use Rattle.std.proofs.lemmas.List.Quantifiers.{position-Some}
use Rattle.std.specs.List.{list_any, list_all}
use Rattle.std.specs.Option.{option_to_list}
use Rattle.toml.specs.declared.value.Value.{Value}
use Rattle.toml.specs.View.{view}
use Rattle.toml.specs.Data.{Data}
use Rattle.base.specs.declared.ids.RouterId.{RouterId}
use Rattle.base.specs.Lists.{all_differ}
use Rattle.base.specs.Reach.{is_router}
use Rattle.base.proofs.CycleFrom.{at_most}
use Rattle.dn_model.specs.declared.topology.Replace.{Replace}
use Rattle.dn_formats.specs.declared.mark.Mark.{Mark}
use Rattle.dn_formats.specs.declared.topology_fault.TopoPart.TheVariants.{Router}
use Rattle.dn_formats.specs.declared.topology_fault.TopoRefused.{TopoRefused}
use Rattle.dn_formats.specs.EndText.{place_of}
use Rattle.dn_formats.specs.TopologyText.{passes, faults_along, has_mark, name_of_entry, router_of_entry, replace_of_entry, mark_from, mark_of_entry, mark_causes, marks_said, mark_rows}
use Rattle.dn_formats.proofs.TopologySound.{NoneStands, all_differ-push, and_then_some}
use Rattle.topology.specs.Reading.{first_standing, IsRefusalAt, IsFirstFault, SayMarks}
use Rattle.topology.proofs.Runs.{none_from_first, Left, left_more, left_refused, left_none, said_more, one_said, item_is, item_within}

-- ---- one mark

mark_from-router : (router : Option ℕ) (replace : Option Replace) (m : Mark) → mark_from router replace ≡ Some m → router ≡ Some m.router.0
mark_from-router (Some r) (Some p) m is = ap (λ o. Some o.router.0) (same_Some _ _ is)
mark_from-router (Some r) None m is = cc
mark_from-router None replace m is = cc

mark_from_there : (router : Option ℕ) (replace : Option Replace) → is_none router ≡ false → is_none replace ≡ false → is_none (mark_from router replace) ≡ false
mark_from_there (Some r) (Some p) one two = refl
mark_from_there (Some r) None one two = two
mark_from_there None replace one two = one

-- no mark is of a router
turned : (ms : List Mark) (r : RouterId) → has_mark ms r.0 ≡ false → list_any (λ y. is_router y r) (map (λ (m : Mark). m.router) ms) ≡ false
turned [] r h = refl
turned (m ∷ ms) r h =
    let parts = or_parts (m.router.0 == r.0) (has_mark ms r.0) h in
    or_from _ _ (ne_eqb r.0 m.router.0 (λ (e : r.0 ≡ m.router.0). eqb-false m.router.0 r.0 parts.0 (sym e))) (turned ms r parts.1)

-- marks of routers that differ, which are so many at most
pub record DifferentMarks (count : ℕ) (marks : List Mark) : Type 0 where
  pub apart : all_differ is_router (map (λ (m : Mark). m.router) marks) ≡ true
  pub within : list_all (λ r. nat_lt r.0 count) (map (λ (m : Mark). m.router) marks) ≡ true

marks_at_most : (count : ℕ) (marks : List Mark) → DifferentMarks count marks → length marks ≤ count
marks_at_most count marks different =
    let most : length (map (λ (m : Mark). m.router) marks) ≤ count = at_most count (map (λ (m : Mark). m.router) marks) different.apart different.within in
    let long : length (map (λ (m : Mark). m.router) marks) ≡ length marks = length-map marks (λ (m : Mark). m.router) in
    omega arith

one_mark : (count : ℕ) (marks : List Mark) (m : Mark) → DifferentMarks count marks → m.router.0 < count → has_mark marks m.router.0 ≡ false → DifferentMarks count (marks ++ m ∷ [])
one_mark count marks m different inside fresh =
    let more : map (λ (k : Mark). k.router) (marks ++ m ∷ []) ≡ map (λ (k : Mark). k.router) marks ++ m.router ∷ [] = map-append (λ (k : Mark). k.router) marks (m ∷ []) in
    let all : list_all (λ r. nat_lt r.0 count) (map (λ (k : Mark). k.router) marks ++ m.router ∷ []) ≡ true =
    list_all-append (λ (r : RouterId). nat_lt r.0 count) (map (λ (k : Mark). k.router) marks) (m.router ∷ []) ∙ rw (different.within, lt-ltb m.router.0 count inside) in
    record {
      apart = ap (all_differ is_router) more ∙ all_differ-push is_router (map (λ (k : Mark). k.router) marks) m.router different.apart (turned marks m.router fresh);
      within = ap (list_all (λ r. nat_lt r.0 count)) more ∙ all;
    }

mark_push : (routers : List (List ℕ)) (marks new : List Mark) (x : Data) (o : Option Mark) → mark_of_entry routers x ≡ o → is_none o ≡ false
    → passes (has_mark marks) (router_of_entry routers x) ≡ false → new ≡ marks ++ option_to_list o → DifferentMarks (length routers) marks → DifferentMarks (length routers) new
mark_push routers marks new x None is there fresh pushed different = absurd (true≢false there)
mark_push routers marks new x (Some m) is there fresh pushed different =
    let router : router_of_entry routers x ≡ Some m.router.0 = mark_from-router (router_of_entry routers x) (replace_of_entry x) m is in
    let name = and_then_some (place_of routers) (name_of_entry x) m.router.0 router in
    let inside : m.router.0 < length routers = (position-Some _ routers m.router.0 [] name.1.1).0 in
    let new_one : has_mark marks m.router.0 ≡ false = ap (passes (has_mark marks)) (sym router) ∙ fresh in
    subst (λ ms. DifferentMarks (length routers) ms) (sym pushed) (one_mark (length routers) marks m different inside new_one)

-- ---- marks one after the other

pub record MarksSoFar (routers : List (List ℕ)) (all : List Data) (i : ℕ) (marks : List Mark) : Type 0 where
  pub left : Left Router (mark_rows routers) all i
  pub said : marks ≡ marks_said routers (take i all)
  pub as_many : length marks ≡ length (take i all)
  pub different : DifferentMarks (length routers) marks
  pub few : length marks ≤ 1024

pub marks_start : (routers : List (List ℕ)) (all : List Data) → MarksSoFar routers all 0 []
marks_start routers all =
    record { left = record { same = refl }; said = refl; as_many = refl; different = record { apart = refl; within = refl }; few = lit≤ tt }

marks_more : (routers : List (List ℕ)) (all : List Data) (i : ℕ) (marks new : List Mark) (d : Data) → length routers ≤ 1024 → i < length all → MarksSoFar routers all i marks
    → first_standing (mark_causes routers marks) (get_or all i d) ≡ None → new ≡ marks ++ option_to_list (mark_of_entry routers (get_or all i d)) → MarksSoFar routers all (i + 1) new
marks_more routers all i marks new d most within far none pushed =
    let x : Data = get_or all i d in
    let table : mark_rows routers (take i all) ≡ mark_causes routers marks = ap (mark_causes routers) (sym far.said) in
    let rows : NoneStands (mark_rows routers (take i all)) (get_or all i d) =
    none_from_first (mark_rows routers (take i all)) (get_or all i d) (ap (λ rows. first_standing rows (get_or all i d)) table ∙ none) in
    let here : NoneStands (mark_causes routers marks) (get_or all i d) = none_from_first (mark_causes routers marks) (get_or all i d) none in
    let there : is_none (mark_of_entry routers x) ≡ false = mark_from_there (router_of_entry routers x) (replace_of_entry x) here.1.1.1.1.0 here.1.1.1.1.1.1.0 in
    let different : DifferentMarks (length routers) new = mark_push routers marks new x (mark_of_entry routers x) refl there here.1.1.1.1.1.0 pushed far.different in
    let at_most_all : length new ≤ length routers = marks_at_most (length routers) new different in
    let same : length marks ≡ length (take i all) = far.as_many in
    let one_more : length new ≡ length marks + 1 = one_said marks new (mark_of_entry routers x) there pushed in
    let taken : length (take i all ++ get_or all i d ∷ []) ≡ length (take i all) + 1 = length-append (take i all) (get_or all i d ∷ []) in
    record {
      left = left_more Router (mark_rows routers) all i d within far.left rows;
      said = rw (pushed, take_more all i d within, far.said) (sym (said_more (mark_of_entry routers) (take i all) (get_or all i d)));
      as_many = rw (take_more all i d within) (omega arith);
      different = different;
      few = omega arith;
    }

marks_refused : (routers : List (List ℕ)) (all : List Data) (i : ℕ) (marks : List Mark) (d : Data) (refused : TopoRefused) → i < length all → MarksSoFar routers all i marks
    → IsRefusalAt Router (length marks + 1) (first_standing (mark_causes routers marks) (get_or all i d)) refused → IsFirstFault (faults_along Router (mark_rows routers) [] all) refused
marks_refused routers all i marks d refused within far here =
    let P : ℕ → Type 0 = λ n. IsRefusalAt Router (n + 1) (first_standing (mark_causes routers marks) (get_or all i d)) refused in
    let Q : List Mark → Type 0 = λ ms. IsRefusalAt Router (length (take i all) + 1) (first_standing (mark_causes routers ms) (get_or all i d)) refused in
    left_refused Router (mark_rows routers) all i d refused within far.left (subst Q far.said (subst P far.as_many here))

-- ---- the same at values of `toml`

pub marks_step : (routers : List (List ℕ)) (vs : List Value) (i : ℕ) (marks new : List Mark) (v : Value) → length routers ≤ 1024 → i < length vs → v ≡ get_or vs i v → MarksSoFar routers (map view vs) i marks
    → first_standing (mark_causes routers marks) (view v) ≡ None → new ≡ marks ++ option_to_list (mark_of_entry routers (view v)) → MarksSoFar routers (map view vs) (i + 1) new
marks_step routers vs i marks new v most within is far none pushed =
    marks_more routers (map view vs) i marks new (view v) most (item_within vs i within) far
    (ap (λ x. first_standing (mark_causes routers marks) x) (item_is vs i v is) ∙ none)
    (pushed ∙ ap (λ x. marks ++ option_to_list (mark_of_entry routers x)) (sym (item_is vs i v is)))

pub marks_stop : (routers : List (List ℕ)) (vs : List Value) (i : ℕ) (marks : List Mark) (v : Value) (refused : TopoRefused) → i < length vs → v ≡ get_or vs i v → MarksSoFar routers (map view vs) i marks
    → IsRefusalAt Router (length marks + 1) (first_standing (mark_causes routers marks) (view v)) refused → IsFirstFault (faults_along Router (mark_rows routers) [] (map view vs)) refused
marks_stop routers vs i marks v refused within is far here =
    let P : Data → Type 0 = λ x. IsRefusalAt Router (length marks + 1) (first_standing (mark_causes routers marks) x) refused in
    marks_refused routers (map view vs) i marks (view v) refused (item_within vs i within) far (subst P (sym (item_is vs i v is)) here)

pub marks_end : (routers : List (List ℕ)) (vs : List Value) (i : ℕ) (marks : List Mark) → length vs ≤ i → MarksSoFar routers (map view vs) i marks → SayMarks routers (map view vs) marks
marks_end routers vs i marks past far =
    let end : length (map view vs) ≤ i = rw length-map past in
    record {
      faultless = left_none Router (mark_rows routers) (map view vs) i end far.left;
      said = far.said ∙ ap (marks_said routers) (take_all i (map view vs) end);
    }
