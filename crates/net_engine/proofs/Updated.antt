-- What is kept after an update stands for the history with one entry more, and what is told of it is the delta.
use Rattle.std.proofs.Common.{◌≡◌, ◌≢◌, ◌==◌, ℕ, ◌+◌, ◌-◌, ◌<◌, ◌≤◌, ◌^◌, ◌∙◌, ◌||◌, ⊎_elim, Option, List, [], ◌∷◌, ◌++◌, length, get_or, take, refl, ap, sym, subst, arith, length-append}
use Rattle.std.specs.List.Sorted.{IsPermutation}
use Rattle.std.proofs.lemmas.Bool.{cases_eq}
use Rattle.std.proofs.lemmas.List.{get_or-set_other, get_or-set_same, take_at}
use Rattle.std.specs.Option.{IfSome}
use Rattle.base.specs.Cidr.{Cidr}
use Rattle.base.specs.Delta.{TellsChange, change_at}
use Rattle.dn_model.specs.LastDelta.{IsDeltaOf, less_last}
use Rattle.base.specs.Links.{is_down}
use Rattle.dn_model.specs.Downs.{downs}
use Rattle.dn_model.specs.Entry.{ends_of_set}
use Rattle.dn_model.specs.Table.{Object, after_op, does_after, objects, prefix_of_op, table}
use Rattle.dn_model.specs.Tables.{device_of, replaces_prefix}
use Rattle.std.specs.Map.{lookup}
use Rattle.base.specs.declared.ids.LinkId.{LinkId}
use Rattle.net_engine.specs.Version.{Atom, Kept, KeptStandsFor, begins_at, objects_of, shown_at}
use Rattle.base.specs.declared.change.Change.{Change}
use Rattle.dn_model.specs.declared.entry.Entry.{Entry}
use Rattle.dn_model.specs.declared.entry.Entry.TheVariants.{Route as RouteEntry}
use Rattle.dn_model.specs.declared.entry.Op.{Op}
use Rattle.dn_model.specs.declared.entry.Route.{Route}
use Rattle.base.specs.declared.ids.RouterId.{RouterId}
use Rattle.base.specs.declared.target.Target.{Target}
use Rattle.dn_model.specs.declared.topology.Topology.{Topology}
use Rattle.dn_model.proofs.SameRoutes.{SameRoutes, same-other, same-own, same-permutation}
use Rattle.net_engine.specs.Updates.{IsUpdateOf, its_routes}
use Rattle.net_engine.specs.Whole.{IsWhole}
use Rattle.net_engine.specs.Walked.{AreTold, IsAdvanced, IsUpdated, UpdatesAt}
use Rattle.net_engine.specs.Looks.{IsWithinSteps, atoms_met}
use Rattle.net_engine.specs.declared.update.Update.{Update}
use Rattle.net_engine.proofs.Following.{Follows, adds-of_entry, downs-after, ends-of_entry, follows, objects-after, op-to_other, op-to_own, prefix-of_entry}
use Rattle.net_engine.proofs.StandingFor.{boundary-after, does-row, stands}

-- ---- routes

same-router : (q r : RouterId) → q.0 ≡ r.0 → q ≡ r
same-router q r e = let R : ℕ → RouterId = λ n. record { 0 = n } in ap R e

-- each router's list has the routes of its table after one entry more, where the entry's router's list is updated
tables-after : (t : Topology) (old new : List (List Route)) (history : List Entry) (e : Entry) (u : Update) → Follows t e u → UpdatesAt u old new → ((r : RouterId) → SameRoutes (get_or old r.0 []) (table t history r)) → (r : RouterId) → SameRoutes (get_or new r.0 []) (table t (history ++ e ∷ []) r)
tables-after t old new history e u f made same r = ⊎_elim
    (λ (own : u.router.0 ≡ r.0).
    let here : get_or new u.router.0 [] ≡ made.made = ap (λ xs. get_or xs u.router.0 []) made.placed ∙ get_or-set_same old u.router.0 made.made [] made.inside in
    let P : List Route → Type 0 = λ xs. SameRoutes xs (table t (history ++ e ∷ []) u.router) in
    let Q : List Route → Type 0 = λ xs. IsPermutation made.made xs in
    let moved : IsPermutation made.made (after_op (replaces_prefix t u.router) (its_routes u old) f.op) = subst Q (sym (f.makes (its_routes u old))) made.as_updated in
    let R : RouterId → Type 0 = λ q. SameRoutes (get_or new q.0 []) (table t (history ++ e ∷ []) q) in
    subst R (same-router u.router r own) (subst P (sym here) (same-own t history e u.router f.op (its_routes u old) made.made (op-to_own t e u f u.router refl) (same u.router) moved)))
    (λ (other : u.router.0 ≢ r.0).
    let here : get_or new r.0 [] ≡ get_or old r.0 [] = ap (λ xs. get_or xs r.0 []) made.placed ∙ get_or-set_other old u.router.0 r.0 made.made [] (λ g. other (sym g)) in
    let P : List Route → Type 0 = λ xs. SameRoutes xs (table t (history ++ e ∷ []) r) in
    subst P (sym here) (same-other t history e r (get_or old r.0 []) (op-to_other t e u f r other) (same r)))
    (cases_eq u.router.0 r.0)

-- ---- what is told

-- what is kept for a history shows what each router does after it
shows-after : (kept : Kept) (history : List Entry) (r : RouterId) (a : ℕ) → KeptStandsFor kept history → a < 2 ^ 32 → shown_at kept r a ≡ does_after kept.topology history r a
shows-after kept history r a h l = sym (does-row kept r a) ∙ h.rows.exact r a l

without-last : (history : List Entry) (e : Entry) → less_last (history ++ e ∷ []) ≡ history
without-last history e =
    let long : length (history ++ e ∷ []) - 1 ≡ length history = omega (arith, length-append history (e ∷ [])) in
    ap (λ n. take n (history ++ e ∷ [])) long ∙ take_at history (e ∷ []) (length history) refl

-- what is told between what stands for a history and what stands for it with one entry more is the delta
pub delta-after : (old new : Kept) (history : List Entry) (e : Entry) (changes : List Change) → new.topology ≡ old.topology → KeptStandsFor old history → KeptStandsFor new (history ++ e ∷ []) → AreTold old new changes → IsDeltaOf old.topology (history ++ e ∷ []) changes
delta-after old new history e changes topology h after told = record {
  form = told.form;
  exact = λ r a l.
      let P : Target → Type 0 = λ t. TellsChange t (does_after old.topology (history ++ e ∷ []) r a) (change_at changes r a) in
      let Q : Target → Type 0 = λ t. TellsChange (shown_at old r a) t (change_at changes r a) in
      let was : shown_at old r a ≡ does_after old.topology (less_last (history ++ e ∷ [])) r a = shows-after old history r a h l ∙ ap (λ es. does_after old.topology es r a) (sym (without-last history e)) in
      let is : shown_at new r a ≡ does_after old.topology (history ++ e ∷ []) r a = shows-after new (history ++ e ∷ []) r a after l ∙ ap (λ t. does_after t (history ++ e ∷ []) r a) topology in
      subst P was (subst Q is (told.tells r a l));
}

-- ---- after one update of routes more

module _ (old new : Kept) (history : List Entry) (e : Entry) (u : Update) (f : Follows old.topology e u) (was : IsWhole old) (changes : List Change) (g : IsUpdated old new u changes) (h : KeptStandsFor old history) where
  things : (r : RouterId) (id : ℕ) → lookup (λ i. i == id) (objects_of new r) ≡ lookup (λ i. i == id) (objects new.topology (history ++ e ∷ []) r)
  things r id =
      let P : Topology → Type 0 = λ t. lookup (λ i. i == id) (objects_of new r) ≡ lookup (λ i. i == id) (objects t (history ++ e ∷ []) r) in
      let none : (k : Kept) → k.objects ≡ [] → objects_of k r ≡ [] = λ k n. ap (λ (os : List (List Object)). get_or os (device_of k.topology r).0 []) n in
      subst P (sym g.topology)
      (ap (lookup (λ i. i == id)) (none new g.whole.objects ∙ sym (none old was.objects))
      ∙ h.objects r id
      ∙ ap (lookup (λ i. i == id)) (sym (objects-after old.topology e u f history r)))

  links : (l : LinkId) → is_down new.down l ≡ is_down (downs (history ++ e ∷ [])) l
  links l =
      ap (λ (ls : List LinkId). is_down ls l) g.down
      ∙ h.down l
      ∙ ap (λ (ls : List LinkId). is_down ls l) (sym (downs-after old.topology e u f history))

  stands-after : KeptStandsFor new (history ++ e ∷ [])
  stands-after =
      let were : (r : RouterId) → SameRoutes (get_or old.routes r.0 []) (table old.topology history r) = λ r.
      same-permutation (get_or old.routes r.0 []) (table old.topology history r) (h.routes r) in
      let P : Topology → Type 0 = λ t. (r : RouterId) → SameRoutes (get_or new.routes r.0 []) (table t (history ++ e ∷ []) r) in
      stands new g.whole (history ++ e ∷ [])
      (subst P (sym g.topology) (tables-after old.topology old.routes new.routes history e u f g.routes were))
      things links
      (λ a l. g.begins a l ∙ ap (λ b. begins_at old.atoms a || b) (sym (ends-of_entry old.topology e u f a)) ∙ ap (λ b. b || ends_of_set a e) (h.boundaries a l) ∙ sym (boundary-after history e a))

pub advanced-routes : (old new : Kept) (r : RouterId) (n : ℕ) (op : Op) (u : Update) (changes : List Change) → IsUpdateOf old.topology r op u → IsWhole old → IsUpdated old new u changes → IsAdvanced old new (RouteEntry r n op) changes
advanced-routes old new r n op u changes is was g =
    let e : Entry = RouteEntry r n op in
    let f : Follows old.topology e u = follows old.topology r n op u is in
    record {
      topology = g.topology;
      stands = λ history h. stands-after old new history e u f was changes g h;
      delta = λ history h. delta-after old new history e changes g.topology h (stands-after old new history e u f was changes g h) g.told;
      added = g.added ∙ ap (λ k. length old.atoms + k) (sym (adds-of_entry old.topology e u f old.atoms));
      met = subst (λ (o : Option Cidr). IfSome o (λ (p : Cidr). atoms_met new.atoms p ≡ atoms_met old.atoms p)) (sym (prefix-of_entry old.topology e u f)) g.met;
    }

pub steps-routes : (t : Topology) (atoms : List Atom) (r : RouterId) (n : ℕ) (op : Op) (u : Update) (old new : ℕ) → IsUpdateOf t r op u → new ≤ old + 2 + atoms_met atoms (prefix_of_op u.table.op) → IsWithinSteps atoms (RouteEntry r n op) old new
steps-routes t atoms r n op u old new is h =
    subst (λ (o : Option Cidr). IfSome o (λ (p : Cidr). new ≤ old + 2 + atoms_met atoms p)) (sym (prefix-of_entry t (RouteEntry r n op) u (follows t r n op u is))) h
