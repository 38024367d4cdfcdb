-- What an update makes of a version.
use Rattle.std.proofs.Common.{◌≡◌, ◌≢◌, ℕ, ◌<◌, ◌≤◌, ◌∙◌, ⊎_elim, Option, None, Some, List, [], ◌∷◌, length, replicate, get_or, refl, ap, sym, subst}
use Rattle.std.specs.List.{Contains}
use Rattle.std.proofs.lemmas.Bool.{cases_eq}
use Rattle.std.proofs.lemmas.List.{get_or-set_other, get_or-set_same}
use Rattle.dn_model.specs.Rules.{OwnersOf}
use Rattle.net_engine.specs.Version.{Atom, Kept, KeptStandsFor, target_at}
use Rattle.atom_map.specs.Spans.{Span}
use Rattle.base.specs.Delta.{AreChanges, TellsChange, change_at}
use Rattle.base.specs.Links.{without}
use Rattle.base.specs.declared.change.Change.{Change}
use Rattle.base.specs.declared.ids.LinkId.{LinkId}
use Rattle.base.specs.declared.target.Target.{Target}
use Rattle.net_engine.specs.Told.{AreShown, ShowsChange}
use Rattle.dn_model.specs.declared.entry.Route.{Route}
use Rattle.base.specs.declared.ids.RouterId.{RouterId}
use Rattle.dn_model.specs.declared.topology.Topology.{Topology}
use Rattle.target_rows.specs.Labels.{Labels}
use Rattle.net_engine.specs.Net.{AreWide, first_atom}
use Rattle.net_engine.specs.Paired.{ArePaired, GoAlong, atoms_with}
use Rattle.net_engine.specs.Updates.{IsTableOpOf, IsWayOf}
use Rattle.net_engine.specs.Walked.{AreUpdated, IsUpdated, UpdatesAt}
use Rattle.net_engine.specs.declared.update.Update.{Update}
use Rattle.net_engine.specs.Whole.{IsWhole}
use Rattle.net_engine.proofs.Begun.{first_kept, first-stands, first-whole}
use Rattle.net_engine.proofs.Does.{has-ends, rules-paired, target-paired}
use Rattle.net_engine.proofs.Owned.{owners-covering, ways-after}
use Rattle.net_engine.proofs.Standing.{AllRoutes, is-net}

abbrev pub kept_of : Topology → List Atom → List (List Route) → List LinkId → Kept
kept_of t atoms routes down = record { topology = t; atoms = atoms; routes = routes; objects = []; down = down }

-- ---- what is kept

-- a network whose atoms stand beside what routers do, with ways that it has, is whole
pub whole-of : (t : Topology) (routers : ℕ) (rows : List Span) (labels : Labels) (tables : AllRoutes) (down : List LinkId) → ArePaired routers rows labels tables → routers ≡ length t.routers → length t.routers ≤ 1024 → ((r : RouterId) (x : Route) → r.0 < length t.routers → Contains (get_or tables r.0 []) x → IsWayOf t x.way) → IsWhole (kept_of t (atoms_with rows labels tables) tables down)
whole-of t routers rows labels tables down h count few ways = record {
  few = few;
  cover = (is-net routers rows labels tables h).cover;
  wide = subst (λ n. AreWide n (atoms_with rows labels tables)) count (is-net routers rows labels tables h).wide;
  tables = h.each ∙ count;
  objects = refl;
  agree = λ r i.
      let inside : r.0 < routers = subst (λ n. r.0 < n) (sym count) i in
      let along : GoAlong rows labels r.0 (get_or tables r.0 []) = h.along r.0 inside in
      record {
        table = along.table;
        ways = λ x k. ways r x i k;
        ends = λ x k. has-ends rows labels tables (get_or tables r.0 []) x along.ends (along.table.prefixes x k) k;
        owners = λ a l. subst (λ rs. OwnersOf rs (get_or tables r.0 []) a) (sym (rules-paired routers rows labels tables r a h inside l)) (owners-covering (get_or tables r.0 []) a);
        does = λ a l. target-paired labels tables rows r a ∙ along.does a l;
      };
}

-- so they are of what is kept
pub ways-kept : (t : Topology) (kept : Kept) (atoms : List Atom) (old new : List (List Route)) (down : List LinkId) → kept_of t atoms old down ≡ kept → IsWhole kept → new ≡ old → (r : RouterId) (x : Route) → r.0 < length t.routers → Contains (get_or new r.0 []) x → IsWayOf t x.way
ways-kept t kept atoms old new down view h same r x i k =
    let whole : IsWhole (kept_of t atoms old down) = subst (λ (z : Kept). IsWhole z) (sym view) h in
    (whole.agree r i).ways x (subst (λ (ts : List (List Route)). Contains (get_or ts r.0 []) x) same k)

-- the ways of an updated router's routes are the network's
pub ways-updated : (t : Topology) (old new : List (List Route)) (u : Update) → UpdatesAt u old new → IsTableOpOf t u.table.op → ((q : RouterId) (x : Route) → q.0 < length t.routers → Contains (get_or old q.0 []) x → IsWayOf t x.way) → (q : RouterId) (x : Route) → q.0 < length t.routers → Contains (get_or new q.0 []) x → IsWayOf t x.way
ways-updated t old new u made own ways q x i k = ⊎_elim
    (λ (e : q.0 ≡ u.router.0).
    let here : get_or new q.0 [] ≡ made.made = ap (λ n. get_or new n []) e ∙ ap (λ (rs : List (List Route)). get_or rs u.router.0 []) made.placed ∙ get_or-set_same old u.router.0 made.made [] made.inside in
    ways-after t u.table.alone (get_or old u.router.0 []) made.made u.table.op
    (λ y c. ways q y i (subst (λ n. Contains (get_or old n []) y) (sym e) c))
    own made.as_updated x (subst (λ (rs : List Route). Contains rs x) here k))
    (λ (n : q.0 ≢ u.router.0).
    let here : get_or new q.0 [] ≡ get_or old q.0 [] = ap (λ (rs : List (List Route)). get_or rs q.0 []) made.placed ∙ get_or-set_other old u.router.0 q.0 made.made [] n in
    ways q x i (subst (λ (rs : List Route). Contains rs x) here k))
    (cases_eq q.0 u.router.0)

-- ---- as the fields of a version are

pub wide-for : (n m : ℕ) (atoms : List Atom) → n ≡ m → AreWide n atoms → AreWide m atoms
wide-for n m atoms e h = subst (λ k. AreWide k atoms) e h

-- what is shown of two targets is told of where it differs
pub shown-tells : (down : List LinkId) (x y : Target) (o told : Option (Target × Target)) → TellsChange x y o → ShowsChange down o told → TellsChange (without down x) (without down y) told
shown-tells down x y None told same none = subst (λ w. TellsChange (without down x) (without down y) w) (sym none) (ap (without down) same)
shown-tells down x y (Some p) told is h = subst (λ (q : Target × Target). TellsChange (without down q.0) (without down q.1) told) is.0 h

pub update-made : (now : Kept) (t : Topology) (old new : List Atom) (routes made : List (List Route)) (down : List LinkId) (u : Update) (changes shown : List Change) → kept_of t old routes down ≡ now → IsWhole (kept_of t new made down) → UpdatesAt u routes made → AreUpdated old new u.table.op changes → AreChanges shown → AreShown down changes shown → IsUpdated now (kept_of t new made down) u shown
update-made now t old new routes made down u changes shown view whole made_at told form is = subst (λ (k : Kept). IsUpdated k (kept_of t new made down) u shown) view (record {
  whole = whole;
  topology = refl;
  routes = made_at;
  down = refl;
  begins = told.begins;
  told = record {
    form = form;
    tells = λ q a l. shown-tells down (target_at old q a) (target_at new q a) (change_at changes q a) (change_at shown q a) (told.tells q a l) (is q a);
  };
  added = told.added;
  met = told.met;
})

-- ---- the first version

first-is : (t : Topology) (n : ℕ) (atoms : List Atom) (routes : List (List Route)) (down : List LinkId) → n ≡ length t.routers → atoms ≡ first_atom n ∷ [] → routes ≡ replicate n [] → down ≡ [] → kept_of t atoms routes down ≡ first_kept t
first-is t n atoms routes down count e f up =
    ap (λ xs. kept_of t xs routes down) (e ∙ ap (λ k. first_atom k ∷ []) count)
    ∙ ap (λ rs. kept_of t (first_atom (length t.routers) ∷ []) rs down) (f ∙ ap (λ k. replicate k []) count)
    ∙ ap (λ (ls : List LinkId). kept_of t (first_atom (length t.routers) ∷ []) (replicate (length t.routers) []) ls) up

pub empty-whole : (t : Topology) (n : ℕ) (atoms : List Atom) (routes : List (List Route)) (down : List LinkId) → n ≤ 1024 → n ≡ length t.routers → atoms ≡ first_atom n ∷ [] → routes ≡ replicate n [] → down ≡ [] → IsWhole (kept_of t atoms routes down)
empty-whole t n atoms routes down few count e f up =
    subst (λ (k : Kept). IsWhole k) (sym (first-is t n atoms routes down count e f up)) (first-whole t (subst (λ k. k ≤ 1024) count few))

pub empty-stands : (t : Topology) (n : ℕ) (atoms : List Atom) (routes : List (List Route)) (down : List LinkId) → n ≤ 1024 → n ≡ length t.routers → atoms ≡ first_atom n ∷ [] → routes ≡ replicate n [] → down ≡ [] → KeptStandsFor (kept_of t atoms routes down) []
empty-stands t n atoms routes down few count e f up =
    subst (λ (k : Kept). KeptStandsFor k []) (sym (first-is t n atoms routes down count e f up)) (first-stands t (subst (λ k. k ≤ 1024) count few))
