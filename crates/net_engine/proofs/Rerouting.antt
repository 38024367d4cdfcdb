-- What an update of one router's routes comes to in the atoms.
use Rattle.std.proofs.Common.{◌≡◌, ◌≢◌, ℕ, ◌+◌, ◌<◌, ◌≤◌, ◌^◌, ◌∙◌, ⊎_elim, Bool, true, false, Option, None, Some, eqb, List, [], ◌∷◌, length, get_or, set, refl, ap, sym, subst, arith}
use Rattle.std.specs.List.{Contains, list_any}
use Rattle.std.specs.List.Sorted.{IsPermutation}
use Rattle.std.specs.Option.{IfNone, IfSome}
use Rattle.std.proofs.lemmas.Bool.{and_parts, cases_Bool, cases_eq, eqb-true, or_cases, or_left, or_right}
use Rattle.std.proofs.lemmas.List.{get_or-set_other, get_or-set_same, length-set}
use Rattle.std.proofs.lemmas.List.Sorted.{Contains-permutation}
use Rattle.atom_map.specs.Spans.{Span, is_boundary}
use Rattle.base.specs.Cidr.{Cidr, size}
use Rattle.base.specs.Delta.{TellsChange, change_at}
use Rattle.dn_model.specs.Entry.{is_bound_of}
use Rattle.dn_model.specs.Table.{prefix_of_op}
use Rattle.dn_model.specs.Routes.{IsTable}
use Rattle.base.specs.Runs.{AreApart, holds}
use Rattle.dn_model.specs.Table.{after_table_op, followed, is_of_prefix, target_in, way_in}
use Rattle.net_engine.specs.Version.{target_at}
use Rattle.base.specs.declared.change.Change.{Change}
use Rattle.dn_model.specs.declared.table_op.TableOp.{TableOp}
use Rattle.dn_model.specs.declared.table_op.TableOp.TheVariants.{Put, Clear}
use Rattle.dn_model.specs.declared.way.Way.{Way}
use Rattle.dn_model.specs.declared.entry.Route.{Route}
use Rattle.base.specs.declared.ids.RouterId.{RouterId}
use Rattle.base.specs.declared.run.Run.{Run}
use Rattle.base.specs.declared.target.Target.{Target}
use Rattle.base.proofs.Elements.{contains-here, contains-there}
use Rattle.target_rows.specs.Labels.{Labels}
use Rattle.route_table.specs.Own.{AreOwnRuns, EndAtEnds, IsLooked, IsTurned, SetsOrHas, is_end_in, is_own}
use Rattle.net_engine.specs.Looks.{atoms_begun, atoms_between, atoms_met}
use Rattle.net_engine.specs.Paired.{AreLabelled, ArePaired, GoAlong, atoms_with, does_at}
use Rattle.net_engine.specs.Rerouted.{IsMoved, IsRerouted, RunsOfAtoms}
use Rattle.net_engine.specs.Routed.{ends_in}
use Rattle.net_engine.specs.Updates.{IsPut}
use Rattle.net_engine.specs.Walked.{BeginsAtEnds, IsRetold}
use Rattle.net_engine.proofs.Does.{begins-paired, target-paired}
use Rattle.net_engine.proofs.Looking.{begun-many, begun-meet, meets-paired}
use Rattle.net_engine.proofs.Moving.{apart-below, apart-first, apart-rest, holds-first}
use Rattle.net_engine.proofs.Owned.{after-cases, any-of, any-weaker}
use Rattle.net_engine.proofs.Standing.{AllRoutes, length-paired}

-- ---- the ends of routes

-- where a route of some prefix is, its prefix ends where the prefix does
end-of-prefix : (p : Cidr) (x : Route) (c : ℕ) → is_of_prefix p x ≡ true → is_bound_of p c ≡ true → is_bound_of x.prefix c ≡ true
end-of-prefix p x c same e =
    let parts : (eqb x.prefix.base p.base ≡ true) × (eqb x.prefix.len p.len ≡ true) = and_parts (eqb x.prefix.base p.base) (eqb x.prefix.len p.len) same in
    let base : p.base ≡ x.prefix.base = sym (eqb-true x.prefix.base p.base parts.0) in
    let len : p.len ≡ x.prefix.len = sym (eqb-true x.prefix.len p.len parts.1) in
    let E : ℕ → ℕ → Type 0 = λ b l. is_bound_of (record { base = b; len = l }) c ≡ true in
    subst (E x.prefix.base) len (subst (λ b. E b p.len) base e)

-- atoms begin at the ends of an update's prefix, below the end of all addresses
pub prefix-ends : (rows : List Span) (x : Labels) (tables : AllRoutes) (own : List Route) (r : ℕ) (op : TableOp) → GoAlong rows x r own → (IsPut op → BeginsAtEnds (atoms_with rows x tables) (prefix_of_op op)) → SetsOrHas own op → (c : ℕ) → c < 2 ^ 32 → is_bound_of (prefix_of_op op) c ≡ true → is_boundary rows c ≡ true
prefix-ends rows x tables own r (Put p m w) along puts had c l e =
    let ends : BeginsAtEnds (atoms_with rows x tables) p = puts tt in
    ⊎_elim
    (λ (b : eqb p.base c ≡ true).
    subst (λ n. is_boundary rows n ≡ true) (eqb-true p.base c b) (sym (begins-paired x tables rows p.base) ∙ ends.first))
    (λ (b : eqb (p.base + size p) c ≡ true).
    let at : p.base + size p ≡ c = eqb-true (p.base + size p) c b in
    subst (λ n. is_boundary rows n ≡ true) at (sym (begins-paired x tables rows (p.base + size p)) ∙ ends.past (omega arith)))
    (or_cases (eqb p.base c) (eqb (p.base + size p) c) e)
prefix-ends rows x tables own r (Clear p m) along puts had c l e =
    along.ends c l (any-weaker (is_of_prefix p) (λ (y : Route). is_bound_of y.prefix c) own (λ y same. end-of-prefix p y c same e) had)

-- one that passes a test
pub any-one : (q : Route → Bool) (xs : List Route) → list_any q xs ≡ true → (x : Route) × Contains xs x × (q x ≡ true)
any-one q [] t = absurd (let f : false ≡ true = t in cc)
any-one q (x ∷ xs) t = ⊎_elim
    (λ (h : q x ≡ true). (x, contains-here x xs, h))
    (λ (h : list_any q xs ≡ true). let v : (y : Route) × Contains xs y × (q y ≡ true) = any-one q xs h in (v.0, contains-there x v.0 xs v.1, v.2))
    (or_cases (q x) (list_any q xs) t)

-- the routes after an update end where atoms begin: those before did, and where a route is set atoms were cut
pub made-ends : (rows : List Span) (x : Labels) (tables : AllRoutes) (own made : List Route) (r : ℕ) (alone : Bool) (op : TableOp) → GoAlong rows x r own → (IsPut op → BeginsAtEnds (atoms_with rows x tables) (prefix_of_op op)) → IsPermutation made (after_table_op alone own op) → (c : ℕ) → c < 2 ^ 32 → ends_in made c ≡ true → is_boundary rows c ≡ true
made-ends rows x tables own made r alone op along puts moved c l e =
    let w : (y : Route) × Contains made y × (is_bound_of y.prefix c ≡ true) = any-one (λ (y : Route). is_bound_of y.prefix c) made e in
    after-cases (λ (y : Route). is_bound_of y.prefix c ≡ true → is_boundary rows c ≡ true) alone own op
    (λ y k t. along.ends c l (any-of (λ (z : Route). is_bound_of z.prefix c) own y k t))
    (λ p m w' is t.
    let P : TableOp → Type 0 = λ o. (IsPut o → BeginsAtEnds (atoms_with rows x tables) (prefix_of_op o)) in
    let ends : IsPut (Put p m w') → BeginsAtEnds (atoms_with rows x tables) p = subst P is puts in
    set-ends p (ends tt) t)
    w.0 (Contains-permutation made (after_table_op alone own op) w.0 moved w.1) w.2
  where
    set-ends : (p : Cidr) → BeginsAtEnds (atoms_with rows x tables) p → is_bound_of p c ≡ true → is_boundary rows c ≡ true
    set-ends p ends t = ⊎_elim
        (λ (b : eqb p.base c ≡ true).
        subst (λ n. is_boundary rows n ≡ true) (eqb-true p.base c b) (sym (begins-paired x tables rows p.base) ∙ ends.first))
        (λ (b : eqb (p.base + size p) c ≡ true).
        let at : p.base + size p ≡ c = eqb-true (p.base + size p) c b in
        subst (λ n. is_boundary rows n ≡ true) at (sym (begins-paired x tables rows (p.base + size p)) ∙ ends.past (omega arith)))
        (or_cases (eqb p.base c) (eqb (p.base + size p) c) t)

-- and so do the runs of its prefix's own addresses
end-boundary : (rows : List Span) (made : List Route) (p : Cidr) → ((c : ℕ) → c < 2 ^ 32 → is_bound_of p c ≡ true → is_boundary rows c ≡ true) → ((c : ℕ) → c < 2 ^ 32 → ends_in made c ≡ true → is_boundary rows c ≡ true) → (c : ℕ) → c < 2 ^ 32 → is_end_in made p c ≡ true → is_boundary rows c ≡ true
end-boundary rows made p ends more c l e = ⊎_elim
    (λ (h : is_bound_of p c ≡ true). ends c l h)
    (λ (h : ends_in made c ≡ true). more c l h)
    (or_cases (is_bound_of p c) (ends_in made c) e)

runs-between : (rows : List Span) (made : List Route) (p : Cidr) (runs : List Run) → ((c : ℕ) → c < 2 ^ 32 → is_end_in made p c ≡ true → is_boundary rows c ≡ true) → ((a : ℕ) → list_any (holds a) runs ≡ true → a < 2 ^ 32) → AreApart runs → EndAtEnds made p runs → RunsOfAtoms rows runs
runs-between rows made p [] at below apart h = tt
runs-between rows made p (y ∷ runs) at below apart h = (
  at y.lo (below y.lo (or_left (holds y.lo y) (list_any (holds y.lo) runs) (holds-first y (apart-first y runs apart)))) h.0,
  λ l. at (y.hi + 1) l h.1,
  runs-between rows made p runs at (λ a t. below a (or_right (holds a y) (list_any (holds a) runs) t)) (apart-rest y runs apart) h.2,
)

pub runs-of-atoms : (rows : List Span) (x : Labels) (tables : AllRoutes) (own made : List Route) (r : ℕ) (alone : Bool) (op : TableOp) (runs : List Run) → GoAlong rows x r own → (IsPut op → BeginsAtEnds (atoms_with rows x tables) (prefix_of_op op)) → SetsOrHas own op → IsPermutation made (after_table_op alone own op) → AreOwnRuns made (prefix_of_op op) runs → RunsOfAtoms rows runs
runs-of-atoms rows x tables own made r alone op runs along puts had moved h =
    runs-between rows made (prefix_of_op op) runs
    (end-boundary rows made (prefix_of_op op) (prefix-ends rows x tables own r op along puts had) (made-ends rows x tables own made r alone op along puts moved))
    (λ a t. apart-below runs a h.runs_are.apart t) h.runs_are.apart h.ends

-- ---- what is done

-- before the update one and the same was done at a prefix's own addresses
pub same-before : (rows : List Span) (x : Labels) (own made : List Route) (p : Cidr) (after : Way) (runs : List Run) (r : ℕ) → GoAlong rows x r own → IsTurned own made p after → AreOwnRuns made p runs → (a b : ℕ) → list_any (holds a) runs ≡ true → list_any (holds b) runs ≡ true → does_at rows x r a ≡ does_at rows x r b
same-before rows x own made p after runs r along turned runs_are a b u v =
    let below_a : a < 2 ^ 32 = apart-below runs a runs_are.runs_are.apart u in
    let below_b : b < 2 ^ 32 = apart-below runs b runs_are.runs_are.apart v in
    along.does a below_a
    ∙ ap (followed []) (turned.before a b (sym (runs_are.runs_are.exact a below_a) ∙ u) (sym (runs_are.runs_are.exact b below_b) ∙ v))
    ∙ sym (along.does b below_b)

pub rerouted-turned : (rows : List Span) (x y : Labels) (own made : List Route) (p : Cidr) (after : Way) (runs : List Run) (now : List Change) (r : RouterId) → GoAlong rows x r.0 own → IsTurned own made p after → AreOwnRuns made p runs → IsMoved rows x y now r runs (followed [] after) → IsRerouted rows x y own made now r
rerouted-turned rows x y own made p after runs now r along turned runs_are m =
    let does : (a : ℕ) → a < 2 ^ 32 → does_at rows y r.0 a ≡ target_in [] made a = λ a l. ⊎_elim
    (λ (h : is_own made p a ≡ true). m.here a (runs_are.runs_are.exact a l ∙ h) ∙ sym (ap (followed []) (turned.here a h)))
    (λ (n : is_own made p a ≡ false). m.away a (runs_are.runs_are.exact a l ∙ n) ∙ along.does a l ∙ sym (ap (followed []) (turned.away a n)))
    (cases_Bool (is_own made p a)) in
    record {
      labelled = m.labelled;
      routers = m.routers;
      does = does;
      others = m.others;
      form = m.form;
      tells = λ a l.
          let P : Target → Type 0 = λ t. TellsChange t (target_in [] made a) (change_at now r a) in
          let Q : Target → Type 0 = λ t. TellsChange (does_at rows x r.0 a) t (change_at now r a) in
          subst P (along.does a l) (subst Q (does a l) (m.tells a));
      changes = m.changes;
    }

pub rerouted-same : (rows : List Span) (x : Labels) (own made : List Route) (now : List Change) (r : RouterId) → AreLabelled rows x → GoAlong rows x r.0 own → ((a : ℕ) → way_in made a ≡ way_in own a) → now ≡ [] → IsRerouted rows x x own made now r
rerouted-same rows x own made now r labelled along same none =
    subst (λ (cs : List Change). IsRerouted rows x x own made cs r) (sym none) (record {
      labelled = labelled;
      routers = refl;
      does = λ a l. along.does a l ∙ sym (ap (followed []) (same a));
      others = λ q a n. refl;
      form = tt;
      tells = λ a l. sym (ap (followed []) (same a));
      changes = λ q a n. refl;
    })

-- ---- in the atoms

-- what the calls found and made: a router's routes, and what the update makes of them
pub record Makes (routers : ℕ) (rows : List Span) (x y : Labels) (tables : AllRoutes) (own made : List Route) (now : List Change) (r : RouterId) (alone : Bool) (op : TableOp) : Type 0 where
  pub inside : r.0 < routers
  pub own_is : own ≡ get_or tables r.0 []
  pub table : IsTable made
  pub moved : IsPermutation made (after_table_op alone own op)
  pub ends : (c : ℕ) → c < 2 ^ 32 → ends_in made c ≡ true → is_boundary rows c ≡ true
  pub rerouted : IsRerouted rows x y own made now r

module _ (routers : ℕ) (rows : List Span) (x y : Labels) (tables : AllRoutes) (own made : List Route) (now : List Change) (r : RouterId) (alone : Bool) (op : TableOp) (h : ArePaired routers rows x tables) (k : Makes routers rows x y tables own made now r alone op) where
  w : IsRerouted rows x y own made now r
  w = k.rerouted

  within : r.0 < length tables
  within = subst (λ n. r.0 < n) (sym h.each) k.inside

  mine : get_or (set tables r.0 made) r.0 [] ≡ made
  mine = get_or-set_same tables r.0 made [] within

  pub paired-after-update : ArePaired routers rows y (set tables r.0 made)
  paired-after-update = record {
    labelled = w.labelled;
    same_routers = w.routers ∙ h.same_routers;
    each = length-set tables r.0 made ∙ h.each;
    along = λ q l. ⊎_elim
        (λ (e : q ≡ r.0).
        subst (λ n. GoAlong rows y n (get_or (set tables r.0 made) n [])) (sym e) (subst (λ ss. GoAlong rows y r.0 ss) (sym mine) (record {
          table = k.table;
          ends = k.ends;
          does = w.does;
        })))
        (λ (n : q ≡ r.0 → ⊥).
        subst (λ ss. GoAlong rows y q ss) (sym (get_or-set_other tables r.0 q made [] n)) (record {
          table = (h.along q l).table;
          ends = (h.along q l).ends;
          does = λ a b. w.others q a n ∙ (h.along q l).does a b;
        }))
        (cases_eq q r.0);
  }

  does-then : (a : ℕ) → a < 2 ^ 32 → target_at (atoms_with rows x tables) r a ≡ target_in [] own a
  does-then a b = target-paired x tables rows r a ∙ (h.along r.0 k.inside).does a b ∙ sym (ap (λ (rs : List Route). target_in [] rs a) k.own_is)

  does-now : (a : ℕ) → a < 2 ^ 32 → target_at (atoms_with rows y (set tables r.0 made)) r a ≡ target_in [] made a
  does-now a b = target-paired y (set tables r.0 made) rows r a ∙ w.does a b

  same-router : (q : RouterId) → q.0 ≡ r.0 → r ≡ q
  same-router q e = let R : ℕ → RouterId = λ n. record { 0 = n } in sym (ap R e)

  tells-now : (q : RouterId) (a : ℕ) → a < 2 ^ 32 → TellsChange (target_at (atoms_with rows x tables) q a) (target_at (atoms_with rows y (set tables r.0 made)) q a) (change_at now q a)
  tells-now q a l = ⊎_elim
      (λ (e : q.0 ≡ r.0).
      let P : RouterId → Type 0 = λ s. TellsChange (target_at (atoms_with rows x tables) s a) (target_at (atoms_with rows y (set tables r.0 made)) s a) (change_at now s a) in
      let Q : Target → Type 0 = λ t. TellsChange t (target_at (atoms_with rows y (set tables r.0 made)) r a) (change_at now r a) in
      let R : Target → Type 0 = λ t. TellsChange (target_in [] own a) t (change_at now r a) in
      subst P (same-router q e) (subst Q (sym (does-then a l)) (subst R (sym (does-now a l)) (w.tells a l))))
      (λ (n : q.0 ≢ r.0).
      let P : Option (Target × Target) → Type 0 = λ o. TellsChange (target_at (atoms_with rows x tables) q a) (target_at (atoms_with rows y (set tables r.0 made)) q a) o in
      subst P (sym (w.changes q a n)) (target-paired x tables rows q a ∙ sym (w.others q.0 a n) ∙ sym (target-paired y (set tables r.0 made) rows q a)))
      (cases_eq q.0 r.0)

  pub retold-after-update : IsRetold (atoms_with rows x tables) (atoms_with rows y (set tables r.0 made)) now
  retold-after-update = record {
    begins = λ a. begins-paired y (set tables r.0 made) rows a ∙ sym (begins-paired x tables rows a);
    form = w.form;
    tells = tells-now;
    long = length-paired y (set tables r.0 made) rows ∙ sym (length-paired x tables rows);
    met = λ low high. meets-paired y (set tables r.0 made) rows low high ∙ sym (meets-paired x tables rows low high);
  }

-- ---- looks

-- a route's prefix begins where it ends, as it were
begins-end : (routes : List Route) (c : ℕ) → list_any (λ (x : Route). eqb x.prefix.base c) routes ≡ true → ends_in routes c ≡ true
begins-end routes c h = any-weaker (λ (x : Route). eqb x.prefix.base c) (λ (x : Route). is_bound_of x.prefix c) routes (λ x e. or_left (eqb x.prefix.base c) (eqb (x.prefix.base + size x.prefix) c) e) h

-- and below the end of all addresses
begins-below : (rows : List Span) (x : Labels) (r : ℕ) (own : List Route) (c : ℕ) → GoAlong rows x r own → list_any (λ (y : Route). eqb y.prefix.base c) own ≡ true → c < 2 ^ 32
begins-below rows x r own c along h =
    let w : (y : Route) × Contains own y × (eqb y.prefix.base c ≡ true) = any-one (λ (y : Route). eqb y.prefix.base c) own h in
    let base : w.0.prefix.base < 2 ^ 32 = (along.table.prefixes w.0 w.1).base in
    subst (λ n. n < 2 ^ 32) (eqb-true w.0.prefix.base c w.2) base

pub looks-paired : (routers : ℕ) (rows : List Span) (x : Labels) (tables : AllRoutes) (own : List Route) (r : ℕ) (p : Cidr) (was is : ℕ) → ArePaired routers rows x tables → GoAlong rows x r own → IsLooked own p was is → is ≤ was + 2 + atoms_met (atoms_with rows x tables) p
looks-paired routers rows x tables own r p was is h along looked =
    let many : length looked.begun ≤ atoms_begun rows p.base (p.base + size p) = begun-many rows own p.base (p.base + size p) looked.begun looked.within (λ c l e. along.ends c (begins-below rows x r own c along e) (begins-end own c e)) in
    let meet : atoms_begun rows p.base (p.base + size p) ≤ atoms_between (atoms_with rows x tables) p.base (p.base + size p) = begun-meet x tables 0 rows p.base (p.base + size p) h.labelled.atoms.cover in
    let few : is ≤ was + 2 + length looked.begun = looked.few in
    omega arith

-- ---- as the call needs it

-- what is known where nothing, or something, was answered
pub at-none : (P : Type 0) (o : Option Way) → o ≡ None → IfNone o P → P
at-none P None e h = h
at-none P (Some t) e h = absurd (let f : Some t ≡ None = e in cc)

pub at-some : (P : Way → Type 0) (o : Option Way) (t : Way) → o ≡ Some t → IfSome o P → P t
at-some P None t e h = absurd (let f : None ≡ Some t = e in cc)
at-some P (Some u) t e h = let same : u ≡ t = cc in subst P same h

-- the calls' answers, where nothing is done otherwise
pub makes-same : (routers : ℕ) (rows : List Span) (x : Labels) (tables : AllRoutes) (made : List Route) (now : List Change) (r : RouterId) (alone : Bool) (op : TableOp) → ArePaired routers rows x tables → r.0 < routers → (IsPut op → BeginsAtEnds (atoms_with rows x tables) (prefix_of_op op)) → IsTable made → IsPermutation made (after_table_op alone (get_or tables r.0 []) op) → ((a : ℕ) → way_in made a ≡ way_in (get_or tables r.0 []) a) → now ≡ [] → Makes routers rows x x tables (get_or tables r.0 []) made now r alone op
makes-same routers rows x tables made now r alone op h l puts table moved same none = record {
  inside = l;
  own_is = refl;
  table = table;
  moved = moved;
  ends = made-ends rows x tables (get_or tables r.0 []) made r.0 alone op (h.along r.0 l) puts moved;
  rerouted = rerouted-same rows x (get_or tables r.0 []) made now r h.labelled (h.along r.0 l) same none;
}

-- and where something is
pub makes-turned : (routers : ℕ) (rows : List Span) (x y : Labels) (tables : AllRoutes) (made : List Route) (now : List Change) (r : RouterId) (alone : Bool) (op : TableOp) (after : Way) (runs : List Run) → ArePaired routers rows x tables → r.0 < routers → (IsPut op → BeginsAtEnds (atoms_with rows x tables) (prefix_of_op op)) → IsTable made → IsPermutation made (after_table_op alone (get_or tables r.0 []) op) → IsTurned (get_or tables r.0 []) made (prefix_of_op op) after → AreOwnRuns made (prefix_of_op op) runs → IsMoved rows x y now r runs (followed [] after) → Makes routers rows x y tables (get_or tables r.0 []) made now r alone op
makes-turned routers rows x y tables made now r alone op after runs h l puts table moved turned runs_are m = record {
  inside = l;
  own_is = refl;
  table = table;
  moved = moved;
  ends = made-ends rows x tables (get_or tables r.0 []) made r.0 alone op (h.along r.0 l) puts moved;
  rerouted = rerouted-turned rows x y (get_or tables r.0 []) made (prefix_of_op op) after runs now r (h.along r.0 l) turned runs_are m;
}

-- the router's list is put at its place
pub paired-now : (routers : ℕ) (rows : List Span) (x y : Labels) (tables new : AllRoutes) (own made : List Route) (now : List Change) (r : RouterId) (alone : Bool) (op : TableOp) → new ≡ set tables r.0 made → ArePaired routers rows x tables → Makes routers rows x y tables own made now r alone op → ArePaired routers rows y new
paired-now routers rows x y tables new own made now r alone op e h k = subst (λ (ts : AllRoutes). ArePaired routers rows y ts) (sym e) (paired-after-update routers rows x y tables own made now r alone op h k)

pub retold-now : (routers : ℕ) (rows : List Span) (x y : Labels) (tables new : AllRoutes) (own made : List Route) (now : List Change) (r : RouterId) (alone : Bool) (op : TableOp) → new ≡ set tables r.0 made → ArePaired routers rows x tables → Makes routers rows x y tables own made now r alone op → IsRetold (atoms_with rows x tables) (atoms_with rows y new) now
retold-now routers rows x y tables new own made now r alone op e h k = subst (λ (ts : AllRoutes). IsRetold (atoms_with rows x tables) (atoms_with rows y ts) now) (sym e) (retold-after-update routers rows x y tables own made now r alone op h k)
