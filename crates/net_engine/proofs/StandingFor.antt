-- What is kept stands for a history.
use Rattle.std.proofs.Common.{◌≡◌, ◌==◌, ℕ, zero, suc, map, ◌<◌, ◌≤◌, ◌^◌, ◌∙◌, ◌||◌, ⊎_elim, Bool, true, false, Option, None, Some, option_map, List, [], ◌∷◌, ◌++◌, length, get_or, refl, ap, sym, subst, arith, eqb}
use Rattle.std.specs.List.{list_any}
use Rattle.std.proofs.lemmas.Bool.{cases_Bool, cases_lt}
use Rattle.std.proofs.lemmas.List.{get_or_past}
use Rattle.std.proofs.lemmas.List.Folds.{list_any-append}
use Rattle.base.specs.Links.{is_down, without}
use Rattle.dn_model.specs.Downs.{downs}
use Rattle.dn_model.specs.Entry.{ends_of_set}
use Rattle.dn_model.specs.declared.way.Way.{Way}
use Rattle.dn_model.specs.declared.way.Way.TheVariants.{Straight, By}
use Rattle.std.specs.Map.{lookup}
use Rattle.std.specs.Prelude.{unwrap_or}
use Rattle.std.proofs.lemmas.List.{length-map}
use Rattle.base.specs.Forwarding.{AreEachForwarding, AreForwarding, IsForwarding, does, forwarding_at, row_low, row_past, target_in_row}
use Rattle.dn_model.specs.Routes.{IsTable}
use Rattle.base.specs.Rows.{is_within, CoverFrom}
use Rattle.dn_model.specs.Table.{HasKeysOnce, Object, best, does_after, followed, objects, table, target_after, way_in}
use Rattle.net_engine.specs.Version.{Atom, Kept, KeptStandsFor, atom_at, begins_at, first_of, is_boundary_after, forwarding_of, objects_of, past_of, rules_at, shown_at, target_at, target_in_atom}
use Rattle.dn_model.specs.declared.entry.Entry.{Entry}
use Rattle.dn_model.specs.declared.entry.Route.{Route}
use Rattle.base.specs.declared.ids.LinkId.{LinkId}
use Rattle.base.specs.declared.ids.RouterId.{RouterId}
use Rattle.base.specs.declared.forwarding_row.ForwardingRow.{ForwardingRow}
use Rattle.base.specs.declared.target.Target.{Target}
use Rattle.base.specs.declared.target.Target.TheVariants.{NoRoute, To}
use Rattle.dn_model.specs.Tables.{device_of}
use Rattle.dn_model.specs.declared.topology.Topology.{Topology}
use Rattle.what_if.specs.Restricted.{row_without}
use Rattle.dn_model.proofs.Best.{best-is}
use Rattle.base.proofs.Elements.{contains-none}
use Rattle.base.proofs.Covers.{holder-first, holder-rest, starts-below, within-above, within-yes}
use Rattle.dn_model.proofs.Keys.{table-keys}
use Rattle.dn_model.proofs.SamePermutation.{permutation-same}
use Rattle.dn_model.proofs.SameRoutes.{SameRoutes, same-target}
use Rattle.dn_model.proofs.Within.{IsWayOf as IsModelWay, within-best}
use Rattle.net_engine.specs.Net.{AreWide}
use Rattle.net_engine.specs.Whole.{Agrees, IsWhole}
use Rattle.net_engine.proofs.Owned.{owners-same}
use Rattle.net_engine.specs.Updates.{IsWayOf}
use Rattle.net_engine.proofs.Following.{without-same, without-to}
use Rattle.net_engine.proofs.Standing.{wide-at}

-- ---- boundaries

or-pushed : (p q r : Bool) → (p || (q || (r || false))) ≡ ((p || q) || r)
or-pushed true q r = refl
or-pushed false true r = refl
or-pushed false false true = refl
or-pushed false false false = refl

pub boundary-after : (history : List Entry) (e : Entry) (a : ℕ) → is_boundary_after (history ++ e ∷ []) a ≡ (is_boundary_after history a || ends_of_set a e)
boundary-after history e a =
    ap (λ b. eqb a 0 || b) (list_any-append (ends_of_set a) history (e ∷ []))
    ∙ or-pushed (eqb a 0) (list_any (ends_of_set a) history) (ends_of_set a e)

-- ---- rows

module _ (kept : Kept) where
  abbrev row_at : Atom → ForwardingRow
  row_at x = row_without kept.down x.row

  abbrev rows_of : List Atom → List ForwardingRow
  rows_of xs = map row_at xs

  -- the row of an address is that of its atom
  row-of_atom : (xs : List Atom) (a : ℕ) → forwarding_at (rows_of xs) a ≡ option_map row_at (atom_at xs a)
  row-of_atom [] a = refl
  row-of_atom (x ∷ xs) a = ⊎_elim
      (λ (t : is_within x.row.low x.row.past a ≡ true).
      holder-first row_low row_past (row_at x) (rows_of xs) a t ∙ sym (ap (option_map row_at) (holder-first first_of past_of x xs a t)))
      (λ (f : is_within x.row.low x.row.past a ≡ false).
      holder-rest row_low row_past (row_at x) (rows_of xs) a f ∙ row-of_atom xs a ∙ sym (ap (option_map row_at) (holder-rest first_of past_of x xs a f)))
      (cases_Bool (is_within x.row.low x.row.past a))

  pub target-down : (ts : List Target) (i : ℕ) → get_or (map (without kept.down) ts) i NoRoute ≡ without kept.down (get_or ts i NoRoute)
  target-down [] i = refl
  target-down (x ∷ ts) zero = refl
  target-down (x ∷ ts) (suc i) = target-down ts i

  -- what the rows show is what the atoms do where no link is down, with those that are
  pub does-row : (r : RouterId) (a : ℕ) → does (forwarding_of kept) r a ≡ shown_at kept r a
  does-row r a = ap (λ o. target_in_row o r) (row-of_atom kept.atoms a) ∙ by (atom_at kept.atoms a)
    where
      by : (o : Option Atom) → target_in_row (option_map row_at o) r ≡ without kept.down (target_in_atom o r)
      by None = refl
      by (Some x) = target-down x.row.targets r.0

  rows-cover : (start : ℕ) (xs : List Atom) → CoverFrom first_of past_of start xs → CoverFrom row_low row_past start (rows_of xs)
  rows-cover start [] h = h
  rows-cover start (x ∷ xs) h = (h.0, h.1, rows-cover (past_of x) xs h.2)

-- where routers go on to those that there are, at each address from where the atoms start
abbrev LeadWithin : ℕ → ℕ → List Atom → Type 0
LeadWithin routers start xs = (r s : RouterId) (l : LinkId) (a : ℕ) → start ≤ a → a < 2 ^ 32 → target_at xs r a ≡ To s l → s.0 < routers

each-forwarding : (kept : Kept) (routers start : ℕ) (xs : List Atom) → CoverFrom first_of past_of start xs → AreWide routers xs → LeadWithin routers start xs → AreEachForwarding routers (rows_of kept xs)
each-forwarding kept routers start [] h wide lead = tt
each-forwarding kept routers start (x ∷ xs) h wide lead =
    let begins : first_of x ≡ start = h.0 in
    let order : first_of x < past_of x = h.1 in
    let ends : past_of x ≤ 2 ^ 32 = starts-below first_of past_of (past_of x) xs h.2 in
    let here : IsForwarding routers (row_at kept x) = record {
      all = length-map x.row.targets (without kept.down) ∙ wide.0.targets;
      within = λ r s l e. lead r s l (first_of x) (omega arith) (omega arith)
          (ap (λ o. target_in_atom o r) (holder-first first_of past_of x xs (first_of x) (within-yes (first_of x) (past_of x) (first_of x) (omega arith) order)) ∙ without-to kept.down (get_or x.row.targets r.0 NoRoute) s l (sym (target-down kept x.row.targets r.0) ∙ e));
    } in
    let rest : LeadWithin routers (past_of x) xs = λ r s l a from below e.
    lead r s l a (omega arith) below (ap (λ o. target_in_atom o r) (holder-rest first_of past_of x xs a (within-above (first_of x) (past_of x) a from)) ∙ e) in
    (here, each-forwarding kept routers (past_of x) xs h.2 wide.1 rest)

-- a router that there isn't has no route
pub target-past : (routers : ℕ) (xs : List Atom) (r : RouterId) (a : ℕ) → AreWide routers xs → routers ≤ r.0 → target_at xs r a ≡ NoRoute
target-past routers xs r a wide past = by (atom_at xs a) refl
  where
    by : (o : Option Atom) → atom_at xs a ≡ o → target_in_atom o r ≡ NoRoute
    by None e = refl
    by (Some x) e = let w : length x.row.targets ≡ routers = (wide-at routers xs a x wide e).targets in get_or_past x.row.targets r.0 NoRoute (omega arith)

-- where no object is kept each router does with a way what it does by the objects of the history
followed-none : (objects : List Object) (w : Way) → ((id : ℕ) → None ≡ lookup (λ i. i == id) objects) → followed [] w ≡ followed objects w
followed-none objects (Straight x) none = refl
followed-none objects (By id) none = ap (λ (o : Option Target). unwrap_or o NoRoute) (none id)

way-within : (t : Topology) (w : Way) → IsWayOf t w → IsModelWay t w
way-within t (Straight x) h = h
way-within t (By id) h = tt

no-route-to : (s : RouterId) (l : LinkId) → NoRoute ≡ To s l → ⊥
no-route-to s l e = cc

module _ (kept : Kept) (whole : IsWhole kept) where
  lead-within : LeadWithin (length kept.topology.routers) 0 kept.atoms
  lead-within r s l a from below e = ⊎_elim
      (λ (i : r.0 < length kept.topology.routers).
      let g : Agrees kept.topology kept.atoms r (get_or kept.routes r.0 []) = whole.agree r i in
      within-best kept.topology [] (get_or kept.routes r.0 []) a (best (get_or kept.routes r.0 []) a) s l (λ o i. absurd (contains-none o i)) (λ x i. way-within kept.topology x.way (g.ways x i)) (best-is (get_or kept.routes r.0 []) a) (sym (g.does a below) ∙ e))
      (λ (o : length kept.topology.routers ≤ r.0). absurd (no-route-to s l (sym (target-past (length kept.topology.routers) kept.atoms r a whole.wide o) ∙ e)))
      (cases_lt r.0 (length kept.topology.routers))

  -- the atoms' rows are rows of forwarding
  pub are-forwarding : AreForwarding (length kept.topology.routers) (forwarding_of kept)
  are-forwarding = record {
    few = whole.few;
    cover = rows-cover kept 0 kept.atoms whole.cover;
    each = each-forwarding kept (length kept.topology.routers) 0 kept.atoms whole.cover whole.wide lead-within;
  }

  -- ---- what is kept stands for a history whose tables, objects, links and boundaries it has
  module _ (history : List Entry) (same : (r : RouterId) → SameRoutes (get_or kept.routes r.0 []) (table kept.topology history r))
      (things : (r : RouterId) (id : ℕ) → lookup (λ i. i == id) (objects_of kept r) ≡ lookup (λ i. i == id) (objects kept.topology history r))
      (links : (l : LinkId) → is_down kept.down l ≡ is_down (downs history) l) where
    empty-table : IsTable []
    empty-table = record { keys = refl; prefixes = λ r h. absurd (contains-none r h) }

    past-target : (r : RouterId) (a : ℕ) → length kept.topology.routers ≤ r.0 → NoRoute ≡ target_after kept.topology history r a
    past-target r a o =
        let n : length kept.routes ≡ length kept.topology.routers = whole.tables in
        let none : get_or kept.routes r.0 [] ≡ [] = get_or_past kept.routes r.0 [] (omega arith) in
        let P : List Route → Type 0 = λ xs. SameRoutes xs (table kept.topology history r) in
        same-target kept.topology [] history r a empty-table (subst P none (same r))

    -- no object is kept, so the history has none
    no-object : (r : RouterId) (id : ℕ) → None ≡ lookup (λ i. i == id) (objects kept.topology history r)
    no-object r id = sym (ap (λ (os : List (List Object)). lookup (λ i. i == id) (get_or os (device_of kept.topology r).0 [])) whole.objects) ∙ things r id

    -- each router does what its table comes to
    target-now : (r : RouterId) (a : ℕ) → a < 2 ^ 32 → target_at kept.atoms r a ≡ target_after kept.topology history r a
    target-now r a below = ⊎_elim
        (λ (i : r.0 < length kept.topology.routers).
        let g : Agrees kept.topology kept.atoms r (get_or kept.routes r.0 []) = whole.agree r i in
        g.does a below
        ∙ followed-none (objects kept.topology history r) (way_in (get_or kept.routes r.0 []) a) (no-object r)
        ∙ same-target kept.topology (get_or kept.routes r.0 []) history r a g.table (same r))
        (λ (o : length kept.topology.routers ≤ r.0). target-past (length kept.topology.routers) kept.atoms r a whole.wide o ∙ past-target r a o)
        (cases_lt r.0 (length kept.topology.routers))

    -- and what the history comes to
    pub does-after : (r : RouterId) (a : ℕ) → a < 2 ^ 32 → shown_at kept r a ≡ does_after kept.topology history r a
    does-after r a below = ap (without kept.down) (target-now r a below) ∙ without-same kept.down (downs history) (target_after kept.topology history r a) links

    kept-keys : (r : RouterId) → HasKeysOnce (get_or kept.routes r.0 [])
    kept-keys r = ⊎_elim
        (λ (i : r.0 < length kept.topology.routers). (whole.agree r i).table.keys)
        (λ (o : length kept.topology.routers ≤ r.0).
        let n : length kept.routes ≡ length kept.topology.routers = whole.tables in
        let none : get_or kept.routes r.0 [] ≡ [] = get_or_past kept.routes r.0 [] (omega arith) in
        subst (λ xs. HasKeysOnce xs) (sym none) refl)
        (cases_lt r.0 (length kept.topology.routers))

    pub stands : ((a : ℕ) → a < 2 ^ 32 → begins_at kept.atoms a ≡ is_boundary_after history a) → KeptStandsFor kept history
    stands boundaries = record {
      rows = record { form = are-forwarding; exact = λ r a l. does-row kept r a ∙ does-after r a l };
      routes = λ r. permutation-same (get_or kept.routes r.0 []) (table kept.topology history r) (kept-keys r) (table-keys kept.topology history r) (same r);
      owners = λ r a i below. owners-same (rules_at kept.atoms r a) (get_or kept.routes r.0 []) (table kept.topology history r) a (same r) ((whole.agree r i).owners a below);
      objects = things;
      down = links;
      boundaries = boundaries;
    }
