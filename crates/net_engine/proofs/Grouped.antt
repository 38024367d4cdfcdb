-- A router's table stands in its group, at its place there.
use Rattle.std.proofs.Common.{◌≡◌, ◌≢◌, Bool, true, false, IfNone, IfSome, IsPermutation, ⊎_elim, ℕ, zero, suc, ◌+◌, ◌-◌, ◌*◌, ◌/◌, ◌%◌, ◌<◌, ◌≤◌, ◌∙◌, List, [], ◌∷◌, ◌++◌, length, get_or, set, take, replicate, refl, ap, sym, subst, arith}
use Rattle.std.specs.List.{All, flat_map, list_any}
use Rattle.std.proofs.lemmas.Bool.{both_ways, or_cases, or_left, or_right}
use Rattle.std.proofs.lemmas.List.Folds.{list_any-append}
use Rattle.std.proofs.lemmas.List.{get_or-append-add, get_or-set_other, get_or-set_same, get_or-take, get_or_append_left, get_or_default, length-append, length-replicate, length-set, length-take-le, replicate-append-replicate, set-append_left, set-append_right, take-replicate}
use Rattle.std.proofs.lemmas.List.Elements.{All-get_or, All-head, All-replicate, All-set, All-tail}
use Rattle.std.proofs.lemmas.Nat.{div-add-mod', mod_below}
use Rattle.base.specs.Cidr.{Cidr}
use Rattle.base.specs.declared.run.Run.{Run}
use Rattle.dn_model.specs.Table.{after_table_op, is_of_prefix, prefix_of_op, way_in}
use Rattle.dn_model.specs.declared.entry.Route.{Route}
use Rattle.dn_model.specs.declared.table_op.TableOp.{TableOp}
use Rattle.dn_model.specs.declared.table_op.TableOp.TheVariants.{Put, Clear}
use Rattle.route_table.specs.Own.{AreOwnRuns, IsTurned, SetsOrHas, TellsNew, is_held}
use Rattle.route_table.specs.Tables.{IsUpdateIn}
use Rattle.route_table.specs.declared.table_update.TableUpdate.{TableUpdate}
use Rattle.route_table.specs.declared.table_update.Told.{Told}
use Rattle.net_engine.specs.Grouped.{AreGroups, tables_in}
use Rattle.net_engine.proofs.Standing.{AllRoutes}

abbrev IsFour : AllRoutes → Type 0
IsFour group = length group ≡ 4

abbrev joined : List AllRoutes → AllRoutes
joined groups = flat_map (λ group. group) groups

-- ---- one group after the other

length-joined : (groups : List AllRoutes) → All IsFour groups → length (joined groups) ≡ length groups * 4
length-joined [] h = refl
length-joined (x ∷ xs) h =
    let first : length x ≡ 4 = All-head IsFour x xs h in
    let rest : length (joined xs) ≡ length xs * 4 = length-joined xs (All-tail IsFour x xs h) in
    length-append x (joined xs) ∙ omega arith

get_or-joined : (groups : List AllRoutes) (g q n : ℕ) → All IsFour groups → q < 4 → n ≡ g * 4 + q → get_or (joined groups) n [] ≡ get_or (get_or groups g []) q []
get_or-joined [] g q n h l e = refl
get_or-joined (x ∷ xs) zero q n h l e =
    let first : length x ≡ 4 = All-head IsFour x xs h in
    let same : n ≡ q = omega arith in
    ap (λ k. get_or (x ++ joined xs) k []) same ∙ get_or_append_left x (joined xs) [] q (omega arith)
get_or-joined (x ∷ xs) (suc g) q n h l e =
    let first : length x ≡ 4 = All-head IsFour x xs h in
    let same : n ≡ length x + (g * 4 + q) = omega arith in
    ap (λ k. get_or (x ++ joined xs) k []) same
    ∙ get_or-append-add x (joined xs) (g * 4 + q) []
    ∙ get_or-joined xs g q (g * 4 + q) (All-tail IsFour x xs h) l refl

joined-set : (groups : List AllRoutes) (g q n : ℕ) (v : List Route) → All IsFour groups → q < 4 → n ≡ g * 4 + q → joined (set groups g (set (get_or groups g []) q v)) ≡ set (joined groups) n v
joined-set [] g q n v h l e = refl
joined-set (x ∷ xs) zero q n v h l e =
    let first : length x ≡ 4 = All-head IsFour x xs h in
    let same : q ≡ n = omega arith in
    sym (set-append_left x (joined xs) q v (omega arith)) ∙ ap (λ k. set (x ++ joined xs) k v) same
joined-set (x ∷ xs) (suc g) q n v h l e =
    let first : length x ≡ 4 = All-head IsFour x xs h in
    ap (λ (ts : AllRoutes). x ++ ts) (joined-set xs g q (n - 4) v (All-tail IsFour x xs h) l (omega arith))
    ∙ sym (set-append_right x (joined xs) 4 n v first (omega arith))

joined-replicate : (k : ℕ) (t : List Route) → joined (replicate k (replicate 4 t)) ≡ replicate (k * 4) t
joined-replicate zero t = refl
joined-replicate (suc k) t =
    ap (λ (ts : AllRoutes). replicate 4 t ++ ts) (joined-replicate k t)
    ∙ replicate-append-replicate 4 (k * 4) t
    ∙ ap (λ n. replicate n t) (omega arith)

-- ---- of so many routers

take-of_set : (n : ℕ) (xs : AllRoutes) (i : ℕ) (y : List Route) → i < n → take n (set xs i y) ≡ set (take n xs) i y
take-of_set zero xs i y l = absurd (omega arith)
take-of_set (suc n) [] i y l = refl
take-of_set (suc n) (x ∷ xs) zero y l = refl
take-of_set (suc n) (x ∷ xs) (suc i) y l = ap (λ (ts : AllRoutes). x ∷ ts) (take-of_set n xs i y (omega arith))

length-tables : (routers : ℕ) (groups : List AllRoutes) → AreGroups routers groups → length (tables_in routers groups) ≡ routers
length-tables routers groups h = length-take-le routers (joined groups) (subst (λ k. routers ≤ k) (sym (length-joined groups h.four)) h.enough)

pub tables-replicate : (routers k : ℕ) → routers ≤ k * 4 → tables_in routers (replicate k (replicate 4 [])) ≡ replicate routers []
tables-replicate routers k h =
    ap (λ (ts : AllRoutes). take routers ts) (joined-replicate k [])
    ∙ take-replicate routers (k * 4) [] h

-- the groups of routers without a route
pub groups-replicate : (routers k : ℕ) → routers ≤ k * 4 → AreGroups routers (replicate k (replicate 4 []))
groups-replicate routers k h = record {
  four = All-replicate IsFour k (replicate 4 []) refl;
  enough = subst (λ n. routers ≤ n * 4) (sym (length-replicate k (replicate 4 []))) h;
  rest = λ r l.
      ap (λ (ts : AllRoutes). get_or ts r []) (joined-replicate k [])
      ∙ none-of_none (k * 4) r;
}
  where
    no_route : List Route
    no_route = []

    none-of_none : (n r : ℕ) → get_or (replicate n no_route) r no_route ≡ no_route
    none-of_none zero r = refl
    none-of_none (suc n) zero = refl
    none-of_none (suc n) (suc r) = none-of_none n r

-- a table of a group that has a route of a prefix is one of all tables
held-joined : (p : Cidr) (groups : List AllRoutes) (g : ℕ) → is_held (get_or groups g []) p ≡ true → is_held (joined groups) p ≡ true
held-joined p [] g h = h
held-joined p (x ∷ xs) zero h = list_any-append (λ (routes : List Route). list_any (is_of_prefix p) routes) x (joined xs) ∙ or_left (is_held x p) (is_held (joined xs) p) h
held-joined p (x ∷ xs) (suc g) h = list_any-append (λ (routes : List Route). list_any (is_of_prefix p) routes) x (joined xs) ∙ or_right (is_held x p) (is_held (joined xs) p) (held-joined p xs g h)

-- and, since those beyond so many routers have none, one of theirs
held-taken : (p : Cidr) (routers : ℕ) (tables : AllRoutes) → ((r : ℕ) → routers ≤ r → get_or tables r [] ≡ []) → is_held tables p ≡ true → is_held (take routers tables) p ≡ true
held-taken p routers [] rest h = absurd (let f : false ≡ true = h in cc)
held-taken p zero (x ∷ xs) rest h = ⊎_elim
    (λ (t : list_any (is_of_prefix p) x ≡ true).
    let none : list_any (is_of_prefix p) x ≡ false = ap (λ (routes : List Route). list_any (is_of_prefix p) routes) (rest 0 (omega arith)) in
    absurd (both_ways (list_any (is_of_prefix p) x) none t))
    (λ (t : is_held xs p ≡ true). held-taken p zero xs (λ r l. rest (suc r) (omega arith)) t)
    (or_cases (list_any (is_of_prefix p) x) (is_held xs p) h)
held-taken p (suc routers) (x ∷ xs) rest h = ⊎_elim
    (λ (t : list_any (is_of_prefix p) x ≡ true). or_left (list_any (is_of_prefix p) x) (is_held (take routers xs) p) t)
    (λ (t : is_held xs p ≡ true). or_right (list_any (is_of_prefix p) x) (is_held (take routers xs) p) (held-taken p routers xs (λ r l. rest (suc r) (omega arith)) t))
    (or_cases (list_any (is_of_prefix p) x) (is_held xs p) h)

-- what is told of a group is told of all
new-of-group : (routers : ℕ) (groups : List AllRoutes) (g : ℕ) (op : TableOp) (is_new : Bool) → AreGroups routers groups → TellsNew (get_or groups g []) op is_new → TellsNew (tables_in routers groups) op is_new
new-of-group routers groups g (Put p m w) true h t = tt
new-of-group routers groups g (Put p m w) false h t = held-taken p routers (joined groups) h.rest (held-joined p groups g t)
new-of-group routers groups g (Clear p m) true h t = t
new-of-group routers groups g (Clear p m) false h t = tt

-- what is found and made at a router: its group, and what the update makes of that
pub record Finds (routers : ℕ) (groups : List AllRoutes) (tables group made : AllRoutes) (r n q : ℕ) : Type 0 where
  pub are : AreGroups routers groups
  pub seen : tables_in routers groups ≡ tables
  pub inside : r < length tables
  pub place : n ≡ r
  pub lane : q ≡ r % 4
  pub found : group ≡ get_or groups (n / 4) group
  pub others : made ≡ set group (q) (get_or made (q) [])

module _ (routers : ℕ) (groups : List AllRoutes) (tables group made : AllRoutes) (r n q : ℕ) (h : Finds routers groups tables group made r n q) where
  lane : q < 4
  lane = subst (λ k. k < 4) (sym h.lane) (mod_below r 4 (omega arith))

  parts : r ≡ n / 4 * 4 + q
  parts = sym (div-add-mod' r 4) ∙ ap (λ k. r / 4 * 4 + k) (sym h.lane) ∙ ap (λ k. k / 4 * 4 + q) (sym h.place)

  below : r < routers
  below = subst (λ k. r < k) (ap (λ (ts : AllRoutes). length ts) (sym h.seen) ∙ length-tables routers groups h.are) h.inside

  there : n / 4 < length groups
  there =
      let below : r < routers = below in
      let enough : routers ≤ length groups * 4 = h.are.enough in
      let parts : r ≡ n / 4 * 4 + q = parts in
      omega arith

  group-is : group ≡ get_or groups (n / 4) []
  group-is = h.found ∙ get_or_default groups (n / 4) group [] there

  before : get_or tables r [] ≡ get_or group (q) []
  before =
      ap (λ (ts : AllRoutes). get_or ts r []) (sym h.seen)
      ∙ get_or-take routers (joined groups) r [] below
      ∙ get_or-joined groups (n / 4) (q) r h.are.four lane parts
      ∙ ap (λ (ts : AllRoutes). get_or ts (q) []) (sym group-is)

  placed : tables_in routers (set groups (n / 4) made) ≡ set tables r (get_or made (q) [])
  placed =
      ap (λ (ts : AllRoutes). tables_in routers (set groups (n / 4) ts)) (h.others ∙ ap (λ (ts : AllRoutes). set ts (q) (get_or made (q) [])) group-is)
      ∙ ap (λ (ts : AllRoutes). take routers ts) (joined-set groups (n / 4) (q) r (get_or made (q) []) h.are.four lane parts)
      ∙ take-of_set routers (joined groups) r (get_or made (q) []) below
      ∙ ap (λ (ts : AllRoutes). set ts r (get_or made (q) [])) h.seen

  after : get_or (tables_in routers (set groups (n / 4) made)) r [] ≡ get_or made (q) []
  after = ap (λ (ts : AllRoutes). get_or ts r []) placed ∙ get_or-set_same tables r (get_or made (q) []) [] h.inside

  -- what holds of the table at its place in the group holds of it at the router's place in the list of all
  pub at-router : (P : List Route → List Route → Type 0) → P (get_or group (q) []) (get_or made (q) []) → P (get_or tables r []) (get_or (tables_in routers (set groups (n / 4) made)) r [])
  at-router P k = subst (λ (t : List Route). P t (get_or (tables_in routers (set groups (n / 4) made)) r [])) (sym before) (subst (λ (t : List Route). P (get_or group (q) []) t) (sym after) k)

  -- and the others' are as before
  pub others-after : tables_in routers (set groups (n / 4) made) ≡ set tables r (get_or (tables_in routers (set groups (n / 4) made)) r [])
  others-after = placed ∙ ap (λ (t : List Route). set tables r t) (sym after)

  -- the groups with the group that was made
  pub groups-after : AreGroups routers (set groups (n / 4) made)
  groups-after =
      let four : length (get_or groups (n / 4) []) ≡ 4 = All-get_or IsFour groups (n / 4) [] there h.are.four in
      let made_four : length made ≡ 4 =
      ap (λ (ts : AllRoutes). length ts) h.others
      ∙ length-set group (q) (get_or made (q) [])
      ∙ ap (λ (ts : AllRoutes). length ts) group-is
      ∙ four in
      record {
        four = All-set IsFour groups (n / 4) made made_four h.are.four;
        enough = subst (λ k. routers ≤ k * 4) (sym (length-set groups (n / 4) made)) h.are.enough;
        rest = λ k l.
            let apart : k ≢ r = λ e. let b : r < routers = below in omega arith in
            ap (λ (ts : AllRoutes). get_or (joined (set groups (n / 4) ts)) k []) (h.others ∙ ap (λ (ts : AllRoutes). set ts (q) (get_or made (q) [])) group-is)
            ∙ ap (λ (ts : AllRoutes). get_or ts k []) (joined-set groups (n / 4) (q) r (get_or made (q) []) h.are.four lane parts)
            ∙ get_or-set_other (joined groups) r k (get_or made (q) []) [] apart
            ∙ h.are.rest k l;
      }

  -- what is told of a prefix in the group
  new-at-router : (op : TableOp) (is_new : Bool) → TellsNew group op is_new → TellsNew tables op is_new
  new-at-router op is_new t =
      subst (λ (ts : AllRoutes). TellsNew ts op is_new) h.seen
      (new-of-group routers groups (n / 4) op is_new h.are (subst (λ (ts : AllRoutes). TellsNew ts op is_new) group-is t))

  -- what the update comes to
  pub update-at-router : (u : TableUpdate) (told : Told) (runs : List Run) → IsUpdateIn q group made u told runs → IsUpdateIn r tables (tables_in routers (set groups (n / 4) made)) u told runs
  update-at-router u told runs i = record {
    table = at-router (λ old new. IsPermutation new (after_table_op u.alone old u.op)) i.table;
    same = at-router (λ old new. IfNone told.after ((a : ℕ) → way_in new a ≡ way_in old a)) i.same;
    turned = at-router (λ old new. IfSome told.after (IsTurned old new (prefix_of_op u.op))) i.turned;
    own = at-router (λ old new. IfSome told.after (λ _. AreOwnRuns new (prefix_of_op u.op) runs)) i.own;
    had = at-router (λ old new. IfSome told.after (λ _. SetsOrHas old u.op)) i.had;
    is_new = new-at-router u.op told.is_new i.is_new;
  }
