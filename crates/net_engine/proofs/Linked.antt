-- A link went down or came up: what is kept then stands for the history with that entry, and what is told is its delta.
use Rattle.std.proofs.Common.{◌≡◌, ℕ, ◌+◌, ◌∙◌, ◌||◌, ◌==◌, ⊎_elim, Bool, true, false, cond, List, [], ◌∷◌, ◌++◌, length, fold, get_or, refl, ap, sym, subst, arith}
use Rattle.std.specs.List.{list_any}
use Rattle.std.specs.Map.{lookup}
use Rattle.std.proofs.lemmas.Bool.{cases_Bool, eqb-true}
use Rattle.std.proofs.lemmas.List.Elements.{filter_map-append}
use Rattle.std.proofs.lemmas.List.Folds.{list_any-append}
use Rattle.std.proofs.lemmas.List.Sums.{fold-append}
use Rattle.base.specs.Links.{is_down}
use Rattle.base.specs.declared.change.Change.{Change}
use Rattle.base.specs.declared.ids.LinkId.{LinkId}
use Rattle.base.specs.declared.ids.RouterId.{RouterId}
use Rattle.dn_model.specs.Downs.{downs}
use Rattle.dn_model.specs.Entry.{op_on}
use Rattle.dn_model.specs.LastSays.{last_takes_down, names_link, takes_down}
use Rattle.dn_model.specs.Table.{Object, after_object, after_op, objects, ops_on, table}
use Rattle.dn_model.specs.Tables.{device_of, replaces_prefix}
use Rattle.dn_model.specs.declared.entry.Entry.{Entry}
use Rattle.dn_model.specs.declared.entry.Entry.TheVariants.{Link}
use Rattle.dn_model.specs.declared.entry.Route.{Route}
use Rattle.dn_model.specs.declared.topology.Topology.{Topology}
use Rattle.dn_model.proofs.LastSays.{down-last}
use Rattle.dn_model.proofs.SameRoutes.{SameRoutes, same-permutation}
use Rattle.net_engine.specs.LinkSet.{AreAlikeBut, IsLinkPut}
use Rattle.net_engine.specs.Version.{Kept, KeptStandsFor, is_boundary_after}
use Rattle.net_engine.specs.Walked.{IsAdvanced, IsLinkTurned, with_links}
use Rattle.net_engine.specs.Whole.{IsWhole}
use Rattle.net_engine.proofs.StandingFor.{boundary-after, stands}
use Rattle.net_engine.proofs.Updated.{delta-after}

-- ---- the history with the entry

-- the last entry that names a link says whether it is down
last-after : (k : LinkId) (history : List Entry) (e : Entry) → last_takes_down k (history ++ e ∷ []) ≡ cond (names_link k e) (takes_down e) (last_takes_down k history)
last-after k [] e = refl
last-after k (x ∷ xs) e = by (list_any (names_link k) xs) (names_link k e) refl refl (list_any-append (names_link k) xs (e ∷ [])) (last-after k xs e)
  where
    by : (p q : Bool) → list_any (names_link k) xs ≡ p → names_link k e ≡ q → list_any (names_link k) (xs ++ e ∷ []) ≡ (list_any (names_link k) xs || list_any (names_link k) (e ∷ [])) → last_takes_down k (xs ++ e ∷ []) ≡ cond (names_link k e) (takes_down e) (last_takes_down k xs) → last_takes_down k ((x ∷ xs) ++ e ∷ []) ≡ cond (names_link k e) (takes_down e) (last_takes_down k (x ∷ xs))
    by true true f g any rest = rw (f, g) (let some : list_any (names_link k) (xs ++ e ∷ []) ≡ true = rw f at any in rw some (rw g at rest))
    by true false f g any rest = rw (f, g) (let some : list_any (names_link k) (xs ++ e ∷ []) ≡ true = rw f at any in rw some (rw g at rest))
    by false true f g any rest = rw (f, g) (let some : list_any (names_link k) (xs ++ e ∷ []) ≡ true = rw (f, g) at any in rw some (rw g at rest))
    by false false f g any rest = rw (f, g) (let none : list_any (names_link k) (xs ++ e ∷ []) ≡ false = rw (f, g) at any in rw none refl)

down-after : (history : List Entry) (j : ℕ) (l : LinkId) (down : Bool) (k : LinkId) → is_down (downs (history ++ Link j l down ∷ [])) k ≡ cond (l.0 == k.0) down (is_down (downs history) k)
down-after history j l down k =
    down-last (history ++ Link j l down ∷ []) k
    ∙ last-after k history (Link j l down)
    ∙ ap (λ b. cond (l.0 == k.0) down b) (sym (down-last history k))

-- tables and objects are as before
table-same : (t : Topology) (history : List Entry) (j : ℕ) (l : LinkId) (down : Bool) (r : RouterId) → table t (history ++ Link j l down ∷ []) r ≡ table t history r
table-same t history j l down r =
    ap (fold (after_op (replaces_prefix t r)) []) (filter_map-append (op_on t r) history (Link j l down ∷ []))
    ∙ fold-append (after_op (replaces_prefix t r)) [] (ops_on t r history) (ops_on t r (Link j l down ∷ []))

objects-same : (t : Topology) (history : List Entry) (j : ℕ) (l : LinkId) (down : Bool) (r : RouterId) → objects t (history ++ Link j l down ∷ []) r ≡ objects t history r
objects-same t history j l down r =
    ap (fold after_object []) (filter_map-append (op_on t (device_of t r)) history (Link j l down ∷ []))
    ∙ fold-append after_object [] (ops_on t (device_of t r) history) (ops_on t (device_of t r) (Link j l down ∷ []))

or-never : (b : Bool) → (b || false) ≡ b
or-never true = refl
or-never false = refl

-- ---- what is kept

pub whole-links : (kept : Kept) (links : List LinkId) → IsWhole kept → IsWhole (with_links kept links)
whole-links kept links h = record {
  few = h.few;
  cover = h.cover;
  wide = h.wide;
  tables = h.tables;
  objects = h.objects;
  agree = h.agree;
}

stands-turned : (old : Kept) (links : List LinkId) (j : ℕ) (l : LinkId) (down : Bool) (history : List Entry) → IsWhole old → IsLinkPut old.down links l down → KeptStandsFor old history → KeptStandsFor (with_links old links) (history ++ Link j l down ∷ [])
stands-turned old links j l down history was put h =
    stands (with_links old links) (whole-links old links was) (history ++ Link j l down ∷ [])
    (λ r.
    let P : List Route → Type 0 = λ xs. SameRoutes (get_or old.routes r.0 []) xs in
    subst P (sym (table-same old.topology history j l down r)) (same-permutation (get_or old.routes r.0 []) (table old.topology history r) (h.routes r)))
    (λ r id. h.objects r id ∙ ap (λ (os : List Object). lookup (λ i. i == id) os) (sym (objects-same old.topology history j l down r)))
    (λ k. put k ∙ ap (λ b. cond (l.0 == k.0) down b) (h.down k) ∙ sym (down-after history j l down k))
    (λ a b. h.boundaries a b ∙ sym (or-never (is_boundary_after history a)) ∙ sym (boundary-after history (Link j l down) a))

pub advanced-link : (old new : Kept) (j : ℕ) (l : LinkId) (down : Bool) (changes : List Change) → IsWhole old → IsLinkTurned old new l down changes → IsAdvanced old new (Link j l down) changes
advanced-link old new j l down changes was g =
    let P : (history : List Entry) → Kept → Type 0 = λ history k. KeptStandsFor k (history ++ Link j l down ∷ []) in
    let stand : (history : List Entry) → KeptStandsFor old history → KeptStandsFor new (history ++ Link j l down ∷ []) = λ history h.
    subst (P history) (sym g.same) (stands-turned old new.down j l down history was g.links h) in
    let topology : new.topology ≡ old.topology = ap (λ (k : Kept). k.topology) g.same in
    record {
      topology = topology;
      stands = stand;
      delta = λ history h. delta-after old new history (Link j l down) changes topology h (stand history h) g.told;
      added = ap (λ (k : Kept). length k.atoms) g.same ∙ more-none (length old.atoms);
      met = tt;
    }
  where
    more-none : (n : ℕ) → n ≡ n + 0
    more-none n = omega arith

-- ---- links

same-link : (k l : LinkId) → k.0 ≡ l.0 → k ≡ l
same-link k l e = let L : ℕ → LinkId = λ n. record { 0 = n } in ap L e

-- a link that is so already is put so
pub put-already : (links : List LinkId) (l : LinkId) (down : Bool) → is_down links l ≡ down → IsLinkPut links links l down
put-already links l down is k = ⊎_elim
    (λ (y : (l.0 == k.0) ≡ true).
    ap (is_down links) (sym (same-link l k (eqb-true l.0 k.0 y))) ∙ is ∙ sym (ap (λ b. cond b down (is_down links k)) y))
    (λ (n : (l.0 == k.0) ≡ false). sym (ap (λ b. cond b down (is_down links k)) n))
    (cases_Bool (l.0 == k.0))

pub put-alike : (old new : List LinkId) (l : LinkId) (down : Bool) → IsLinkPut old new l down → AreAlikeBut old new l
put-alike old new l down put k n = put k ∙ ap (λ b. cond b down (is_down old k)) n
