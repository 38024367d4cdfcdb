-- What a router does on an interval without ends, and what routers do that there are not.
use Rattle.std.proofs.Common.{◌≡◌, ℕ, ◌+◌, ◌-◌, ◌<◌, ◌≤◌, ◌∙◌, suc, cond, None, List, [], ◌∷◌, length, get_or, filter, fold, refl, ap, subst, ⊎_elim, arith, Bool, true, ◌&&◌, ◌==◌}
use Rattle.std.proofs.lemmas.Bool.{and_parts, cases_lt, eqb-true}
use Rattle.std.proofs.lemmas.Option.{slice_get_past}
use Rattle.dn_model.specs.Topology.{are_tables_from}
use Rattle.std.proofs.lemmas.List.{get_or_default}
use Rattle.std.specs.List.{All}
use Rattle.base.specs.Cidr.{covers}
use Rattle.base.specs.DeltaFrom.{CoversAlike}
use Rattle.dn_model.specs.Entry.{IsEntryOf, op_on}
use Rattle.dn_model.specs.Downs.{downs}
use Rattle.base.specs.Links.{without}
use Rattle.dn_model.specs.Table.{Object, after_op, better, does_after, objects, ops_on, target_in, target_or_none}
use Rattle.dn_model.specs.Tables.{device_of, replaces_prefix}
use Rattle.dn_model.specs.declared.entry.Entry.TheVariants as entry
use Rattle.dn_model.specs.declared.entry.Entry.{Entry}
use Rattle.dn_model.specs.declared.entry.Op.{Op}
use Rattle.dn_model.specs.declared.entry.Route.{Route}
use Rattle.base.specs.declared.ids.RouterId.{RouterId}
use Rattle.dn_model.specs.declared.topology.Topology.{Topology}
use Rattle.base.specs.declared.target.Target.TheVariants.{NoRoute}
use Rattle.dn_model.proofs.Tables.{op-other}

pub alike-step : (routes : List Route) (i last new past : ℕ) (item : Route) → last ≤ new → item ≡ get_or routes i item → i < length routes → ((k : ℕ) (d : Route) → k < i → CoversAlike last past (get_or routes k d).prefix) → CoversAlike new past item.prefix → (k : ℕ) (d : Route) → k < i + 1 → CoversAlike new past (get_or routes k d).prefix
alike-step routes i last new past item l is inside so-far here k d below = ⊎_elim
    (λ (m : k < i). λ a from to. so-far k d m a (omega arith) to)
    (λ (m : i ≤ k).
    let e : i ≡ k = omega arith in
    let same : item ≡ get_or routes k d = is ∙ get_or_default routes i item d inside ∙ ap (λ n. get_or routes n d) e in
    let P : Route → Type 0 = λ x. CoversAlike new past x.prefix in
    subst P same here)
    (cases_lt k i)

filter-alike : (low past a : ℕ) (routes : List Route) → All (λ r. CoversAlike low past r.prefix) routes → low ≤ a → a < past → filter (λ r. covers r.prefix a) routes ≡ filter (λ r. covers r.prefix (past - 1)) routes
filter-alike low past a [] h l k = refl
filter-alike low past a (r ∷ rs) h l k =
    ap (λ b. cond b (r ∷ filter (λ x. covers x.prefix a) rs) (filter (λ x. covers x.prefix a) rs)) (h 0 r (omega arith) a l k)
    ∙ ap (λ xs. cond (covers r.prefix (past - 1)) (r ∷ xs) xs) (filter-alike low past a rs (λ i d m. h (suc i) d (omega arith)) l k)

pub target-alike : (objects : List Object) (low past a : ℕ) (routes : List Route) → All (λ r. CoversAlike low past r.prefix) routes → low ≤ a → a < past → target_in objects routes a ≡ target_in objects routes (past - 1)
target-alike objects low past a routes h l k = ap (λ xs. target_or_none objects (fold better None xs)) (filter-alike low past a routes h l k)

pub sound-parts : (t : Topology) → ((length t.tables == length t.routers) ≡ true) × (are_tables_from [] t.tables ≡ true)
sound-parts t =
    let first = λ (x y : Bool) (h : (x && y) ≡ true). (and_parts x y h).0 in
    let tables = first _ _ (first _ _ (first _ _ (first _ _ (first _ _ (first _ _ (first _ _ (first _ _ (first _ _ t.sound)))))))) in
    and_parts _ _ (first _ _ tables)

-- each router has its table
pub tables-long : (t : Topology) → length t.tables ≡ length t.routers
tables-long t = eqb-true _ _ (sound-parts t).0

-- a router that there is not is no VRF of another one
own-device : (t : Topology) (r : RouterId) → length t.routers ≤ r.0 → device_of t r ≡ r
own-device t r l =
    let long : length t.tables ≡ length t.routers = tables-long t in
    rw (slice_get_past t.tables r.0 (omega arith)) refl

no-entry : (t : Topology) (history : List Entry) (r : RouterId) → All (IsEntryOf t) history → length t.routers ≤ r.0 → ops_on t r history ≡ []
no-entry t [] r h l = refl
no-entry t (entry.Link j k down ∷ es) r h l = no-entry t es r (λ i d m. h (suc i) d (omega arith)) l
no-entry t (entry.Route q n op ∷ es) r h l =
    let here : IsEntryOf t (entry.Route q n op) = h 0 (entry.Route q n op) (omega arith) in
    let is : q.0 < length t.routers = here.0 in
    let own : (device_of t r).0 ≡ r.0 = ap (λ (x : RouterId). x.0) (own-device t r l) in
    let other : op_on t r (entry.Route q n op) ≡ None = op-other t r q n op (λ s. let z : ⊥ = omega arith in z) (λ s. let z : ⊥ = omega arith in z) in
    let rest : ops_on t r es ≡ [] = no-entry t es r (λ i d m. h (suc i) d (omega arith)) l in
    rw (other, rest) refl

pub nowhere : (t : Topology) (history : List Entry) (r : RouterId) (a : ℕ) → All (IsEntryOf t) history → length t.routers ≤ r.0 → does_after t history r a ≡ NoRoute
nowhere t history r a h l = ap (λ (ops : List Op). without (downs history) (target_in (objects t history r) (fold (after_op (replaces_prefix t r)) [] ops) a)) (no-entry t history r h l)
