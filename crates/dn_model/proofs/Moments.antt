-- Networks at a moment do what their routers do after the history.
use Rattle.std.proofs.Common.{◌≡◌, ◌∙◌, ℕ, ◌+◌, ◌-◌, ◌<◌, ◌≤◌, ◌||◌, ◌==◌, true, false, Some, None, List, [], ◌∷◌, ◌++◌, length, get_or, refl, ap, sym, subst, ⊎_elim, arith}
use Rattle.std.specs.Prelude.{slice_get}
use Rattle.std.specs.List.{All}
use Rattle.std.proofs.lemmas.Bool.{cases_Bool, cases_lt}
use Rattle.std.proofs.lemmas.List.{get_or_append_left, get_or_at, get_or_default, length-append}
use Rattle.std.proofs.lemmas.List.Folds.{list_any-append}
use Rattle.std.proofs.lemmas.Option.{same_Some, slice_get_cases, slice_get_past, slice_get_within, slice_get-get_or}
use Rattle.base.specs.Links.{is_down, without}
use Rattle.base.specs.DeltaFrom.{IsDeltaFrom}
use Rattle.base.specs.RunsFrom.{DoAlike}
use Rattle.base.specs.declared.ids.LinkId.{LinkId}
use Rattle.base.specs.declared.ids.RouterId.{RouterId}
use Rattle.base.specs.declared.target.Target.{Target}
use Rattle.base.specs.declared.target.Target.TheVariants.{NoRoute, Dropped, Local, Exit, OnLink, To, LinkDown}
use Rattle.dn_model.specs.Downs.{downs}
use Rattle.dn_model.specs.Entry.{IsEntryOf}
use Rattle.dn_model.specs.Moment.{AreMomentsOf, IsMoment, does_then}
use Rattle.dn_model.specs.Network.{IsClosed, IsNetwork, does_in, routers_in}
use Rattle.dn_model.specs.Next.{next}
use Rattle.dn_model.specs.Table.{Object, does_after, objects, target_after, target_in}
use Rattle.dn_model.specs.declared.entry.Entry.{Entry}
use Rattle.dn_model.specs.declared.entry.Route.{Route}
use Rattle.dn_model.specs.declared.moment.Moment.{Moment}
use Rattle.dn_model.specs.declared.network.Network.{Network}
use Rattle.dn_model.specs.declared.topology.Topology.{Topology}
use Rattle.dn_model.proofs.Nowhere.{nowhere}
use Rattle.dn_model.proofs.Within.{history-within}

-- all routes of a router do the same with the addresses from `low` up to, and without, `past`
abbrev pub RoutesAlike : ℕ → ℕ → Moment → Type 0
RoutesAlike low past m = (objects : List Object) (a : ℕ) → low ≤ a → a < past → target_in objects m.routes a ≡ target_in objects m.routes (past - 1)

-- one router more
pub moments-push : (t : Topology) (history : List Entry) (moments : List Moment) (m : Moment) → AreMomentsOf t history moments → IsMoment t history (record { 0 = length moments }) m → AreMomentsOf t history (moments ++ m ∷ [])
moments-push t history moments m h k i x e = ⊎_elim
    (λ (before : i < length moments).
    let old : slice_get moments i ≡ Some x = slice_get-get_or moments i x before ∙ ap (λ y. Some y) (sym (get_or_append_left moments (m ∷ []) x i before)) ∙ sym (slice_get-get_or (moments ++ m ∷ []) i x (within i x e)) ∙ e in
    h i x old)
    (λ (last : length moments ≤ i).
    let long : length (moments ++ m ∷ []) ≡ length moments + 1 = length-append moments (m ∷ []) in
    let below : i < length (moments ++ m ∷ []) = within i x e in
    let at : length moments ≡ i = omega arith in
    let is : m ≡ x = same_Some m x (ap (λ y. Some y) (sym (get_or_at moments m [] x i at)) ∙ sym (slice_get-get_or (moments ++ m ∷ []) i x below) ∙ e) in
    subst (λ y. IsMoment t history (record { 0 = i }) y) is (subst (λ n. IsMoment t history (record { 0 = n }) m) at k))
    (cases_lt i (length moments))
  where
    within : (i : ℕ) (x : Moment) → slice_get (moments ++ m ∷ []) i ≡ Some x → i < length (moments ++ m ∷ [])
    within i x e = slice_get_within (moments ++ m ∷ []) i x e

-- ---- what a network does

pub in-none : (net : Network) (r : RouterId) (a : ℕ) → routers_in net ≤ r.0 → does_in net r a ≡ NoRoute
in-none net r a l = rw (slice_get_past net.routers.items r.0 l) refl

pub in-some : (net : Network) (r : RouterId) (a : ℕ) (m : Moment) → slice_get net.routers.items r.0 ≡ Some m → does_in net r a ≡ does_then net.down.items m a
in-some net r a m e = rw e refl

without-both : (xs ys : List LinkId) (target : Target) → without (xs ++ ys) target ≡ without ys (without xs target)
without-both xs ys NoRoute = refl
without-both xs ys (Dropped kind) = refl
without-both xs ys Local = refl
without-both xs ys (Exit i) = refl
without-both xs ys (OnLink i) = refl
without-both xs ys (LinkDown l) = refl
without-both xs ys (To s l) =
    let both : is_down (xs ++ ys) l ≡ (is_down xs l || is_down ys l) = list_any-append (λ (d : LinkId). d.0 == l.0) xs ys in
    ⊎_elim
    (λ (y : is_down xs l ≡ true). rw (both, y) refl)
    (λ (n : is_down xs l ≡ false). rw (both, n) refl)
    (cases_Bool (is_down xs l))

then-does : (t : Topology) (history : List Entry) (down : List LinkId) (r : RouterId) (m : Moment) (a : ℕ) → IsMoment t history r m → does_then (downs history ++ down) m a ≡ next t history down r a
then-does t history down r m a h =
    ap (λ (os : List Object). without (downs history ++ down) (target_in os m.routes a)) h.objects
    ∙ ap (λ (rs : List Route). without (downs history ++ down) (target_in (objects t history r) rs a)) h.routes
    ∙ without-both (downs history) down (target_after t history r a)

-- a network does what its routers do after the history
pub network-does : (t : Topology) (history : List Entry) (down : List LinkId) (net : Network) (r : RouterId) (a : ℕ) → All (IsEntryOf t) history → IsNetwork t history down net → does_in net r a ≡ next t history down r a
network-does t history down net r a h n = ⊎_elim
    (λ (s : (m : Moment) × (r.0 < length net.routers.items) × (slice_get net.routers.items r.0 ≡ Some m) × (get_or net.routers.items r.0 m ≡ m)).
    in-some net r a s.0 s.2 ∙ ap (λ (ls : List LinkId). does_then ls s.0 a) n.down ∙ then-does t history down r s.0 a (n.routers.each r.0 s.0 s.2))
    (λ (o : (length net.routers.items ≤ r.0) × (slice_get net.routers.items r.0 ≡ None)).
    let count : length net.routers.items ≡ length t.routers = n.routers.count in
    let off : length t.routers ≤ r.0 = let l : length net.routers.items ≤ r.0 = o.0 in omega arith in
    in-none net r a o.0 ∙ sym (ap (without down) (nowhere t history r a h off)))
    (slice_get_cases net.routers.items r.0).1

-- it leads to none but its own routers
pub network-closed : (t : Topology) (history : List Entry) (down : List LinkId) (net : Network) → All (IsEntryOf t) history → IsNetwork t history down net → IsClosed net
network-closed t history down net h n = λ a r s l inside e.
    let count : routers_in net ≡ length t.routers = n.routers.count in
    let within : r.0 < routers_in net = inside in
    let there : r.0 < length t.routers = omega arith in
    let to : next t history down r a ≡ To s l = sym (network-does t history down net r a h n) ∙ e in
    let far : s.0 < length t.routers = history-within t history down a h r s l there to in
    omega arith

-- routers that there are not change nothing
pub none-from : (before after : Network) → routers_in before ≡ routers_in after → IsDeltaFrom (does_in before) (does_in after) (routers_in after) 0 []
none-from before after e = record {
  form = tt;
  begin = tt;
  exact = λ r a s b.
      let out : routers_in after ≤ r.0 = ⊎_elim
      (λ (m : routers_in after < r.0). omega arith)
      (λ (p : (routers_in after ≡ r.0) × (0 ≤ a)). let q : routers_in after ≡ r.0 = p.0 in omega arith)
      s in
      let gone : routers_in before ≤ r.0 = omega arith in
      in-none before r a gone ∙ sym (in-none after r a out);
}

without-none : (target : Target) → without [] target ≡ target
without-none NoRoute = refl
without-none (Dropped kind) = refl
without-none Local = refl
without-none (Exit i) = refl
without-none (OnLink i) = refl
without-none (To s l) = refl
without-none (LinkDown l) = refl

-- with no link taken as down besides, it does what is done after the history
pub network-after : (t : Topology) (history : List Entry) (net : Network) (r : RouterId) (a : ℕ) → All (IsEntryOf t) history → IsNetwork t history [] net → does_in net r a ≡ does_after t history r a
network-after t history net r a h n = network-does t history [] net r a h n ∙ without-none (does_after t history r a)

-- where no router's routes have an end, each does the same with all addresses
pub do-alike : (net : Network) (low past : ℕ) → ((k : ℕ) (d : Moment) → k < length net.routers.items → RoutesAlike low past (get_or net.routers.items k d)) → DoAlike (does_in net) low past
do-alike net low past h r a from to = ⊎_elim
    (λ (s : (m : Moment) × (r.0 < length net.routers.items) × (slice_get net.routers.items r.0 ≡ Some m) × (get_or net.routers.items r.0 m ≡ m)).
    in-some net r a s.0 s.2 ∙ ap (without net.down.items) (subst (RoutesAlike low past) s.3 (h r.0 s.0 s.1) s.0.objects.items a from to) ∙ sym (in-some net r (past - 1) s.0 s.2))
    (λ (o : (length net.routers.items ≤ r.0) × (slice_get net.routers.items r.0 ≡ None)). in-none net r a o.0 ∙ sym (in-none net r (past - 1) o.0))
    (slice_get_cases net.routers.items r.0).1

pub alike-more : (moments : List Moment) (i low new past : ℕ) (item : Moment) → low ≤ new → item ≡ get_or moments i item → i < length moments → ((k : ℕ) (d : Moment) → k < i → RoutesAlike low past (get_or moments k d)) → RoutesAlike new past item → (k : ℕ) (d : Moment) → k < i + 1 → RoutesAlike new past (get_or moments k d)
alike-more moments i low new past item l is inside so-far here k d below = ⊎_elim
    (λ (m : k < i). λ objects a from to. so-far k d m objects a (omega arith) to)
    (λ (m : i ≤ k).
    let e : i ≡ k = omega arith in
    let same : item ≡ get_or moments k d = is ∙ get_or_default moments i item d inside ∙ ap (λ n. get_or moments n d) e in
    subst (RoutesAlike new past) same here)
    (cases_lt k i)
