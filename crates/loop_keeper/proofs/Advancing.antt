-- What is kept of a network, through an update.
use Rattle.std.proofs.Common.{◌≡◌, ℕ, ◌<◌, ◌^◌, ◌∙◌, Bool, true, false, ◌&&◌, nat_lt, ◌==◌, Option, None, Some, List, [], ◌∷◌, refl, ap, ap₂, sym, subst, ⊎_elim}
use Rattle.std.specs.Prelude.{if◌then◌else◌, Contains}
use Rattle.std.specs.List.{list_all}
use Rattle.std.proofs.lemmas.Bool.{cases_Bool, eqb-true, and_from, and_parts, or_left, or_right, both_ways}
use Rattle.base.specs.Cycles.{go_round, is_cycle, goes_round}
use Rattle.base.specs.Delta.{IsDelta, TellsChange, change_at, is_change_at, targets_of}
use Rattle.base.specs.Reach.{is_router}
use Rattle.base.specs.Runs.{holds}
use Rattle.base.specs.Lists.{all_differ}
use Rattle.base.specs.Walk.{at_address, on_far}
use Rattle.base.specs.declared.change.Change.{Change}
use Rattle.base.specs.declared.ids.RouterId.{RouterId}
use Rattle.base.specs.declared.target.Target.{Target}
use Rattle.base.proofs.Elements.{contains-none}
use Rattle.base.proofs.DeltaParts.{same-router}
use Rattle.loop_check.specs.Following.{is_among}
use Rattle.loop_check.proofs.Rounds.{among-head}
use Rattle.loop_keeper.specs.Edits.{AreEdited, AreTakenOut}
use Rattle.loop_keeper.specs.Finding.{AllGoRound, FindTouched, HasFound, is_touched, touches}
use Rattle.loop_keeper.specs.Kept.{AreKept, HasKept, Kept}
use Rattle.loop_keeper.specs.declared.found.Found.{Found}

-- ---- routers that do as before are a cycle as before

go-same : (f g : RouterId → Target) (first : RouterId) (rs : List RouterId) → ((r : RouterId) → is_among rs r ≡ true → f r ≡ g r) → go_round f first rs ≡ go_round g first rs
go-same f g first [] h = refl
go-same f g first (r ∷ []) h = ap (λ (t : Target). on_far t false (is_router first)) (h r (among-head r r [] refl))
go-same f g first (r ∷ s ∷ rest) h = ap₂ (λ (x : Bool). λ (y : Bool). x && y)
    (ap (λ (t : Target). on_far t false (is_router s)) (h r (among-head r r (s ∷ rest) refl)))
    (go-same f g first (s ∷ rest) (λ x m. h x (or_right (is_router x r) (is_among (s ∷ rest) x) m)))

pub cycle-same : (f g : RouterId → Target) (rs : List RouterId) → ((r : RouterId) → is_among rs r ≡ true → f r ≡ g r) → is_cycle f rs ≡ is_cycle g rs
cycle-same f g [] h = refl
cycle-same f g (r ∷ rest) h = ap (λ (b : Bool). list_all (λ s. nat_lt r.0 s.0) rest && all_differ is_router (r ∷ rest) && b) (go-same f g r (r ∷ rest) h)

-- ---- routers that no change touches do as before

untouched-first : (c : Change) (cs : List Change) (rs : List RouterId) (a : ℕ) → is_touched (c ∷ cs) rs a ≡ false → (touches rs a c ≡ false) × (is_touched cs rs a ≡ false)
untouched-first c cs rs a h = ⊎_elim
    (λ (x : touches rs a c ≡ true). absurd (both_ways (is_touched (c ∷ cs) rs a) h (or_left (touches rs a c) (is_touched cs rs a) x)))
    (λ (x : touches rs a c ≡ false). ⊎_elim
    (λ (y : is_touched cs rs a ≡ true). absurd (both_ways (is_touched (c ∷ cs) rs a) h (or_right (touches rs a c) (is_touched cs rs a) y)))
    (λ (y : is_touched cs rs a ≡ false). (x, y))
    (cases_Bool (is_touched cs rs a)))
    (cases_Bool (touches rs a c))

other-change : (c : Change) (rs : List RouterId) (a : ℕ) (r : RouterId) → touches rs a c ≡ false → is_among rs r ≡ true → is_change_at r a c ≡ false
other-change c rs a r h m = ⊎_elim
    (λ (x : is_change_at r a c ≡ true).
    let p : ((c.router.0 == r.0) ≡ true) × (holds a c.run ≡ true) = and_parts (c.router.0 == r.0) (holds a c.run) x in
    let e : c.router ≡ r = same-router c.router r (eqb-true c.router.0 r.0 p.0) in
    let P : RouterId → Type 0 = λ v. is_among rs v ≡ true in
    absurd (both_ways (touches rs a c) h (and_from (is_among rs c.router) (holds a c.run) (subst P (sym e) m) p.1)))
    (λ (x : is_change_at r a c ≡ false). x)
    (cases_Bool (is_change_at r a c))

no-change : (d : List Change) (rs : List RouterId) (a : ℕ) (r : RouterId) → is_touched d rs a ≡ false → is_among rs r ≡ true → change_at d r a ≡ None
no-change [] rs a r h m = refl
no-change (c ∷ cs) rs a r h m =
    let p : (touches rs a c ≡ false) × (is_touched cs rs a ≡ false) = untouched-first c cs rs a h in
    ap (λ (b : Bool). if b then Some (targets_of c) else change_at cs r a) (other-change c rs a r p.0 m) ∙ no-change cs rs a r p.1 m

pub goes-same : (f g : RouterId → ℕ → Target) (d : List Change) (rs : List RouterId) (a : ℕ) → IsDelta f g d → a < 2 ^ 32 → is_touched d rs a ≡ false → goes_round f rs a ≡ goes_round g rs a
goes-same f g d rs a h b t = cycle-same (at_address f a) (at_address g a) rs (λ r m.
    let P : Option (Target × Target) → Type 0 = λ o. TellsChange (f r a) (g r a) o in
    subst P (no-change d rs a r t m) (h.exact r a b))

-- ---- the update

pub advanced : (f g : RouterId → ℕ → Target) (d : List Change) (found : List Found) (old new : List Kept) → AreKept f old → IsDelta f g d → AllGoRound g found → FindTouched g d found → AreEdited d found old new → AreKept g new
advanced f g d found old new kept delta sound find edited = record {
  form = edited.put.form;
  sound = λ rs a b has. ⊎_elim
      (λ (o : HasKept edited.out rs a).
      let was = edited.taken.only rs a b o in
      sym (goes-same f g d rs a delta b was.1) ∙ kept.sound rs a b was.0)
      (λ (o : HasFound found rs a). (sound rs a o).1)
      (edited.put.only rs a b has);
  all = λ rs a b goes. ⊎_elim
      (λ (t : is_touched d rs a ≡ true). edited.put.here rs a b (find rs a b goes t))
      (λ (t : is_touched d rs a ≡ false). edited.put.kept rs a b (edited.taken.kept rs a b (kept.all rs a b (goes-same f g d rs a delta b t ∙ goes)) t))
      (cases_Bool (is_touched d rs a));
}

-- where nothing was found, and nothing is to be taken out
pub advanced-idle : (f g : RouterId → ℕ → Target) (d : List Change) (found : List Found) (old : List Kept) → AreKept f old → IsDelta f g d → FindTouched g d found → found ≡ [] → AreTakenOut d old old → AreKept g old
advanced-idle f g d found old kept delta find none taken = record {
  form = kept.form;
  sound = λ rs a b has. sym (goes-same f g d rs a delta b (taken.only rs a b has).1) ∙ kept.sound rs a b has;
  all = λ rs a b goes. ⊎_elim
      (λ (t : is_touched d rs a ≡ true).
      let one : HasFound found rs a = find rs a b goes t in
      let P : List Found → Type 0 = λ v. Contains v one.one in
      absurd (contains-none one.one (subst P none one.among)))
      (λ (t : is_touched d rs a ≡ false). kept.all rs a b (goes-same f g d rs a delta b t ∙ goes))
      (cases_Bool (is_touched d rs a));
}

-- ---- networks that do the same at each address

goes-alike : (f g : RouterId → ℕ → Target) (rs : List RouterId) (a : ℕ) → ((r : RouterId) → f r a ≡ g r a) → goes_round f rs a ≡ goes_round g rs a
goes-alike f g rs a e = cycle-same (at_address f a) (at_address g a) rs (λ r m. e r)

pub kept-alike : (f g : RouterId → ℕ → Target) (kept : List Kept) → ((r : RouterId) (a : ℕ) → a < 2 ^ 32 → f r a ≡ g r a) → AreKept f kept → AreKept g kept
kept-alike f g kept e h = record {
  form = h.form;
  sound = λ rs a b has. sym (goes-alike f g rs a (λ r. e r a b)) ∙ h.sound rs a b has;
  all = λ rs a b goes. h.all rs a b (goes-alike f g rs a (λ r. e r a b) ∙ goes);
}

pub delta-alike : (f g h : RouterId → ℕ → Target) (d : List Change) → ((r : RouterId) (a : ℕ) → a < 2 ^ 32 → g r a ≡ h r a) → IsDelta f g d → IsDelta f h d
delta-alike f g h d e x = record {
  form = x.form;
  exact = λ r a b.
      let P : Target → Type 0 = λ t. TellsChange (f r a) t (change_at d r a) in
      subst P (e r a b) (x.exact r a b);
}
