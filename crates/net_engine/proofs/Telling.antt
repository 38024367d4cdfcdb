-- What is told of an update where links are down, change by change.
use Rattle.std.proofs.Common.{◌≡◌, ℕ, ◌+◌, ◌<◌, ◌≤◌, ◌∙◌, ◌==◌, ⊎_elim, inr, true, false, Option, None, Some, List, [], ◌∷◌, length, drop, get_or, refl, ap, sym, subst, arith}
use Rattle.std.proofs.lemmas.Bool.{and_parts, both_ways, cases_Bool, eqb-true}
use Rattle.std.proofs.lemmas.List.{drop_all, drop_more}
use Rattle.base.specs.Delta.{AreChanges, TellsChange, change_at, is_change_at}
use Rattle.base.specs.Links.{without}
use Rattle.base.specs.Rows.{is_within}
use Rattle.base.specs.Runs.{holds}
use Rattle.base.specs.declared.change.Change.{Change}
use Rattle.base.specs.declared.ids.LinkId.{LinkId}
use Rattle.base.specs.declared.ids.RouterId.{RouterId}
use Rattle.base.specs.declared.target.Target.{Target}
use Rattle.base.proofs.DeltaOnce.{first-is, none-later, not-first, within}
use Rattle.delta_graph.proofs.Joints.{IsAt, is-at}
use Rattle.net_engine.specs.Told.{AreShown, ShowsChange}
use Rattle.net_engine.specs.Walked.{IsTold, is_part}
use Rattle.net_engine.proofs.Following.{without-none}
use Rattle.net_engine.proofs.Held.{within-high, within-low}
use Rattle.net_engine.proofs.Moving.{holds-high, holds-low}

-- ---- where no link is down what is told is what is shown

told-none : (x y : Target) (o : Option (Target × Target)) → TellsChange x y o → TellsChange (without [] x) (without [] y) o
told-none x y o h =
    subst (λ t. TellsChange t (without [] y) o) (sym (without-none x)) (subst (λ t. TellsChange x t o) (sym (without-none y)) h)

shows-same : (changes : List Change) (r : RouterId) (a : ℕ) → AreChanges changes → ShowsChange [] (change_at changes r a) (change_at changes r a)
shows-same [] r a form = refl
shows-same (c ∷ cs) r a form = ⊎_elim
    (λ (t : is_change_at r a c ≡ true).
    subst (λ (o : Option (Target × Target)). ShowsChange [] o o) (sym (first-is r a c cs t))
    (told-none c.before c.after (Some (c.before, c.after)) (refl, form.0.differ)))
    (λ (f : is_change_at r a c ≡ false).
    subst (λ (o : Option (Target × Target)). ShowsChange [] o o) (sym (not-first r a c cs f)) (shows-same cs r a form.2))
    (cases_Bool (is_change_at r a c))

pub shown-same : (down : List LinkId) (changes : List Change) → down ≡ [] → AreChanges changes → AreShown down changes changes
shown-same down changes up form = subst (λ (ls : List LinkId). AreShown ls changes changes) (sym up) (λ r a. shows-same changes r a form)

-- ---- one change after another

-- what is left of a router and an address, of all that is told of them, and what is shown of them so far
abbrev Shows : List LinkId → Option (Target × Target) → Option (Target × Target) → Option (Target × Target) → Type 0
Shows down None all now = ShowsChange down all now
Shows down (Some p) all now = (now ≡ None) × (all ≡ Some p)

-- what is shown of some changes, so far, and which are left
pub record AreShownTo (down : List LinkId) (all left now : List Change) : Type 0 where
  pub form : AreChanges now
  pub left_form : AreChanges left
  pub each : (r : RouterId) (a : ℕ) → Shows down (change_at left r a) (change_at all r a) (change_at now r a)

pub shown-none : (down : List LinkId) (all now : List Change) → AreChanges all → now ≡ [] → AreShownTo down all all now
shown-none down all now form none = subst (λ (cs : List Change). AreShownTo down all all cs) (sym none) (record {
  form = tt;
  left_form = form;
  each = λ r a. by (change_at all r a);
})
  where
    by : (o : Option (Target × Target)) → Shows down o o None
    by None = refl
    by (Some p) = (refl, refl)

later-none : (r : RouterId) (a : ℕ) (c : Change) (rest : List Change) → AreChanges (c ∷ rest) → is_change_at r a c ≡ true → change_at rest r a ≡ None
later-none r a c rest h t = let at : IsAt r a c = is-at r a c t in none-later r a c rest h.1 h.2 (inr (sym at.router, at.high))

not-part : (r : RouterId) (a : ℕ) (c : Change) → is_change_at r a c ≡ false → is_part c.router c.run.lo (c.run.hi + 1) r a ≡ false
not-part r a c f = ⊎_elim
    (λ (t : is_part c.router c.run.lo (c.run.hi + 1) r a ≡ true).
    let parts = and_parts (r.0 == c.router.0) (is_within c.run.lo (c.run.hi + 1) a) t in
    let low : c.run.lo ≤ a = within-low c.run.lo (c.run.hi + 1) a parts.1 in
    let high : a < c.run.hi + 1 = within-high c.run.lo (c.run.hi + 1) a parts.1 in
    absurd (both_ways (is_change_at r a c) f (within r a c (sym (eqb-true r.0 c.router.0 parts.0)) low (omega arith))))
    (λ (n : is_part c.router c.run.lo (c.run.hi + 1) r a ≡ false). n)
    (cases_Bool (is_part c.router c.run.lo (c.run.hi + 1) r a))

same-router : (q r : RouterId) → q.0 ≡ r.0 → q ≡ r
same-router q r e = let R : ℕ → RouterId = λ n. record { 0 = n } in ap R e

-- nothing is told yet where a change is next
next-free : (down : List LinkId) (all rest now : List Change) (c : Change) → AreShownTo down all (c ∷ rest) now → (a : ℕ) → holds a c.run ≡ true → change_at now c.router a ≡ None
next-free down all rest now c h a on =
    let here : is_change_at c.router a c ≡ true = within c.router a c refl (holds-low a c.run on) (holds-high a c.run on) in
    (subst (λ (o : Option (Target × Target)). Shows down o (change_at all c.router a) (change_at now c.router a)) (first-is c.router a c rest here) (h.each c.router a)).0

next-shown : (down : List LinkId) (all rest now new : List Change) (c : Change) → AreShownTo down all (c ∷ rest) now → IsTold now new c.router c.run.lo (c.run.hi + 1) (without down c.before) (without down c.after) → AreShownTo down all rest new
next-shown down all rest now new c h told = record {
  form = told.form;
  left_form = h.left_form.2;
  each = λ r a. ⊎_elim
      (λ (t : is_change_at r a c ≡ true).
      let at : IsAt r a c = is-at r a c t in
      let low : c.run.lo ≤ a = at.low in
      let high : a ≤ c.run.hi = at.high in
      let was = subst (λ (o : Option (Target × Target)). Shows down o (change_at all r a) (change_at now r a)) (first-is r a c rest t) (h.each r a) in
      let here : TellsChange (without down c.before) (without down c.after) (change_at new c.router a) = told.here a low (omega arith) in
      let mine : TellsChange (without down c.before) (without down c.after) (change_at new r a) = subst (λ (q : RouterId). TellsChange (without down c.before) (without down c.after) (change_at new q a)) (same-router c.router r at.router) here in
      subst (λ (o : Option (Target × Target)). Shows down o (change_at all r a) (change_at new r a)) (sym (later-none r a c rest h.left_form t))
      (subst (λ (o : Option (Target × Target)). ShowsChange down o (change_at new r a)) (sym was.1) mine))
      (λ (f : is_change_at r a c ≡ false).
      subst (λ (o : Option (Target × Target)). Shows down (change_at rest r a) (change_at all r a) o) (sym (told.other r a (not-part r a c f)))
      (subst (λ (o : Option (Target × Target)). Shows down o (change_at all r a) (change_at now r a)) (not-first r a c rest f) (h.each r a)))
      (cases_Bool (is_change_at r a c));
}

pub shown-all : (down : List LinkId) (all now : List Change) (i : ℕ) → length all ≤ i → AreShownTo down all (drop i all) now → AreShown down all now
shown-all down all now i end h =
    let P : List Change → Type 0 = λ ys. AreShownTo down all ys now in
    (subst P (drop_all i all end) h).each

-- ---- by place

front : (all : List Change) (i : ℕ) (c : Change) → i < length all → c ≡ get_or all i c → drop i all ≡ c ∷ drop (i + 1) all
front all i c l is = drop_more all i c l ∙ ap (λ x. x ∷ drop (i + 1) all) (sym is)

pub free-at : (down : List LinkId) (all now : List Change) (i : ℕ) (c : Change) → i < length all → c ≡ get_or all i c → AreShownTo down all (drop i all) now → (a : ℕ) → holds a c.run ≡ true → change_at now c.router a ≡ None
free-at down all now i c l is h = let P : List Change → Type 0 = λ ys. AreShownTo down all ys now in next-free down all (drop (i + 1) all) now c (subst P (front all i c l is) h)

pub order-at : (down : List LinkId) (all now : List Change) (i : ℕ) (c : Change) → i < length all → c ≡ get_or all i c → AreShownTo down all (drop i all) now → c.run.lo ≤ c.run.hi
order-at down all now i c l is h = let P : List Change → Type 0 = λ ys. AreShownTo down all ys now in (subst P (front all i c l is) h).left_form.0.ends

pub shown-at : (down : List LinkId) (all now new : List Change) (i : ℕ) (c : Change) → i < length all → c ≡ get_or all i c → AreShownTo down all (drop i all) now → IsTold now new c.router c.run.lo (c.run.hi + 1) (without down c.before) (without down c.after) → AreShownTo down all (drop (i + 1) all) new
shown-at down all now new i c l is h told = let P : List Change → Type 0 = λ ys. AreShownTo down all ys now in next-shown down all (drop (i + 1) all) now new c (subst P (front all i c l is) h) told
