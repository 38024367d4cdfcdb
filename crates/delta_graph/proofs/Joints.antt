-- Two changes of which the second goes on from the first, as one.
use Rattle.std.proofs.Common.{◌≡◌, ℕ, ◌+◌, ◌<◌, ◌≤◌, ◌^◌, ◌⊎◌, ◌∙◌, suc, true, false, cond, Some, List, ◌∷◌, ◌++◌, length, take, drop, get_or, refl, ap, sym, subst, inl, inr, ⊎_elim, arith, eqb, leb}
use Rattle.std.proofs.Math.Seq.{drop-cons}
use Rattle.std.proofs.lemmas.Bool.{and_parts, both_ways, cases_Bool, cases_lt, eqb-true, false_from_ne_true, leb-true}
use Rattle.std.proofs.lemmas.List.{take-append-drop}
use Rattle.base.specs.Delta.{AreChanges, GoesOn, IsApartFromFirst, IsChange, change_at, is_change_at, targets_of}
use Rattle.base.specs.Runs.{holds}
use Rattle.base.specs.declared.change.Change.{Change}
use Rattle.base.specs.declared.ids.RouterId.{RouterId}
use Rattle.base.specs.declared.target.Target.{Target}
use Rattle.base.proofs.DeltaOnce.{not-first, within}
use Rattle.delta_graph.specs.Joined.{EndsApart, JoinsLeft, JoinsRight}
use Rattle.delta_graph.proofs.Chain.{back-part, ends-apart, ends-start, first-end}

-- where a change is
pub record IsAt (r : RouterId) (a : ℕ) (c : Change) : Type 0 where
  pub router : c.router.0 ≡ r.0
  pub low : c.run.lo ≤ a
  pub high : a ≤ c.run.hi

pub is-at : (r : RouterId) (a : ℕ) (c : Change) → is_change_at r a c ≡ true → IsAt r a c
is-at r a c t =
    let parts : (eqb c.router.0 r.0 ≡ true) × (holds a c.run ≡ true) = and_parts (eqb c.router.0 r.0) (holds a c.run) t in
    let ends : (leb c.run.lo a ≡ true) × (leb a c.run.hi ≡ true) = and_parts (leb c.run.lo a) (leb a c.run.hi) parts.1 in
    record { router = eqb-true c.router.0 r.0 parts.0; low = leb-true c.run.lo a ends.0; high = leb-true a c.run.hi ends.1 }

-- j is x and y as one
pub record IsJoint (x y j : Change) : Type 0 where
  pub on : GoesOn x y
  pub first : IsChange x
  pub second : IsChange y
  pub router : j.router ≡ x.router
  pub lo : j.run.lo ≡ x.run.lo
  pub hi : j.run.hi ≡ y.run.hi
  pub before : j.before ≡ x.before
  pub after : j.after ≡ x.after

number : (j x : Change) → j.router ≡ x.router → j.router.0 ≡ x.router.0
number j x e = ap (λ (n : RouterId). n.0) e

router-path : (x y : Change) → GoesOn x y → x.router ≡ y.router
router-path x y on = let R : ℕ → RouterId = λ n. record { 0 = n } in ap R on.router

pub joint-change : (x y j : Change) → IsJoint x y j → IsChange j
joint-change x y j h = record {
  ends = (let e : x.run.lo ≤ x.run.hi = h.first.ends in let f : y.run.lo ≤ y.run.hi = h.second.ends in let t : x.run.hi + 1 ≡ y.run.lo = h.on.touch in let l : j.run.lo ≡ x.run.lo = h.lo in let u : j.run.hi ≡ y.run.hi = h.hi in omega arith);
  below = (let f : y.run.hi < 2 ^ 32 = h.second.below in let u : j.run.hi ≡ y.run.hi = h.hi in omega arith);
  differ = λ e. h.first.differ (sym h.before ∙ e ∙ h.after);
}

pub joint-first : (r : RouterId) (a : ℕ) (x y j : Change) → IsJoint x y j → is_change_at r a x ≡ true → is_change_at r a j ≡ true
joint-first r a x y j h t =
    let at : IsAt r a x = is-at r a x t in
    within r a j (number j x h.router ∙ at.router)
    (let low : x.run.lo ≤ a = at.low in let l : j.run.lo ≡ x.run.lo = h.lo in omega arith)
    (let high : a ≤ x.run.hi = at.high in let f : y.run.lo ≤ y.run.hi = h.second.ends in let t' : x.run.hi + 1 ≡ y.run.lo = h.on.touch in let u : j.run.hi ≡ y.run.hi = h.hi in omega arith)

pub joint-second : (r : RouterId) (a : ℕ) (x y j : Change) → IsJoint x y j → is_change_at r a y ≡ true → is_change_at r a j ≡ true
joint-second r a x y j h t =
    let at : IsAt r a y = is-at r a y t in
    within r a j (number j x h.router ∙ h.on.router ∙ at.router)
    (let low : y.run.lo ≤ a = at.low in let e : x.run.lo ≤ x.run.hi = h.first.ends in let t' : x.run.hi + 1 ≡ y.run.lo = h.on.touch in let l : j.run.lo ≡ x.run.lo = h.lo in omega arith)
    (let high : a ≤ y.run.hi = at.high in let u : j.run.hi ≡ y.run.hi = h.hi in omega arith)

pub joint-cases : (r : RouterId) (a : ℕ) (x y j : Change) → IsJoint x y j → is_change_at r a j ≡ true → (is_change_at r a x ≡ true) ⊎ (is_change_at r a y ≡ true)
joint-cases r a x y j h t =
    let at : IsAt r a j = is-at r a j t in
    let low : j.run.lo ≤ a = at.low in
    let high : a ≤ j.run.hi = at.high in
    let l : j.run.lo ≡ x.run.lo = h.lo in
    let u : j.run.hi ≡ y.run.hi = h.hi in
    let t' : x.run.hi + 1 ≡ y.run.lo = h.on.touch in
    ⊎_elim
    (λ (past : x.run.hi < a). inr (within r a y (sym h.on.router ∙ sym (number j x h.router) ∙ at.router) (omega arith) (omega arith)))
    (λ (upto : a ≤ x.run.hi). inl (within r a x (sym (number j x h.router) ∙ at.router) (omega arith) upto))
    (cases_lt x.run.hi a)

pub joint-targets : (x y j : Change) → IsJoint x y j → targets_of j ≡ targets_of x
joint-targets x y j h =
    let T : Target → Target → Target × Target = λ b e. (b, e) in
    ap (λ b. T b j.after) h.before ∙ ap (λ e. T x.before e) h.after

joint-targets-second : (x y j : Change) → IsJoint x y j → targets_of j ≡ targets_of y
joint-targets-second x y j h =
    let T : Target → Target → Target × Target = λ b e. (b, e) in
    joint-targets x y j h ∙ ap (λ b. T b x.after) h.on.before ∙ ap (λ e. T y.before e) h.on.after

-- away from the one, the joint is where the other is
other-first : (r : RouterId) (a : ℕ) (x y j : Change) → IsJoint x y j → is_change_at r a y ≡ false → is_change_at r a j ≡ is_change_at r a x
other-first r a x y j h out = ⊎_elim
    (λ (t : is_change_at r a x ≡ true). joint-first r a x y j h t ∙ sym t)
    (λ (f : is_change_at r a x ≡ false). false_from_ne_true (is_change_at r a j) (λ t. ⊎_elim
    (λ (p : is_change_at r a x ≡ true). both_ways (is_change_at r a x) f p)
    (λ (q : is_change_at r a y ≡ true). both_ways (is_change_at r a y) out q)
    (joint-cases r a x y j h t)) ∙ sym f)
    (cases_Bool (is_change_at r a x))

other-second : (r : RouterId) (a : ℕ) (x y j : Change) → IsJoint x y j → is_change_at r a x ≡ false → is_change_at r a j ≡ is_change_at r a y
other-second r a x y j h out = ⊎_elim
    (λ (t : is_change_at r a y ≡ true). joint-second r a x y j h t ∙ sym t)
    (λ (f : is_change_at r a y ≡ false). false_from_ne_true (is_change_at r a j) (λ t. ⊎_elim
    (λ (p : is_change_at r a x ≡ true). both_ways (is_change_at r a x) out p)
    (λ (q : is_change_at r a y ≡ true). both_ways (is_change_at r a y) f q)
    (joint-cases r a x y j h t)) ∙ sym f)
    (cases_Bool (is_change_at r a y))

same-at : (r : RouterId) (a : ℕ) (j x : Change) (rest : List Change) → is_change_at r a j ≡ is_change_at r a x → targets_of j ≡ targets_of x → change_at (j ∷ rest) r a ≡ change_at (x ∷ rest) r a
same-at r a j x rest e t =
    ap (λ b. cond b (Some (targets_of j)) (change_at rest r a)) e ∙ ap (λ (p : Target × Target). cond (is_change_at r a x) (Some p) (change_at rest r a)) t

-- ---- at a place among others

pub left-none : (xs : List Change) (place : ℕ) (c : Change) → IsChange c → EndsApart (take place xs) c → JoinsLeft xs place c place c
left-none xs place c is apart = record {
  low = omega arith;
  few = omega arith;
  change = is;
  router = refl;
  hi = refl;
  before = refl;
  after = refl;
  apart = apart;
  here = λ r a t. t;
  there = λ r a f. not-first r a c (drop place xs) f;
}

pub left-one : (xs : List Change) (place k : ℕ) (c l j : Change) → place ≡ suc k → k < length xs → AreChanges xs → get_or xs k l ≡ l → IsChange c → GoesOn l c → (IsChange l → IsJoint l c j) → JoinsLeft xs place c k j
left-one xs place k c l j e lt h at is on make =
    let rest : drop k xs ≡ l ∷ drop place xs = drop-cons xs k l lt ∙ ap (λ x. x ∷ drop (suc k) xs) at ∙ ap (λ n. l ∷ drop n xs) (sym e) in
    let split : xs ≡ take k xs ++ l ∷ drop place xs = sym (take-append-drop k xs) ∙ ap (λ ys. take k xs ++ ys) rest in
    let P : List Change → Type 0 = λ ys. AreChanges ys in
    let whole : AreChanges (take k xs ++ l ∷ drop place xs) = subst P split h in
    let back : AreChanges (l ∷ drop place xs) = back-part (take k xs) (l ∷ drop place xs) whole in
    let joint : IsJoint l c j = make back.0 in
    let T : Target → Target → Target × Target = λ b f. (b, f) in
    record {
      low = (let s : place ≡ suc k = e in omega arith);
      few = (let s : place ≡ suc k = e in omega arith);
      change = joint-change l c j joint;
      router = joint.router ∙ router-path l c on;
      hi = joint.hi;
      before = joint.before ∙ on.before;
      after = joint.after ∙ on.after;
      apart = ends-start (take k xs) l j (sym joint.router) (sym joint.lo) (sym joint.before) (sym joint.after) (ends-apart (take k xs) l (drop place xs) whole);
      here = λ r a t. joint-second r a l c j joint t;
      there = λ r a f. same-at r a j l (drop place xs) (other-first r a l c j joint f) (joint-targets l c j joint) ∙ ap (λ ys. change_at ys r a) (sym rest);
    }

pub right-none : (xs : List Change) (place : ℕ) (c : Change) → IsChange c → place ≤ length xs → IsApartFromFirst c (drop place xs) → JoinsRight xs place c place c
right-none xs place c is inside apart = record {
  high = omega arith;
  few = omega arith;
  inside = inside;
  change = is;
  router = refl;
  lo = refl;
  before = refl;
  after = refl;
  apart = apart;
  here = λ r a t. t;
  there = λ r a f. not-first r a c (drop place xs) f;
}

pub right-one : (xs : List Change) (place : ℕ) (c b j : Change) → place < length xs → AreChanges xs → get_or xs place b ≡ b → GoesOn c b → (IsChange b → IsJoint c b j) → JoinsRight xs place c (place + 1) j
right-one xs place c b j lt h at on make =
    let next : suc place ≡ place + 1 = omega arith in
    let rest : drop place xs ≡ b ∷ drop (place + 1) xs = drop-cons xs place b lt ∙ ap (λ x. x ∷ drop (suc place) xs) at ∙ ap (λ n. b ∷ drop n xs) next in
    let split : xs ≡ take place xs ++ b ∷ drop (place + 1) xs = sym (take-append-drop place xs) ∙ ap (λ ys. take place xs ++ ys) rest in
    let P : List Change → Type 0 = λ ys. AreChanges ys in
    let back : AreChanges (b ∷ drop (place + 1) xs) = back-part (take place xs) (b ∷ drop (place + 1) xs) (subst P split h) in
    let joint : IsJoint c b j = make back.0 in
    record {
      high = omega arith;
      few = omega arith;
      inside = omega arith;
      change = joint-change c b j joint;
      router = joint.router;
      lo = joint.lo;
      before = joint.before;
      after = joint.after;
      apart = first-end (drop (place + 1) xs) b j (sym (joint.router ∙ router-path c b on)) (sym joint.hi) (sym (joint.before ∙ on.before)) (sym (joint.after ∙ on.after)) back.1;
      here = λ r a t. joint-first r a c b j joint t;
      there = λ r a f. same-at r a j b (drop (place + 1) xs) (other-second r a c b j joint f) (joint-targets-second c b j joint) ∙ ap (λ ys. change_at ys r a) (sym rest);
    }
