-- The changes of a history's last entry, put together from the last router's last addresses down.
use Rattle.std.proofs.Common.{◌≡◌, ℕ, ◌+◌, ◌<◌, ◌≤◌, ◌^◌, ◌∙◌, Option, Some, None, List, [], ◌∷◌, refl, ap, sym, subst, inl, inr, ⊎_elim, arith}
use Rattle.std.proofs.lemmas.Bool.{cases_lt}
use Rattle.base.specs.Delta.{AreChanges, IsDelta, TellsChange, change_at}
use Rattle.base.specs.DeltaFrom.{IsFrom, BeginFrom, IsPutFirst, TellsPart, IsDeltaFrom}
use Rattle.base.specs.declared.change.Change.{Change}
use Rattle.base.specs.declared.ids.RouterId.{RouterId}
use Rattle.base.specs.declared.target.Target.{Target}
use Rattle.base.proofs.DeltaOnce.{within, first-is, not-first, past-not, none-below}

-- ---- one part

pub none-before : (router past : ℕ) (cs : List Change) (r : RouterId) (a : ℕ) → AreChanges cs → BeginFrom router past cs → r.0 ≡ router → a < past → change_at cs r a ≡ None
none-before router past [] r a h b e l = refl
none-before router past (c ∷ cs) r a h b e l = none-below r a c cs h (⊎_elim
    (λ (m : router < c.router.0). inl (omega arith))
    (λ (s : (router ≡ c.router.0) × (past ≤ c.run.lo)). inr (e ∙ s.0, (let m : past ≤ c.run.lo = s.1 in omega arith)))
    b)

begin-lower : (router low past : ℕ) (cs : List Change) → low ≤ past → BeginFrom router past cs → BeginFrom router low cs
begin-lower router low past [] l b = tt
begin-lower router low past (c ∷ cs) l b = ⊎_elim
    (λ (m : router < c.router.0). inl m)
    (λ (s : (router ≡ c.router.0) × (past ≤ c.run.lo)). inr (s.0, (let m : past ≤ c.run.lo = s.1 in omega arith)))
    b

tells-none : (before after : Target) (o : Option (Target × Target)) → before ≡ after → o ≡ None → TellsChange before after o
tells-none before after o e n = let P : Option (Target × Target) → Type 0 = λ x. TellsChange before after x in subst P (sym n) e

tells-some : (before after : Target) (o : Option (Target × Target)) → (before ≡ after → ⊥) → o ≡ Some (before, after) → TellsChange before after o
tells-some before after o d n = let P : Option (Target × Target) → Type 0 = λ x. TellsChange before after x in subst P (sym n) (refl, d)

tells-along : (before after : Target) (o p : Option (Target × Target)) → p ≡ o → TellsChange before after o → TellsChange before after p
tells-along before after o p e h = let P : Option (Target × Target) → Type 0 = λ x. TellsChange before after x in subst P (sym e) h

tells-of : (x y before after : Target) (o : Option (Target × Target)) → before ≡ x → after ≡ y → TellsChange x y o → TellsChange before after o
tells-of x y before after o e f h =
    let P : Target → Type 0 = λ z. TellsChange z y o in
    let Q : Target → Type 0 = λ z. TellsChange before z o in
    subst Q (sym f) (subst P (sym e) h)

pub part-none : (router low past : ℕ) (before after : Target) (cs : List Change) → low ≤ past → before ≡ after → AreChanges cs → BeginFrom router past cs → TellsPart router low past (λ _. before) (λ _. after) cs cs
part-none router low past before after cs l e h b = record {
  form = h;
  begin = begin-lower router low past cs l b;
  part = λ r a s from to. tells-none before after (change_at cs r a) e (none-before router past cs r a h b s to);
  rest = λ r a s. refl;
}

pub part-put : (c : Change) (old new : List Change) → (c.before ≡ c.after → ⊥) → IsPutFirst c old new → TellsPart c.router.0 c.run.lo (c.run.hi + 1) (λ _. c.before) (λ _. c.after) old new
part-put c old new differ h = record {
  form = h.form;
  begin = h.begin;
  part = λ r a s from to. tells-some c.before c.after (change_at new r a) differ (h.tells r a ∙ first-is r a c old (within r a c (sym s) from (omega arith)));
  rest = λ r a s. h.tells r a ∙ not-first r a c old (past-not r a c (⊎_elim
      (λ (l : c.router.0 < r.0). inl l)
      (λ (p : (c.router.0 ≡ r.0) × (c.run.hi + 1 ≤ a)). inr (p.0, (let l : c.run.hi + 1 ≤ a = p.1 in omega arith)))
      s));
}

pub part-of_targets : (router low past lo hi : ℕ) (x y : Target) (before after : ℕ → Target) (old new : List Change) → lo ≡ low → hi + 1 ≡ past → ((a : ℕ) → low ≤ a → a < past → before a ≡ x) → ((a : ℕ) → low ≤ a → a < past → after a ≡ y) → TellsPart router lo (hi + 1) (λ _. x) (λ _. y) old new → TellsPart router low past before after old new
part-of_targets router low past lo hi x y before after old new el eh b f h =
    let P : ℕ → Type 0 = λ n. TellsPart router n (hi + 1) (λ _. x) (λ _. y) old new in
    let Q : ℕ → Type 0 = λ n. TellsPart router low n (λ _. x) (λ _. y) old new in
    let k : TellsPart router low past (λ _. x) (λ _. y) old new = subst Q eh (subst P el h) in
    record {
      form = k.form;
      begin = k.begin;
      part = λ r a s from to. tells-of x y (before a) (after a) (change_at new r a) (b a from to) (f a from to) (k.part r a s from to);
      rest = k.rest;
    }

-- ---- the whole

pub same-router : (r s : RouterId) → r.0 ≡ s.0 → r ≡ s
same-router r s e = let make : ℕ → RouterId = λ n. record { 0 = n } in ap make e

pub from-part : (f g : RouterId → ℕ → Target) (router : RouterId) (low past : ℕ) (before after : ℕ → Target) (old new : List Change) → low < past → ((a : ℕ) → f router a ≡ before a) → ((a : ℕ) → g router a ≡ after a) → IsDeltaFrom f g router.0 past old → TellsPart router.0 low past before after old new → IsDeltaFrom f g router.0 low new
from-part f g router low past before after old new l eb ea h k = record {
  form = k.form;
  begin = k.begin;
  exact = λ r a s b. ⊎_elim
      (λ (m : router.0 < r.0). tells-along _ _ _ _ (k.rest r a (inl m)) (h.exact r a (inl m) b))
      (λ (p : (router.0 ≡ r.0) × (low ≤ a)). ⊎_elim
      (λ (m : a < past).
      let same : router ≡ r = same-router router r p.0 in
      let earlier : f r a ≡ before a = ap (λ (x : RouterId). f x a) (sym same) ∙ eb a in
      let later : g r a ≡ after a = ap (λ (x : RouterId). g x a) (sym same) ∙ ea a in
      tells-of (before a) (after a) (f r a) (g r a) (change_at new r a) earlier later (k.part r a (sym p.0) p.1 m))
      (λ (m : past ≤ a). tells-along _ _ _ _ (k.rest r a (inr (p.0, m))) (h.exact r a (inr (p.0, m)) b))
      (cases_lt a past))
      s;
}

begin-next : (router past : ℕ) (cs : List Change) → BeginFrom (router + 1) 0 cs → BeginFrom router past cs
begin-next router past [] b = tt
begin-next router past (c ∷ cs) b = ⊎_elim
    (λ (m : router + 1 < c.router.0). inl (omega arith))
    (λ (s : (router + 1 ≡ c.router.0) × (0 ≤ c.run.lo)). inl (let e : router + 1 ≡ c.router.0 = s.0 in omega arith))
    b

from-order : (router r a : ℕ) → router < r → IsFrom (router + 1) 0 r a
from-order router r a l = ⊎_elim
    (λ (m : router + 1 < r). inl m)
    (λ (m : r ≤ router + 1). inr ((omega arith), (omega arith)))
    (cases_lt (router + 1) r)

-- all of the routers after one is all from its end on
pub from-next : (f g : RouterId → ℕ → Target) (router : ℕ) (cs : List Change) → IsDeltaFrom f g (router + 1) 0 cs → IsDeltaFrom f g router (2 ^ 32) cs
from-next f g router cs h = record {
  form = h.form;
  begin = begin-next router (2 ^ 32) cs h.begin;
  exact = λ r a s b. h.exact r a (⊎_elim
      (λ (m : router < r.0). from-order router r.0 a m)
      (λ (p : (router ≡ r.0) × (2 ^ 32 ≤ a)). absurd (let m : 2 ^ 32 ≤ a = p.1 in omega arith))
      s) b;
}

-- from the first router's first address on it is all
pub from-all : (f g : RouterId → ℕ → Target) (cs : List Change) → IsDeltaFrom f g 0 0 cs → IsDelta f g cs
from-all f g cs h = record {
  form = h.form;
  exact = λ r a b. h.exact r a (⊎_elim
      (λ (m : 0 < r.0). inl m)
      (λ (m : r.0 ≤ 0). inr ((omega arith), (omega arith)))
      (cases_lt 0 r.0)) b;
}
