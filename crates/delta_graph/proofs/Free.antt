-- Which runs meet no kept one: what callers of a push show.
use Rattle.std.proofs.Common.{◌≡◌, ℕ, ◌<◌, ◌≤◌, ◌∙◌, true, false, cond, Option, Some, List, [], ap, sym, subst, ⊎_elim, arith, leb}
use Rattle.std.specs.Option.{IsSome}
use Rattle.std.proofs.lemmas.Bool.{and_parts, cases_Bool, false≢true, leb-true}
use Rattle.base.specs.Delta.{change_at, is_change_at, targets_of}
use Rattle.base.specs.declared.change.Change.{Change}
use Rattle.base.specs.declared.ids.RouterId.{RouterId}
use Rattle.base.specs.declared.target.Target.{Target}
use Rattle.base.proofs.DeltaOnce.{elsewhere, over, under}
use Rattle.delta_graph.specs.Pushed.{IsPushed, MeetNone, MeetsNone}
use Rattle.delta_graph.proofs.Joints.{IsAt, is-at}

pushed-away : (old new : List Change) (c : Change) (r : RouterId) (a : ℕ) → IsPushed old new c → is_change_at r a c ≡ false → change_at new r a ≡ change_at old r a
pushed-away old new c r a p f = p.exact r a ∙ ap (λ b. cond b (Some (targets_of c)) (change_at old r a)) f

-- a run before the pushed one, after it, and one of another router
pub free_below : (old new : List Change) (c d : Change) → IsPushed old new c → MeetsNone old d → d.run.hi < c.run.lo → MeetsNone new d
free_below old new c d p free l a held =
    let high : a ≤ d.run.hi = leb-true a d.run.hi (and_parts (leb d.run.lo a) (leb a d.run.hi) held).1 in
    pushed-away old new c d.router a p (under d.router a c (omega arith)) ∙ free a held

pub free_above : (old new : List Change) (c d : Change) → IsPushed old new c → MeetsNone old d → c.run.hi < d.run.lo → MeetsNone new d
free_above old new c d p free l a held =
    let low : d.run.lo ≤ a = leb-true d.run.lo a (and_parts (leb d.run.lo a) (leb a d.run.hi) held).0 in
    pushed-away old new c d.router a p (over d.router a c (omega arith)) ∙ free a held

pub free_elsewhere : (old new : List Change) (c d : Change) → IsPushed old new c → MeetsNone old d → (c.router.0 ≡ d.router.0 → ⊥) → MeetsNone new d
free_elsewhere old new c d p free other a held = pushed-away old new c d.router a p (elsewhere d.router a c other) ∙ free a held

-- two changes of different routers
pub apart_routers : (xs ys : List Change) (c d : Change) → IsPushed [] xs c → IsPushed [] ys d → (c.router.0 ≡ d.router.0 → ⊥) → MeetNone xs ys
apart_routers xs ys c d p q other r a some = ⊎_elim
    (λ (t : is_change_at r a d ≡ true).
    let at : IsAt r a d = is-at r a d t in
    pushed-away [] xs c r a p (elsewhere r a c (λ e. other (e ∙ sym at.router))))
    (λ (f : is_change_at r a d ≡ false).
    let P : Option (Target × Target) → Type 0 = λ o. IsSome o in
    absurd (false≢true (subst P (pushed-away [] ys d r a q f) some)))
    (cases_Bool (is_change_at r a d))
