-- Changes in order: their parts, and one put between two parts.
use Rattle.std.proofs.Common.{◌≡◌, ℕ, ◌+◌, ◌<◌, ◌∙◌, false, cond, Some, None, List, [], ◌∷◌, ◌++◌, refl, ap, sym, subst, inl, inr, ⊎_elim}
use Rattle.std.proofs.lemmas.Bool.{false_from_ne_true}
use Rattle.std.proofs.lemmas.Option.{none-some}
use Rattle.base.specs.Delta.{AreChanges, IsApart, IsApartFromFirst, change_at, is_change_at, targets_of}
use Rattle.base.specs.declared.change.Change.{Change}
use Rattle.base.specs.declared.ids.RouterId.{RouterId}
use Rattle.base.proofs.DeltaOnce.{first-is, not-first}
use Rattle.delta_graph.specs.Joined.{EndsApart, IsApartFromLast}

first-kept : (c : Change) (front back : List Change) → IsApartFromFirst c (front ++ back) → IsApartFromFirst c front
first-kept c [] back h = tt
first-kept c (d ∷ ds) back h = h

pub front-part : (front back : List Change) → AreChanges (front ++ back) → AreChanges front
front-part [] back h = tt
front-part (c ∷ cs) back h = (h.0, first-kept c cs back h.1, front-part cs back h.2)

pub back-part : (front back : List Change) → AreChanges (front ++ back) → AreChanges back
back-part [] back h = h
back-part (c ∷ cs) back h = back-part cs back h.2

last-apart : (f : Change) (fs : List Change) (c : Change) (back : List Change) → AreChanges (f ∷ (fs ++ c ∷ back)) → IsApartFromLast f fs c
last-apart f [] c back h = h.1
last-apart f (g ∷ gs) c back h = last-apart g gs c back h.2

-- what stands after a part stands apart from its last
pub ends-apart : (front : List Change) (c : Change) (back : List Change) → AreChanges (front ++ c ∷ back) → EndsApart front c
ends-apart [] c back h = tt
ends-apart (f ∷ fs) c back h = last-apart f fs c back h

last-push : (f : Change) (fs : List Change) (l c : Change) → IsApart l c → IsApartFromLast f (fs ++ l ∷ []) c
last-push f [] l c h = h
last-push f (g ∷ gs) l c h = last-push g gs l c h

pub ends-push : (front : List Change) (l c : Change) → IsApart l c → EndsApart (front ++ l ∷ []) c
ends-push [] l c h = h
ends-push (f ∷ fs) l c h = last-push f fs l c h

-- what begins where another begins, with the same targets, stands apart from what that one stands apart from
pub apart-start : (f c d : Change) → c.router ≡ d.router → c.run.lo ≡ d.run.lo → c.before ≡ d.before → c.after ≡ d.after → IsApart f c → IsApart f d
apart-start f c d r lo b e h = record {
  order = ⊎_elim
      (λ (l : f.router.0 < c.router.0). let P : RouterId → Type 0 = λ x. f.router.0 < x.0 in inl (subst P r l))
      (λ (s : (f.router.0 ≡ c.router.0) × (f.run.hi < c.run.lo)). let P : ℕ → Type 0 = λ x. f.run.hi < x in inr (s.0 ∙ ap (λ (x : RouterId). x.0) r, subst P lo s.1))
      h.order;
  two = λ g. h.two (record { router = g.router ∙ sym (ap (λ (x : RouterId). x.0) r); touch = g.touch ∙ sym lo; before = g.before ∙ sym b; after = g.after ∙ sym e });
}

last-start : (f : Change) (fs : List Change) (c d : Change) → c.router ≡ d.router → c.run.lo ≡ d.run.lo → c.before ≡ d.before → c.after ≡ d.after → IsApartFromLast f fs c → IsApartFromLast f fs d
last-start f [] c d r lo b e h = apart-start f c d r lo b e h
last-start f (g ∷ gs) c d r lo b e h = last-start g gs c d r lo b e h

pub ends-start : (front : List Change) (c d : Change) → c.router ≡ d.router → c.run.lo ≡ d.run.lo → c.before ≡ d.before → c.after ≡ d.after → EndsApart front c → EndsApart front d
ends-start [] c d r lo b e h = tt
ends-start (f ∷ fs) c d r lo b e h = last-start f fs c d r lo b e h

-- what ends where another ends, likewise
pub apart-end : (f c d : Change) → c.router ≡ d.router → c.run.hi ≡ d.run.hi → c.before ≡ d.before → c.after ≡ d.after → IsApart c f → IsApart d f
apart-end f c d r hi b e h = record {
  order = ⊎_elim
      (λ (l : c.router.0 < f.router.0). let P : RouterId → Type 0 = λ x. x.0 < f.router.0 in inl (subst P r l))
      (λ (s : (c.router.0 ≡ f.router.0) × (c.run.hi < f.run.lo)). let P : ℕ → Type 0 = λ x. x < f.run.lo in inr (sym (ap (λ (x : RouterId). x.0) r) ∙ s.0, subst P hi s.1))
      h.order;
  two = λ g. h.two (record { router = ap (λ (x : RouterId). x.0) r ∙ g.router; touch = ap (λ n. n + 1) hi ∙ g.touch; before = b ∙ g.before; after = e ∙ g.after });
}

pub first-end : (back : List Change) (c d : Change) → c.router ≡ d.router → c.run.hi ≡ d.run.hi → c.before ≡ d.before → c.after ≡ d.after → IsApartFromFirst c back → IsApartFromFirst d back
first-end [] c d r hi b e h = tt
first-end (f ∷ fs) c d r hi b e h = apart-end f c d r hi b e h

glue-after : (f : Change) (fs : List Change) (c : Change) (back : List Change) → AreChanges (f ∷ fs) → IsApartFromLast f fs c → AreChanges (c ∷ back) → AreChanges (f ∷ (fs ++ c ∷ back))
glue-after f [] c back h last k = (h.0, last, k)
glue-after f (g ∷ gs) c back h last k = (h.0, h.1, glue-after g gs c back h.2 last k)

-- a change between two parts that it stands apart from
pub glue : (front : List Change) (c : Change) (back : List Change) → AreChanges front → EndsApart front c → AreChanges (c ∷ back) → AreChanges (front ++ c ∷ back)
glue [] c back h last k = k
glue (f ∷ fs) c back h last k = glue-after f fs c back h last k

-- ---- what is told of a router at an address

pub same-front : (front xs ys : List Change) (r : RouterId) (a : ℕ) → change_at xs r a ≡ change_at ys r a → change_at (front ++ xs) r a ≡ change_at (front ++ ys) r a
same-front [] xs ys r a h = h
same-front (c ∷ cs) xs ys r a h = ap (λ o. cond (is_change_at r a c) (Some (targets_of c)) o) (same-front cs xs ys r a h)

none-parts : (r : RouterId) (a : ℕ) (c : Change) (cs : List Change) → change_at (c ∷ cs) r a ≡ None → (is_change_at r a c ≡ false) × (change_at cs r a ≡ None)
none-parts r a c cs h =
    let out : is_change_at r a c ≡ false = false_from_ne_true (is_change_at r a c) (λ t. none-some (targets_of c) (sym h ∙ first-is r a c cs t)) in
    (out, sym (not-first r a c cs out) ∙ h)

pub none-front : (front xs ys : List Change) (r : RouterId) (a : ℕ) → change_at (front ++ xs) r a ≡ None → change_at (front ++ ys) r a ≡ change_at ys r a
none-front [] xs ys r a h = refl
none-front (c ∷ cs) xs ys r a h =
    let parts : (is_change_at r a c ≡ false) × (change_at (cs ++ xs) r a ≡ None) = none-parts r a c (cs ++ xs) h in
    not-first r a c (cs ++ ys) parts.0 ∙ none-front cs xs ys r a parts.1

pub none-at : (front : List Change) (c : Change) (back : List Change) (r : RouterId) (a : ℕ) → change_at (front ++ c ∷ back) r a ≡ None → is_change_at r a c ≡ false
none-at [] c back r a h = (none-parts r a c back h).0
none-at (d ∷ ds) c back r a h = none-at ds c back r a (none-parts r a d (ds ++ c ∷ back) h).1
