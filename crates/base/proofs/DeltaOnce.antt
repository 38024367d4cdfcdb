-- Changes at the same routers and addresses are told in one way.
use Rattle.std.proofs.Common.{◌≡◌, ℕ, ◌+◌, ◌<◌, ◌≤◌, ◌^◌, ◌⊎◌, ◌∙◌, true, false, cond, Option, Some, None, List, [], ◌∷◌, refl, ap, sym, subst, inl, inr, ⊎_elim, arith, eqb}
use Rattle.std.proofs.lemmas.Bool.{and_from, and_left, and_right, cases_lt, cases_order, eq-eqb, ne_eqb}
use Rattle.std.specs.Option.{unwrap_or}
use Rattle.std.proofs.lemmas.Option.{none-some}
use Rattle.base.specs.Delta.{AreChanges, GoesBefore, IsApartFromFirst, IsChange, IsDelta, TellsChange, change_at, is_change_at, targets_of}
use Rattle.base.specs.Runs.{holds}
use Rattle.base.specs.declared.change.Change.{Change}
use Rattle.base.specs.declared.ids.RouterId.{RouterId}
use Rattle.base.specs.declared.target.Target.{Target}
use Rattle.base.proofs.RunsOnce.{holds-in, holds-below, holds-above}

-- ---- one change

some_inj : {X : Type 0} (x y : X) → Some x ≡ Some y → x ≡ y
some_inj {X} x y h = ap (λ (o : Option X). unwrap_or o x) h

pub within : (r : RouterId) (a : ℕ) (c : Change) → c.router.0 ≡ r.0 → c.run.lo ≤ a → a ≤ c.run.hi → is_change_at r a c ≡ true
within r a c e l h = and_from (eqb c.router.0 r.0) (holds a c.run) (eq-eqb c.router.0 r.0 e) (holds-in a c.run l h)

pub elsewhere : (r : RouterId) (a : ℕ) (c : Change) → (c.router.0 ≡ r.0 → ⊥) → is_change_at r a c ≡ false
elsewhere r a c n = and_left (eqb c.router.0 r.0) (holds a c.run) (ne_eqb c.router.0 r.0 n)

pub under : (r : RouterId) (a : ℕ) (c : Change) → a < c.run.lo → is_change_at r a c ≡ false
under r a c l = and_right (eqb c.router.0 r.0) (holds a c.run) (holds-below a c.run l)

pub over : (r : RouterId) (a : ℕ) (c : Change) → c.run.hi < a → is_change_at r a c ≡ false
over r a c l = and_right (eqb c.router.0 r.0) (holds a c.run) (holds-above a c.run l)

-- an address of a router that comes before a change's end, and before its first address
abbrev pub UpTo : RouterId → ℕ → Change → Type 0
UpTo r a c = (r.0 < c.router.0) ⊎ ((r.0 ≡ c.router.0) × (a ≤ c.run.hi))

abbrev pub Below : RouterId → ℕ → Change → Type 0
Below r a c = (r.0 < c.router.0) ⊎ ((r.0 ≡ c.router.0) × (a < c.run.lo))

pub below-not : (r : RouterId) (a : ℕ) (c : Change) → Below r a c → is_change_at r a c ≡ false
below-not r a c h = ⊎_elim
    (λ (l : r.0 < c.router.0). elsewhere r a c (λ e. let no_such : ⊥ = omega arith in no_such))
    (λ (s : (r.0 ≡ c.router.0) × (a < c.run.lo)). under r a c s.1)
    h

pub upto-next : (r : RouterId) (a : ℕ) (c d : Change) → UpTo r a c → GoesBefore c d → Below r a d
upto-next r a c d h g = ⊎_elim
    (λ (l : r.0 < c.router.0). ⊎_elim
    (λ (m : c.router.0 < d.router.0). inl (omega arith))
    (λ (m : (c.router.0 ≡ d.router.0) × (c.run.hi < d.run.lo)). inl (let e : c.router.0 ≡ d.router.0 = m.0 in omega arith))
    g)
    (λ (s : (r.0 ≡ c.router.0) × (a ≤ c.run.hi)). ⊎_elim
    (λ (m : c.router.0 < d.router.0). inl (let e : r.0 ≡ c.router.0 = s.0 in omega arith))
    (λ (m : (c.router.0 ≡ d.router.0) × (c.run.hi < d.run.lo)). inr (s.0 ∙ m.0, (let l : a ≤ c.run.hi = s.1 in let k : c.run.hi < d.run.lo = m.1 in omega arith)))
    g)
    h

pub below-upto : (r : RouterId) (a : ℕ) (c : Change) → IsChange c → Below r a c → UpTo r a c
below-upto r a c is h = ⊎_elim
    (λ (l : r.0 < c.router.0). inl l)
    (λ (s : (r.0 ≡ c.router.0) × (a < c.run.lo)). inr (s.0, (let l : a < c.run.lo = s.1 in let e : c.run.lo ≤ c.run.hi = is.ends in omega arith)))
    h

-- ---- changes in order

pub first-is : (r : RouterId) (a : ℕ) (c : Change) (cs : List Change) → is_change_at r a c ≡ true → change_at (c ∷ cs) r a ≡ Some (c.before, c.after)
first-is r a c cs t = ap (λ b. cond b (Some (c.before, c.after)) (change_at cs r a)) t

pub not-first : (r : RouterId) (a : ℕ) (c : Change) (cs : List Change) → is_change_at r a c ≡ false → change_at (c ∷ cs) r a ≡ change_at cs r a
not-first r a c cs f = ap (λ b. cond b (Some (c.before, c.after)) (change_at cs r a)) f

-- what comes up to the end of the first is in no later one
pub none-later : (r : RouterId) (a : ℕ) (c : Change) (cs : List Change) → IsApartFromFirst c cs → AreChanges cs → UpTo r a c → change_at cs r a ≡ None
none-later r a c [] h k u = refl
none-later r a c (d ∷ ds) h k u =
    let low : Below r a d = upto-next r a c d u h.order in
    not-first r a d ds (below-not r a d low) ∙ none-later r a d ds k.1 k.2 (below-upto r a d k.0 low)

pub none-below : (r : RouterId) (a : ℕ) (c : Change) (cs : List Change) → AreChanges (c ∷ cs) → Below r a c → change_at (c ∷ cs) r a ≡ None
none-below r a c cs h low = not-first r a c cs (below-not r a c low) ∙ none-later r a c cs h.1 h.2 (below-upto r a c h.0 low)

starts : (c : Change) (cs : List Change) → IsChange c → change_at (c ∷ cs) c.router c.run.lo ≡ Some (c.before, c.after)
starts c cs is = first-is c.router c.run.lo c cs (within c.router c.run.lo c refl (omega arith) is.ends)

-- where the first ends, none with its targets goes on
no-more : (c : Change) (cs : List Change) → IsChange c → IsApartFromFirst c cs → AreChanges cs → change_at cs c.router (c.run.hi + 1) ≡ Some (c.before, c.after) → ⊥
no-more c [] is h k e = none-some (c.before, c.after) e
no-more c (d ∷ ds) is h k e = ⊎_elim
    (λ (l : c.router.0 < d.router.0). none-some (c.before, c.after) (sym (none-below c.router (c.run.hi + 1) d ds k (inl l)) ∙ e))
    (λ (s : (c.router.0 ≡ d.router.0) × (c.run.hi < d.run.lo)). ⊎_elim
    (λ (gap : c.run.hi + 1 < d.run.lo). none-some (c.before, c.after) (sym (none-below c.router (c.run.hi + 1) d ds k (inr (s.0, gap))) ∙ e))
    (λ (near : d.run.lo ≤ c.run.hi + 1).
    let past : c.run.hi < d.run.lo = s.1 in
    let touch : c.run.hi + 1 ≡ d.run.lo = omega arith in
    let ends : d.run.lo ≤ d.run.hi = k.0.ends in
    let at : change_at (d ∷ ds) c.router (c.run.hi + 1) ≡ Some (d.before, d.after) = first-is c.router (c.run.hi + 1) d ds (within c.router (c.run.hi + 1) d (sym s.0) (omega arith) (omega arith)) in
    let same : targets_of c ≡ targets_of d = some_inj _ _ (sym e ∙ at) in
    h.two (record { router = s.0; touch = touch; before = ap (λ (p : Target × Target). p.0) same; after = ap (λ (p : Target × Target). p.1) same }))
    (cases_lt (c.run.hi + 1) d.run.lo))
    h.order

-- two lists tell the same of each router and address
abbrev pub TellSame : List Change → List Change → Type 0
TellSame xs ys = (r : RouterId) (a : ℕ) → a < 2 ^ 32 → change_at xs r a ≡ change_at ys r a

low-bound : (c : Change) → IsChange c → c.run.lo < 2 ^ 32
low-bound c is = let e : c.run.lo ≤ c.run.hi = is.ends in let l : c.run.hi < 2 ^ 32 = is.below in omega arith

-- the first of one list can't begin before the first of another, nor end before it
not-earlier : (c d : Change) (cs ds : List Change) → AreChanges (c ∷ cs) → AreChanges (d ∷ ds) → TellSame (c ∷ cs) (d ∷ ds) → Below c.router c.run.lo d → ⊥
not-earlier c d cs ds h k same low =
    none-some (c.before, c.after) (sym (none-below c.router c.run.lo d ds k low) ∙ sym (same c.router c.run.lo (low-bound c h.0)) ∙ starts c cs h.0)

turned : (xs ys : List Change) → TellSame xs ys → TellSame ys xs
turned xs ys same r a l = sym (same r a l)

same-router : (c d : Change) (cs ds : List Change) → AreChanges (c ∷ cs) → AreChanges (d ∷ ds) → TellSame (c ∷ cs) (d ∷ ds) → c.router.0 ≡ d.router.0
same-router c d cs ds h k same = ⊎_elim
    (λ (e : c.router.0 ≡ d.router.0). e)
    (λ (o : (c.router.0 < d.router.0) ⊎ (d.router.0 < c.router.0)). ⊎_elim
    (λ (l : c.router.0 < d.router.0). absurd (not-earlier c d cs ds h k same (inl l)))
    (λ (l : d.router.0 < c.router.0). absurd (not-earlier d c ds cs k h (turned (c ∷ cs) (d ∷ ds) same) (inl l)))
    o)
    (cases_order c.router.0 d.router.0)

same-lo : (c d : Change) (cs ds : List Change) → AreChanges (c ∷ cs) → AreChanges (d ∷ ds) → TellSame (c ∷ cs) (d ∷ ds) → c.router.0 ≡ d.router.0 → c.run.lo ≡ d.run.lo
same-lo c d cs ds h k same r = ⊎_elim
    (λ (e : c.run.lo ≡ d.run.lo). e)
    (λ (o : (c.run.lo < d.run.lo) ⊎ (d.run.lo < c.run.lo)). ⊎_elim
    (λ (l : c.run.lo < d.run.lo). absurd (not-earlier c d cs ds h k same (inr (r, l))))
    (λ (l : d.run.lo < c.run.lo). absurd (not-earlier d c ds cs k h (turned (c ∷ cs) (d ∷ ds) same) (inr (sym r, l))))
    o)
    (cases_order c.run.lo d.run.lo)

same-targets : (c d : Change) (cs ds : List Change) → AreChanges (c ∷ cs) → AreChanges (d ∷ ds) → TellSame (c ∷ cs) (d ∷ ds) → c.router.0 ≡ d.router.0 → c.run.lo ≡ d.run.lo → targets_of c ≡ targets_of d
same-targets c d cs ds h k same r lo =
    let ends : d.run.lo ≤ d.run.hi = k.0.ends in
    let at : change_at (d ∷ ds) c.router c.run.lo ≡ Some (d.before, d.after) = first-is c.router c.run.lo d ds (within c.router c.run.lo d (sym r) (omega arith) (omega arith)) in
    some_inj _ _ (sym (starts c cs h.0) ∙ same c.router c.run.lo (low-bound c h.0) ∙ at)

not-shorter : (c d : Change) (cs ds : List Change) → AreChanges (c ∷ cs) → AreChanges (d ∷ ds) → TellSame (c ∷ cs) (d ∷ ds) → c.router.0 ≡ d.router.0 → c.run.lo ≡ d.run.lo → targets_of c ≡ targets_of d → c.run.hi < d.run.hi → ⊥
not-shorter c d cs ds h k same r lo targets l =
    let ends : c.run.lo ≤ c.run.hi = h.0.ends in
    let below : d.run.hi < 2 ^ 32 = k.0.below in
    let at : change_at (d ∷ ds) c.router (c.run.hi + 1) ≡ Some (d.before, d.after) = first-is c.router (c.run.hi + 1) d ds (within c.router (c.run.hi + 1) d (sym r) (omega arith) (omega arith)) in
    let past : change_at (c ∷ cs) c.router (c.run.hi + 1) ≡ change_at cs c.router (c.run.hi + 1) = not-first c.router (c.run.hi + 1) c cs (over c.router (c.run.hi + 1) c (omega arith)) in
    no-more c cs h.0 h.1 h.2 (sym past ∙ same c.router (c.run.hi + 1) (omega arith) ∙ at ∙ ap (λ (p : Target × Target). Some p) (sym targets))

same-hi : (c d : Change) (cs ds : List Change) → AreChanges (c ∷ cs) → AreChanges (d ∷ ds) → TellSame (c ∷ cs) (d ∷ ds) → c.router.0 ≡ d.router.0 → c.run.lo ≡ d.run.lo → targets_of c ≡ targets_of d → c.run.hi ≡ d.run.hi
same-hi c d cs ds h k same r lo targets = ⊎_elim
    (λ (e : c.run.hi ≡ d.run.hi). e)
    (λ (o : (c.run.hi < d.run.hi) ⊎ (d.run.hi < c.run.hi)). ⊎_elim
    (λ (l : c.run.hi < d.run.hi). absurd (not-shorter c d cs ds h k same r lo targets l))
    (λ (l : d.run.hi < c.run.hi). absurd (not-shorter d c ds cs k h (turned (c ∷ cs) (d ∷ ds) same) (sym r) (sym lo) (sym targets) l))
    o)
    (cases_order c.run.hi d.run.hi)

same-first : (c d : Change) (cs ds : List Change) → AreChanges (c ∷ cs) → AreChanges (d ∷ ds) → TellSame (c ∷ cs) (d ∷ ds) → c ≡ d
same-first c d cs ds h k same =
    let r : c.router.0 ≡ d.router.0 = same-router c d cs ds h k same in
    let lo : c.run.lo ≡ d.run.lo = same-lo c d cs ds h k same r in
    let targets : targets_of c ≡ targets_of d = same-targets c d cs ds h k same r lo in
    let hi : c.run.hi ≡ d.run.hi = same-hi c d cs ds h k same r lo targets in
    let T : ℕ → ℕ → ℕ → Target × Target → Change = λ n l m p. record { router = record { 0 = n }; run = record { lo = l; hi = m }; before = p.0; after = p.1 } in
    ap (λ n. T n c.run.lo c.run.hi (c.before, c.after)) r ∙ ap (λ l. T d.router.0 l c.run.hi (c.before, c.after)) lo
    ∙ ap (λ m. T d.router.0 d.run.lo m (c.before, c.after)) hi ∙ ap (λ p. T d.router.0 d.run.lo d.run.hi p) targets

-- whether an address comes up to the end of a change, or after it
sides : (r : RouterId) (a : ℕ) (c : Change) → UpTo r a c ⊎ ((c.router.0 < r.0) ⊎ ((c.router.0 ≡ r.0) × (c.run.hi < a)))
sides r a c = ⊎_elim
    (λ (e : r.0 ≡ c.router.0). ⊎_elim
    (λ (l : c.run.hi < a). inr (inr (sym e, l)))
    (λ (l : a ≤ c.run.hi). inl (inr (e, l)))
    (cases_lt c.run.hi a))
    (λ (o : (r.0 < c.router.0) ⊎ (c.router.0 < r.0)). ⊎_elim
    (λ (l : r.0 < c.router.0). inl (inl l))
    (λ (l : c.router.0 < r.0). inr (inl l))
    o)
    (cases_order r.0 c.router.0)

pub past-not : (r : RouterId) (a : ℕ) (c : Change) → ((c.router.0 < r.0) ⊎ ((c.router.0 ≡ r.0) × (c.run.hi < a))) → is_change_at r a c ≡ false
past-not r a c h = ⊎_elim
    (λ (l : c.router.0 < r.0). elsewhere r a c (λ e. let no_such : ⊥ = omega arith in no_such))
    (λ (s : (c.router.0 ≡ r.0) × (c.run.hi < a)). over r a c s.1)
    h

-- what is left after the first ones
same-rest : (c d : Change) (cs ds : List Change) → AreChanges (c ∷ cs) → AreChanges (d ∷ ds) → TellSame (c ∷ cs) (d ∷ ds) → c ≡ d → TellSame cs ds
same-rest c d cs ds h k same e r a l = ⊎_elim
    (λ (u : UpTo r a c).
    let P : Change → Type 0 = λ x. (r.0 < x.router.0) ⊎ ((r.0 ≡ x.router.0) × (a ≤ x.run.hi)) in
    none-later r a c cs h.1 h.2 u ∙ sym (none-later r a d ds k.1 k.2 (subst P e u)))
    (λ (p : (c.router.0 < r.0) ⊎ ((c.router.0 ≡ r.0) × (c.run.hi < a))).
    let P : Change → Type 0 = λ x. (x.router.0 < r.0) ⊎ ((x.router.0 ≡ r.0) × (x.run.hi < a)) in
    sym (not-first r a c cs (past-not r a c p)) ∙ same r a l ∙ not-first r a d ds (past-not r a d (subst P e p)))
    (sides r a c)

-- lists of changes that tell the same are the same
pub changes-once : (xs ys : List Change) → AreChanges xs → AreChanges ys → TellSame xs ys → xs ≡ ys
changes-once [] [] h k same = refl
changes-once [] (d ∷ ds) h k same = absurd (none-some (d.before, d.after) (same d.router d.run.lo (low-bound d k.0) ∙ starts d ds k.0))
changes-once (c ∷ cs) [] h k same = absurd (none-some (c.before, c.after) (sym (same c.router c.run.lo (low-bound c h.0)) ∙ starts c cs h.0))
changes-once (c ∷ cs) (d ∷ ds) h k same =
    let first : c ≡ d = same-first c d cs ds h k same in
    let rest : cs ≡ ds = changes-once cs ds h.2 k.2 (same-rest c d cs ds h k same first) in
    ap (λ x. x ∷ cs) first ∙ ap (λ xs. d ∷ xs) rest

-- ---- the changes between two moments

tells-once : (before after : Target) (o p : Option (Target × Target)) → TellsChange before after o → TellsChange before after p → o ≡ p
tells-once before after None None h k = refl
tells-once before after None (Some y) h k = absurd (k.1 h)
tells-once before after (Some x) None h k = absurd (h.1 k)
tells-once before after (Some x) (Some y) h k = ap (λ (z : Target × Target). Some z) (h.0 ∙ sym k.0)

pub delta-once : (before after : RouterId → ℕ → Target) (xs ys : List Change) → IsDelta before after xs → IsDelta before after ys → xs ≡ ys
delta-once before after xs ys h k = changes-once xs ys h.form k.form
    (λ r a l. tells-once (before r a) (after r a) (change_at xs r a) (change_at ys r a) (h.exact r a l) (k.exact r a l))
