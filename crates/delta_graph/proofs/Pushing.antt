-- A push: what is put in the place of what it is joined to.
use Rattle.std.proofs.Common.{◌≡◌, ℕ, ◌-◌, ◌<◌, ◌≤◌, ◌⊎◌, ◌∙◌, suc, true, false, cond, Some, None, List, [], ◌∷◌, ◌++◌, length, take, drop, get_or, ap, sym, subst, inl, inr, ⊎_elim, arith, leb}
use Rattle.std.proofs.Math.Seq.{drop-cons, take-length, take-suc}
use Rattle.std.proofs.lemmas.Bool.{and_from, both_ways, cases_Bool, cases_lt, cases_order, le-leb}
use Rattle.std.proofs.lemmas.List.{drop_all, get_or_default, take-append-drop}
use Rattle.base.specs.Delta.{AreChanges, GoesBefore, GoesOn, IsApart, IsApartFromFirst, IsChange, change_at, is_change_at, targets_of}
use Rattle.base.specs.Runs.{holds}
use Rattle.base.specs.declared.change.Change.{Change}
use Rattle.base.specs.declared.ids.RouterId.{RouterId}
use Rattle.base.specs.declared.target.Target.{Target}
use Rattle.base.proofs.DeltaOnce.{first-is, not-first, within}
use Rattle.delta_graph.specs.Joined.{EndsApart, JoinsLeft, JoinsRight}
use Rattle.delta_graph.specs.Pushed.{IsPushed, MeetsNone}
use Rattle.delta_graph.proofs.Chain.{back-part, ends-push, ends-start, front-part, glue, none-at, none-front, same-front}
use Rattle.delta_graph.proofs.Joints.{IsAt, is-at, left-none, right-none}

-- ---- the place

pub ends-at : (xs : List Change) (place : ℕ) (c : Change) → place ≤ length xs → (0 < place → IsApart (get_or xs (place - 1) c) c) → EndsApart (take place xs) c
ends-at xs place c inside h = ⊎_elim
    (λ (some : 0 < place).
    let k : ℕ = place - 1 in
    let is : suc k ≡ place = omega arith in
    let lt : k < length xs = omega arith in
    let front : take place xs ≡ take k xs ++ get_or xs k c ∷ [] = ap (λ n. take n xs) (sym is) ∙ take-suc xs k c lt in
    let P : List Change → Type 0 = λ ys. EndsApart ys c in
    subst P (sym front) (ends-push (take k xs) (get_or xs k c) c (h some)))
    (λ (none : place ≤ 0).
    let is : place ≡ 0 = omega arith in
    let P : ℕ → Type 0 = λ n. EndsApart (take n xs) c in
    subst P (sym is) tt)
    (cases_lt 0 place)

pub first-at : (xs : List Change) (place : ℕ) (c : Change) → (place < length xs → IsApart c (get_or xs place c)) → IsApartFromFirst c (drop place xs)
first-at xs place c h = ⊎_elim
    (λ (lt : place < length xs).
    let P : List Change → Type 0 = λ ys. IsApartFromFirst c ys in
    subst P (sym (drop-cons xs place c lt)) (h lt))
    (λ (ge : length xs ≤ place).
    let P : List Change → Type 0 = λ ys. IsApartFromFirst c ys in
    subst P (sym (drop_all place xs ge)) tt)
    (cases_lt place (length xs))

-- what meets no kept run and isn't gone before by the one at its place goes before that one
pub goes-first : (xs : List Change) (place : ℕ) (c : Change) → place < length xs → AreChanges xs → c.run.lo ≤ c.run.hi → MeetsNone xs c → (GoesBefore (get_or xs place c) c → ⊥) → GoesBefore c (get_or xs place c)
goes-first xs place c lt form ends apart not_before =
    let d : Change = get_or xs place c in
    let split : take place xs ++ d ∷ drop (suc place) xs ≡ xs = ap (λ ys. take place xs ++ ys) (sym (drop-cons xs place c lt)) ∙ take-append-drop place xs in
    let P : List Change → Type 0 = λ ys. AreChanges ys in
    let there : IsChange d = (back-part (take place xs) (d ∷ drop (suc place) xs) (subst P (sym split) form)).0 in
    ⊎_elim
    (λ (e : c.router.0 ≡ d.router.0).
    let late : c.run.lo ≤ d.run.hi = ⊎_elim (λ (l : d.run.hi < c.run.lo). absurd (not_before (inr (sym e, l)))) (λ (l : c.run.lo ≤ d.run.hi). l) (cases_lt d.run.hi c.run.lo) in
    ⊎_elim
    (λ (l : c.run.hi < d.run.lo). inr (e, l))
    (λ (meets : d.run.lo ≤ c.run.hi). absurd (⊎_elim
    (λ (l : c.run.lo < d.run.lo). meet d d.run.lo split e (omega arith) meets (omega arith) there.ends)
    (λ (l : d.run.lo ≤ c.run.lo). meet d c.run.lo split e (omega arith) ends l late)
    (cases_lt c.run.lo d.run.lo)))
    (cases_lt c.run.hi d.run.lo))
    (λ (o : (c.router.0 < d.router.0) ⊎ (d.router.0 < c.router.0)). ⊎_elim
    (λ (l : c.router.0 < d.router.0). inl l)
    (λ (l : d.router.0 < c.router.0). absurd (not_before (inl l)))
    o)
    (cases_order c.router.0 d.router.0)
  where
    meet : (d : Change) (a : ℕ) → take place xs ++ d ∷ drop (suc place) xs ≡ xs → c.router.0 ≡ d.router.0 → c.run.lo ≤ a → a ≤ c.run.hi → d.run.lo ≤ a → a ≤ d.run.hi → ⊥
    meet d a split e l h m n =
        let inside : holds a c.run ≡ true = and_from (leb c.run.lo a) (leb a c.run.hi) (le-leb c.run.lo a l) (le-leb a c.run.hi h) in
        let gone : change_at (take place xs ++ d ∷ drop (suc place) xs) c.router a ≡ None = ap (λ ys. change_at ys c.router a) split ∙ apart a inside in
        both_ways (is_change_at c.router a d) (none-at (take place xs) d (drop (suc place) xs) c.router a gone) (within c.router a d (sym e) m n)

-- the same of what ends where it ends
pub goes-first-joined : (xs ys : List Change) (place : ℕ) (c d : Change) → ys ≡ xs → AreChanges xs → c.run.lo ≤ c.run.hi → MeetsNone xs c → (place < length xs → GoesBefore (get_or xs place c) c → ⊥) → d.router ≡ c.router → d.run.hi ≡ c.run.hi → place < length ys → GoesBefore d (get_or ys place d)
goes-first-joined xs ys place c d same form ends apart not_before router hi inside =
    let P : List Change → Type 0 = λ zs. place < length zs in
    let lt : place < length xs = subst P same inside in
    let first : GoesBefore c (get_or xs place c) = goes-first xs place c lt form ends apart (not_before lt) in
    let at : get_or xs place c ≡ get_or ys place d = get_or_default xs place c d lt ∙ ap (λ zs. get_or zs place d) (sym same) in
    let Q : Change → Type 0 = λ f. GoesBefore c f in
    let R : RouterId → ℕ → Type 0 = λ n h. (n.0 < (get_or ys place d).router.0) ⊎ ((n.0 ≡ (get_or ys place d).router.0) × (h < (get_or ys place d).run.lo)) in
    subst (λ n. R n d.run.hi) (sym router) (subst (λ h. R c.router h) (sym hi) (subst Q at first))

-- ---- the push

same-number : (cs : List Change) (r s : RouterId) (a : ℕ) → r.0 ≡ s.0 → change_at cs r a ≡ change_at cs s a
same-number cs r s a e = let R : ℕ → RouterId = λ n. record { 0 = n } in ap (λ n. change_at cs (R n) a) e

two-targets : (c d : Change) → c.before ≡ d.before → c.after ≡ d.after → targets_of c ≡ targets_of d
two-targets c d b e =
    let T : Target → Target → Target × Target = λ x y. (x, y) in
    ap (λ x. T x c.after) b ∙ ap (λ y. T d.before y) e

module _ (xs : List Change) (c : Change) (place from to : ℕ) (left right : Change) (form : AreChanges xs) (apart : MeetsNone xs c) (l : JoinsLeft xs place c from left) (r : JoinsRight xs place left to right) where
  put-form : AreChanges (take from xs ++ right ∷ drop to xs)
  put-form =
      let P : List Change → Type 0 = λ ys. AreChanges ys in
      let front : AreChanges (take from xs) = front-part (take from xs) (drop from xs) (subst P (sym (take-append-drop from xs)) form) in
      let back : AreChanges (drop to xs) = back-part (take to xs) (drop to xs) (subst P (sym (take-append-drop to xs)) form) in
      glue (take from xs) right (drop to xs) front (ends-start (take from xs) left right (sym r.router) (sym r.lo) (sym r.before) (sym r.after) l.apart) (r.change, r.apart, back)

  put-here : (n : RouterId) (a : ℕ) → is_change_at n a c ≡ true → change_at (take from xs ++ right ∷ drop to xs) n a ≡ Some (targets_of c)
  put-here n a t =
      let at : IsAt n a c = is-at n a c t in
      let held : holds a c.run ≡ true = and_from (leb c.run.lo a) (leb a c.run.hi) (le-leb c.run.lo a at.low) (le-leb a c.run.hi at.high) in
      let gone : change_at (take from xs ++ drop from xs) n a ≡ None = ap (λ ys. change_at ys n a) (take-append-drop from xs) ∙ same-number xs n c.router a (sym at.router) ∙ apart a held in
      none-front (take from xs) (drop from xs) (right ∷ drop to xs) n a gone
      ∙ first-is n a right (drop to xs) (r.here n a (l.here n a t))
      ∙ ap (λ (p : Target × Target). Some p) (two-targets right left r.before r.after ∙ two-targets left c l.before l.after)

  put-back : (n : RouterId) (a : ℕ) → is_change_at n a c ≡ false → change_at (right ∷ drop to xs) n a ≡ change_at (drop from xs) n a
  put-back n a f = ⊎_elim
      (λ (t : is_change_at n a left ≡ true).
      first-is n a right (drop to xs) (r.here n a t) ∙ ap (λ (p : Target × Target). Some p) (two-targets right left r.before r.after)
      ∙ sym (first-is n a left (drop place xs) t) ∙ l.there n a f)
      (λ (g : is_change_at n a left ≡ false). r.there n a g ∙ sym (not-first n a left (drop place xs) g) ∙ l.there n a f)
      (cases_Bool (is_change_at n a left))

  put-there : (n : RouterId) (a : ℕ) → is_change_at n a c ≡ false → change_at (take from xs ++ right ∷ drop to xs) n a ≡ change_at xs n a
  put-there n a f = same-front (take from xs) (right ∷ drop to xs) (drop from xs) n a (put-back n a f) ∙ ap (λ ys. change_at ys n a) (take-append-drop from xs)

  put-exact : (n : RouterId) (a : ℕ) → change_at (take from xs ++ right ∷ drop to xs) n a ≡ cond (is_change_at n a c) (Some (targets_of c)) (change_at xs n a)
  put-exact n a = ⊎_elim
      (λ (t : is_change_at n a c ≡ true). put-here n a t ∙ sym (ap (λ b. cond b (Some (targets_of c)) (change_at xs n a)) t))
      (λ (f : is_change_at n a c ≡ false). put-there n a f ∙ sym (ap (λ b. cond b (Some (targets_of c)) (change_at xs n a)) f))
      (cases_Bool (is_change_at n a c))

  pub pushed : (new : List Change) → new ≡ take from xs ++ right ∷ drop to xs → IsPushed xs new c
  pushed new is =
      let P : List Change → Type 0 = λ ys. IsPushed xs ys c in
      subst P (sym is) (record { form = put-form; exact = put-exact })

-- the same, where the lists are known to be one
pub pushed-at : (now items ys zs new : List Change) (c left right : Change) (place from to : ℕ) → items ≡ now → ys ≡ items → zs ≡ items → AreChanges now → MeetsNone now c → JoinsLeft ys place c from left → JoinsRight zs place left to right → new ≡ take from items ++ right ∷ drop to items → IsPushed now new c
pushed-at now items ys zs new c left right place from to i y z form apart l r is =
    let P : List Change → Type 0 = λ xs. JoinsLeft xs place c from left in
    let Q : List Change → Type 0 = λ xs. JoinsRight xs place left to right in
    pushed now c place from to left right form apart (subst P (y ∙ i) l) (subst Q (z ∙ i) r) new (is ∙ ap (λ xs. take from xs ++ right ∷ drop to xs) i)

-- what goes behind the last of others, and doesn't go on from it, stands apart from it
pub ends-last : (xs : List Change) (l c : Change) → 0 < length xs → get_or xs (length xs - 1) l ≡ l → GoesBefore l c → (GoesOn l c → ⊥) → EndsApart xs c
ends-last xs l c some at before on =
    let k : ℕ = length xs - 1 in
    let lt : k < length xs = omega arith in
    let is : l ≡ get_or xs k c = sym at ∙ get_or_default xs k l c lt in
    let P : List Change → Type 0 = λ ys. EndsApart ys c in
    let Q : Change → Type 0 = λ d. IsApart d c in
    subst P (take-length xs) (ends-at xs (length xs) c (omega arith) (λ _. subst Q is (record { order = before; two = on })))

-- a change behind all, apart from the last
pub pushed-last : (xs new : List Change) (c : Change) → AreChanges xs → IsChange c → MeetsNone xs c → EndsApart xs c → new ≡ xs ++ c ∷ [] → IsPushed xs new c
pushed-last xs new c form is apart behind made =
    let n : ℕ = length xs in
    let front : take n xs ≡ xs = take-length xs in
    let back : drop n xs ≡ [] = drop_all n xs (omega arith) in
    let P : List Change → Type 0 = λ ys. EndsApart ys c in
    let Q : List Change → Type 0 = λ ys. IsApartFromFirst c ys in
    pushed xs c n n n c c form apart (left-none xs n c is (subst P (sym front) behind)) (right-none xs n c is (omega arith) (subst Q (sym back) tt)) new
    (made ∙ ap (λ ys. ys ++ c ∷ []) (sym front) ∙ ap (λ ys. take n xs ++ c ∷ ys) (sym back))
