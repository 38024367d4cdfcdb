-- A router does something else with the addresses of some runs, one run after another.
use Rattle.std.proofs.Common.{◌≡◌, ℕ, ◌+◌, ◌<◌, ◌≤◌, ◌^◌, ◌∙◌, ◌++◌, ◌||◌, ⊎_elim, zero, suc, Bool, true, false, Option, None, Some, List, [], ◌∷◌, length, get_or, take, refl, ap, sym, subst, arith, eqb, leb}
use Rattle.std.specs.List.{list_any}
use Rattle.std.proofs.Math.Seq.{take-suc}
use Rattle.std.proofs.lemmas.Bool.{and_from, and_left, and_parts, and_right, both_ways, cases_Bool, cases_lt, le-leb, leb-true, lt-leb, ne_eqb, or_cases, or_from, or_left, or_parts, or_right}
use Rattle.atom_map.specs.Spans.{Span, is_boundary}
use Rattle.base.specs.Delta.{TellsChange, change_at}
use Rattle.base.specs.Rows.{is_within}
use Rattle.base.specs.Runs.{AreApart, holds}
use Rattle.base.specs.declared.change.Change.{Change}
use Rattle.base.specs.declared.ids.RouterId.{RouterId}
use Rattle.base.specs.declared.run.Run.{Run}
use Rattle.base.specs.declared.target.Target.{Target}
use Rattle.base.proofs.Covers.{within-above, within-below, within-yes}
use Rattle.target_rows.specs.Labels.{Labels}
use Rattle.net_engine.specs.Paired.{AreLabelled, does_at}
use Rattle.net_engine.specs.Rerouted.{IsMoved, IsRelabelled, RunsOfAtoms}
use Rattle.net_engine.specs.Walked.{IsTold}

-- ---- runs

-- the ends of a run
pub holds-low : (a : ℕ) (run : Run) → holds a run ≡ true → run.lo ≤ a
holds-low a run h = leb-true run.lo a (and_parts (leb run.lo a) (leb a run.hi) h).0

pub holds-high : (a : ℕ) (run : Run) → holds a run ≡ true → a ≤ run.hi
holds-high a run h = leb-true a run.hi (and_parts (leb run.lo a) (leb a run.hi) h).1

pub holds-from : (a : ℕ) (run : Run) → run.lo ≤ a → a ≤ run.hi → holds a run ≡ true
holds-from a run l h = and_from (leb run.lo a) (leb a run.hi) (le-leb run.lo a l) (le-leb a run.hi h)

pub holds-first : (run : Run) → run.lo ≤ run.hi → holds run.lo run ≡ true
holds-first run l = and_from (leb run.lo run.lo) (leb run.lo run.hi) (le-leb run.lo run.lo (omega arith)) (le-leb run.lo run.hi l)

holds-not_high : (a : ℕ) (run : Run) → run.hi < a → holds a run ≡ false
holds-not_high a run l = and_right (leb run.lo a) (leb a run.hi) (lt-leb a run.hi l)

holds-within : (a : ℕ) (run : Run) → holds a run ≡ true → is_within run.lo (run.hi + 1) a ≡ true
holds-within a run h =
    let low : run.lo ≤ a = holds-low a run h in
    let high : a ≤ run.hi = holds-high a run h in
    within-yes run.lo (run.hi + 1) a low (omega arith)

holds-without : (a : ℕ) (run : Run) → holds a run ≡ false → is_within run.lo (run.hi + 1) a ≡ false
holds-without a run n = ⊎_elim
    (λ (l : a < run.lo). within-below run.lo (run.hi + 1) a l)
    (λ (l : run.lo ≤ a). ⊎_elim
    (λ (m : run.hi < a). within-above run.lo (run.hi + 1) a (omega arith))
    (λ (m : a ≤ run.hi). absurd (both_ways (holds a run) n (and_from (leb run.lo a) (leb a run.hi) (le-leb run.lo a l) (le-leb a run.hi m))))
    (cases_lt run.hi a))
    (cases_lt a run.lo)

-- one run more
any-more : (a : ℕ) (runs : List Run) (run : Run) → list_any (holds a) (runs ++ run ∷ []) ≡ (list_any (holds a) runs || holds a run)
any-more a [] run = or-none (holds a run)
  where
    or-none : (b : Bool) → (b || false) ≡ b
    or-none true = refl
    or-none false = refl
any-more a (x ∷ runs) run = ap (λ b. holds a x || b) (any-more a runs run) ∙ or-assoc (holds a x) (list_any (holds a) runs) (holds a run)
  where
    or-assoc : (p q r : Bool) → (p || (q || r)) ≡ ((p || q) || r)
    or-assoc true q r = refl
    or-assoc false q r = refl

-- ---- runs that don't touch

pub apart-rest : (x : Run) (runs : List Run) → AreApart (x ∷ runs) → AreApart runs
apart-rest x [] h = tt
apart-rest x (y ∷ runs) h = h.2

pub apart-first : (x : Run) (runs : List Run) → AreApart (x ∷ runs) → x.lo ≤ x.hi
apart-first x [] h = h.0
apart-first x (y ∷ runs) h = h.0

-- a run that goes before others ends below where each of them begins
apart-before : (x : Run) (runs : List Run) (k : ℕ) (d : Run) → AreApart (x ∷ runs) → k < length runs → x.hi < (get_or runs k d).lo
apart-before x [] k d h l = absurd (omega arith)
apart-before x (y ∷ runs) zero d h l = let apart : x.hi + 1 < y.lo = h.1 in omega arith
apart-before x (y ∷ runs) (suc k) d h l =
    let apart : x.hi + 1 < y.lo = h.1 in
    let some : y.lo ≤ y.hi = apart-first y runs h.2 in
    let rest : y.hi < (get_or runs k d).lo = apart-before y runs k d h.2 (omega arith) in
    omega arith

pub apart-order : (runs : List Run) (k : ℕ) (d : Run) → AreApart runs → k < length runs → (get_or runs k d).lo ≤ (get_or runs k d).hi
apart-order [] k d h l = absurd (omega arith)
apart-order (x ∷ runs) zero d h l = apart-first x runs h
apart-order (x ∷ runs) (suc k) d h l = apart-order runs k d (apart-rest x runs h) (omega arith)

-- no run before one has an address of it
pub apart-fresh : (runs : List Run) (k : ℕ) (d : Run) (a : ℕ) → AreApart runs → k < length runs → (get_or runs k d).lo ≤ a → list_any (holds a) (take k runs) ≡ false
apart-fresh [] k d a h l m = absurd (omega arith)
apart-fresh (x ∷ runs) zero d a h l m = refl
apart-fresh (x ∷ runs) (suc k) d a h l m =
    let before : x.hi < (get_or runs k d).lo = apart-before x runs k d h (omega arith) in
    or_from (holds a x) (list_any (holds a) (take k runs)) (holds-not_high a x (omega arith)) (apart-fresh runs k d a (apart-rest x runs h) (omega arith) m)

-- each of their addresses is one
pub apart-below : (runs : List Run) (a : ℕ) → AreApart runs → list_any (holds a) runs ≡ true → a < 2 ^ 32
apart-below [] a h t = absurd (let f : false ≡ true = t in cc)
apart-below (x ∷ runs) a h t = ⊎_elim
    (λ (here : holds a x ≡ true). let high : a ≤ x.hi = holds-high a x here in let low : x.hi < 2 ^ 32 = last x runs h in omega arith)
    (λ (there : list_any (holds a) runs ≡ true). apart-below runs a (apart-rest x runs h) there)
    (or_cases (holds a x) (list_any (holds a) runs) t)
  where
    last : (y : Run) (ys : List Run) → AreApart (y ∷ ys) → y.hi < 2 ^ 32
    last y [] k = k.1
    last y (z ∷ ys) k =
        let apart : y.hi + 1 < z.lo = k.1 in
        let some : z.lo ≤ z.hi = apart-first z ys k.2 in
        let rest : z.hi < 2 ^ 32 = last z ys k.2 in
        omega arith

-- a run's address is one of theirs
pub run-among : (runs : List Run) (k : ℕ) (d : Run) (a : ℕ) → k < length runs → holds a (get_or runs k d) ≡ true → list_any (holds a) runs ≡ true
run-among [] k d a l h = absurd (omega arith)
run-among (x ∷ runs) zero d a l h = or_left (holds a x) (list_any (holds a) runs) h
run-among (x ∷ runs) (suc k) d a l h = or_right (holds a x) (list_any (holds a) runs) (run-among runs k d a (omega arith) h)

-- an address of none of them is one of none of the first
pub none-first : (runs : List Run) (k a : ℕ) → list_any (holds a) runs ≡ false → list_any (holds a) (take k runs) ≡ false
none-first [] zero a n = refl
none-first [] (suc k) a n = refl
none-first (x ∷ runs) zero a n = refl
none-first (x ∷ runs) (suc k) a n =
    let parts : (holds a x ≡ false) × (list_any (holds a) runs ≡ false) = or_parts (holds a x) (list_any (holds a) runs) n in
    or_from (holds a x) (list_any (holds a) (take k runs)) parts.0 (none-first runs k a parts.1)

-- atoms begin where each begins, and where it ends
pub run-low : (rows : List Span) (runs : List Run) (k : ℕ) (d : Run) → RunsOfAtoms rows runs → k < length runs → is_boundary rows (get_or runs k d).lo ≡ true
run-low rows [] k d h l = absurd (omega arith)
run-low rows (x ∷ runs) zero d h l = h.0
run-low rows (x ∷ runs) (suc k) d h l = run-low rows runs k d h.2 (omega arith)

pub run-past : (rows : List Span) (runs : List Run) (k : ℕ) (d : Run) → RunsOfAtoms rows runs → k < length runs → (get_or runs k d).hi + 1 < 2 ^ 32 → is_boundary rows ((get_or runs k d).hi + 1) ≡ true
run-past rows [] k d h l = absurd (omega arith)
run-past rows (x ∷ runs) zero d h l = h.1
run-past rows (x ∷ runs) (suc k) d h l = run-past rows runs k d h.2 (omega arith)

-- ---- what is done and told

-- what is told where nothing changes
untold : (t : Target) (o : Option (Target × Target)) → TellsChange t t o → o ≡ None
untold t None h = refl
untold t (Some p) h = absurd (h.1 refl)

-- where what is to be done is done already
pub moved-same : (rows : List Span) (x : Labels) (now : List Change) (r : RouterId) (runs : List Run) (after : Target) → AreLabelled rows x → now ≡ [] → ((a : ℕ) → list_any (holds a) runs ≡ true → does_at rows x r.0 a ≡ after) → IsMoved rows x x now r runs after
moved-same rows x now r runs after h none here =
    subst (λ (cs : List Change). IsMoved rows x x cs r runs after) (sym none) (record {
      labelled = h;
      routers = refl;
      here = here;
      away = λ a n. refl;
      others = λ q a n. refl;
      form = tt;
      tells = λ a. refl;
      changes = λ q a n. refl;
    })

pub moved-none : (rows : List Span) (x : Labels) (now : List Change) (r : RouterId) (after : Target) → AreLabelled rows x → now ≡ [] → IsMoved rows x x now r [] after
moved-none rows x now r after h none = moved-same rows x now r [] after h none (λ a t. absurd (let f : false ≡ true = t in cc))

-- where the runs haven't come nothing is told
pub untold-there : (rows : List Span) (x y : Labels) (now : List Change) (r : RouterId) (runs : List Run) (after : Target) (a : ℕ) → IsMoved rows x y now r runs after → list_any (holds a) runs ≡ false → change_at now r a ≡ None
untold-there rows x y now r runs after a m n =
    untold (does_at rows x r.0 a) (change_at now r a) (subst (λ t. TellsChange (does_at rows x r.0 a) t (change_at now r a)) (m.away a n) (m.tells a))

module _ (rows : List Span) (x y z : Labels) (was now : List Change) (r : RouterId) (runs : List Run) (run : Run) (before after : Target) (m : IsMoved rows x y was r runs after) (k : IsRelabelled rows y z r.0 run.lo (run.hi + 1) after) (t : IsTold was now r run.lo (run.hi + 1) before after) (fresh : (a : ℕ) → holds a run ≡ true → list_any (holds a) runs ≡ false) (did : (a : ℕ) → holds a run ≡ true → does_at rows x r.0 a ≡ before) where
  here-more : (a : ℕ) → holds a run ≡ true → does_at rows z r.0 a ≡ after
  here-more a h = let high : a ≤ run.hi = holds-high a run h in k.here a (holds-low a run h) (omega arith)

  tells-more : (a : ℕ) → TellsChange (does_at rows x r.0 a) (does_at rows z r.0 a) (change_at now r a)
  tells-more a = ⊎_elim
      (λ (h : holds a run ≡ true).
      let high : a ≤ run.hi = holds-high a run h in
      let P : Target → Type 0 = λ u. TellsChange u (does_at rows z r.0 a) (change_at now r a) in
      let Q : Target → Type 0 = λ u. TellsChange before u (change_at now r a) in
      subst P (sym (did a h)) (subst Q (sym (here-more a h)) (t.here a (holds-low a run h) (omega arith))))
      (λ (n : holds a run ≡ false).
      let out : is_within run.lo (run.hi + 1) a ≡ false = holds-without a run n in
      let P : Target → Type 0 = λ u. TellsChange (does_at rows x r.0 a) u (change_at now r a) in
      let Q : Option (Target × Target) → Type 0 = λ o. TellsChange (does_at rows x r.0 a) (does_at rows y r.0 a) o in
      subst P (sym (k.away a out)) (subst Q (sym (t.other r a (and_right (eqb r.0 r.0) (is_within run.lo (run.hi + 1) a) out))) (m.tells a)))
      (cases_Bool (holds a run))

  pub moved-more : IsMoved rows x z now r (runs ++ run ∷ []) after
  moved-more = record {
    labelled = k.labelled;
    routers = k.routers ∙ m.routers;
    here = λ a h. ⊎_elim
        (λ (b : list_any (holds a) runs ≡ true). ⊎_elim
        (λ (c : holds a run ≡ true). here-more a c)
        (λ (c : holds a run ≡ false). k.away a (holds-without a run c) ∙ m.here a b)
        (cases_Bool (holds a run)))
        (λ (b : holds a run ≡ true). here-more a b)
        (or_cases (list_any (holds a) runs) (holds a run) (sym (any-more a runs run) ∙ h));
    away = λ a n.
        let parts : (list_any (holds a) runs ≡ false) × (holds a run ≡ false) = or_parts (list_any (holds a) runs) (holds a run) (sym (any-more a runs run) ∙ n) in
        k.away a (holds-without a run parts.1) ∙ m.away a parts.0;
    others = λ q a n. k.others q a n ∙ m.others q a n;
    form = t.form;
    tells = tells-more;
    changes = λ q a n. t.other q a (and_left (eqb q.0 r.0) (is_within run.lo (run.hi + 1) a) (ne_eqb q.0 r.0 n)) ∙ m.changes q a n;
  }

-- the front of a list with one run more
pub moved-next : (rows : List Span) (x y : Labels) (now : List Change) (r : RouterId) (runs : List Run) (k : ℕ) (d : Run) (after : Target) → k < length runs → IsMoved rows x y now r (take k runs ++ get_or runs k d ∷ []) after → IsMoved rows x y now r (take (k + 1) runs) after
moved-next rows x y now r runs k d after l m =
    let next : k + 1 ≡ suc k = omega arith in
    subst (λ (xs : List Run). IsMoved rows x y now r xs after) (sym (ap (λ n. take n runs) next ∙ take-suc runs k d l)) m

-- a step of the loop over them
pub moved-step : (rows : List Span) (x y z : Labels) (was now : List Change) (r : RouterId) (runs : List Run) (k : ℕ) (d : Run) (before after : Target) → AreApart runs → k < length runs → ((a : ℕ) → list_any (holds a) runs ≡ true → does_at rows x r.0 a ≡ before) → IsMoved rows x y was r (take k runs) after → IsRelabelled rows y z r.0 (get_or runs k d).lo ((get_or runs k d).hi + 1) after → IsTold was now r (get_or runs k d).lo ((get_or runs k d).hi + 1) before after → IsMoved rows x z now r (take (k + 1) runs) after
moved-step rows x y z was now r runs k d before after apart l did m moved told =
    moved-next rows x z now r runs k d after l (moved-more rows x y z was now r (take k runs) (get_or runs k d) before after m moved told
    (λ a h. apart-fresh runs k d a apart l (holds-low a (get_or runs k d) h))
    (λ a h. did a (run-among runs k d a l h)))

-- where the runs haven't come the router does what it did
module _ (rows : List Span) (x y : Labels) (was : List Change) (r : RouterId) (runs : List Run) (k : ℕ) (d : Run) (after : Target) (apart : AreApart runs) (l : k < length runs) (same : (a b : ℕ) → list_any (holds a) runs ≡ true → list_any (holds b) runs ≡ true → does_at rows x r.0 a ≡ does_at rows x r.0 b) (m : IsMoved rows x y was r (take k runs) after) where
  untouched : (a : ℕ) → holds a (get_or runs k d) ≡ true → does_at rows y r.0 a ≡ does_at rows x r.0 a
  untouched a h = m.away a (apart-fresh runs k d a apart l (holds-low a (get_or runs k d) h))

  first-held : holds (get_or runs k d).lo (get_or runs k d) ≡ true
  first-held = holds-first (get_or runs k d) (apart-order runs k d apart l)

  pub same-still : (a : ℕ) → holds a (get_or runs k d) ≡ true → does_at rows y r.0 a ≡ does_at rows y r.0 (get_or runs k d).lo
  same-still a h =
      untouched a h
      ∙ same a (get_or runs k d).lo (run-among runs k d a l h) (run-among runs k d (get_or runs k d).lo l first-held)
      ∙ sym (untouched (get_or runs k d).lo first-held)

-- what it did with a run it did with all
pub was-there : (rows : List Span) (x y : Labels) (was : List Change) (r : RouterId) (runs : List Run) (k : ℕ) (d : Run) (before after : Target) → AreApart runs → k < length runs → ((a b : ℕ) → list_any (holds a) runs ≡ true → list_any (holds b) runs ≡ true → does_at rows x r.0 a ≡ does_at rows x r.0 b) → IsMoved rows x y was r (take k runs) after → before ≡ does_at rows y r.0 (get_or runs k d).lo → (a : ℕ) → list_any (holds a) runs ≡ true → does_at rows x r.0 a ≡ before
was-there rows x y was r runs k d before after apart l same m is a h =
    let held : holds (get_or runs k d).lo (get_or runs k d) ≡ true = first-held rows x y was r runs k d after apart l same m in
    same a (get_or runs k d).lo h (run-among runs k d (get_or runs k d).lo l held)
    ∙ sym (untouched rows x y was r runs k d after apart l same m (get_or runs k d).lo held)
    ∙ sym is

-- and where that is what it is to do, nothing is left
pub moved-already : (rows : List Span) (x y z : Labels) (was : List Change) (r : RouterId) (runs : List Run) (k : ℕ) (d : Run) (after : Target) → AreApart runs → k < length runs → ((a : ℕ) → list_any (holds a) runs ≡ true → does_at rows x r.0 a ≡ after) → IsMoved rows x y was r (take k runs) after → IsRelabelled rows y z r.0 (get_or runs k d).lo ((get_or runs k d).hi + 1) after → IsMoved rows x z was r runs after
moved-already rows x y z was r runs k d after apart l did m moved = record {
  labelled = moved.labelled;
  routers = moved.routers ∙ m.routers;
  here = λ a h. as-then a ∙ ⊎_elim
      (λ (b : list_any (holds a) (take k runs) ≡ true). m.here a b)
      (λ (b : list_any (holds a) (take k runs) ≡ false). m.away a b ∙ did a h)
      (cases_Bool (list_any (holds a) (take k runs)));
  away = λ a n. as-then a ∙ m.away a (none-first runs k a n);
  others = λ q a n. moved.others q a n ∙ m.others q a n;
  form = m.form;
  tells = λ a. subst (λ t. TellsChange (does_at rows x r.0 a) t (change_at was r a)) (sym (as-then a)) (m.tells a);
  changes = m.changes;
}
  where
    run : Run
    run = get_or runs k d

    as-then : (a : ℕ) → does_at rows z r.0 a ≡ does_at rows y r.0 a
    as-then a = ⊎_elim
        (λ (h : holds a run ≡ true).
        let high : a ≤ run.hi = holds-high a run h in
        moved.here a (holds-low a run h) (omega arith)
        ∙ sym (did a (run-among runs k d a l h))
        ∙ sym (m.away a (apart-fresh runs k d a apart l (holds-low a run h))))
        (λ (n : holds a run ≡ false). moved.away a (holds-without a run n))
        (cases_Bool (holds a run))
