-- Runs of the addresses that pass a test, put together from the last addresses down.
use Rattle.std.proofs.Common.{◌≡◌, ℕ, ◌+◌, ◌<◌, ◌≤◌, ◌^◌, ◌∙◌, eqb, Bool, true, false, ◌||◌, List, [], ◌∷◌, refl, ap, sym, subst, ⊎_elim, arith}
use Rattle.std.specs.List.{list_any}
use Rattle.std.proofs.lemmas.Bool.{cases_lt, eqb-true, eqb-false, cond_both, or_left, or_right, or_from}
use Rattle.base.specs.Runs.{holds, AreApart, AreRuns}
use Rattle.base.specs.RunsFrom.{with_run, StartFrom, AreRunsFrom}
use Rattle.base.specs.declared.run.Run.{Run}
use Rattle.base.proofs.RunsOnce.{holds-in, holds-below, holds-above, apart-head, apart-below}

-- before all runs nothing is held
pub none-below : (at a : ℕ) (runs : List Run) → AreApart runs → StartFrom at runs → a < at → list_any (holds a) runs ≡ false
none-below at a [] h s l = refl
none-below at a (i ∷ is) h s l = let m : at ≤ i.lo = s in apart-below a i is h (omega arith)

start-lower : (low past : ℕ) (runs : List Run) → low ≤ past → StartFrom past runs → StartFrom low runs
start-lower low past [] l s = tt
start-lower low past (i ∷ is) l s = let m : past ≤ i.lo = s in let k : low ≤ i.lo = omega arith in k

-- a run and the one that it touches, as one
abbrev joined : Run → Run → Run
joined run next = record { lo = run.lo; hi = next.hi }

joined-holds : (a : ℕ) (run next : Run) → run.hi + 1 ≡ next.lo → run.lo ≤ run.hi → next.lo ≤ next.hi → holds a (joined run next) ≡ (holds a run || holds a next)
joined-holds a run next e l k = ⊎_elim
    (λ (below : a < run.lo). holds-below a (joined run next) below ∙ sym (or_from (holds a run) (holds a next) (holds-below a run below) (holds-below a next (omega arith))))
    (λ (from : run.lo ≤ a). ⊎_elim
    (λ (past : next.hi < a). holds-above a (joined run next) past ∙ sym (or_from (holds a run) (holds a next) (holds-above a run (omega arith)) (holds-above a next past)))
    (λ (to : a ≤ next.hi). holds-in a (joined run next) from to ∙ sym (⊎_elim
    (λ (second : run.hi < a). or_right (holds a run) (holds a next) (holds-in a next (omega arith) to))
    (λ (first : a ≤ run.hi). or_left (holds a run) (holds a next) (holds-in a run from first))
    (cases_lt run.hi a)))
    (cases_lt next.hi a))
    (cases_lt a run.lo)

or_group : (x y z : Bool) → ((x || y) || z) ≡ (x || (y || z))
or_group true y z = refl
or_group false y z = refl

-- a run put before others holds what it and the others do
pub with-holds : (a : ℕ) (run : Run) (runs : List Run) → run.lo ≤ run.hi → AreApart runs → list_any (holds a) (with_run run runs) ≡ (holds a run || list_any (holds a) runs)
with-holds a run [] l h = refl
with-holds a run (x ∷ xs) l h =
    let P : List Run → Type 0 = λ rs. list_any (holds a) rs ≡ (holds a run || (holds a x || list_any (holds a) xs)) in
    cond_both (eqb (run.hi + 1) x.lo) (joined run x ∷ xs) (run ∷ x ∷ xs) P
    (λ y. ap (λ b. b || list_any (holds a) xs) (joined-holds a run x (eqb-true (run.hi + 1) x.lo y) l (apart-head x xs h)) ∙ or_group (holds a run) (holds a x) (list_any (holds a) xs))
    (λ n. refl)

apart-joined : (run x : Run) (xs : List Run) → run.lo ≤ x.hi → AreApart (x ∷ xs) → AreApart (joined run x ∷ xs)
apart-joined run x [] l h = (l, h.1)
apart-joined run x (y ∷ ys) l h = (l, h.1, h.2)

apart-with : (run : Run) (runs : List Run) → run.lo ≤ run.hi → run.hi < 2 ^ 32 → AreApart runs → StartFrom (run.hi + 1) runs → AreApart (with_run run runs)
apart-with run [] l b h s = (l, b)
apart-with run (x ∷ xs) l b h s =
    let P : List Run → Type 0 = λ rs. AreApart rs in
    let from : run.hi + 1 ≤ x.lo = s in
    let low : x.lo ≤ x.hi = apart-head x xs h in
    cond_both (eqb (run.hi + 1) x.lo) (joined run x ∷ xs) (run ∷ x ∷ xs) P
    (λ y. apart-joined run x xs (omega arith) h)
    (λ n.
    let other : run.hi + 1 ≡ x.lo → ⊥ = eqb-false (run.hi + 1) x.lo n in
    (l, (omega arith), h))

start-with : (run : Run) (runs : List Run) → StartFrom run.lo (with_run run runs)
start-with run [] = (let e : run.lo ≤ run.lo = omega arith in e)
start-with run (x ∷ xs) =
    let P : List Run → Type 0 = λ rs. StartFrom run.lo rs in
    let e : run.lo ≤ run.lo = omega arith in
    cond_both (eqb (run.hi + 1) x.lo) (joined run x ∷ xs) (run ∷ x ∷ xs) P (λ y. e) (λ n. e)

-- a run of addresses that pass, put before the runs from its end on
pub put-passed : (test : ℕ → Bool) (run : Run) (past : ℕ) (runs : List Run) → run.lo ≤ run.hi → run.hi + 1 ≡ past → past ≤ 2 ^ 32 → AreRunsFrom past test runs → ((a : ℕ) → run.lo ≤ a → a < past → test a ≡ true) → AreRunsFrom run.lo test (with_run run runs)
put-passed test run past runs l e b h t =
    let P : ℕ → Type 0 = λ n. StartFrom n runs in
    record {
      apart = apart-with run runs l (omega arith) h.apart (subst P (sym e) h.start);
      start = start-with run runs;
      exact = λ a from below. with-holds a run runs l h.apart ∙ ⊎_elim
          (λ (first : a < past). or_left (holds a run) (list_any (holds a) runs) (holds-in a run from (omega arith)) ∙ sym (t a from first))
          (λ (later : past ≤ a). ap (λ x. x || list_any (holds a) runs) (holds-above a run (omega arith)) ∙ h.exact a later below)
          (cases_lt a past);
    }

-- where no address passes, the runs stay
pub put-none : (test : ℕ → Bool) (low past : ℕ) (runs : List Run) → low ≤ past → AreRunsFrom past test runs → ((a : ℕ) → low ≤ a → a < past → test a ≡ false) → AreRunsFrom low test runs
put-none test low past runs l h t = record {
  apart = h.apart;
  start = start-lower low past runs l h.start;
  exact = λ a from below. ⊎_elim
      (λ (first : a < past). none-below past a runs h.apart h.start first ∙ sym (t a from first))
      (λ (later : past ≤ a). h.exact a later below)
      (cases_lt a past);
}

-- from the first address on they are all
pub from-first : (test : ℕ → Bool) (runs : List Run) → AreRunsFrom 0 test runs → AreRuns runs test
from-first test runs h = record {
  apart = h.apart;
  exact = λ a below. h.exact a (omega arith) below;
}
