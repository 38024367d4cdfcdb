-- Cycles, put together from the last addresses down.
use Rattle.std.proofs.Common.{◌≡◌, ℕ, ◌+◌, ◌<◌, ◌≤◌, ◌^◌, ◌∙◌, Bool, true, false, Some, List, [], ◌∷◌, length, get_or, drop, map, ap, sym, subst, ⊎_elim, arith, IsTrue}
use Rattle.std.specs.List.{Contains, insert}
use Rattle.std.proofs.lemmas.Bool.{cases_lt}
use Rattle.std.proofs.lemmas.List.{drop_more}
use Rattle.std.proofs.lemmas.List.Elements.{Contains-get_or}
use Rattle.std.proofs.lemmas.List.Sums.{sum_by-cons}
use Rattle.base.specs.Cycles.{goes_round, first_router, BeginAt, IsCycle, AreInOrder, HasCycle}
use Rattle.base.specs.CyclesFrom.{is_before, IsCycleFrom, IsCycleOf, IsPutAmong, AreSomeCycles, TellsCycle, TellsCycles}
use Rattle.base.specs.Runs.{AreApart, AreRuns, addresses_in, run_length}
use Rattle.base.specs.Walk.{at_address}
use Rattle.base.specs.declared.cycle.Cycle.{Cycle}
use Rattle.base.specs.declared.ids.RouterId.{RouterId}
use Rattle.base.specs.declared.run.Run.{Run}
use Rattle.base.specs.declared.target.Target.{Target}
use Rattle.base.proofs.CycleFrom.{one-cycle}
use Rattle.base.proofs.Ordered.{before-yes, before-not, Ordered, ordered-insert, insert-here, insert-kept, insert-only}
use Rattle.base.proofs.RunsOnce.{apart-head, apart-bound, first-holds}

-- ---- how many addresses runs have

few-above : (i : Run) (is : List Run) → AreApart (i ∷ is) → i.lo + addresses_in (i ∷ is) ≤ 2 ^ 32
few-above i [] h =
    let low : i.lo ≤ i.hi = h.0 in
    let bound : i.hi < 2 ^ 32 = h.1 in
    let e : addresses_in (i ∷ []) ≡ run_length i + 0 = sum_by-cons (λ (n : ℕ). n) (run_length i) [] in
    omega arith
few-above i (j ∷ js) h =
    let low : i.lo ≤ i.hi = h.0 in
    let gap : i.hi + 1 < j.lo = h.1 in
    let rest : j.lo + addresses_in (j ∷ js) ≤ 2 ^ 32 = few-above j js h.2 in
    let e : addresses_in (i ∷ j ∷ js) ≡ run_length i + addresses_in (j ∷ js) = sum_by-cons (λ (n : ℕ). n) (run_length i) (map run_length (j ∷ js)) in
    omega arith

pub few : (runs : List Run) → AreApart runs → addresses_in runs ≤ 2 ^ 32
few [] h = omega arith
few (i ∷ is) h = let k : i.lo + addresses_in (i ∷ is) ≤ 2 ^ 32 = few-above i is h in omega arith

-- the count so far and the next run's addresses are few
pub few-more : (runs : List Run) (i : ℕ) (d : Run) (count : ℕ) → AreApart runs → i < length runs → count + addresses_in (drop i runs) ≡ addresses_in runs → count + run_length (get_or runs i d) ≤ 2 ^ 32
few-more runs i d count h l e =
    let k : addresses_in runs ≤ 2 ^ 32 = few runs h in
    let m : addresses_in (drop i runs) ≡ addresses_in (get_or runs i d ∷ drop (i + 1) runs) = ap (λ (rs : List Run). addresses_in rs) (drop_more runs i d l) in
    let n : addresses_in (get_or runs i d ∷ drop (i + 1) runs) ≡ run_length (get_or runs i d) + addresses_in (drop (i + 1) runs) = sum_by-cons (λ (n : ℕ). n) (run_length (get_or runs i d)) (map run_length (drop (i + 1) runs)) in
    omega arith

-- ---- the place of a cycle

abbrev pub least : Cycle → ℕ
least c = c.least

abbrev pub first : Cycle → ℕ
first c = first_router c.routers

pub ordered-cycles : (cs : List Cycle) → AreInOrder cs → Ordered least first cs
ordered-cycles [] h = tt
ordered-cycles (x ∷ []) h = tt
ordered-cycles (x ∷ y ∷ rest) h = (h.0, ordered-cycles (y ∷ rest) h.1)

cycles-ordered : (cs : List Cycle) → Ordered least first cs → AreInOrder cs
cycles-ordered [] h = tt
cycles-ordered (x ∷ []) h = tt
cycles-ordered (x ∷ y ∷ rest) h = (h.0, cycles-ordered (y ∷ rest) h.1)

pub put-among : (c : Cycle) (old : List Cycle) (i : ℕ) → AreInOrder old → ((x : Cycle) → Contains old x → x.least ≡ c.least → first_router x.routers ≡ first_router c.routers → ⊥) → i ≤ length old
    → ((k : ℕ) (d : Cycle) → k < i → IsTrue (is_before (get_or old k d) c))
    → ((d : Cycle) → i < length old → is_before (get_or old i d) c ≡ false)
    → IsPutAmong c old (insert old i c)
put-among c old i order other le before after = record {
  order = cycles-ordered (insert old i c) (ordered-insert least first old i c c (ordered-cycles old order) le
      (λ n l. before-yes least first (get_or old n c) c (before n c l))
      (λ l. before-not least first (get_or old i c) c (after c l) (other (get_or old i c) (Contains-get_or old i c l))));
  only = insert-only old i c;
  here = insert-here old i c;
  kept = insert-kept old i c;
}

-- ---- one cycle

pub begin-goes : (runs : List Run) (test : ℕ → Bool) (a : ℕ) → AreRuns runs test → BeginAt runs a → (a < 2 ^ 32) × (test a ≡ true)
begin-goes [] test a h b = absurd b
begin-goes (i ∷ is) test a h b =
    let low : i.lo ≤ i.hi = apart-head i is h.apart in
    let bound : i.hi < 2 ^ 32 = apart-bound i is h.apart in
    let e : i.lo ≡ a = b in
    let l : a < 2 ^ 32 = omega arith in
    (l, sym (h.exact a l) ∙ first-holds a i is (omega arith) (omega arith))

-- the least address of a cycle goes round it
pub least-goes : (does : RouterId → ℕ → Target) (c : Cycle) → IsCycle does c → (c.least < 2 ^ 32) × (goes_round does c.routers c.least ≡ true)
least-goes does c h = begin-goes h.runs (goes_round does c.routers) c.least h.are h.least

-- cycles with one least address and one first router are the same routers
pub same-cycle : (does : RouterId → ℕ → Target) (x c : Cycle) → IsCycle does x → IsCycle does c → x.least ≡ c.least → first_router x.routers ≡ first_router c.routers → x.routers ≡ c.routers
same-cycle does x c h k e f =
    let P : ℕ → Type 0 = λ a. goes_round does x.routers a ≡ true in
    one-cycle (at_address does c.least) x.routers c.routers (subst P e (least-goes does x h).1) (least-goes does c k).1 f

pub other-cycle : (does : RouterId → ℕ → Target) (c : Cycle) (routers : List RouterId) (old : List Cycle) → AreSomeCycles does old → IsCycleOf does routers (Some c) → ((x : Cycle) → Contains old x → x.routers ≡ routers → ⊥) → (x : Cycle) → Contains old x → x.least ≡ c.least → first_router x.routers ≡ first_router c.routers → ⊥
other-cycle does c routers old h k none x i e f = none x i (same-cycle does x c (h.each x i) k.0 e f ∙ k.1)

pub tell-new : (does : RouterId → ℕ → Target) (c : Cycle) (routers : List RouterId) (old new : List Cycle) → AreSomeCycles does old → IsCycleOf does routers (Some c) → IsPutAmong c old new → TellsCycle does routers old new
tell-new does c routers old new h k put =
    let P : Cycle → Type 0 = λ x. IsCycle does x in
    record {
      form = record {
        order = put.order;
        each = λ x i. ⊎_elim (λ (same : c ≡ x). subst P same k.0) (λ (o : Contains old x). h.each x o) (put.only x i);
      };
      told = λ a l g. record { cycle = c; among = put.here; is = k.1 };
      kept = put.kept;
    }

-- the cycles of an address of which one router is the first
pub tell-of_first : (does : RouterId → ℕ → Target) (router : RouterId) (a : ℕ) (routers : List RouterId) (old new : List Cycle) → a < 2 ^ 32 → IsCycleFrom (at_address does a) router (Some routers) → TellsCycle does routers old new → TellsCycles does router.0 (router.0 + 1) a old new
tell-of_first does router a routers old new l found h = record {
  form = h.form;
  told = λ rs from to g.
      let e : first_router routers ≡ first_router rs = (let z : first_router routers ≡ router.0 = found.1 in omega arith) in
      let same : routers ≡ rs = one-cycle (at_address does a) routers rs found.0 g e in
      let P : List RouterId → Type 0 = λ v. HasCycle new v in
      subst P same (h.told a l found.0);
  kept = h.kept;
}

pub tell-more : (does : RouterId → ℕ → Target) (low past a : ℕ) (old now new : List Cycle) → TellsCycles does (low + 1) past a old now → TellsCycles does low (low + 1) a now new → TellsCycles does low past a old new
tell-more does low past a old now new h k = record {
  form = k.form;
  told = λ rs from to g. ⊎_elim
      (λ (later : low < first_router rs).
      let has : HasCycle now rs = h.told rs (omega arith) to g in
      record { cycle = has.cycle; among = k.kept has.cycle has.among; is = has.is })
      (λ (here : first_router rs ≤ low). k.told rs from (omega arith) g)
      (cases_lt low (first_router rs));
  kept = λ x i. k.kept x (h.kept x i);
}

-- ---- the whole
