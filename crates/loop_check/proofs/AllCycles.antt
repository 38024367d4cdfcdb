-- What is known of all rows, as it is answered.
use Rattle.std.proofs.Common.{◌≡◌, ℕ, zero, suc, ◌<◌, ◌≤◌, ◌^◌, ◌⊎◌, ◌∙◌, true, Option, None, List, [], ◌∷◌, length, get_or, refl, ap, sym, subst, inl, inr, ⊎_elim, arith}
use Rattle.std.specs.Global.{Vec}
use Rattle.std.specs.List.{Contains}
use Rattle.std.specs.List.Sorted.{IsPermutation, IsStrictlySortedBy}
use Rattle.std.specs.Map.{keys_of}
use Rattle.std.specs.Option.{IsSome}
use Rattle.std.proofs.lemmas.Bool.{cases_lt, false≢true}
use Rattle.base.specs.Cycles.{AreCycles, AreInOrder, HasCycle, IsCycle, goes_round}
use Rattle.base.specs.CyclesFrom.{IsCycleOf}
use Rattle.base.specs.Forwarding.{does}
use Rattle.base.specs.Runs.{AreApart, addresses_in}
use Rattle.base.specs.declared.cycle.Cycle.{Cycle}
use Rattle.base.specs.declared.forwarding_row.ForwardingRow.{ForwardingRow}
use Rattle.base.specs.declared.ids.RouterId.{RouterId}
use Rattle.base.specs.declared.run.Run.{Run}
use Rattle.base.proofs.Elements.{contains-cases, contains-here, contains-none, contains-there}
use Rattle.label_view.specs.Gathered.{Gathered}
use Rattle.label_view.specs.Places.{AreGatheredTo, begin_of}
use Rattle.label_view.proofs.InRow.{gathered-all}
use Rattle.loop_check.specs.CycleOrder.{AddsCycle, AreUnsorted}
use Rattle.loop_check.specs.CycleRuns.{AreKnownTo, HasKnown, HaveAllBefore}
use Rattle.loop_check.proofs.UnderRouters.{AreOnce, HasEntry, entry-of, once-first, once-from_sorted, once-rest, order_keys, under-entry}
use Rattle.loop_check.proofs.Sorting.{sorted-all, unsorted-none}

-- ---- one cycle

pub cycle-none : (rows : List ForwardingRow) (i : ℕ) (g : Gathered) (runs : List Run) (rs : List RouterId) → length rows ≤ i → AreGatheredTo g rows i (goes_round (does rows) rs) → runs ≡ g.runs → AreApart runs → length runs < 1 → IsCycleOf (does rows) rs None
cycle-none rows i g [] rs l h is apart none = λ a b. sym ((gathered-all rows i g [] (goes_round (does rows) rs) l h is apart).exact a b)
cycle-none rows i g (r ∷ rest) rs l h is apart none = absurd (omega arith)

pub cycle-some : (rows : List ForwardingRow) (i : ℕ) (g : Gathered) (runs : List Run) (c : Cycle) (d : Run) → length rows ≤ i → AreGatheredTo g rows i (goes_round (does rows) c.routers) → runs ≡ g.runs → AreApart runs → 1 ≤ length runs → c.least ≡ (get_or runs 0 d).lo → c.addresses ≡ addresses_in runs → IsCycle (does rows) c
cycle-some rows i g [] c d l h is apart some least addresses = absurd (omega arith)
cycle-some rows i g (r ∷ rest) c d l h is apart some least addresses = record {
  runs = r ∷ rest;
  are = gathered-all rows i g (r ∷ rest) (goes_round (does rows) c.routers) l h is apart;
  least = sym least;
  addresses = addresses;
}

-- ---- all

begin-end : (rows : List ForwardingRow) (i : ℕ) → length rows ≤ i → begin_of rows i ≡ 2 ^ 32
begin-end [] i l = refl
begin-end (row ∷ rows) zero l = absurd (omega arith)
begin-end (row ∷ rows) (suc i) l = begin-end rows i (omega arith)

pub none-more : {X : Type 0} (n : ℕ) (r : Option X) → r ≡ None → (0 < n → IsSome r) → n ≡ 0
none-more {X} n r e h = ⊎_elim
    (λ (l : 0 < n). let P : Option X → Type 0 = λ o. IsSome o in absurd (false≢true (subst P e (h l))))
    (λ (l : n ≤ 0). omega arith)
    (cases_lt 0 n)

-- what is left, and the cycles so far
pub record AreAnswered (rows : List ForwardingRow) (i : ℕ) (rest : List (Vec RouterId × Gathered)) (cycles : List Cycle) : Type 0 where
  pub once : AreOnce rest
  pub left : (e : Vec RouterId × Gathered) → Contains rest e → AreGatheredTo e.1 rows i (goes_round (does rows) e.0.items)
  pub form : AreUnsorted (does rows) cycles
  pub apart : (x : Cycle) (e : Vec RouterId × Gathered) → Contains cycles x → Contains rest e → x.routers ≡ e.0.items → ⊥
  pub told : (rs : List RouterId) (a : ℕ) → a < 2 ^ 32 → goes_round (does rows) rs a ≡ true → HasEntry rest rs ⊎ HasCycle cycles rs

pub answer-start : (rows : List ForwardingRow) (i : ℕ) (known : List (Vec RouterId × Gathered)) (cycles : List Cycle) → length rows ≤ i → IsStrictlySortedBy order_keys (keys_of known) → AreKnownTo rows i known → HaveAllBefore rows i known → cycles ≡ [] → AreAnswered rows i known cycles
answer-start rows i known cycles l sorted h before e =
    let once : AreOnce known = once-from_sorted known sorted in
    let end : begin_of rows i ≡ 2 ^ 32 = begin-end rows i l in
    let P : Cycle → List Cycle → Type 0 = λ x cs. Contains cs x in
    record {
      once = once;
      left = λ x m. h.each x.0.items x.1 (under-entry known x once m);
      form = unsorted-none (does rows) cycles e;
      apart = λ x k m n. absurd (contains-none x (subst (P x) e m));
      told = λ rs a b g. let k : HasKnown known rs = before.all rs a (omega arith) g in inl (entry-of known rs k.value k.is);
    }

-- none of the cycles so far is the next one
pub answer-other : (rows : List ForwardingRow) (i : ℕ) (old new : List (Vec RouterId × Gathered)) (one : Vec RouterId × Gathered) (cycles : List Cycle) → AreAnswered rows i old cycles → old ≡ one ∷ new → (x : Cycle) → Contains cycles x → x.routers ≡ one.0.items → ⊥
answer-other rows i old new one cycles h e x m same =
    let P : List (Vec RouterId × Gathered) → Type 0 = λ es. Contains es one in
    h.apart x one m (subst P (sym e) (contains-here one new)) same

pub answer-runs : (rows : List ForwardingRow) (i : ℕ) (old new : List (Vec RouterId × Gathered)) (one : Vec RouterId × Gathered) (cycles : List Cycle) → AreAnswered rows i old cycles → old ≡ one ∷ new → AreGatheredTo one.1 rows i (goes_round (does rows) one.0.items)
answer-runs rows i old new one cycles h e =
    let P : List (Vec RouterId × Gathered) → Type 0 = λ es. Contains es one in
    h.left one (subst P (sym e) (contains-here one new))

pub answer-next : (rows : List ForwardingRow) (i : ℕ) (old new : List (Vec RouterId × Gathered)) (one : Vec RouterId × Gathered) (cycles more : List Cycle) → AreAnswered rows i old cycles → old ≡ one ∷ new → AddsCycle (does rows) one.0.items cycles more → AreAnswered rows i new more
answer-next rows i old new one cycles more h e add =
    let O : List (Vec RouterId × Gathered) → Type 0 = λ es. AreOnce es in
    let P : Vec RouterId × Gathered → List (Vec RouterId × Gathered) → Type 0 = λ k es. Contains es k in
    let once : AreOnce (one ∷ new) = subst O e h.once in
    let rest : (k : Vec RouterId × Gathered) → Contains new k → Contains old k = λ k m. subst (P k) (sym e) (contains-there one k new m) in
    record {
      once = once-rest one new once;
      left = λ k m. h.left k (rest k m);
      form = add.form;
      apart = λ x k m n same. ⊎_elim
          (λ (o : Contains cycles x). h.apart x k o (rest k n) same)
          (λ (f : x.routers ≡ one.0.items). once-first one k new once n (sym f ∙ same))
          (add.only x m);
      told = λ rs a b g. ⊎_elim
          (λ (k : HasEntry old rs). ⊎_elim
          (λ (same : one ≡ k.one).
          let is : one.0.items ≡ rs = ap (λ (v : Vec RouterId × Gathered). v.0.items) same ∙ k.is in
          let Q : List RouterId → Type 0 = λ v. HasCycle more v in
          let R : List RouterId → Type 0 = λ v. goes_round (does rows) v a ≡ true in
          inr (subst Q is (add.told a b (subst R (sym is) g))))
          (λ (o : Contains new k.one). inl (record { one = k.one; among = o; is = k.is }))
          (contains-cases one k.one new (subst (P k.one) e k.among)))
          (λ (k : HasCycle cycles rs). inr (record { cycle = k.cycle; among = add.kept k.cycle k.among; is = k.is }))
          (h.told rs a b g);
    }

pub answer-all : (rows : List ForwardingRow) (i : ℕ) (left : List (Vec RouterId × Gathered)) (cycles sorted : List Cycle) → AreAnswered rows i left cycles → length left ≡ 0 → IsPermutation cycles sorted → AreInOrder sorted → AreCycles (does rows) sorted
answer-all rows i left cycles sorted h none moved order = sorted-all (does rows) cycles sorted h.form moved order (λ rs a b g. ⊎_elim
    (λ (k : HasEntry left rs). let m : Contains left k.one = k.among in let c : m.0 < length left = m.1 in absurd (omega arith))
    (λ (k : HasCycle cycles rs). k)
    (h.told rs a b g))
