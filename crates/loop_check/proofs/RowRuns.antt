-- What rows so far show of cycles, with one row more.
use Rattle.std.proofs.Common.{◌≡◌, ℕ, suc, ◌+◌, ◌<◌, ◌≤◌, ◌⊎◌, ◌∙◌, Bool, true, false, Option, None, Some, List, [], ◌∷◌, ◌++◌, length, get_or, refl, ap, sym, subst, inl, inr, ⊎_elim, arith}
use Rattle.std.specs.BTreeMap.{insert_entry}
use Rattle.std.specs.Global.{Vec}
use Rattle.std.specs.List.{Contains, list_any}
use Rattle.std.specs.Map.{set_value}
use Rattle.std.specs.Option.{unwrap_or}
use Rattle.std.proofs.lemmas.Bool.{cases_Bool, cases_lt}
use Rattle.std.proofs.lemmas.List.Elements.{Contains-append_left, Contains-push, Contains-push_cases}
use Rattle.base.specs.Cycles.{is_cycle, first_router, goes_round}
use Rattle.base.specs.Forwarding.{AreForwarding, does, row_low, row_past, target_of}
use Rattle.base.specs.Rows.{CoverFrom}
use Rattle.base.specs.Runs.{holds}
use Rattle.base.specs.Walk.{at_address}
use Rattle.base.specs.declared.forwarding_row.ForwardingRow.{ForwardingRow}
use Rattle.base.specs.declared.ids.RouterId.{RouterId}
use Rattle.base.specs.declared.target.Target.{Target}
use Rattle.base.proofs.Elements.{contains-cases, contains-none}
use Rattle.label_view.specs.Gathered.{Gathered}
use Rattle.label_view.specs.Places.{AreGatheredTo, IsInRow, begin_of}
use Rattle.label_view.proofs.InRow.{does-in-row, gathered-skip, some_row}
use Rattle.loop_check.specs.CycleRuns.{AreKnownTo, AreRunsTo, HasKnown, HaveAllBefore, IsAdded, value_under}
use Rattle.loop_check.specs.RowCycles.{AreCyclesAt, AreCyclesOf, AreInFirstOrder}
use Rattle.loop_check.proofs.Reading.{cycle-same}
use Rattle.loop_check.proofs.UnderRouters.{at, cases-routers, insert-under, insert-under_other, order_keys, set-under, set-under_other, under-none}

abbrev pub round : List ForwardingRow → List RouterId → ℕ → Bool
round rows routers = goes_round (does rows) routers

-- the addresses of a row go round the cycles of the row
pub row-round : (n : ℕ) (rows : List ForwardingRow) (i a : ℕ) (rs : List RouterId) → AreForwarding n rows → i < length rows → IsInRow rows i a → round rows rs a ≡ is_cycle (target_of (get_or rows i some_row)) rs
row-round n rows i a rs form l inside = cycle-same (at_address (does rows) a) (target_of (get_or rows i some_row)) (λ r. does-in-row n rows i a r form l inside) rs

pub row-goes : (n : ℕ) (rows : List ForwardingRow) (i : ℕ) (rs : List RouterId) → AreForwarding n rows → i < length rows → ((d : ForwardingRow) → is_cycle (target_of (get_or rows i d)) rs ≡ true) → (a : ℕ) → IsInRow rows i a → true ≡ round rows rs a
row-goes n rows i rs form l goes a inside = sym (row-round n rows i a rs form l inside ∙ goes some_row)

-- ---- nothing is known yet

pub known-none : (rows : List ForwardingRow) (i : ℕ) (known : List (Vec RouterId × Gathered)) → known ≡ [] → AreKnownTo rows i known
known-none rows i known e =
    let P : List (Vec RouterId × Gathered) → Type 0 = λ ks. AreKnownTo rows i ks in
    subst P (sym e) (record { each = λ rs runs h. absurd (under-none rs runs h) })

begin-first : (rows : List ForwardingRow) → CoverFrom row_low row_past 0 rows → begin_of rows 0 ≡ 0
begin-first [] h = sym h
begin-first (row ∷ rows) h = h.0

pub before-first : (n : ℕ) (rows : List ForwardingRow) (known : List (Vec RouterId × Gathered)) → AreForwarding n rows → HaveAllBefore rows 0 known
before-first n rows known form =
    let first : begin_of rows 0 ≡ 0 = begin-first rows form.cover in
    record { all = λ rs a b g. absurd (omega arith) }

-- ---- one cycle

fresh-gathered : (rows : List ForwardingRow) (i : ℕ) (g : Gathered) (test : ℕ → Bool) → g.runs ≡ [] → g.past ≡ 0 → ((a : ℕ) → a < begin_of rows i → test a ≡ false) → AreGatheredTo g rows i test
fresh-gathered rows i g test none past before = record {
  before = omega arith;
  exact = λ a l. ap (list_any (holds a)) none ∙ sym (before a l);
  none = λ a l. ap (list_any (holds a)) none;
}

-- the first runs of a cycle
pub runs-fresh : (rows : List ForwardingRow) (i : ℕ) (rs : List RouterId) (g : Gathered) → AreRunsTo rows i rs None → g.runs ≡ [] → g.past ≡ 0 → AreGatheredTo g rows i (round rows rs)
runs-fresh rows i rs g h none past = fresh-gathered rows i g (round rows rs) none past h

pub runs-none : (rows : List ForwardingRow) (i : ℕ) (rs : List RouterId) (o : Option Gathered) → o ≡ None → AreRunsTo rows i rs o → AreRunsTo rows i rs None
runs-none rows i rs o is h = let P : Option Gathered → Type 0 = λ v. AreRunsTo rows i rs v in subst P is h

-- its runs, where it has some
pub runs-there : (rows : List ForwardingRow) (i : ℕ) (rs : List RouterId) (o : Option Gathered) (g : Gathered) → o ≡ Some g → AreRunsTo rows i rs o → AreGatheredTo g rows i (round rows rs)
runs-there rows i rs o g is h = let P : Option Gathered → Type 0 = λ v. AreRunsTo rows i rs v in subst P is h

is-added : (rows : List ForwardingRow) (i : ℕ) (rs : List RouterId) (old new : List (Vec RouterId × Gathered)) (now : Gathered) → AreGatheredTo now rows (i + 1) (round rows rs) → value_under new rs ≡ Some now → ((others : List RouterId) → (rs ≡ others → ⊥) → value_under new others ≡ value_under old others) → IsAdded rows i rs old new
is-added rows i rs old new now h here other = record {
  there = record { value = now; is = here };
  exact = λ g f.
      let P : Gathered → Type 0 = λ v. AreGatheredTo v rows (i + 1) (round rows rs) in
      subst P (ap (λ (o : Option Gathered). unwrap_or o now) (sym here ∙ f)) h;
  other = other;
}

pub added-there : (rows : List ForwardingRow) (i : ℕ) (rs : List RouterId) (old new : List (Vec RouterId × Gathered)) (was now : Gathered) → value_under old rs ≡ Some was → new ≡ set_value (at rs) old now → AreGatheredTo now rows (i + 1) (round rows rs) → IsAdded rows i rs old new
added-there rows i rs old new was now h e g = is-added rows i rs old new now g (set-under old new rs was now h e) (λ others n. set-under_other old new rs others now e n)

pub added-new : (rows : List ForwardingRow) (i : ℕ) (rs : List RouterId) (old new : List (Vec RouterId × Gathered)) (key : Vec RouterId) (now : Gathered) → value_under old rs ≡ None → key.items ≡ rs → new ≡ insert_entry order_keys old key now → AreGatheredTo now rows (i + 1) (round rows rs) → IsAdded rows i rs old new
added-new rows i rs old new key now h is e g = is-added rows i rs old new now g (insert-under old new rs key now h is e) (λ others n. insert-under_other old new rs others key now is e n)

-- ---- cycles by first router

below-last : (z : List RouterId) (zs : List (List RouterId)) (x : List RouterId) → AreInFirstOrder (z ∷ (zs ++ x ∷ [])) → first_router z < first_router x
below-last z [] x h = h.0
below-last z (y ∷ ys) x h =
    let a : first_router z < first_router y = h.0 in
    let b : first_router y < first_router x = below-last y ys x h.1 in
    omega arith

order-tail : (z : List RouterId) (zs : List (List RouterId)) → AreInFirstOrder (z ∷ zs) → AreInFirstOrder zs
order-tail z [] h = tt
order-tail z (y ∷ ys) h = h.1

before-last : (xs : List (List RouterId)) (x y : List RouterId) → AreInFirstOrder (xs ++ x ∷ []) → Contains xs y → first_router y < first_router x
before-last [] x y h i = absurd (contains-none y i)
before-last (z ∷ zs) x y h i = ⊎_elim
    (λ (e : z ≡ y). let P : List RouterId → Type 0 = λ v. first_router v < first_router x in subst P e (below-last z zs x h))
    (λ (j : Contains zs y). before-last zs x y (order-tail z (zs ++ x ∷ []) h) j)
    (contains-cases z y zs i)

order-front : (xs : List (List RouterId)) (x : List RouterId) → AreInFirstOrder (xs ++ x ∷ []) → AreInFirstOrder xs
order-front [] x h = tt
order-front (y ∷ []) x h = tt
order-front (y ∷ z ∷ zs) x h = (h.0, order-front (z ∷ zs) x h.1)

-- ---- the cycles of the row that are left

-- the runs of those that are left are of the addresses before the row, and the runs of the others of those before the
-- next one
pub record AreLeft (rows : List ForwardingRow) (i : ℕ) (left : List (List RouterId)) (known : List (Vec RouterId × Gathered)) : Type 0 where
  pub order : AreInFirstOrder left
  pub ready : (rs : List RouterId) (runs : Gathered) → Contains left rs → value_under known rs ≡ Some runs → AreGatheredTo runs rows i (round rows rs)
  pub done : (rs : List RouterId) (runs : Gathered) → (Contains left rs → ⊥) → value_under known rs ≡ Some runs → AreGatheredTo runs rows (i + 1) (round rows rs)
  pub before : HaveAllBefore rows i known
  pub goes : (rs : List RouterId) (d : ForwardingRow) → Contains left rs → is_cycle (target_of (get_or rows i d)) rs ≡ true
  pub told : (rs : List RouterId) → is_cycle (target_of (get_or rows i some_row)) rs ≡ true → Contains left rs ⊎ HasKnown known rs

not-cycle : (f : RouterId → Target) (cycles : List (List RouterId)) (rs : List RouterId) → AreCyclesOf f cycles → (Contains cycles rs → ⊥) → is_cycle f rs ≡ false
not-cycle f cycles rs h n = ⊎_elim
    (λ (e : is_cycle f rs ≡ true). absurd (n (h.all rs e)))
    (λ (e : is_cycle f rs ≡ false). e)
    (cases_Bool (is_cycle f rs))

left-start : (n : ℕ) (rows : List ForwardingRow) (i : ℕ) (cycles : List (List RouterId)) (known : List (Vec RouterId × Gathered)) → AreForwarding n rows → i < length rows → AreKnownTo rows i known → HaveAllBefore rows i known → AreCyclesAt rows i cycles → AreLeft rows i cycles known
left-start n rows i cycles known form l h before row = record {
  order = (row some_row).order;
  ready = λ rs runs m u. h.each rs runs u;
  done = λ rs runs m u. gathered-skip n rows i runs false (round rows rs) form l refl (h.each rs runs u)
      (λ a inside. sym (row-round n rows i a rs form l inside ∙ not-cycle (target_of (get_or rows i some_row)) cycles rs (row some_row) m));
  before = before;
  goes = λ rs d m. (row d).each rs m;
  told = λ rs c. inl ((row some_row).all rs c);
}

pub left-begin : (n : ℕ) (rows : List ForwardingRow) (i : ℕ) (cycles left : List (List RouterId)) (known : List (Vec RouterId × Gathered)) → AreForwarding n rows → i < length rows → AreKnownTo rows i known → HaveAllBefore rows i known → AreCyclesAt rows i cycles → left ≡ cycles → AreLeft rows i left known
left-begin n rows i cycles left known form l h before row e =
    let P : List (List RouterId) → Type 0 = λ cs. AreLeft rows i cs known in
    subst P (sym e) (left-start n rows i cycles known form l h before row)

in-last : (old new : List (List RouterId)) (x : List RouterId) → old ≡ new ++ x ∷ [] → Contains old x
in-last old new x e = let P : List (List RouterId) → Type 0 = λ cs. Contains cs x in subst P (sym e) (Contains-push new x)

in-front : (old new : List (List RouterId)) (x rs : List RouterId) → old ≡ new ++ x ∷ [] → Contains new rs → Contains old rs
in-front old new x rs e m = let P : List (List RouterId) → Type 0 = λ cs. Contains cs rs in subst P (sym e) (Contains-append_left new (x ∷ []) rs m)

in-parts : (old new : List (List RouterId)) (x rs : List RouterId) → old ≡ new ++ x ∷ [] → Contains old rs → Contains new rs ⊎ (x ≡ rs)
in-parts old new x rs e m = let P : List (List RouterId) → Type 0 = λ cs. Contains cs rs in Contains-push_cases new x rs (subst P e m)

pub left-goes : (rows : List ForwardingRow) (i : ℕ) (old new : List (List RouterId)) (x : List RouterId) (known : List (Vec RouterId × Gathered)) → AreLeft rows i old known → old ≡ new ++ x ∷ [] → (d : ForwardingRow) → is_cycle (target_of (get_or rows i d)) x ≡ true
left-goes rows i old new x known h e d = h.goes x d (in-last old new x e)

pub left-runs : (rows : List ForwardingRow) (i : ℕ) (old new : List (List RouterId)) (x : List RouterId) (known : List (Vec RouterId × Gathered)) → AreLeft rows i old known → old ≡ new ++ x ∷ [] → AreRunsTo rows i x (value_under known x)
left-runs rows i old new x known h e = at-option (value_under known x) refl
  where
    none-some : (g : Gathered) → None ≡ Some g → ⊥
    none-some g f = cc

    at-option : (o : Option Gathered) → value_under known x ≡ o → AreRunsTo rows i x o
    at-option None f = λ a l. ⊎_elim
        (λ (g : round rows x a ≡ true). let k : HasKnown known x = h.before.all x a l g in absurd (none-some k.value (sym f ∙ k.is)))
        (λ (g : round rows x a ≡ false). g)
        (cases_Bool (round rows x a))
    at-option (Some g) f = h.ready x g (in-last old new x e) f

pub left-next : (rows : List ForwardingRow) (i : ℕ) (old new : List (List RouterId)) (x : List RouterId) (known more : List (Vec RouterId × Gathered)) → AreLeft rows i old known → old ≡ new ++ x ∷ [] → IsAdded rows i x known more → AreLeft rows i new more
left-next rows i old new x known more h e added =
    let F : List (List RouterId) → Type 0 = λ cs. AreInFirstOrder cs in
    let order : AreInFirstOrder (new ++ x ∷ []) = subst F e h.order in
    let other : (rs : List RouterId) → Contains new rs → x ≡ rs → ⊥ = λ rs m same.
    let P : List RouterId → Type 0 = λ v. first_router v < first_router x in
    let l : first_router x < first_router x = subst P (sym same) (before-last new x rs order m) in
    let z : ⊥ = omega arith in
    z in
    let keep : (rs : List RouterId) → HasKnown known rs → HasKnown more rs = λ rs k. ⊎_elim
    (λ (same : x ≡ rs). let P : List RouterId → Type 0 = λ v. HasKnown more v in subst P same added.there)
    (λ (n : x ≡ rs → ⊥). record { value = k.value; is = added.other rs n ∙ k.is })
    (cases-routers x rs) in
    record {
      order = order-front new x order;
      ready = λ rs runs m u. h.ready rs runs (in-front old new x rs e m) (sym (added.other rs (other rs m)) ∙ u);
      done = λ rs runs m u. ⊎_elim
          (λ (same : x ≡ rs).
          let P : List RouterId → Type 0 = λ v. AreGatheredTo runs rows (i + 1) (round rows v) in
          let Q : List RouterId → Type 0 = λ v. value_under more v ≡ Some runs in
          subst P same (added.exact runs (subst Q (sym same) u)))
          (λ (n : x ≡ rs → ⊥). h.done rs runs (λ k. ⊎_elim m n (in-parts old new x rs e k)) (sym (added.other rs n) ∙ u))
          (cases-routers x rs);
      before = record { all = λ rs a l g. keep rs (h.before.all rs a l g) };
      goes = λ rs d m. h.goes rs d (in-front old new x rs e m);
      told = λ rs c. ⊎_elim
          (λ (k : Contains old rs). ⊎_elim
          (λ (m : Contains new rs). inl m)
          (λ (same : x ≡ rs). let P : List RouterId → Type 0 = λ v. HasKnown more v in inr (subst P same added.there))
          (in-parts old new x rs e k))
          (λ (k : HasKnown known rs). inr (keep rs k))
          (h.told rs c);
    }

none-left : (left : List (List RouterId)) (rs : List RouterId) → length left ≡ 0 → Contains left rs → ⊥
none-left left rs e m = let b : m.0 < length left = m.1 in let z : ⊥ = omega arith in z

pub left-known : (rows : List ForwardingRow) (i : ℕ) (left : List (List RouterId)) (known : List (Vec RouterId × Gathered)) → AreLeft rows i left known → length left ≡ 0 → AreKnownTo rows (i + 1) known
left-known rows i left known h e = record { each = λ rs runs u. h.done rs runs (none-left left rs e) u }

pub left-before : (n : ℕ) (rows : List ForwardingRow) (i : ℕ) (left : List (List RouterId)) (known : List (Vec RouterId × Gathered)) → AreForwarding n rows → i < length rows → AreLeft rows i left known → length left ≡ 0 → HaveAllBefore rows (i + 1) known
left-before n rows i left known form l h none = record {
  all = λ rs a b g. ⊎_elim
      (λ (k : a < begin_of rows i). h.before.all rs a k g)
      (λ (k : begin_of rows i ≤ a).
      let e : i + 1 ≡ suc i = omega arith in
      let P : ℕ → Type 0 = λ j. a < begin_of rows j in
      let c : is_cycle (target_of (get_or rows i some_row)) rs ≡ true = sym (row-round n rows i a rs form l (record { from = k; to = subst P e b })) ∙ g in
      ⊎_elim
      (λ (m : Contains left rs). absurd (none-left left rs none m))
      (λ (k : HasKnown known rs). k)
      (h.told rs c))
      (cases_lt a (begin_of rows i));
}
