-- What is told where other links are down than before: from row to row, and from router to router.
use Rattle.std.proofs.Common.{◌≡◌, ℕ, zero, suc, ◌+◌, ◌-◌, ◌<◌, ◌≤◌, ◌^◌, ◌∙◌, ◌==◌, ⊎_elim, Bool, true, false, cond, Option, None, List, [], ◌∷◌, length, get_or, refl, ap, sym, subst, arith}
use Rattle.std.proofs.lemmas.Bool.{and_left, and_right, both_ways, cases_Bool, cases_eq, cases_lt, eq-eqb, ne_eqb}
use Rattle.std.proofs.lemmas.List.{get_or_past}
use Rattle.base.specs.Delta.{TellsChange, change_at}
use Rattle.base.specs.Forwarding.{AreEachForwarding, AreForwarding, does, row_low, row_past, target_in_row}
use Rattle.base.specs.Links.{without}
use Rattle.base.specs.Reach.{is_over}
use Rattle.base.specs.Rows.{CoverFrom, is_within}
use Rattle.base.specs.Walk.{with_down}
use Rattle.base.specs.declared.change.Change.{Change}
use Rattle.base.specs.declared.forwarding_row.ForwardingRow.{ForwardingRow}
use Rattle.base.specs.declared.ids.LinkId.{LinkId}
use Rattle.base.specs.declared.ids.RouterId.{RouterId}
use Rattle.base.specs.declared.run.Run.{Run}
use Rattle.base.specs.declared.target.Target.{Target}
use Rattle.base.specs.declared.target.Target.TheVariants.{NoRoute, Dropped, Local, Exit, OnLink, To, LinkDown}
use Rattle.base.proofs.Covers.{holder-first, holder-rest, within-above, within-below}
use Rattle.label_view.specs.Columns.{AreOfColumn}
use Rattle.label_view.specs.Places.{AreRunsFrom, IsInRow, IsInRows, begin_of}
use Rattle.label_view.proofs.InRow.{begin-before, row-among, target-is}
use Rattle.net_engine.specs.LinkSet.{AreAlikeBut}
use Rattle.net_engine.specs.LinkTurn.{AreMarked, IsStretch, IsToldTo, IsTurnDelta, IsTurnTold}
use Rattle.net_engine.specs.Walked.{IsTold}

same-router : (q r : RouterId) → q.0 ≡ r.0 → q ≡ r
same-router q r e = let R : ℕ → RouterId = λ n. record { 0 = n } in ap R e

-- where both are the same nothing is told
none-told : (x y : Target) (o : Option (Target × Target)) → o ≡ None → x ≡ y → TellsChange x y o
none-told x y o none same = subst (λ w. TellsChange x y w) (sym none) same

-- what goes on over no link that turns is shown the same
pub shown-alike : (before after : List LinkId) (l : LinkId) (t : Target) → AreAlikeBut before after l → is_over l t ≡ false → without before t ≡ without after t
shown-alike before after l NoRoute alike off = refl
shown-alike before after l (Dropped kind) alike off = refl
shown-alike before after l Local alike off = refl
shown-alike before after l (Exit i) alike off = refl
shown-alike before after l (OnLink i) alike off = refl
shown-alike before after l (To s k) alike off = ap (λ b. cond b (LinkDown k) (To s k)) (sym (alike k (flip l.0 k.0 off)))
  where
    flip : (x y : ℕ) → (y == x) ≡ false → (x == y) ≡ false
    flip x y n = ne_eqb x y (λ e. both_ways (y == x) n (eq-eqb y x (sym e)))
shown-alike before after l (LinkDown k) alike off = refl

-- ---- rows side by side

module _ (was is : RouterId → ℕ → Target) (old new : List Change) (r : RouterId) (x y : ℕ) (h : IsToldTo was is old r.0 x) (order : x ≤ y) where
  -- with which the router does the same as before
  pub told-same : ((a : ℕ) → x ≤ a → a < y → was r a ≡ is r a) → IsToldTo was is old r.0 y
  told-same same = record {
    form = h.form;
    earlier = h.earlier;
    here = λ q a e l. ⊎_elim
        (λ (b : a < x). h.here q a e b)
        (λ (b : x ≤ a).
        let mine : was q a ≡ is q a = subst (λ (s : RouterId). was s a ≡ is s a) (sym (same-router q r e)) (same a b l) in
        none-told (was q a) (is q a) (change_at old q a) (h.ahead q a e b) mine)
        (cases_lt a x);
    ahead = λ q a e l. h.ahead q a e (omega arith);
    later = h.later;
  }

  -- with which it does something else
  pub told-more : (before after : Target) → ((a : ℕ) → x ≤ a → a < y → (was r a ≡ before) × (is r a ≡ after)) → IsTold old new r x y before after → IsToldTo was is new r.0 y
  told-more before after does told =
      let away : (q : RouterId) (a : ℕ) → (q.0 ≡ r.0 → ⊥) → change_at new q a ≡ change_at old q a = λ q a n.
      told.other q a (and_left (q.0 == r.0) (is_within x y a) (ne_eqb q.0 r.0 n)) in
      let below : (q : RouterId) (a : ℕ) → a < x → change_at new q a ≡ change_at old q a = λ q a l.
      told.other q a (and_right (q.0 == r.0) (is_within x y a) (within-below x y a l)) in
      let above : (q : RouterId) (a : ℕ) → y ≤ a → change_at new q a ≡ change_at old q a = λ q a l.
      told.other q a (and_right (q.0 == r.0) (is_within x y a) (within-above x y a l)) in
      record {
        form = told.form;
        earlier = λ q a e l. subst (λ o. TellsChange (was q a) (is q a) o) (sym (away q a (λ f. omega arith))) (h.earlier q a e l);
        here = λ q a e l. ⊎_elim
            (λ (b : a < x). subst (λ o. TellsChange (was q a) (is q a) o) (sym (below q a b)) (h.here q a e b))
            (λ (b : x ≤ a).
            let at = does a b l in
            let mine : TellsChange (was r a) (is r a) (change_at new r a) = subst (λ t. TellsChange t (is r a) (change_at new r a)) (sym at.0) (subst (λ t. TellsChange before t (change_at new r a)) (sym at.1) (told.here a b l)) in
            subst (λ (s : RouterId). TellsChange (was s a) (is s a) (change_at new s a)) (sym (same-router q r e)) mine)
            (cases_lt a x);
        ahead = λ q a e l. above q a l ∙ h.ahead q a e (omega arith);
        later = λ q a l. away q a (λ f. omega arith) ∙ h.later q a l;
      }

-- an address of rows
in-rows : (rows : List ForwardingRow) (i j a : ℕ) → begin_of rows i ≤ a → a < begin_of rows j → IsInRows rows i j a
in-rows rows i j a from to = record { from = from; to = to }

-- of rows with which a router does one and the same it is told what is shown of that, if it differs
module _ (n : ℕ) (rows : List ForwardingRow) (before after : List LinkId) (old new : List Change) (r : RouterId) (i j : ℕ) (t : Target) (form : AreForwarding n rows) (some : i < j) (inside : j ≤ length rows)
    (same : (a : ℕ) → IsInRows rows i j a → does rows r a ≡ t) (h : IsTurnTold before after rows old r.0 (begin_of rows i)) where
  order : begin_of rows i ≤ begin_of rows j
  order = let l : begin_of rows i < begin_of rows j = begin-before n rows i j form some inside in omega arith

  pub rows-same : without before t ≡ without after t → IsTurnTold before after rows old r.0 (begin_of rows j)
  rows-same e = told-same (with_down before (does rows)) (with_down after (does rows)) old new r (begin_of rows i) (begin_of rows j) h order
      (λ a from to.
      let is : does rows r a ≡ t = same a (in-rows rows i j a from to) in
      ap (without before) is ∙ e ∙ sym (ap (without after) is))

  pub rows-more : (x y : Target) (lo past : ℕ) → x ≡ without before t → y ≡ without after t → lo ≡ begin_of rows i → past ≡ begin_of rows j → IsTold old new r lo past x y → IsTurnTold before after rows new r.0 (begin_of rows j)
  rows-more x y lo past ex ey low high told =
      let P : ℕ → ℕ → Type 0 = λ l p. IsTold old new r l p x y in
      let at : IsTold old new r (begin_of rows i) (begin_of rows j) x y = subst (P (begin_of rows i)) high (subst (λ l. P l past) low told) in
      told-more (with_down before (does rows)) (with_down after (does rows)) old new r (begin_of rows i) (begin_of rows j) h order x y
      (λ a from to.
      let is : does rows r a ≡ t = same a (in-rows rows i j a from to) in
      (ap (without before) is ∙ sym ex, ap (without after) is ∙ sym ey))
      at

  -- nothing is told of them yet
  pub rows-free : (lo : ℕ) (a : ℕ) → lo ≡ begin_of rows i → lo ≤ a → change_at old r a ≡ None
  rows-free lo a low l = h.ahead r a refl (omega arith)

-- ---- rows of a column

pub column-same : (n : ℕ) (rows : List ForwardingRow) (r : RouterId) (from : ℕ) (targets : List Target) (k past : ℕ) → AreForwarding n rows → from + length targets ≤ length rows → AreOfColumn rows r from targets → k < past → past ≤ length targets → ((j : ℕ) (d : Target) → k ≤ j → j < past → get_or targets j d ≡ get_or targets k d) →
    (t : Target) → ((d : Target) → t ≡ get_or targets k d) → (a : ℕ) → IsInRows rows (from + k) (from + past) a → does rows r a ≡ t
column-same n rows r from targets k past form inside column l end same t is a within =
    let e : from + past ≡ (from + k) + (past - k) = omega arith in
    let P : ℕ → Type 0 = λ m. a < begin_of rows m in
    let at = row-among rows (from + k) (past - k) a within.from (subst P e within.to) in
    let low : from + k ≤ at.0 = at.1.0 in
    let high : at.0 < (from + k) + (past - k) = at.1.1 in
    let place : at.0 ≡ from + (at.0 - from) = omega arith in
    let Q : ℕ → Type 0 = λ m. IsInRow rows m a in
    target-is n rows (from + (at.0 - from)) a r t form (omega arith)
    (λ d. is NoRoute ∙ sym (same (at.0 - from) NoRoute (omega arith) (omega arith)) ∙ column (at.0 - from) d NoRoute (omega arith))
    (subst Q place at.1.2)

-- so they are a stretch, with their runs
pub stretch-of : (n : ℕ) (rows : List ForwardingRow) (r : RouterId) (from : ℕ) (targets : List Target) (runs : List Run) (k past : ℕ) (first last : Run) (t : Target) → AreForwarding n rows → from + length targets ≤ length rows → AreOfColumn rows r from targets → AreRunsFrom rows from (length targets) runs → k < past → past ≤ length targets → ((j : ℕ) (d : Target) → k ≤ j → j < past → get_or targets j d ≡ get_or targets k d) →
    ((d : Target) → t ≡ get_or targets k d) → first ≡ get_or runs k first → last ≡ get_or runs (past - 1) last → IsStretch rows (record { router = r; rows = record { from = from + k; past = from + past }; run = record { lo = first.lo; hi = last.hi }; target = t })
stretch-of n rows r from targets runs k past first last t form inside column are l end same is begins ends =
    let begin = are k first (omega arith) in
    let after = are (past - 1) last (omega arith) in
    let place : from + (past - 1) + 1 ≡ from + past = omega arith in
    let P : ℕ → Type 0 = λ m. (get_or runs (past - 1) last).hi + 1 ≡ begin_of rows m in
    record {
      some = omega arith;
      inside = omega arith;
      lo = ap (λ (run : Run). run.lo) begins ∙ begin.0;
      hi = ap (λ (run : Run). run.hi + 1) ends ∙ subst P place after.1;
      same = λ a within. column-same n rows r from targets k past form inside column l end same t is a within;
    }

-- rows side by side that don't go on over the link that turns show what they did
pub rows-skipped : (n : ℕ) (rows : List ForwardingRow) (before after : List LinkId) (changes : List Change) (r : RouterId) (from : ℕ) (targets : List Target) (k past : ℕ) (l : LinkId) → AreForwarding n rows → from + length targets ≤ length rows → AreOfColumn rows r from targets → k ≤ past → past ≤ length targets → AreAlikeBut before after l → ((j : ℕ) (d : Target) → k ≤ j → j < past → is_over l (get_or targets j d) ≡ false) →
    IsTurnTold before after rows changes r.0 (begin_of rows (from + k)) → IsTurnTold before after rows changes r.0 (begin_of rows (from + past))
rows-skipped n rows before after changes r from targets k past l form inside column order end alike off told = ⊎_elim
    (λ (some : k < past).
    let rise : begin_of rows (from + k) < begin_of rows (from + past) = begin-before n rows (from + k) (from + past) form (omega arith) (omega arith) in
    told-same (with_down before (does rows)) (with_down after (does rows)) changes changes r (begin_of rows (from + k)) (begin_of rows (from + past)) told (omega arith)
    (λ a low high.
    let e : from + past ≡ (from + k) + (past - k) = omega arith in
    let P : ℕ → Type 0 = λ m. a < begin_of rows m in
    let at = row-among rows (from + k) (past - k) a low (subst P e high) in
    let first : from + k ≤ at.0 = at.1.0 in
    let last : at.0 < (from + k) + (past - k) = at.1.1 in
    let place : at.0 ≡ from + (at.0 - from) = omega arith in
    let Q : ℕ → Type 0 = λ m. IsInRow rows m a in
    let t : Target = get_or targets (at.0 - from) NoRoute in
    let is : does rows r a ≡ t =
    target-is n rows (from + (at.0 - from)) a r t form (omega arith)
    (λ d. column (at.0 - from) d NoRoute (omega arith))
    (subst Q place at.1.2) in
    shown-alike before after l (does rows r a) alike (ap (λ (x : Target). is_over l x) is ∙ off (at.0 - from) NoRoute (omega arith) (omega arith))))
    (λ (none : past ≤ k).
    let same : from + k ≡ from + past = omega arith in
    subst (λ m. IsTurnTold before after rows changes r.0 (begin_of rows m)) same told)
    (cases_lt k past)

-- ---- all rows

pub begin-none : (rows : List ForwardingRow) → CoverFrom row_low row_past 0 rows → begin_of rows 0 ≡ 0
begin-none [] h = sym h
begin-none (row ∷ rows) h = h.0

pub begin-all : (rows : List ForwardingRow) (i : ℕ) → length rows ≤ i → begin_of rows i ≡ 2 ^ 32
begin-all [] i l = refl
begin-all (row ∷ rows) zero l = absurd (omega arith)
begin-all (row ∷ rows) (suc i) l = begin-all rows i (omega arith)

pub pages-first : (n : ℕ) (rows : List ForwardingRow) (before after : List LinkId) (changes : List Change) (r : ℕ) → AreForwarding n rows → IsTurnTold before after rows changes r 0 → IsTurnTold before after rows changes r (begin_of rows 0)
pages-first n rows before after changes r form h = subst (λ x. IsTurnTold before after rows changes r x) (sym (begin-none rows form.cover)) h

-- the next router's turn
pub router-next : (was is : RouterId → ℕ → Target) (changes : List Change) (r : ℕ) → IsToldTo was is changes r (2 ^ 32) → IsToldTo was is changes (r + 1) 0
router-next was is changes r h = record {
  form = h.form;
  earlier = λ q a e l. ⊎_elim
      (λ (b : q.0 < r). h.earlier q a b l)
      (λ (b : r ≤ q.0). h.here q a (omega arith) l)
      (cases_lt q.0 r);
  here = λ q a e l. absurd (omega arith);
  ahead = λ q a e l. h.later q a (omega arith);
  later = λ q a l. h.later q a (omega arith);
}

pub pages-all : (rows : List ForwardingRow) (before after : List LinkId) (changes : List Change) (r i : ℕ) → length rows ≤ i → IsTurnTold before after rows changes r (begin_of rows i) → IsTurnTold before after rows changes (r + 1) 0
pages-all rows before after changes r i end h =
    router-next (with_down before (does rows)) (with_down after (does rows)) changes r (subst (λ x. IsTurnTold before after rows changes r x) (begin-all rows i end) h)

-- where it isn't marked it shows what it did
pub router-same : (rows : List ForwardingRow) (before after : List LinkId) (changes : List Change) (marks : List Bool) (r : RouterId) → AreMarked before after rows marks → get_or marks r.0 false ≡ false → IsTurnTold before after rows changes r.0 0 → IsTurnTold before after rows changes (r.0 + 1) 0
router-same rows before after changes marks r marked off h =
    router-next (with_down before (does rows)) (with_down after (does rows)) changes r.0
    (told-same (with_down before (does rows)) (with_down after (does rows)) changes changes r 0 (2 ^ 32) h (omega arith) (λ a from to. marked r a off))

-- ---- all routers

pub turn-none : (rows : List ForwardingRow) (before after : List LinkId) (changes : List Change) → changes ≡ [] → IsTurnTold before after rows changes 0 0
turn-none rows before after changes none = subst (λ (cs : List Change). IsTurnTold before after rows cs 0 0) (sym none) (record {
  form = tt;
  earlier = λ q a e l. absurd (omega arith);
  here = λ q a e l. absurd (omega arith);
  ahead = λ q a e l. refl;
  later = λ q a l. refl;
})

-- a router that there isn't has no route
does-past : (n : ℕ) (rows : List ForwardingRow) (q : RouterId) (a : ℕ) → AreEachForwarding n rows → n ≤ q.0 → does rows q a ≡ NoRoute
does-past n [] q a each l = refl
does-past n (row ∷ rows) q a each l = ⊎_elim
    (λ (y : is_within row.low row.past a ≡ true).
    let all : length row.targets ≡ n = each.0.all in
    ap (λ (o : Option ForwardingRow). target_in_row o q) (holder-first row_low row_past row rows a y) ∙ get_or_past row.targets q.0 NoRoute (omega arith))
    (λ (f : is_within row.low row.past a ≡ false).
    ap (λ (o : Option ForwardingRow). target_in_row o q) (holder-rest row_low row_past row rows a f) ∙ does-past n rows q a each.1 l)
    (cases_Bool (is_within row.low row.past a))

pub turn-all : (n : ℕ) (rows : List ForwardingRow) (before after : List LinkId) (changes : List Change) → AreForwarding n rows → IsTurnTold before after rows changes n 0 → IsTurnDelta before after rows changes
turn-all n rows before after changes form h = record {
  form = h.form;
  exact = λ q a l. ⊎_elim
      (λ (b : q.0 < n). h.earlier q a b l)
      (λ (b : n ≤ q.0).
      let none : does rows q a ≡ NoRoute = does-past n rows q a form.each b in
      none-told (with_down before (does rows) q a) (with_down after (does rows) q a) (change_at changes q a)
      (⊎_elim (λ (e : q.0 ≡ n). h.ahead q a e (omega arith)) (λ (e : q.0 ≡ n → ⊥). h.later q a (omega arith)) (cases_eq q.0 n))
      (ap (without before) none ∙ sym (ap (without after) none)))
      (cases_lt q.0 n);
}
