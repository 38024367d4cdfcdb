-- What changes tell of the rows that their runs meet.
use Rattle.std.proofs.Common.{◌≡◌, ℕ, zero, suc, ◌+◌, ◌<◌, ◌≤◌, ◌^◌, ◌∙◌, ⊎_elim, true, false, nat_le, ◌==◌, Option, None, Some, List, [], ◌∷◌, length, get_or, refl, ap, sym, subst, inr, arith}
use Rattle.std.proofs.lemmas.Bool.{and_parts, cases_Bool, cases_eq, eqb-true, leb-true}
use Rattle.std.proofs.lemmas.Option.{none-some}
use Rattle.base.specs.Delta.{AreChanges, IsChange, IsDelta, TellsChange, change_at, is_change_at}
use Rattle.base.specs.Forwarding.{AreForwarding, does, row_low, row_past, target_in_row, target_of}
use Rattle.base.specs.Rows.{CoverFrom}
use Rattle.base.specs.Runs.{holds}
use Rattle.base.specs.declared.change.Change.{Change}
use Rattle.base.specs.declared.forwarding_row.ForwardingRow.{ForwardingRow}
use Rattle.base.specs.declared.ids.RouterId.{RouterId}
use Rattle.base.specs.declared.target.Target.{Target}
use Rattle.base.proofs.Covers.{holder-at, low-at, ordered-at}
use Rattle.base.proofs.DeltaOnce.{first-is, none-later, not-first, within}
use Rattle.loop_keeper.specs.Finding.{AllTellAfter, TellsAfter}
use Rattle.loop_keeper.specs.Starts.{DoesSo, start_of}
use Rattle.loop_keeper.proofs.Taking.{each-change}

-- ---- changes

-- each change tells what it has
tells-at : (cs : List Change) (k : ℕ) (d : Change) (a : ℕ) → AreChanges cs → k < length cs → (get_or cs k d).run.lo ≤ a → a ≤ (get_or cs k d).run.hi → change_at cs (get_or cs k d).router a ≡ Some ((get_or cs k d).before, (get_or cs k d).after)
tells-at [] k d a h l lo hi = absurd (omega arith)
tells-at (c ∷ cs) zero d a h l lo hi = first-is c.router a c cs (within c.router a c refl lo hi)
tells-at (c ∷ cs) (suc k) d a h l lo hi =
    let r : RouterId = (get_or cs k d).router in
    let rest : change_at cs r a ≡ Some ((get_or cs k d).before, (get_or cs k d).after) = tells-at cs k d a h.2 (omega arith) lo hi in
    ⊎_elim
    (λ (x : is_change_at r a c ≡ true).
    let p : ((c.router.0 == r.0) ≡ true) × (holds a c.run ≡ true) = and_parts (c.router.0 == r.0) (holds a c.run) x in
    let q : (nat_le c.run.lo a ≡ true) × (nat_le a c.run.hi ≡ true) = and_parts (nat_le c.run.lo a) (nat_le a c.run.hi) p.1 in
    let none : change_at cs r a ≡ None = none-later r a c cs h.1 h.2 (inr (sym (eqb-true c.router.0 r.0 p.0), leb-true a c.run.hi q.1)) in
    absurd (none-some ((get_or cs k d).before, (get_or cs k d).after) (sym none ∙ rest)))
    (λ (x : is_change_at r a c ≡ false). not-first r a c cs x ∙ rest)
    (cases_Bool (is_change_at r a c))

-- the changes from one moment to another tell what routers do at the other
pub tell-after : (f g : RouterId → ℕ → Target) (cs : List Change) → IsDelta f g cs → AllTellAfter g cs
tell-after f g cs h = λ k d l a lo hi.
    let c : Change = get_or cs k d in
    let is : IsChange (get_or cs k d) = each-change cs k d h.form l in
    let below : (get_or cs k d).run.hi < 2 ^ 32 = is.below in
    let P : Option (Target × Target) → Type 0 = λ o. TellsChange (f c.router a) (g c.router a) o in
    let both = subst P (tells-at cs k d a h.form l lo hi) (h.exact c.router a (omega arith)) in
    sym (ap (λ (p : Target × Target). p.1) both.0)

-- ---- rows

pub apart : (start : ℕ) (rows : List ForwardingRow) (i j : ℕ) (d : ForwardingRow) → CoverFrom row_low row_past start rows → i < j → j < length rows → (get_or rows i d).past ≤ (get_or rows j d).low
apart start [] i j d h o l = absurd (omega arith)
apart start (row ∷ rows) i zero d h o l = absurd (omega arith)
apart start (row ∷ rows) zero (suc j) d h o l = low-at row_low row_past row.past rows j d h.2 (omega arith)
apart start (row ∷ rows) (suc i) (suc j) d h o l = apart row.past rows i j d h.2 (omega arith) (omega arith)

-- at an address of a row a router does what it does in the row
in-row : (n : ℕ) (rows : List ForwardingRow) (k a : ℕ) (d : ForwardingRow) (c : Change) → AreForwarding n rows → k < length rows → TellsAfter (does rows) c → (get_or rows k d).low ≤ a → a < (get_or rows k d).past → c.run.lo ≤ a → a ≤ c.run.hi → target_of (get_or rows k d) c.router ≡ c.after
in-row n rows k a d c form l tells low past lo hi =
    sym (ap (λ (o : Option ForwardingRow). target_in_row o c.router) (holder-at row_low row_past 0 rows k d a form.cover l low past)) ∙ tells a lo hi

-- in the rows that the run of a change meets its router does what it tells
pub does-after : (n : ℕ) (rows : List ForwardingRow) (c : Change) (first last : ℕ) → AreForwarding n rows → last < length rows → ((d : ForwardingRow) → (get_or rows first d).low ≤ c.run.lo) → ((d : ForwardingRow) → c.run.lo < (get_or rows first d).past) → ((d : ForwardingRow) → (get_or rows last d).low ≤ c.run.hi) → IsChange c → TellsAfter (does rows) c → (k : ℕ) → first ≤ k → k < last + 1 → DoesSo rows (start_of c) k
does-after n rows c first last form l from to low is tells = λ k f b d.
    let inside : k < length rows = omega arith in
    let ends : c.run.lo ≤ c.run.hi = is.ends in
    let begins : c.run.lo < (get_or rows first d).past = to d in
    let wide : (get_or rows k d).low < (get_or rows k d).past = ordered-at row_low row_past 0 rows k d form.cover inside in
    ⊎_elim
    (λ (e : k ≡ first).
    let L : ℕ → Type 0 = λ v. (get_or rows v d).low ≤ c.run.lo in
    let H : ℕ → Type 0 = λ v. c.run.lo < (get_or rows v d).past in
    in-row n rows k c.run.lo d c form inside tells (subst L (sym e) (from d)) (subst H (sym e) (to d)) (omega arith) ends)
    (λ (ne : k ≡ first → ⊥).
    let after : (get_or rows first d).past ≤ (get_or rows k d).low = apart 0 rows first k d form.cover (omega arith) inside in
    in-row n rows k (get_or rows k d).low d c form inside tells (omega arith) wide (omega arith) (up-to k d b))
    (cases_eq k first)
  where
    up-to : (k : ℕ) (d : ForwardingRow) → k < last + 1 → (get_or rows k d).low ≤ c.run.hi
    up-to k d b = ⊎_elim
        (λ (e : k ≡ last). let L : ℕ → Type 0 = λ v. (get_or rows v d).low ≤ c.run.hi in subst L (sym e) (low d))
        (λ (ne : k ≡ last → ⊥).
        let inside : k < length rows = omega arith in
        let wide : (get_or rows k d).low < (get_or rows k d).past = ordered-at row_low row_past 0 rows k d form.cover inside in
        let after : (get_or rows k d).past ≤ (get_or rows last d).low = apart 0 rows k last d form.cover (omega arith) l in
        let end : (get_or rows last d).low ≤ c.run.hi = low d in
        omega arith)
        (cases_eq k last)
