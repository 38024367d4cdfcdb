-- Where the addresses of rows side by side fall.
use Rattle.std.proofs.Common.{◌≡◌, ℕ, suc, ◌+◌, ◌-◌, ◌*◌, ◌<◌, ◌≤◌, ◌∙◌, Some, List, length, get_or, ap, subst, sym, arith}
use Rattle.std.proofs.Math.Nat.{add-mul}
use Rattle.std.proofs.lemmas.Nat.{mul-le}
use Rattle.base.specs.Forwarding.{AreForwarding, does}
use Rattle.base.specs.Holes.{falls}
use Rattle.base.specs.Walk.{at_address}
use Rattle.base.specs.declared.forwarding_row.ForwardingRow.{ForwardingRow}
use Rattle.base.specs.declared.ids.LinkId.{LinkId}
use Rattle.base.specs.declared.ids.RouterId.{RouterId}
use Rattle.base.specs.declared.target.Target.{Target}
use Rattle.base.specs.declared.target.Target.TheVariants.{NoRoute, To}
use Rattle.label_view.specs.Columns.{AreOfColumn}
use Rattle.label_view.specs.Places.{IsInRow, IsInRows, begin_of}
use Rattle.label_view.proofs.InRow.{row-among, target-is}
use Rattle.blackhole.specs.Falls.{is_fall}
use Rattle.blackhole.proofs.Falling.{falls-here}

-- one row
pub in-one : (rows : List ForwardingRow) (i a : ℕ) → IsInRows rows i (i + 1) a → IsInRow rows i a
in-one rows i a h =
    let e : i + 1 ≡ suc i = omega arith in
    let P : ℕ → Type 0 = λ k. a < begin_of rows k in
    record { from = h.from; to = subst P e h.to }

-- rows for whose addresses the first router has no route
no-route-at : (n : ℕ) (rows : List ForwardingRow) (r : RouterId) (from : ℕ) (targets : List Target) (j a : ℕ) → AreForwarding n rows → from + length targets ≤ length rows → AreOfColumn rows r from targets → j < length targets → ((d : Target) → get_or targets j d ≡ NoRoute) → IsInRow rows (from + j) a → at_address (does rows) a r ≡ NoRoute
no-route-at n rows r from targets j a form inside column l none within =
    target-is n rows (from + j) a r NoRoute form (omega arith) (λ d. sym (none NoRoute) ∙ column j d NoRoute l) within

pub no-route-tells : (n : ℕ) (rows : List ForwardingRow) (r : RouterId) (from : ℕ) (targets : List Target) (k past : ℕ) → AreForwarding n rows → 0 < n → from + length targets ≤ length rows → AreOfColumn rows r from targets → k < past → past ≤ length targets → ((j : ℕ) (d : Target) → k ≤ j → j < past → get_or targets j d ≡ NoRoute) →
    (last : RouterId) (cause : Target) (a : ℕ) → IsInRows rows (from + k) (from + past) a → is_fall (Some (r, NoRoute)) last cause ≡ falls n (does rows) r last cause a
no-route-tells n rows r from targets k past form some inside column l end none last cause a within =
    let e : from + past ≡ (from + k) + (past - k) = omega arith in
    let P : ℕ → Type 0 = λ m. a < begin_of rows m in
    let at = row-among rows (from + k) (past - k) a within.from (subst P e within.to) in
    let low : from + k ≤ at.0 = at.1.0 in
    let high : at.0 < (from + k) + (past - k) = at.1.1 in
    let same : at.0 ≡ from + (at.0 - from) = omega arith in
    let Q : ℕ → Type 0 = λ m. IsInRow rows m a in
    let is : at_address (does rows) a r ≡ NoRoute = no-route-at n rows r from targets (at.0 - from) a form inside column (omega arith) (λ d. none (at.0 - from) d (omega arith) (omega arith)) (subst Q same at.1.2) in
    let ends : (s : RouterId) (m : LinkId) → at_address (does rows) a r ≡ To s m → ⊥ = λ s m x. (let y : NoRoute ≡ To s m = sym is ∙ x in cc) in
    falls-here (at_address (does rows) a) n r NoRoute last cause some ends is

-- a look at each row is at most a look at each router of each row
pub looks-each : (each old new k past : ℕ) → 0 < each → k ≤ past → new + k ≡ old + past → new + k * each ≤ old + past * each
looks-each each old new k past some l is =
    let e : k + (past - k) ≡ past = omega arith in
    let sum : (k + (past - k)) * each ≡ k * each + (past - k) * each = add-mul k (past - k) each in
    let whole : past * each ≡ k * each + (past - k) * each = sym (ap (λ (m : ℕ). m * each) e) ∙ sum in
    let most : (past - k) * 1 ≤ (past - k) * each = mul-le (past - k) 1 (past - k) each (omega arith) (omega arith) in
    omega arith

pub looks-one : (each old new k : ℕ) → new ≤ old + each → new + k * each ≤ old + (k + 1) * each
looks-one each old new k l =
    let sum : (k + 1) * each ≡ k * each + 1 * each = add-mul k 1 each in
    omega arith

pub looks-all : (each old new k past all : ℕ) → new + k * each ≤ old + past * each → past ≤ all → new + k * each ≤ old + all * each
looks-all each old new k past all h l =
    let most : past * each ≤ all * each = mul-le past each all each l (omega arith) in
    omega arith
