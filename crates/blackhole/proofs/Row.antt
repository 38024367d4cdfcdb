-- Rows side by side whose walks fall at one router by one cause.
use Rattle.std.proofs.Common.{◌≡◌, ℕ, ◌<◌, ◌≤◌, ◌∙◌, ⊎_elim, Bool, true, false, Some, List, [], length, get_or, set, refl, ap, sym, subst, arith}
use Rattle.std.specs.List.{insert, list_any}
use Rattle.std.proofs.lemmas.Bool.{cases_Bool, cases_eq, cases_lt}
use Rattle.base.specs.Forwarding.{AreForwarding}
use Rattle.base.specs.Holes.{cause_rank, is_cause}
use Rattle.base.specs.Runs.{holds}
use Rattle.base.specs.declared.forwarding_row.ForwardingRow.{ForwardingRow}
use Rattle.base.specs.declared.ids.RouterId.{RouterId}
use Rattle.base.specs.declared.target.Target.{Target}
use Rattle.label_view.specs.Gathered.{Gathered}
use Rattle.label_view.specs.Places.{AreGatheredTo, IsInRows}
use Rattle.blackhole.specs.Falls.{is_before, is_fall, is_same}
use Rattle.blackhole.specs.Gathering.{AreFalls, HasFall, IsFall}
use Rattle.blackhole.specs.declared.fall.Fall.{Fall}
use Rattle.blackhole.proofs.Adding.{one-added, some-fall}
use Rattle.blackhole.proofs.Order.{Before, after-from, before-differs, before-is, before-trans, fall-same, same-is}
use Rattle.blackhole.proofs.Placed.{AllInOrder, lengthened, put-in}

-- what adding rows whose addresses pass does to runs
abbrev pub AddsRows : List ForwardingRow → ℕ → ℕ → Gathered → Gathered → Type 0
AddsRows rows i j old new = (test : ℕ → Bool) → AreGatheredTo old rows i test → ((a : ℕ) → IsInRows rows i j a → true ≡ test a) → AreGatheredTo new rows j test

abbrev pub Tells : List ForwardingRow → ℕ → ℕ → RouterId → Target → (RouterId → Target → ℕ → Bool) → Type 0
Tells rows i j s u test = (r : RouterId) (t : Target) (a : ℕ) → IsInRows rows i j a → is_fall (Some (s, u)) r t ≡ test r t a

all-in-order : (falls : List Fall) (rows : List ForwardingRow) (i : ℕ) (test : RouterId → Target → ℕ → Bool) → AreFalls falls rows i test → AllInOrder falls
all-in-order falls rows i test h = λ j k d b c. before-is (get_or falls j d).router (get_or falls j d).cause (get_or falls k d).router (get_or falls k d).cause (h.order.rise j k d b c)

-- the fall that is there is lengthened
pub grown : (n : ℕ) (rows : List ForwardingRow) (i j : ℕ) (falls : List Fall) (p : ℕ) (x y : Fall) (s : RouterId) (u : Target) (test : RouterId → Target → ℕ → Bool) → AreForwarding n rows → i < j → j ≤ length rows → p < length falls → ((d : Fall) → y ≡ get_or falls p d) → x.router ≡ y.router → x.cause ≡ y.cause → ((d : Fall) → is_same (get_or falls p d).router (get_or falls p d).cause s u ≡ true) → is_cause u ≡ true →
    AddsRows rows i j y.runs x.runs → AreFalls falls rows i test → Tells rows i j s u test → AreFalls (set falls p x) rows j test
grown n rows i j falls p x y s u test form l end inside at xr xc same cause adds h tells =
    let P : Fall → Type 0 = λ f. IsFall f rows i test in
    let was : IsFall y rows i test = subst P (sym (at y)) (h.each p y inside) in
    let key : (d : Fall) → ((get_or falls p d).router.0 ≡ s.0) × (cause_rank (get_or falls p d).cause ≡ cause_rank u) = λ d. same-is (get_or falls p d).router (get_or falls p d).cause s u (same d) in
    let er : s.0 ≡ y.router.0 = sym (ap (λ (f : Fall). f.router.0) (at y) ∙ (key y).0) in
    let ec : cause_rank u ≡ cause_rank y.cause = sym (ap (λ (f : Fall). cause_rank f.cause) (at y) ∙ (key y).1) in
    let falls_there : (a : ℕ) → IsInRows rows i j a → true ≡ test y.router y.cause a = λ a b. sym (fall-same s u y.router y.cause cause er ec) ∙ tells y.router y.cause a b in
    let runs : AreGatheredTo x.runs rows j (test y.router y.cause) = adds (test y.router y.cause) was.runs falls_there in
    let Q : RouterId → Type 0 = λ r. AreGatheredTo x.runs rows j (test r y.cause) in
    let R : Target → Type 0 = λ t. AreGatheredTo x.runs rows j (test x.router t) in
    let C : Target → Type 0 = λ t. is_cause t ≡ true in
    let fall : IsFall x rows j test = record {
      cause = subst C (sym xc) was.cause;
      runs = subst R (sym xc) (subst Q (sym xr) runs);
      some = some-fall n rows i j x.runs (test y.router y.cause) form l end runs falls_there;
    } in
    one-added n rows i j falls (set falls p x) x s u (Some (s, u)) test form l end refl
    (lengthened falls p x s u inside (λ d. xr ∙ ap (λ (f : Fall). f.router) (at d)) (λ d. xc ∙ ap (λ (f : Fall). f.cause) (at d)) (λ d. (key d).0) (λ d. (key d).1) (all-in-order falls rows i test h))
    fall h tells

-- what comes from a place on comes after
high-from : (falls : List Fall) (p : ℕ) (s : RouterId) (u : Target) → AllInOrder falls → ((d : Fall) → p < length falls → Before s u (get_or falls p d).router (get_or falls p d).cause) → (k : ℕ) (d : Fall) → p ≤ k → k < length falls → Before s u (get_or falls k d).router (get_or falls k d).cause
high-from falls p s u order first k d b c = ⊎_elim
    (λ (e : p ≡ k). (let P : ℕ → Type 0 = λ m. Before s u (get_or falls m d).router (get_or falls m d).cause in subst P e (first d (omega arith))))
    (λ (n : p ≡ k → ⊥). ⊎_elim
    (λ (m : p < k). before-trans s u (get_or falls p d).router (get_or falls p d).cause (get_or falls k d).router (get_or falls k d).cause (first d (omega arith)) (order p k d m c))
    (λ (m : k ≤ p). absurd (n (omega arith)))
    (cases_lt p k))
    (cases_eq p k)

-- a fall that isn't there is begun
pub begun : (n : ℕ) (rows : List ForwardingRow) (i j : ℕ) (falls : List Fall) (p : ℕ) (x : Fall) (none : Gathered) (s : RouterId) (u : Target) (test : RouterId → Target → ℕ → Bool) → AreForwarding n rows → i < j → j ≤ length rows → p ≤ length falls → x.router ≡ s → x.cause ≡ u → is_cause u ≡ true →
    ((k : ℕ) (d : Fall) → k < p → is_before (get_or falls k d).router (get_or falls k d).cause s u ≡ true) →
    ((d : Fall) → p < length falls → is_before (get_or falls p d).router (get_or falls p d).cause s u ≡ false) →
    (p < length falls → (d : Fall) → is_same (get_or falls p d).router (get_or falls p d).cause s u ≡ false) →
    none.runs ≡ [] → none.past ≡ 0 → AddsRows rows i j none x.runs → AreFalls falls rows i test → Tells rows i j s u test → AreFalls (insert falls p x) rows j test
begun n rows i j falls p x none s u test form l end inside xr xc cause before at other empty past adds h tells =
    let order = all-in-order falls rows i test h in
    let low : (k : ℕ) (d : Fall) → k < p → Before (get_or falls k d).router (get_or falls k d).cause s u = λ k d b. before-is (get_or falls k d).router (get_or falls k d).cause s u (before k d b) in
    let high : (k : ℕ) (d : Fall) → p ≤ k → k < length falls → Before s u (get_or falls k d).router (get_or falls k d).cause = high-from falls p s u order (λ d b. after-from (get_or falls p d).router (get_or falls p d).cause s u (at d b) (other b d)) in
    let absent : HasFall falls s u → ⊥ = λ has. ⊎_elim
    (λ (b : has.at < p). before-differs (get_or falls has.at x).router (get_or falls has.at x).cause s u (low has.at x b) (has.router x) (has.cause x))
    (λ (b : p ≤ has.at). before-differs s u (get_or falls has.at x).router (get_or falls has.at x).cause (high has.at x b has.inside) (sym (has.router x)) (sym (has.cause x)))
    (cases_lt has.at p) in
    let nothing : (a : ℕ) → list_any (holds a) none.runs ≡ false = λ a. ap (list_any (holds a)) empty in
    let start : AreGatheredTo none rows i (test s u) = record {
      before = omega arith;
      exact = λ a b. nothing a ∙ ⊎_elim (λ (t : test s u a ≡ true). absurd (absent (h.all s u a b t))) (λ (f : test s u a ≡ false). sym f) (cases_Bool (test s u a));
      none = λ a b. nothing a;
    } in
    let falls_there : (a : ℕ) → IsInRows rows i j a → true ≡ test s u a = λ a b. sym (fall-same s u s u cause refl refl) ∙ tells s u a b in
    let runs : AreGatheredTo x.runs rows j (test s u) = adds (test s u) start falls_there in
    let Q : RouterId → Type 0 = λ r. AreGatheredTo x.runs rows j (test r u) in
    let R : Target → Type 0 = λ t. AreGatheredTo x.runs rows j (test x.router t) in
    let C : Target → Type 0 = λ t. is_cause t ≡ true in
    let fall : IsFall x rows j test = record {
      cause = subst C (sym xc) cause;
      runs = subst R (sym xc) (subst Q (sym xr) runs);
      some = some-fall n rows i j x.runs (test s u) form l end runs falls_there;
    } in
    one-added n rows i j falls (insert falls p x) x s u (Some (s, u)) test form l end refl (put-in falls p x s u inside xr xc low high order) fall h tells
