-- A search by halves among falls in order.
use Rattle.std.proofs.Common.{◌≡◌, ℕ, ◌+◌, ◌<◌, ◌∙◌, ⊎_elim, true, List, length, get_or, sym, subst, arith}
use Rattle.std.proofs.lemmas.Bool.{cases_eq}
use Rattle.std.proofs.lemmas.List.{get_or_default}
use Rattle.base.specs.declared.ids.RouterId.{RouterId}
use Rattle.base.specs.declared.target.Target.{Target}
use Rattle.blackhole.specs.Falls.{is_before}
use Rattle.blackhole.specs.Gathering.{AreOrdered}
use Rattle.blackhole.specs.declared.fall.Fall.{Fall}
use Rattle.blackhole.proofs.Order.{before-from, before-is, before-trans}

-- what stands up to one that comes before comes before too
pub before-up-to : (falls : List Fall) (m : ℕ) (x : Fall) (s : RouterId) (u : Target) → AreOrdered falls → m < length falls → x ≡ get_or falls m x → is_before x.router x.cause s u ≡ true → (k : ℕ) (d : Fall) → k < m + 1 → is_before (get_or falls k d).router (get_or falls k d).cause s u ≡ true
before-up-to falls m x s u order l at before k d b =
    let P : Fall → Type 0 = λ f. is_before f.router f.cause s u ≡ true in
    let here : is_before (get_or falls m d).router (get_or falls m d).cause s u ≡ true = subst P (at ∙ get_or_default falls m x d l) before in
    ⊎_elim
    (λ (e : k ≡ m). (let Q : ℕ → Type 0 = λ j. P (get_or falls j d) in subst Q (sym e) here))
    (λ (n : k ≡ m → ⊥). before-from (get_or falls k d).router (get_or falls k d).cause s u (before-trans (get_or falls k d).router (get_or falls k d).cause (get_or falls m d).router (get_or falls m d).cause s u
    (before-is (get_or falls k d).router (get_or falls k d).cause (get_or falls m d).router (get_or falls m d).cause (order.rise k m d (omega arith) l))
    (before-is (get_or falls m d).router (get_or falls m d).cause s u here)))
    (cases_eq k m)
