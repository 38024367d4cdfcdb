-- The rule in force: the one that goes before all others.
use Rattle.std.proofs.Common.{◌≡◌, ℕ, ◌&&◌, ◌||◌, Bool, true, false, cond, Option, Some, None, List, [], ◌∷◌, ◌++◌, fold, refl, sym, subst, ⊎_elim, arith, append_assoc, eqb, ltb}
use Rattle.std.specs.List.{Contains}
use Rattle.std.proofs.lemmas.Bool.{cases_Bool}
use Rattle.std.proofs.lemmas.Bool.Decides.{nat_tests}
use Rattle.std.proofs.lemmas.List.{append-nil}
use Rattle.std.proofs.lemmas.List.Elements.{Contains-append_left, Contains-append_right, Contains-push_cases}
use Rattle.dn_model.specs.Rules.{IsTop, rule_before}
use Rattle.dn_model.specs.declared.rule.Rule.{Rule}
use Rattle.base.proofs.Elements.{contains-here, contains-none}
use Rattle.owner_tree.specs.First.{first_of}

abbrev before : ℕ → ℕ → ℕ → ℕ → Bool
before l m k n = ltb k l || (eqb l k && ltb m n)

before-itself : (l m : ℕ) → before l m l m ≡ false
before-itself l m = grind (arith, nat_tests)

-- what doesn't go before a rule doesn't go before one that goes before it
before-chain : (l m k n i j : ℕ) → before l m k n ≡ false → before i j k n ≡ true → before l m i j ≡ false
before-chain l m k n i j h g = grind (arith, nat_tests)

-- no rule of a list with one more goes before this one
none-before : (rules : List Rule) (x y : Rule) → ((r : Rule) → Contains rules r → rule_before r x ≡ false) → rule_before y x ≡ false → (r : Rule) → Contains (rules ++ y ∷ []) r → rule_before r x ≡ false
none-before rules x y old new r h = ⊎_elim
    (λ (o : Contains rules r). old r o)
    (λ (e : y ≡ r). subst (λ (z : Rule). rule_before z x ≡ false) e new)
    (Contains-push_cases rules y r h)

top-more : (rules : List Rule) (o : Option Rule) (y : Rule) → IsTop rules o → IsTop (rules ++ y ∷ []) (first_of o y)
top-more rules None y top = (
  Contains-append_right rules (y ∷ []) y (contains-here y []),
  none-before rules y y (λ r h. absurd (contains-none r (subst (λ (rs : List Rule). Contains rs r) top h))) (before-itself y.len y.metric),
)
top-more rules (Some x) y top = ⊎_elim
    (λ (b : rule_before y x ≡ true).
    subst (λ t. IsTop (rules ++ y ∷ []) (cond t (Some y) (Some x))) (sym b) (
      Contains-append_right rules (y ∷ []) y (contains-here y []),
      none-before rules y y (λ r h. before-chain r.len r.metric x.len x.metric y.len y.metric (top.1 r h) b) (before-itself y.len y.metric),
    ))
    (λ (b : rule_before y x ≡ false).
    subst (λ t. IsTop (rules ++ y ∷ []) (cond t (Some y) (Some x))) (sym b) (
      Contains-append_left rules (y ∷ []) x top.0,
      none-before rules x y top.1 b,
    ))
    (cases_Bool (rule_before y x))

top-fold : (seen rest : List Rule) (o : Option Rule) → IsTop seen o → IsTop (seen ++ rest) (fold first_of o rest)
top-fold seen [] o top = subst (λ (rs : List Rule). IsTop rs o) (sym (append-nil seen)) top
top-fold seen (y ∷ ys) o top = subst (λ (rs : List Rule). IsTop rs (fold first_of (first_of o y) ys)) (append_assoc seen (y ∷ []) ys) (top-fold (seen ++ y ∷ []) ys (first_of o y) (top-more seen o y top))

-- the first of all is in force
pub is-top : (rules now : List Rule) (o : Option Rule) → rules ≡ now → o ≡ fold first_of None rules → IsTop now o
is-top rules now o view e = subst (λ (rs : List Rule). IsTop rs o) view (subst (λ (t : Option Rule). IsTop rules t) (sym e) (top-fold [] rules None refl))
