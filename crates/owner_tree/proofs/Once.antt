-- Each key stands once.
use Rattle.std.proofs.Common.{◌≡◌, ℕ, ◌∙◌, ◌&&◌, not, Bool, true, false, Option, None, Some, List, [], ◌∷◌, ◌++◌, filter, Result, Ok, Err, OnOk, OnErr, refl, ap, sym, subst, arith, eqb}
use Rattle.std.specs.List.{list_any}
use Rattle.std.proofs.lemmas.Bool.{and_from, and_parts, cond_both, not-true, not_from_false, or_from, or_parts}
use Rattle.std.proofs.lemmas.Bool.Decides.{nat_tests}
use Rattle.std.proofs.lemmas.List.Folds.{list_any-append}
use Rattle.std.proofs.lemmas.Map.Views.{any-filter_same}
use Rattle.base.specs.Lists.{all_differ}
use Rattle.dn_model.specs.Rules.{cleared_rules, has_rule_key, placed_rule, with_rule, HasRulesOnce}
use Rattle.dn_model.specs.declared.rule.Rule.{Rule}

abbrev same_key : Rule → Rule → Bool
same_key x y = has_rule_key x.len x.metric y

any-filter : (q p : Rule → Bool) (xs : List Rule) → list_any q xs ≡ false → list_any q (filter p xs) ≡ false
any-filter q p [] h = refl
any-filter q p (x ∷ xs) h =
    let parts : (q x ≡ false) × (list_any q xs ≡ false) = or_parts (q x) (list_any q xs) h in
    let rest : list_any q (filter p xs) ≡ false = any-filter q p xs parts.1 in
    let P : List Rule → Type 0 = λ ys. list_any q ys ≡ false in
    cond_both (p x) (x ∷ filter p xs) (filter p xs) P (λ t. or_from (q x) (list_any q (filter p xs)) parts.0 rest) (λ f. rest)

-- so it is in a part of the rules
differ-filter : (p : Rule → Bool) (xs : List Rule) → all_differ same_key xs ≡ true → all_differ same_key (filter p xs) ≡ true
differ-filter p [] h = refl
differ-filter p (x ∷ xs) h =
    let parts : (not (list_any (same_key x) xs) ≡ true) × (all_differ same_key xs ≡ true) = and_parts (not (list_any (same_key x) xs)) (all_differ same_key xs) h in
    let rest : all_differ same_key (filter p xs) ≡ true = differ-filter p xs parts.1 in
    let none : list_any (same_key x) (filter p xs) ≡ false = any-filter (same_key x) p xs (not-true (list_any (same_key x) xs) parts.0) in
    let P : List Rule → Type 0 = λ ys. all_differ same_key ys ≡ true in
    cond_both (p x) (x ∷ filter p xs) (filter p xs) P (λ t. and_from (not (list_any (same_key x) (filter p xs))) (all_differ same_key (filter p xs)) (not_from_false (list_any (same_key x) (filter p xs)) none) rest) (λ f. rest)

differ-push : (xs : List Rule) (y : Rule) → all_differ same_key xs ≡ true → list_any (λ x. same_key x y) xs ≡ false → all_differ same_key (xs ++ y ∷ []) ≡ true
differ-push [] y h k = refl
differ-push (x ∷ xs) y h k =
    let parts : (not (list_any (same_key x) xs) ≡ true) × (all_differ same_key xs ≡ true) = and_parts (not (list_any (same_key x) xs)) (all_differ same_key xs) h in
    let others : (same_key x y ≡ false) × (list_any (λ z. same_key z y) xs ≡ false) = or_parts (same_key x y) (list_any (λ z. same_key z y) xs) k in
    let rest : all_differ same_key (xs ++ y ∷ []) ≡ true = differ-push xs y parts.1 others.1 in
    let last : list_any (same_key x) (y ∷ []) ≡ false = or_from (same_key x y) false others.0 refl in
    let none : list_any (same_key x) (xs ++ y ∷ []) ≡ false = list_any-append (same_key x) xs (y ∷ []) ∙ or_from (list_any (same_key x) xs) (list_any (same_key x) (y ∷ [])) (not-true (list_any (same_key x) xs) parts.0) last in
    and_from (not (list_any (same_key x) (xs ++ y ∷ []))) (all_differ same_key (xs ++ y ∷ [])) (not_from_false (list_any (same_key x) (xs ++ y ∷ [])) none) rest

eqb-turned : (m n : ℕ) → eqb m n ≡ eqb n m
eqb-turned m n = grind (arith, nat_tests)

key-turned : (x y : Rule) → same_key x y ≡ same_key y x
key-turned x y = ap (λ (b : Bool). b && eqb y.metric x.metric) (eqb-turned y.len x.len) ∙ ap (λ (b : Bool). eqb x.len y.len && b) (eqb-turned y.metric x.metric)

-- a rule behind those that are left, where the one with its key isn't
once-behind : (p : Rule → Bool) (rules : List Rule) (y : Rule) → ((x : Rule) → same_key x y ≡ true → p x ≡ false) → HasRulesOnce rules → HasRulesOnce (filter p rules ++ y ∷ [])
once-behind p rules y gone h = differ-push (filter p rules) y (differ-filter p rules h) (any-filter_same (λ x. same_key x y) p false gone rules)

pub once-with : (rules : List Rule) (y : Rule) → HasRulesOnce rules → HasRulesOnce (with_rule rules y)
once-with rules y h = once-behind (λ r. not (has_rule_key y.len y.metric r)) rules y (λ x t. ap not (key-turned y x ∙ t)) h

pub once-alone : (rules : List Rule) (y : Rule) → HasRulesOnce rules → HasRulesOnce (placed_rule true rules y)
once-alone rules y h = once-behind (λ r. not (eqb r.len y.len)) rules y (λ x t. ap not (eqb-turned x.len y.len ∙ (and_parts (eqb y.len x.len) (eqb y.metric x.metric) t).0)) h

pub once-cleared : (rules new : List Rule) (l : ℕ) (m : Option ℕ) → HasRulesOnce rules → new ≡ cleared_rules rules l m → HasRulesOnce new
once-cleared rules new l None h e = subst (λ (rs : List Rule). HasRulesOnce rs) (sym e) (differ-filter (λ r. not (eqb r.len l)) rules h)
once-cleared rules new l (Some m) h e = subst (λ (rs : List Rule). HasRulesOnce rs) (sym e) (differ-filter (λ r. not (has_rule_key l m r)) rules h)

-- after a call that may fail
pub once-after : {V E : Type 0} (r : Result V E) (old new made : List Rule) → HasRulesOnce old → HasRulesOnce made → OnOk r (new ≡ made) → OnErr r (new ≡ old) → HasRulesOnce new
once-after (Ok v) old new made h k ok err = subst (λ (rs : List Rule). HasRulesOnce rs) (sym ok) k
once-after (Err e) old new made h k ok err = subst (λ (rs : List Rule). HasRulesOnce rs) (sym err) h
