-- Two lists with the same routes, in which no two have one key, are each the other in another order.
use Rattle.std.proofs.Common.{◌≡◌, ◌∙◌, Bool, true, false, cond, not, Some, List, [], ◌∷◌, filter, refl, ap, sym, subst, ⊎_elim, eqb}
use Rattle.std.specs.List.{Contains, list_any}
use Rattle.std.specs.List.Sorted.{IsPermutation}
use Rattle.std.proofs.lemmas.Bool.{and_from, and_parts, both_ways, cases_Bool, eq-eqb, false_from_ne_true, not-true, not_from_false, or_left, or_right}
use Rattle.std.proofs.lemmas.List.Sorted.{IsPermutation-cons, IsPermutation-middle, IsPermutation-refl, IsPermutation-trans}
use Rattle.dn_model.specs.Table.{HasKeysOnce, is_of_prefix, same_key}
use Rattle.base.specs.Lists.{all_differ}
use Rattle.dn_model.specs.declared.table_op.TableOp.TheVariants.{Clear}
use Rattle.dn_model.specs.declared.entry.Route.{Route}
use Rattle.base.proofs.Elements.{contains-cases, contains-filter, contains-here, contains-none, contains-there, filter-contains}
use Rattle.base.proofs.Filtered.{filter-whole}
use Rattle.dn_model.proofs.Keys.{key-once, keys-put}
use Rattle.dn_model.proofs.SameRoutes.{SameRoutes}

own-key : (x : Route) → same_key x x ≡ true
own-key x = and_from (is_of_prefix x.prefix x) (eqb x.metric x.metric) (and_from (eqb x.prefix.base x.prefix.base) (eqb x.prefix.len x.prefix.len) (eq-eqb x.prefix.base x.prefix.base refl) (eq-eqb x.prefix.len x.prefix.len refl)) (eq-eqb x.metric x.metric refl)

none-among : (q : Route → Bool) (r : Route) (xs : List Route) → list_any q xs ≡ false → Contains xs r → q r ≡ false
none-among q r [] h i = absurd (contains-none r i)
none-among q r (x ∷ xs) h i = false_from_ne_true (q r) (λ t. ⊎_elim
    (λ (e : x ≡ r). both_ways (list_any q (x ∷ xs)) h (or_left (q x) (list_any q xs) (ap q e ∙ t)))
    (λ (j : Contains xs r). both_ways (q r) (none-among q r xs (false_from_ne_true (list_any q xs) (λ u. both_ways (list_any q (x ∷ xs)) h (or_right (q x) (list_any q xs) u))) j) t)
    (contains-cases x r xs i))

-- a route goes to the front of those with other keys
fronted : (x : Route) (ys : List Route) → HasKeysOnce ys → Contains ys x → IsPermutation (x ∷ filter (λ y. not (same_key x y)) ys) ys
fronted x [] h i = absurd (contains-none x i)
fronted x (y ∷ ys) h i =
    let parts : (not (list_any (same_key y) ys) ≡ true) × (all_differ same_key ys ≡ true) = and_parts (not (list_any (same_key y) ys)) (all_differ same_key ys) h in
    let rest : List Route = filter (λ z. not (same_key x z)) ys in
    ⊎_elim
    (λ (t : same_key x y ≡ true).
    let same : x ≡ y = key-once (y ∷ ys) x y h i (contains-here y ys) t in
    let out : filter (λ z. not (same_key x z)) (y ∷ ys) ≡ rest = ap (λ b. cond (not b) (y ∷ rest) rest) t in
    let none : list_any (same_key x) ys ≡ false = ap (λ (z : Route). list_any (same_key z) ys) same ∙ not-true (list_any (same_key y) ys) parts.0 in
    let whole : rest ≡ ys = filter-whole (λ z. not (same_key x z)) ys (λ r j. not_from_false (same_key x r) (none-among (same_key x) r ys none j)) in
    let is : y ∷ ys ≡ x ∷ filter (λ z. not (same_key x z)) (y ∷ ys) = ap (λ (z : Route). z ∷ ys) (sym same) ∙ ap (λ zs. x ∷ zs) (sym (out ∙ whole)) in
    subst (λ zs. IsPermutation zs (y ∷ ys)) is (IsPermutation-refl (y ∷ ys)))
    (λ (f : same_key x y ≡ false).
    let there : Contains ys x = ⊎_elim
    (λ (e : y ≡ x). absurd (both_ways (same_key x y) f (ap (same_key x) e ∙ own-key x)))
    (λ (j : Contains ys x). j)
    (contains-cases y x ys i) in
    let kept : y ∷ rest ≡ filter (λ z. not (same_key x z)) (y ∷ ys) = sym (ap (λ b. cond (not b) (y ∷ rest) rest) f) in
    subst (λ zs. IsPermutation (x ∷ zs) (y ∷ ys)) kept (IsPermutation-trans (x ∷ y ∷ rest) (y ∷ x ∷ rest) (y ∷ ys) (IsPermutation-middle (x ∷ []) y rest) (IsPermutation-cons y (x ∷ rest) ys (fronted x ys parts.1 there))))
    (cases_Bool (same_key x y))

pub permutation-same : (xs ys : List Route) → HasKeysOnce xs → HasKeysOnce ys → SameRoutes xs ys → IsPermutation xs ys
permutation-same [] [] h k same = IsPermutation-refl []
permutation-same [] (y ∷ ys) h k same = absurd (contains-none y (same.back y (contains-here y ys)))
permutation-same (x ∷ xs) ys h k same =
    let parts : (not (list_any (same_key x) xs) ≡ true) × (all_differ same_key xs ≡ true) = and_parts (not (list_any (same_key x) xs)) (all_differ same_key xs) h in
    let none : list_any (same_key x) xs ≡ false = not-true (list_any (same_key x) xs) parts.0 in
    let left : List Route = filter (λ y. not (same_key x y)) ys in
    let rest : SameRoutes xs left = record {
      there = λ r i. contains-filter (λ y. not (same_key x y)) r ys (same.there r (contains-there x r xs i)) (not_from_false (same_key x r) (none-among (same_key x) r xs none i));
      back = λ r i.
          let found : Contains ys r × (not (same_key x r) ≡ true) = filter-contains (λ y. not (same_key x y)) r ys i in
          ⊎_elim
          (λ (e : x ≡ r). absurd (both_ways (same_key x r) (not-true (same_key x r) found.1) (ap (same_key x) (sym e) ∙ own-key x)))
          (λ (j : Contains xs r). j)
          (contains-cases x r xs (same.back r found.0));
    } in
    let more : IsPermutation xs left = permutation-same xs left parts.1 (keys-put false ys (Clear x.prefix (Some x.metric)) k) rest in
    IsPermutation-trans (x ∷ xs) (x ∷ left) ys (IsPermutation-cons x xs left more) (fronted x ys k (same.there x (contains-here x xs)))
