-- The cycle that an address goes round from its first router, found hop by hop.
use Rattle.std.proofs.Common.{◌≡◌, ℕ, suc, ◌+◌, ◌<◌, ◌≤◌, ◌⊎◌, ◌∙◌, Bool, true, false, not, ◌&&◌, ◌||◌, eqb, ltb, nat_lt, Some, None, List, [], ◌∷◌, ◌++◌, length, map, refl, ap, sym, subst, inl, inr, ⊎_elim, arith, append_assoc, append-nil}
use Rattle.std.specs.List.{list_any, list_all, IsDistinct, AllByRecursion}
use Rattle.std.proofs.lemmas.Bool.{ltb-true, lt-ltb, eqb-true, eqb-false, eq-eqb, ne_eqb, and_from, and_parts, or_cases, or_parts, or_from, both_ways, not_from_false, not-true, false≢true}
use Rattle.std.proofs.lemmas.List.Folds.{list_any-append}
use Rattle.std.proofs.lemmas.Map.Steps.{length-le_from_distinct_below}
use Rattle.base.specs.CyclesFrom.{IsCycleFrom}
use Rattle.base.specs.Cycles.{goes_to, go_round, is_cycle, first_router}
use Rattle.base.specs.Reach.{is_router}
use Rattle.base.specs.Lists.{all_differ}
use Rattle.base.specs.Walk.{on_far}
use Rattle.base.specs.declared.ids.LinkId.{LinkId}
use Rattle.base.specs.declared.ids.RouterId.{RouterId}
use Rattle.base.specs.declared.target.Target.{Target}
use Rattle.base.specs.declared.target.Target.TheVariants.{To}
use Rattle.base.proofs.DeltaParts.{same-router}
use Rattle.base.proofs.Loops.{target_cases}
use Rattle.base.proofs.Walks.{on_far-last}

-- ---- tests of lists

and_group : (x y z : Bool) → (x && (y && z)) ≡ ((x && y) && z)
and_group true y z = refl
and_group false y z = refl

all-append : {X : Type 0} (p : X → Bool) (xs ys : List X) → list_all p xs ≡ true → list_all p ys ≡ true → list_all p (xs ++ ys) ≡ true
all-append p [] ys h k = k
all-append p (x ∷ xs) ys h k =
    let m : (p x ≡ true) × (list_all p xs ≡ true) = and_parts (p x) (list_all p xs) h in
    and_from (p x) (list_all p (xs ++ ys)) m.0 (all-append p xs ys m.1 k)

all-mid : {X : Type 0} (p : X → Bool) (xs ys : List X) (y : X) → list_all p (xs ++ y ∷ ys) ≡ true → p y ≡ true
all-mid p [] ys y h = (and_parts (p y) (list_all p ys) h).0
all-mid p (x ∷ xs) ys y h = all-mid p xs ys y (and_parts (p x) (list_all p (xs ++ y ∷ ys)) h).1

router-turned : (x y : RouterId) → is_router x y ≡ false → is_router y x ≡ false
router-turned x y h = ne_eqb x.0 y.0 (λ e. eqb-false y.0 x.0 h (sym e))

differ-push : (rs : List RouterId) (y : RouterId) → all_differ is_router rs ≡ true → list_any (is_router y) rs ≡ false → all_differ is_router (rs ++ y ∷ []) ≡ true
differ-push [] y h n = refl
differ-push (x ∷ xs) y h n =
    let m : (not (list_any (is_router x) xs) ≡ true) × (all_differ is_router xs ≡ true) = and_parts (not (list_any (is_router x) xs)) (all_differ is_router xs) h in
    let k : (is_router y x ≡ false) × (list_any (is_router y) xs ≡ false) = or_parts (is_router y x) (list_any (is_router y) xs) n in
    let none : list_any (is_router x) (xs ++ y ∷ []) ≡ false =
    list_any-append (is_router x) xs (y ∷ []) ∙ or_from (list_any (is_router x) xs) (is_router x y || false) (not-true (list_any (is_router x) xs) m.0) (or_from (is_router x y) false (router-turned y x k.0) refl) in
    and_from (not (list_any (is_router x) (xs ++ y ∷ []))) (all_differ is_router (xs ++ y ∷ [])) (not_from_false (list_any (is_router x) (xs ++ y ∷ [])) none) (differ-push xs y m.1 k.1)

differ-mid : (rs q : List RouterId) (y : RouterId) → all_differ is_router (rs ++ y ∷ q) ≡ true → list_any (is_router y) rs ≡ false
differ-mid [] q y h = refl
differ-mid (x ∷ xs) q y h =
    let m : (not (list_any (is_router x) (xs ++ y ∷ q)) ≡ true) × (all_differ is_router (xs ++ y ∷ q) ≡ true) = and_parts (not (list_any (is_router x) (xs ++ y ∷ q))) (all_differ is_router (xs ++ y ∷ q)) h in
    let none : (list_any (is_router x) xs || (is_router x y || list_any (is_router x) q)) ≡ false = sym (list_any-append (is_router x) xs (y ∷ q)) ∙ not-true (list_any (is_router x) (xs ++ y ∷ q)) m.0 in
    let k : (list_any (is_router x) xs ≡ false) × ((is_router x y || list_any (is_router x) q) ≡ false) = or_parts (list_any (is_router x) xs) (is_router x y || list_any (is_router x) q) none in
    or_from (is_router y x) (list_any (is_router y) xs) (router-turned x y (or_parts (is_router x y) (list_any (is_router x) q) k.1).0) (differ-mid xs q y m.1)

-- ---- routers that differ and are among so many are at most so many

abbrev numbers : List RouterId → List ℕ
numbers rs = map (λ r. r.0) rs

none-same : (r : RouterId) (rs : List RouterId) → list_any (is_router r) rs ≡ false → AllByRecursion (λ y. eqb r.0 y ≡ false) (numbers rs)
none-same r [] h = tt
none-same r (x ∷ xs) h =
    let k : (is_router r x ≡ false) × (list_any (is_router r) xs ≡ false) = or_parts (is_router r x) (list_any (is_router r) xs) h in
    (router-turned r x k.0, none-same r xs k.1)

distinct : (rs : List RouterId) → all_differ is_router rs ≡ true → IsDistinct eqb (numbers rs)
unfolding IsDistinct
distinct [] h = tt
distinct (x ∷ xs) h =
    let m : (not (list_any (is_router x) xs) ≡ true) × (all_differ is_router xs ≡ true) = and_parts (not (list_any (is_router x) xs)) (all_differ is_router xs) h in
    (none-same x xs (not-true (list_any (is_router x) xs) m.0), distinct xs m.1)

below : (n : ℕ) (rs : List RouterId) (q : ℕ) → list_all (λ s. nat_lt s.0 n) rs ≡ true → list_any (eqb q) (numbers rs) ≡ true → q < n
below n [] q h k = absurd (false≢true k)
below n (x ∷ xs) q h k =
    let m : (ltb x.0 n ≡ true) × (list_all (λ s. nat_lt s.0 n) xs ≡ true) = and_parts (ltb x.0 n) (list_all (λ s. nat_lt s.0 n) xs) h in
    ⊎_elim
    (λ (e : eqb q x.0 ≡ true). let same : q ≡ x.0 = eqb-true q x.0 e in let l : x.0 < n = ltb-true x.0 n m.0 in omega arith)
    (λ (r : list_any (eqb q) (numbers xs) ≡ true). below n xs q m.1 r)
    (or_cases (eqb q x.0) (list_any (eqb q) (numbers xs)) k)

length-numbers : (rs : List RouterId) → length (numbers rs) ≡ length rs
length-numbers [] = refl
length-numbers (x ∷ xs) = ap (λ n. suc n) (length-numbers xs)

pub at_most : (n : ℕ) (rs : List RouterId) → all_differ is_router rs ≡ true → list_all (λ s. nat_lt s.0 n) rs ≡ true → length rs ≤ n
at_most n rs h k =
    let l : length (numbers rs) ≤ n = length-le_from_distinct_below (numbers rs) n (distinct rs h) (λ q m. below n rs q k m) in
    let e : length (numbers rs) ≡ length rs = length-numbers rs in
    omega arith

-- ---- what goes round, in two parts

split-round : (f : RouterId → Target) (s r x : RouterId) (rs q : List RouterId) → go_round f s (r ∷ rs ++ x ∷ q) ≡ (go_round f x (r ∷ rs) && go_round f s (x ∷ q))
split-round f s r x [] q = refl
split-round f s r x (y ∷ ys) q = ap (λ b. goes_to f r y && b) (split-round f s y x ys q) ∙ and_group (goes_to f r y) (go_round f x (y ∷ ys)) (go_round f s (x ∷ q))

goes-far : (f : RouterId → Target) (last x far : RouterId) (l : LinkId) → f last ≡ To far l → goes_to f last x ≡ true → far ≡ x
goes-far f last x far l e h = same-router far x (eqb-true far.0 x.0 (ap (λ (t : Target). on_far t false (is_router x)) (sym e) ∙ h))

goes-there : (f : RouterId → Target) (last x far : RouterId) (l : LinkId) → f last ≡ To far l → far.0 ≡ x.0 → goes_to f last x ≡ true
goes-there f last x far l e h = ap (λ (t : Target). on_far t false (is_router x)) e ∙ eq-eqb far.0 x.0 h

-- Routers from a first one on, each of which goes on to the next, that differ and stand after the first in order. Each
-- cycle from the first router begins with them.
pub record IsTrail (f : RouterId → Target) (n : ℕ) (first last : RouterId) (routers : List RouterId) : Type 0 where
  pub rest : List RouterId
  pub is : routers ≡ first ∷ rest
  pub after : list_all (λ s. nat_lt first.0 s.0) rest ≡ true
  pub differ : all_differ is_router routers ≡ true
  pub within : list_all (λ s. nat_lt s.0 n) routers ≡ true
  pub inside : last.0 < n
  pub hops : (s : RouterId) → go_round f s routers ≡ goes_to f last s
  pub whole : (rs : List RouterId) → is_cycle f rs ≡ true → first_router rs ≡ first.0 → (q : List RouterId) × (rs ≡ routers ++ q)

whole-start : (f : RouterId → Target) (first : RouterId) (rs : List RouterId) → is_cycle f rs ≡ true → first_router rs ≡ first.0 → (q : List RouterId) × (rs ≡ (first ∷ []) ++ q)
whole-start f first [] h e = absurd (false≢true h)
whole-start f first (r ∷ rest) h e = (rest, ap (λ (x : RouterId). x ∷ rest) (same-router r first e))

pub trail-start : (f : RouterId → Target) (n : ℕ) (first : RouterId) → first.0 < n → IsTrail f n first first (first ∷ [])
trail-start f n first l = record {
  rest = [];
  is = refl;
  after = refl;
  differ = refl;
  within = and_from (ltb first.0 n) true (lt-ltb first.0 n l) refl;
  inside = l;
  hops = λ s. refl;
  whole = whole-start f first;
}

-- the parts of a cycle that begins with a trail
pub cycle-parts : (f : RouterId → Target) (first : RouterId) (rest : List RouterId) → is_cycle f (first ∷ rest) ≡ true → (list_all (λ s. nat_lt first.0 s.0) rest ≡ true) × (all_differ is_router (first ∷ rest) ≡ true) × (go_round f first (first ∷ rest) ≡ true)
cycle-parts f first rest h =
    let m : ((list_all (λ s. nat_lt first.0 s.0) rest && all_differ is_router (first ∷ rest)) ≡ true) × (go_round f first (first ∷ rest) ≡ true) = and_parts (list_all (λ s. nat_lt first.0 s.0) rest && all_differ is_router (first ∷ rest)) (go_round f first (first ∷ rest)) h in
    let k : (list_all (λ s. nat_lt first.0 s.0) rest ≡ true) × (all_differ is_router (first ∷ rest) ≡ true) = and_parts (list_all (λ s. nat_lt first.0 s.0) rest) (all_differ is_router (first ∷ rest)) m.0 in
    (k.0, k.1, m.1)

-- a trail that is a whole cycle goes back to its first router
ends-back : (f : RouterId → Target) (n : ℕ) (first last : RouterId) (routers : List RouterId) → IsTrail f n first last routers → is_cycle f (routers ++ []) ≡ true → goes_to f last first ≡ true
ends-back f n first last routers h e =
    let P : List RouterId → Type 0 = λ rs. is_cycle f rs ≡ true in
    let cycle : is_cycle f (first ∷ h.rest) ≡ true = subst P (append-nil routers ∙ h.is) e in
    sym (h.hops first) ∙ ap (λ (rs : List RouterId). go_round f first rs) h.is ∙ (cycle-parts f first h.rest cycle).2

-- a cycle that is longer than a trail goes on to a router that stands after the first and isn't on the trail
goes-on : (f : RouterId → Target) (n : ℕ) (first last x : RouterId) (routers q : List RouterId) → IsTrail f n first last routers → is_cycle f (routers ++ x ∷ q) ≡ true → (goes_to f last x ≡ true) × (first.0 < x.0) × (list_any (is_router x) routers ≡ false)
goes-on f n first last x routers q h e =
    let P : List RouterId → Type 0 = λ rs. is_cycle f (rs ++ x ∷ q) ≡ true in
    let Q : List RouterId → Type 0 = λ rs. list_any (is_router x) rs ≡ false in
    let parts : (list_all (λ s. nat_lt first.0 s.0) (h.rest ++ x ∷ q) ≡ true) × (all_differ is_router (first ∷ h.rest ++ x ∷ q) ≡ true) × (go_round f first (first ∷ h.rest ++ x ∷ q) ≡ true) = cycle-parts f first (h.rest ++ x ∷ q) (subst P h.is e) in
    let both : (go_round f x (first ∷ h.rest) && go_round f first (x ∷ q)) ≡ true = sym (split-round f first first x h.rest q) ∙ parts.2 in (
      sym (h.hops x) ∙ ap (λ (rs : List RouterId). go_round f x rs) h.is ∙ (and_parts (go_round f x (first ∷ h.rest)) (go_round f first (x ∷ q)) both).0,
      ltb-true first.0 x.0 (all-mid (λ s. nat_lt first.0 s.0) h.rest q x parts.0),
      subst Q (sym h.is) (differ-mid (first ∷ h.rest) q x parts.1),
    )

-- a cycle is the trail, or goes on from it
abbrev GoesOnFrom : (RouterId → Target) → RouterId → RouterId → List RouterId → List RouterId → Type 0
GoesOnFrom f first last routers rs = (x : RouterId) × (q : List RouterId) × (rs ≡ routers ++ x ∷ q) × (goes_to f last x ≡ true) × (first.0 < x.0) × (list_any (is_router x) routers ≡ false)

cases-from : (f : RouterId → Target) (n : ℕ) (first last : RouterId) (routers rs q : List RouterId) → IsTrail f n first last routers → is_cycle f rs ≡ true → rs ≡ routers ++ q → (goes_to f last first ≡ true) ⊎ GoesOnFrom f first last routers rs
cases-from f n first last routers rs [] h c e = let P : List RouterId → Type 0 = λ x. is_cycle f x ≡ true in inl (ends-back f n first last routers h (subst P e c))
cases-from f n first last routers rs (x ∷ q) h c e =
    let P : List RouterId → Type 0 = λ v. is_cycle f v ≡ true in
    let on : (goes_to f last x ≡ true) × (first.0 < x.0) × (list_any (is_router x) routers ≡ false) = goes-on f n first last x routers q h (subst P e c) in
    inr (x, q, e, on.0, on.1, on.2)

cases-of : (f : RouterId → Target) (n : ℕ) (first last : RouterId) (routers rs : List RouterId) → IsTrail f n first last routers → is_cycle f rs ≡ true → first_router rs ≡ first.0 → (goes_to f last first ≡ true) ⊎ GoesOnFrom f first last routers rs
cases-of f n first last routers rs h c e = cases-from f n first last routers rs (h.whole rs c e).0 h c (h.whole rs c e).1

-- ---- the ends of the search

-- the last router goes on to none
pub none-last : (f : RouterId → Target) (n : ℕ) (first last : RouterId) (routers : List RouterId) → IsTrail f n first last routers → ((s : RouterId) (l : LinkId) → f last ≡ To s l → ⊥) → IsCycleFrom f first None
none-last f n first last routers h stays = λ rs c e.
    let still : (x : RouterId) → goes_to f last x ≡ false = λ x. on_far-last (f last) false (is_router x) stays in
    ⊎_elim
    (λ (back : goes_to f last first ≡ true). both_ways (goes_to f last first) (still first) back)
    (λ (on : GoesOnFrom f first last routers rs). both_ways (goes_to f last on.0) (still on.0) on.3)
    (cases-of f n first last routers rs h c e)

-- it goes on to a router before the first, or to one on the trail
pub none-other : (f : RouterId → Target) (n : ℕ) (first last far : RouterId) (l : LinkId) (routers : List RouterId) → IsTrail f n first last routers → f last ≡ To far l → (far.0 ≡ first.0 → ⊥) → (nat_lt first.0 far.0 && not (list_any (is_router far) routers)) ≡ false → IsCycleFrom f first None
none-other f n first last far l routers h to other ne = λ rs c e. ⊎_elim
    (λ (back : goes_to f last first ≡ true). other (ap (λ (x : RouterId). x.0) (goes-far f last first far l to back)))
    (λ (on : GoesOnFrom f first last routers rs).
    let same : far ≡ on.0 = goes-far f last on.0 far l to on.3 in
    let P : RouterId → Type 0 = λ x. (nat_lt first.0 x.0 && not (list_any (is_router x) routers)) ≡ false in
    both_ways (nat_lt first.0 on.0.0 && not (list_any (is_router on.0) routers)) (subst P same ne)
    (and_from (nat_lt first.0 on.0.0) (not (list_any (is_router on.0) routers)) (lt-ltb first.0 on.0.0 on.4) (not_from_false (list_any (is_router on.0) routers) on.5)))
    (cases-of f n first last routers rs h c e)

-- it goes back to the first
pub found-back : (f : RouterId → Target) (n : ℕ) (first last far : RouterId) (l : LinkId) (routers : List RouterId) → IsTrail f n first last routers → f last ≡ To far l → far.0 ≡ first.0 → IsCycleFrom f first (Some routers)
found-back f n first last far l routers h to back =
    let P : List RouterId → Type 0 = λ rs. (is_cycle f rs ≡ true) × (first_router rs ≡ first.0) in
    let Q : List RouterId → Type 0 = λ rs. all_differ is_router rs ≡ true in
    let round : go_round f first (first ∷ h.rest) ≡ true = ap (λ (rs : List RouterId). go_round f first rs) (sym h.is) ∙ h.hops first ∙ goes-there f last first far l to back in
    subst P (sym h.is) (
      and_from (list_all (λ s. nat_lt first.0 s.0) h.rest && all_differ is_router (first ∷ h.rest)) (go_round f first (first ∷ h.rest))
          (and_from (list_all (λ s. nat_lt first.0 s.0) h.rest) (all_differ is_router (first ∷ h.rest)) h.after (subst Q h.is h.differ)) round,
      refl,
    )

-- it goes on to a new router after the first
pub trail-next : (f : RouterId → Target) (n : ℕ) (first last far : RouterId) (l : LinkId) (routers : List RouterId) → IsTrail f n first last routers → f last ≡ To far l → (far.0 ≡ first.0 → ⊥) → far.0 < n → (nat_lt first.0 far.0 && not (list_any (is_router far) routers)) ≡ true → IsTrail f n first far (routers ++ far ∷ [])
trail-next f n first last far l routers h to other below new =
    let m : (nat_lt first.0 far.0 ≡ true) × (not (list_any (is_router far) routers) ≡ true) = and_parts (nat_lt first.0 far.0) (not (list_any (is_router far) routers)) new in
    let R : List RouterId → Type 0 = λ rs. (s : RouterId) → go_round f s (rs ++ far ∷ []) ≡ goes_to f far s in
    let there : go_round f far (first ∷ h.rest) ≡ true = ap (λ (rs : List RouterId). go_round f far rs) (sym h.is) ∙ h.hops far ∙ goes-there f last far far l to refl in
    record {
      rest = h.rest ++ far ∷ [];
      is = ap (λ (rs : List RouterId). rs ++ far ∷ []) h.is;
      after = all-append (λ s. nat_lt first.0 s.0) h.rest (far ∷ []) h.after (and_from (nat_lt first.0 far.0) true m.0 refl);
      differ = differ-push routers far h.differ (not-true (list_any (is_router far) routers) m.1);
      within = all-append (λ s. nat_lt s.0 n) routers (far ∷ []) h.within (and_from (nat_lt far.0 n) true (lt-ltb far.0 n below) refl);
      inside = below;
      hops = subst R (sym h.is) (λ s. split-round f s first far h.rest [] ∙ ap (λ b. b && goes_to f far s) there);
      whole = λ rs c e. ⊎_elim
          (λ (back : goes_to f last first ≡ true). absurd (other (ap (λ (x : RouterId). x.0) (goes-far f last first far l to back))))
          (λ (on : GoesOnFrom f first last routers rs).
          let same : far ≡ on.0 = goes-far f last on.0 far l to on.3 in
          (on.1, on.2 ∙ ap (λ (x : RouterId). routers ++ x ∷ on.1) (sym same) ∙ sym (append_assoc routers (far ∷ []) on.1)))
          (cases-of f n first last routers rs h c e);
    }

-- there are no more routers than there are
pub none-left : (f : RouterId → Target) (n : ℕ) (first last : RouterId) (routers : List RouterId) → IsTrail f n first last routers → length routers ≡ n + 1 → ⊥
none-left f n first last routers h e =
    let l : length routers ≤ n = at_most n routers h.differ h.within in
    omega arith

-- ---- an address goes round one cycle from a router

one-next : (f : RouterId → Target) (r x y : RouterId) → goes_to f r x ≡ true → goes_to f r y ≡ true → x.0 ≡ y.0
one-next f r x y h k = ⊎_elim
    (λ (far : (s : RouterId) × (l : LinkId) × (f r ≡ To s l)).
    ap (λ (v : RouterId). v.0) (sym (goes-far f r x far.0 far.1 far.2 h) ∙ goes-far f r y far.0 far.1 far.2 k))
    (λ (last : (s : RouterId) (l : LinkId) → f r ≡ To s l → ⊥). absurd (both_ways (goes_to f r x) (on_far-last (f r) false (is_router x) last) h))
    (target_cases (f r))

one-tail : (f : RouterId → Target) (first r : RouterId) (xs ys : List RouterId) → list_all (λ s. nat_lt first.0 s.0) xs ≡ true → list_all (λ s. nat_lt first.0 s.0) ys ≡ true → go_round f first (r ∷ xs) ≡ true → go_round f first (r ∷ ys) ≡ true → xs ≡ ys
one-tail f first r [] [] a b h k = refl
one-tail f first r [] (y ∷ ys) a b h k =
    let m : (goes_to f r y ≡ true) × (go_round f first (y ∷ ys) ≡ true) = and_parts (goes_to f r y) (go_round f first (y ∷ ys)) k in
    let l : first.0 < y.0 = ltb-true first.0 y.0 (and_parts (nat_lt first.0 y.0) (list_all (λ s. nat_lt first.0 s.0) ys) b).0 in
    let e : first.0 ≡ y.0 = one-next f r first y h m.0 in
    absurd (omega arith)
one-tail f first r (x ∷ xs) [] a b h k =
    let m : (goes_to f r x ≡ true) × (go_round f first (x ∷ xs) ≡ true) = and_parts (goes_to f r x) (go_round f first (x ∷ xs)) h in
    let l : first.0 < x.0 = ltb-true first.0 x.0 (and_parts (nat_lt first.0 x.0) (list_all (λ s. nat_lt first.0 s.0) xs) a).0 in
    let e : first.0 ≡ x.0 = one-next f r first x k m.0 in
    absurd (omega arith)
one-tail f first r (x ∷ xs) (y ∷ ys) a b h k =
    let m : (goes_to f r x ≡ true) × (go_round f first (x ∷ xs) ≡ true) = and_parts (goes_to f r x) (go_round f first (x ∷ xs)) h in
    let n : (goes_to f r y ≡ true) × (go_round f first (y ∷ ys) ≡ true) = and_parts (goes_to f r y) (go_round f first (y ∷ ys)) k in
    let same : x ≡ y = same-router x y (one-next f r x y m.0 n.0) in
    let P : RouterId → Type 0 = λ v. go_round f first (v ∷ ys) ≡ true in
    let rest : xs ≡ ys = one-tail f first x xs ys (and_parts (nat_lt first.0 x.0) (list_all (λ s. nat_lt first.0 s.0) xs) a).1 (and_parts (nat_lt first.0 y.0) (list_all (λ s. nat_lt first.0 s.0) ys) b).1 m.1 (subst P (sym same) n.1) in
    ap (λ (v : RouterId). v ∷ xs) same ∙ ap (λ (vs : List RouterId). y ∷ vs) rest

pub one-cycle : (f : RouterId → Target) (xs ys : List RouterId) → is_cycle f xs ≡ true → is_cycle f ys ≡ true → first_router xs ≡ first_router ys → xs ≡ ys
one-cycle f [] ys h k e = absurd (false≢true h)
one-cycle f (x ∷ xs) [] h k e = absurd (false≢true k)
one-cycle f (x ∷ xs) (y ∷ ys) h k e =
    let same : x ≡ y = same-router x y e in
    let P : RouterId → Type 0 = λ v. is_cycle f (v ∷ ys) ≡ true in
    let a = cycle-parts f x xs h in
    let b = cycle-parts f x ys (subst P (sym same) k) in
    ap (λ (v : RouterId). v ∷ xs) same ∙ ap (λ (vs : List RouterId). y ∷ vs) (one-tail f x x xs ys a.0 b.0 a.2 b.2)
