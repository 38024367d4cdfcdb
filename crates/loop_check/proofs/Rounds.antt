-- Routers that go round: what cycles that share a router have in common, and a cycle from another of its routers on.
use Rattle.std.proofs.Common.{◌≡◌, ℕ, ◌+◌, ◌<◌, ◌≤◌, ◌⊎◌, ◌∙◌, Bool, true, false, not, ◌&&◌, nat_lt, List, [], ◌∷◌, ◌++◌, length, refl, ap, sym, subst, inl, inr, ⊎_elim, arith}
use Rattle.std.specs.List.{list_all}
use Rattle.std.proofs.lemmas.Bool.{cases_Bool, ltb-true, lt-ltb, eqb-true, eq-eqb, and_from, and_parts, or_cases, or_left, or_right, both_ways, not_from_false, false≢true}
use Rattle.std.proofs.lemmas.List.{length-append}
use Rattle.base.specs.Cycles.{goes_to, go_round, is_cycle}
use Rattle.base.specs.Reach.{is_router}
use Rattle.base.specs.Lists.{all_differ}
use Rattle.base.specs.Walk.{on_far}
use Rattle.base.specs.declared.ids.LinkId.{LinkId}
use Rattle.base.specs.declared.ids.RouterId.{RouterId}
use Rattle.base.specs.declared.target.Target.{Target}
use Rattle.base.specs.declared.target.Target.TheVariants.{To}
use Rattle.base.proofs.CycleFrom.{at_most, cycle-parts, one-cycle}
use Rattle.base.proofs.DeltaParts.{same-router}
use Rattle.base.proofs.Loops.{target_cases}
use Rattle.base.proofs.Walks.{on_far-last}
use Rattle.loop_check.specs.Following.{is_among}

-- ---- one hop

pub goes-far : (f : RouterId → Target) (last x far : RouterId) (l : LinkId) → f last ≡ To far l → goes_to f last x ≡ true → far ≡ x
goes-far f last x far l e h = same-router far x (eqb-true far.0 x.0 (ap (λ (t : Target). on_far t false (is_router x)) (sym e) ∙ h))

pub goes-there : (f : RouterId → Target) (last x far : RouterId) (l : LinkId) → f last ≡ To far l → far.0 ≡ x.0 → goes_to f last x ≡ true
goes-there f last x far l e h = ap (λ (t : Target). on_far t false (is_router x)) e ∙ eq-eqb far.0 x.0 h

pub goes-nowhere : (f : RouterId → Target) (r x : RouterId) → ((s : RouterId) (l : LinkId) → f r ≡ To s l → ⊥) → goes_to f r x ≡ false
goes-nowhere f r x last = on_far-last (f r) false (is_router x) last

one-next : (f : RouterId → Target) (r x y : RouterId) → goes_to f r x ≡ true → goes_to f r y ≡ true → x ≡ y
one-next f r x y h k = ⊎_elim
    (λ (far : (s : RouterId) × (l : LinkId) × (f r ≡ To s l)). sym (goes-far f r x far.0 far.1 far.2 h) ∙ goes-far f r y far.0 far.1 far.2 k)
    (λ (last : (s : RouterId) (l : LinkId) → f r ≡ To s l → ⊥). absurd (both_ways (goes_to f r x) (goes-nowhere f r x last) h))
    (target_cases (f r))

-- ---- a router among others

pub among-head : (x r : RouterId) (rest : List RouterId) → r ≡ x → is_among (r ∷ rest) x ≡ true
among-head x r rest e = or_left (is_router x r) (is_among rest x) (eq-eqb r.0 x.0 (ap (λ (v : RouterId). v.0) e))

among-cases : (x r : RouterId) (rest : List RouterId) → is_among (r ∷ rest) x ≡ true → (r ≡ x) ⊎ (is_among rest x ≡ true)
among-cases x r rest m = ⊎_elim
    (λ (h : is_router x r ≡ true). inl (same-router r x (eqb-true r.0 x.0 h)))
    (λ (h : is_among rest x ≡ true). inr h)
    (or_cases (is_router x r) (is_among rest x) m)

among-split : (x : RouterId) (rs : List RouterId) → is_among rs x ≡ true → (a : List RouterId) × (b : List RouterId) × (rs ≡ a ++ x ∷ b)
among-split x [] m = absurd (false≢true m)
among-split x (r ∷ rest) m = ⊎_elim
    (λ (e : r ≡ x). ([], rest, ap (λ (v : RouterId). v ∷ rest) e))
    (λ (h : is_among rest x ≡ true).
    let s : (a : List RouterId) × (b : List RouterId) × (rest ≡ a ++ x ∷ b) = among-split x rest h in
    (r ∷ s.0, s.1, ap (λ (v : List RouterId). r ∷ v) s.2))
    (among-cases x r rest m)

all-among : (n : ℕ) (x : RouterId) (rs : List RouterId) → list_all (λ s. nat_lt n s.0) rs ≡ true → is_among rs x ≡ true → n < x.0
all-among n x [] h m = absurd (false≢true m)
all-among n x (r ∷ rest) h m =
    let p : (nat_lt n r.0 ≡ true) × (list_all (λ s. nat_lt n s.0) rest ≡ true) = and_parts (nat_lt n r.0) (list_all (λ s. nat_lt n s.0) rest) h in
    ⊎_elim
    (λ (e : r ≡ x). let P : RouterId → Type 0 = λ v. n < v.0 in subst P e (ltb-true n r.0 p.0))
    (λ (k : is_among rest x ≡ true). all-among n x rest p.1 k)
    (among-cases x r rest m)

-- ---- a hop from a router of a cycle

step-in : (f : RouterId → Target) (s x y : RouterId) (rs : List RouterId) → go_round f s rs ≡ true → is_among rs x ≡ true → goes_to f x y ≡ true → (is_among rs y ≡ true) ⊎ (s ≡ y)
step-in f s x y [] h m g = absurd (false≢true h)
step-in f s x y (r ∷ []) h m g =
    let P : RouterId → Type 0 = λ v. goes_to f v y ≡ true in
    ⊎_elim
    (λ (e : r ≡ x). inr (one-next f r s y h (subst P (sym e) g)))
    (λ (k : false ≡ true). absurd (false≢true k))
    (among-cases x r [] m)
step-in f s x y (r ∷ q ∷ rest) h m g =
    let p : (goes_to f r q ≡ true) × (go_round f s (q ∷ rest) ≡ true) = and_parts (goes_to f r q) (go_round f s (q ∷ rest)) h in
    let P : RouterId → Type 0 = λ v. goes_to f v y ≡ true in
    ⊎_elim
    (λ (e : r ≡ x). inl (or_right (is_router y r) (is_among (q ∷ rest) y) (among-head y q rest (one-next f r q y p.0 (subst P (sym e) g)))))
    (λ (k : is_among (q ∷ rest) x ≡ true). ⊎_elim
    (λ (j : is_among (q ∷ rest) y ≡ true). inl (or_right (is_router y r) (is_among (q ∷ rest) y) j))
    (λ (j : s ≡ y). inr j)
    (step-in f s x y (q ∷ rest) p.1 k g))
    (among-cases x r (q ∷ rest) m)

-- a cycle has the router that one of its routers goes on to
pub step : (f : RouterId → Target) (rs : List RouterId) (x y : RouterId) → is_cycle f rs ≡ true → is_among rs x ≡ true → goes_to f x y ≡ true → is_among rs y ≡ true
step f [] x y c m g = absurd (false≢true c)
step f (s ∷ t) x y c m g = ⊎_elim
    (λ (j : is_among (s ∷ t) y ≡ true). j)
    (λ (e : s ≡ y). among-head y s t e)
    (step-in f s x y (s ∷ t) (cycle-parts f s t c).2 m g)

goes-in : (f : RouterId → Target) (s x : RouterId) (rs : List RouterId) → go_round f s rs ≡ true → is_among rs x ≡ true → (y : RouterId) × (goes_to f x y ≡ true)
goes-in f s x [] h m = absurd (false≢true h)
goes-in f s x (r ∷ []) h m =
    let P : RouterId → Type 0 = λ v. goes_to f v s ≡ true in
    ⊎_elim
    (λ (e : r ≡ x). (s, subst P e h))
    (λ (k : false ≡ true). absurd (false≢true k))
    (among-cases x r [] m)
goes-in f s x (r ∷ q ∷ rest) h m =
    let p : (goes_to f r q ≡ true) × (go_round f s (q ∷ rest) ≡ true) = and_parts (goes_to f r q) (go_round f s (q ∷ rest)) h in
    let P : RouterId → Type 0 = λ v. goes_to f v q ≡ true in
    ⊎_elim
    (λ (e : r ≡ x). (q, subst P e p.0))
    (λ (k : is_among (q ∷ rest) x ≡ true). goes-in f s x (q ∷ rest) p.1 k)
    (among-cases x r (q ∷ rest) m)

-- each router of a cycle goes on to one
pub goes-on : (f : RouterId → Target) (rs : List RouterId) (x : RouterId) → is_cycle f rs ≡ true → is_among rs x ≡ true → (y : RouterId) × (goes_to f x y ≡ true)
goes-on f [] x c m = absurd (false≢true c)
goes-on f (s ∷ t) x c m = goes-in f s x (s ∷ t) (cycle-parts f s t c).2 m

-- a router that goes on to none is in no cycle
pub in-none : (f : RouterId → Target) (x : RouterId) → ((s : RouterId) (l : LinkId) → f x ≡ To s l → ⊥) → (rs : List RouterId) → is_cycle f rs ≡ true → is_among rs x ≡ true → ⊥
in-none f x last rs c m =
    let on : (y : RouterId) × (goes_to f x y ≡ true) = goes-on f rs x c m in
    both_ways (goes_to f x on.0) (goes-nowhere f x on.0 last) on.1

-- ---- cycles that share a router

-- what holds of a router on the way, and of the next one with each, holds of the one that is come back to
closed-in : (f : RouterId → Target) (Q : RouterId → Type 0) → ((x y : RouterId) → Q x → goes_to f x y ≡ true → Q y) → (s x : RouterId) (rs : List RouterId) → go_round f s rs ≡ true → is_among rs x ≡ true → Q x → Q s
closed-in f Q on s x [] h m q = absurd (false≢true h)
closed-in f Q on s x (r ∷ []) h m q = ⊎_elim
    (λ (e : r ≡ x). on r s (subst Q (sym e) q) h)
    (λ (k : false ≡ true). absurd (false≢true k))
    (among-cases x r [] m)
closed-in f Q on s x (r ∷ y ∷ rest) h m q =
    let p : (goes_to f r y ≡ true) × (go_round f s (y ∷ rest) ≡ true) = and_parts (goes_to f r y) (go_round f s (y ∷ rest)) h in
    ⊎_elim
    (λ (e : r ≡ x). closed-in f Q on s y (y ∷ rest) p.1 (among-head y y rest refl) (on r y (subst Q (sym e) q) p.0))
    (λ (k : is_among (y ∷ rest) x ≡ true). closed-in f Q on s x (y ∷ rest) p.1 k q)
    (among-cases x r (y ∷ rest) m)

first-in : (f : RouterId → Target) (xs t : List RouterId) (s r : RouterId) → is_cycle f xs ≡ true → is_cycle f (s ∷ t) ≡ true → is_among xs r ≡ true → is_among (s ∷ t) r ≡ true → is_among xs s ≡ true
first-in f xs t s r c k m n = closed-in f (λ y. is_among xs y ≡ true) (λ x y i g. step f xs x y c i g) s r (s ∷ t) (cycle-parts f s t k).2 n m

least-first : (f : RouterId → Target) (r : RouterId) (rest : List RouterId) (s : RouterId) → is_cycle f (r ∷ rest) ≡ true → is_among (r ∷ rest) s ≡ true → r.0 ≤ s.0
least-first f r rest s c m = ⊎_elim
    (λ (e : r ≡ s). let k : r.0 ≡ s.0 = ap (λ (v : RouterId). v.0) e in omega arith)
    (λ (h : is_among rest s ≡ true). let k : r.0 < s.0 = all-among r.0 s rest (cycle-parts f r rest c).0 h in omega arith)
    (among-cases s r rest m)

-- a router is in one cycle at most
pub one-shared : (f : RouterId → Target) (xs ys : List RouterId) (r : RouterId) → is_cycle f xs ≡ true → is_cycle f ys ≡ true → is_among xs r ≡ true → is_among ys r ≡ true → xs ≡ ys
one-shared f [] ys r c k m n = absurd (false≢true c)
one-shared f (x ∷ xs) [] r c k m n = absurd (false≢true k)
one-shared f (x ∷ xs) (y ∷ ys) r c k m n =
    let a : x.0 ≤ y.0 = least-first f x xs y c (first-in f (x ∷ xs) ys y r c k m n) in
    let b : y.0 ≤ x.0 = least-first f y ys x k (first-in f (y ∷ ys) xs x r k c n m) in
    one-cycle f (x ∷ xs) (y ∷ ys) c k (omega arith)

-- the first router of a cycle is in it
pub first-among : (f : RouterId → Target) (rs : List RouterId) → is_cycle f rs ≡ true → (r : RouterId) × (is_among rs r ≡ true)
first-among f [] c = absurd (false≢true c)
first-among f (r ∷ rest) c = (r, among-head r r rest refl)

-- ---- ways in two parts

and_group : (x y z : Bool) → (x && (y && z)) ≡ ((x && y) && z)
and_group true y z = refl
and_group false y z = refl

pub split-round : (f : RouterId → Target) (s r x : RouterId) (rs q : List RouterId) → go_round f s (r ∷ rs ++ x ∷ q) ≡ (go_round f x (r ∷ rs) && go_round f s (x ∷ q))
split-round f s r x [] q = refl
split-round f s r x (y ∷ ys) q = ap (λ b. goes_to f r y && b) (split-round f s y x ys q) ∙ and_group (goes_to f r y) (go_round f x (y ∷ ys)) (go_round f s (x ∷ q))

length-split : (a b : List RouterId) (x : RouterId) → length (a ++ x ∷ b) ≡ length a + length b + 1
length-split a b x = let e : length (a ++ x ∷ b) ≡ length a + length (x ∷ b) = length-append a (x ∷ b) in omega arith

-- a cycle from another of its routers on
pub rotated : (f : RouterId → Target) (rs : List RouterId) (r : RouterId) → is_cycle f rs ≡ true → is_among rs r ≡ true → (rest : List RouterId) × (go_round f r (r ∷ rest) ≡ true) × (length rest + 1 ≡ length rs)
rotated f [] r c m = absurd (false≢true c)
rotated f (s ∷ t) r c m =
    let round : go_round f s (s ∷ t) ≡ true = (cycle-parts f s t c).2 in
    let P : RouterId → Type 0 = λ v. go_round f v (v ∷ t) ≡ true in
    ⊎_elim
    (λ (e : s ≡ r). (t, subst P e round, (omega arith)))
    (λ (k : is_among t r ≡ true).
    let d : (a : List RouterId) × (b : List RouterId) × (t ≡ a ++ r ∷ b) = among-split r t k in
    let whole : go_round f s (s ∷ d.0 ++ r ∷ d.1) ≡ true = ap (λ (v : List RouterId). go_round f s (s ∷ v)) (sym d.2) ∙ round in
    let both : (go_round f r (s ∷ d.0) ≡ true) × (go_round f s (r ∷ d.1) ≡ true) = and_parts (go_round f r (s ∷ d.0)) (go_round f s (r ∷ d.1)) (sym (split-round f s s r d.0 d.1) ∙ whole) in
    let turned : go_round f r (r ∷ d.1 ++ s ∷ d.0) ≡ true = split-round f r r s d.1 d.0 ∙ and_from (go_round f s (r ∷ d.1)) (go_round f r (s ∷ d.0)) both.1 both.0 in
    let n : length t ≡ length (d.0 ++ r ∷ d.1) = ap (λ (v : List RouterId). length v) d.2 in
    let n1 : length (d.0 ++ r ∷ d.1) ≡ length d.0 + length d.1 + 1 = length-split d.0 d.1 r in
    let n2 : length (d.1 ++ s ∷ d.0) ≡ length d.1 + length d.0 + 1 = length-split d.1 d.0 s in
    (d.1 ++ s ∷ d.0, turned, (omega arith)))
    (among-cases r s t m)

-- ---- routers on a way back that stand after the first differ

all-rest : (n : ℕ) (a b : List RouterId) (x : RouterId) → list_all (λ s. nat_lt n s.0) (a ++ x ∷ b) ≡ true → list_all (λ s. nat_lt n s.0) b ≡ true
all-rest n [] b x h = (and_parts (nat_lt n x.0) (list_all (λ s. nat_lt n s.0) b) h).1
all-rest n (y ∷ a) b x h = all-rest n a b x (and_parts (nat_lt n y.0) (list_all (λ s. nat_lt n s.0) (a ++ x ∷ b)) h).1

one-tail : (f : RouterId → Target) (first r : RouterId) (xs ys : List RouterId) → list_all (λ s. nat_lt first.0 s.0) xs ≡ true → list_all (λ s. nat_lt first.0 s.0) ys ≡ true → go_round f first (r ∷ xs) ≡ true → go_round f first (r ∷ ys) ≡ true → length xs ≡ length ys
one-tail f first r [] [] a b h k = refl
one-tail f first r [] (y ∷ ys) a b h k =
    let m : (goes_to f r y ≡ true) × (go_round f first (y ∷ ys) ≡ true) = and_parts (goes_to f r y) (go_round f first (y ∷ ys)) k in
    let l : first.0 < y.0 = ltb-true first.0 y.0 (and_parts (nat_lt first.0 y.0) (list_all (λ s. nat_lt first.0 s.0) ys) b).0 in
    let e : first.0 ≡ y.0 = ap (λ (v : RouterId). v.0) (one-next f r first y h m.0) in
    absurd (omega arith)
one-tail f first r (x ∷ xs) [] a b h k =
    let m : (goes_to f r x ≡ true) × (go_round f first (x ∷ xs) ≡ true) = and_parts (goes_to f r x) (go_round f first (x ∷ xs)) h in
    let l : first.0 < x.0 = ltb-true first.0 x.0 (and_parts (nat_lt first.0 x.0) (list_all (λ s. nat_lt first.0 s.0) xs) a).0 in
    let e : first.0 ≡ x.0 = ap (λ (v : RouterId). v.0) (one-next f r first x k m.0) in
    absurd (omega arith)
one-tail f first r (x ∷ xs) (y ∷ ys) a b h k =
    let m : (goes_to f r x ≡ true) × (go_round f first (x ∷ xs) ≡ true) = and_parts (goes_to f r x) (go_round f first (x ∷ xs)) h in
    let n : (goes_to f r y ≡ true) × (go_round f first (y ∷ ys) ≡ true) = and_parts (goes_to f r y) (go_round f first (y ∷ ys)) k in
    let same : x ≡ y = one-next f r x y m.0 n.0 in
    let P : RouterId → Type 0 = λ v. go_round f first (v ∷ ys) ≡ true in
    let rest : length xs ≡ length ys = one-tail f first x xs ys (and_parts (nat_lt first.0 x.0) (list_all (λ s. nat_lt first.0 s.0) xs) a).1 (and_parts (nat_lt first.0 y.0) (list_all (λ s. nat_lt first.0 s.0) ys) b).1 m.1 (subst P (sym same) n.1) in
    omega arith

head-new : (f : RouterId → Target) (first r : RouterId) (rest : List RouterId) → list_all (λ s. nat_lt first.0 s.0) rest ≡ true → go_round f first (r ∷ rest) ≡ true → is_among rest r ≡ false
head-new f first r rest after round = ⊎_elim
    (λ (m : is_among rest r ≡ true).
    let d : (a : List RouterId) × (b : List RouterId) × (rest ≡ a ++ r ∷ b) = among-split r rest m in
    let P : List RouterId → Type 0 = λ v. list_all (λ s. nat_lt first.0 s.0) v ≡ true in
    let whole : go_round f first (r ∷ d.0 ++ r ∷ d.1) ≡ true = ap (λ (v : List RouterId). go_round f first (r ∷ v)) (sym d.2) ∙ round in
    let later : go_round f first (r ∷ d.1) ≡ true = (and_parts (go_round f r (r ∷ d.0)) (go_round f first (r ∷ d.1)) (sym (split-round f first r r d.0 d.1) ∙ whole)).1 in
    let same : length rest ≡ length d.1 = one-tail f first r rest d.1 after (all-rest first.0 d.0 d.1 r (subst P d.2 after)) round later in
    let n : length rest ≡ length (d.0 ++ r ∷ d.1) = ap (λ (v : List RouterId). length v) d.2 in
    let n1 : length (d.0 ++ r ∷ d.1) ≡ length d.0 + length d.1 + 1 = length-split d.0 d.1 r in
    absurd (omega arith))
    (λ (m : is_among rest r ≡ false). m)
    (cases_Bool (is_among rest r))

pub differs : (f : RouterId → Target) (first r : RouterId) (rest : List RouterId) → list_all (λ s. nat_lt first.0 s.0) rest ≡ true → go_round f first (r ∷ rest) ≡ true → all_differ is_router (r ∷ rest) ≡ true
differs f first r [] after round = refl
differs f first r (y ∷ ys) after round =
    and_from (not (is_among (y ∷ ys) r)) (all_differ is_router (y ∷ ys)) (not_from_false (is_among (y ∷ ys) r) (head-new f first r (y ∷ ys) after round))
    (differs f first y ys (and_parts (nat_lt first.0 y.0) (list_all (λ s. nat_lt first.0 s.0) ys) after).1 (and_parts (goes_to f r y) (go_round f first (y ∷ ys)) round).1)

-- ---- ways that go on from router to router

abbrev pub linked : (RouterId → Target) → List RouterId → Bool
linked f [] = true
linked f (r ∷ []) = true
linked f (r ∷ s ∷ rest) = goes_to f r s && linked f (s ∷ rest)

and-true : (b : Bool) → (b && true) ≡ b
and-true true = refl
and-true false = refl

pub linked-push : (f : RouterId → Target) (x r : RouterId) (rest : List RouterId) → linked f (r ∷ rest ++ x ∷ []) ≡ go_round f x (r ∷ rest)
linked-push f x r [] = and-true (goes_to f r x)
linked-push f x r (y ∷ ys) = ap (λ b. goes_to f r y && b) (linked-push f x y ys)

-- a way whose later routers stand after the first is no longer than one that comes back to the first
pub no-longer : (f : RouterId → Target) (first r : RouterId) (xs ys : List RouterId) → list_all (λ s. nat_lt first.0 s.0) xs ≡ true → linked f (r ∷ xs) ≡ true → go_round f first (r ∷ ys) ≡ true → length xs ≤ length ys
no-longer f first r [] ys a h k = omega arith
no-longer f first r (x ∷ xs) [] a h k =
    let m : (goes_to f r x ≡ true) × (linked f (x ∷ xs) ≡ true) = and_parts (goes_to f r x) (linked f (x ∷ xs)) h in
    let l : first.0 < x.0 = ltb-true first.0 x.0 (and_parts (nat_lt first.0 x.0) (list_all (λ s. nat_lt first.0 s.0) xs) a).0 in
    let e : first.0 ≡ x.0 = ap (λ (v : RouterId). v.0) (one-next f r first x k m.0) in
    absurd (omega arith)
no-longer f first r (x ∷ xs) (y ∷ ys) a h k =
    let m : (goes_to f r x ≡ true) × (linked f (x ∷ xs) ≡ true) = and_parts (goes_to f r x) (linked f (x ∷ xs)) h in
    let n : (goes_to f r y ≡ true) × (go_round f first (y ∷ ys) ≡ true) = and_parts (goes_to f r y) (go_round f first (y ∷ ys)) k in
    let P : RouterId → Type 0 = λ v. go_round f first (v ∷ ys) ≡ true in
    let rest : length xs ≤ length ys = no-longer f first x xs ys (and_parts (nat_lt first.0 x.0) (list_all (λ s. nat_lt first.0 s.0) xs) a).1 m.1 (subst P (sym (one-next f r x y m.0 n.0)) n.1) in
    omega arith

-- ---- how many routers a cycle has

all-below : (f : RouterId → Target) (n : ℕ) (s : RouterId) (rs : List RouterId) → ((r x : RouterId) → goes_to f r x ≡ true → r.0 < n) → go_round f s rs ≡ true → list_all (λ v. nat_lt v.0 n) rs ≡ true
all-below f n s [] below h = absurd (false≢true h)
all-below f n s (r ∷ []) below h = and_from (nat_lt r.0 n) true (lt-ltb r.0 n (below r s h)) refl
all-below f n s (r ∷ y ∷ ys) below h =
    let p : (goes_to f r y ≡ true) × (go_round f s (y ∷ ys) ≡ true) = and_parts (goes_to f r y) (go_round f s (y ∷ ys)) h in
    and_from (nat_lt r.0 n) (list_all (λ v. nat_lt v.0 n) (y ∷ ys)) (lt-ltb r.0 n (below r y p.0)) (all-below f n s (y ∷ ys) below p.1)

-- at most as many as there are
pub few-routers : (f : RouterId → Target) (n : ℕ) (rs : List RouterId) → ((r x : RouterId) → goes_to f r x ≡ true → r.0 < n) → is_cycle f rs ≡ true → length rs ≤ n
few-routers f n [] below c = omega arith
few-routers f n (r ∷ rest) below c =
    let parts = cycle-parts f r rest c in
    at_most n (r ∷ rest) parts.1 (all-below f n r (r ∷ rest) below parts.2)
