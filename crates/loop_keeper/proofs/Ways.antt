-- Following a row from a router on, past other routers, until it comes back.
use Rattle.std.proofs.Common.{◌≡◌, ℕ, zero, suc, ◌+◌, ◌<◌, ◌≤◌, ◌⊎◌, ◌∙◌, Bool, true, false, not, ◌&&◌, nat_lt, List, [], ◌∷◌, ◌++◌, length, get_or, refl, ap, sym, subst, inl, inr, ⊎_elim, arith}
use Rattle.std.specs.List.{list_all}
use Rattle.std.proofs.lemmas.Bool.{cases_Bool, cases_lt, lt-ltb, eqb-true, eq-eqb, and_from, and_parts, or_cases, or_left, or_right, both_ways, not_from_false, false≢true}
use Rattle.std.proofs.lemmas.List.{append-nil, length-append}
use Rattle.base.specs.Cycles.{goes_to, go_round, is_cycle}
use Rattle.base.specs.Reach.{is_router}
use Rattle.base.specs.Lists.{all_differ}
use Rattle.base.specs.declared.ids.LinkId.{LinkId}
use Rattle.base.specs.declared.ids.RouterId.{RouterId}
use Rattle.base.specs.declared.target.Target.{Target}
use Rattle.base.specs.declared.target.Target.TheVariants.{To}
use Rattle.base.proofs.DeltaParts.{same-router}
use Rattle.base.proofs.Loops.{target_cases}
use Rattle.loop_check.specs.Following.{Follows, IsInNone, is_among}
use Rattle.loop_check.proofs.Rounds.{among-head, differs, few-routers, goes-far, goes-nowhere, goes-there, in-none, linked, linked-push, rotated, split-round, step}
use Rattle.loop_keeper.specs.Following.{ComesBack, IsFollowed, IsTurned}

-- ---- other routers

abbrev pub are_others : RouterId → List RouterId → Bool
are_others first rest = list_all (λ r. not (is_router first r)) rest

other-parts : (first y : RouterId) (ys : List RouterId) → are_others first (y ∷ ys) ≡ true → (not (is_router first y) ≡ true) × (are_others first ys ≡ true)
other-parts first y ys h = and_parts (not (is_router first y)) (are_others first ys) h

not-first : (first y : RouterId) → not (is_router first y) ≡ true → first ≡ y → ⊥
not-first first y h e = false≢true (sym (ap not (eq-eqb y.0 first.0 (ap (λ (v : RouterId). v.0) (sym e)))) ∙ h)

one-next : (f : RouterId → Target) (r x y : RouterId) → goes_to f r x ≡ true → goes_to f r y ≡ true → x ≡ y
one-next f r x y h k = ⊎_elim
    (λ (far : (s : RouterId) × (l : LinkId) × (f r ≡ To s l)). sym (goes-far f r x far.0 far.1 far.2 h) ∙ goes-far f r y far.0 far.1 far.2 k)
    (λ (last : (s : RouterId) (l : LinkId) → f r ≡ To s l → ⊥). absurd (both_ways (goes_to f r x) (goes-nowhere f r x last) h))
    (target_cases (f r))

among-split : (x : RouterId) (rs : List RouterId) → is_among rs x ≡ true → (a : List RouterId) × (b : List RouterId) × (rs ≡ a ++ x ∷ b)
among-split x [] m = absurd (false≢true m)
among-split x (r ∷ rest) m = ⊎_elim
    (λ (h : is_router x r ≡ true). ([], rest, ap (λ (v : RouterId). v ∷ rest) (same-router r x (eqb-true r.0 x.0 h))))
    (λ (h : is_among rest x ≡ true).
    let s : (a : List RouterId) × (b : List RouterId) × (rest ≡ a ++ x ∷ b) = among-split x rest h in
    (r ∷ s.0, s.1, ap (λ (v : List RouterId). r ∷ v) s.2))
    (or_cases (is_router x r) (is_among rest x) m)

others-rest : (first : RouterId) (a b : List RouterId) (x : RouterId) → are_others first (a ++ x ∷ b) ≡ true → are_others first b ≡ true
others-rest first [] b x h = (other-parts first x b h).1
others-rest first (y ∷ a) b x h = others-rest first a b x (other-parts first y (a ++ x ∷ b) h).1

others-push : (first : RouterId) (rs : List RouterId) (x : RouterId) → are_others first rs ≡ true → (first.0 ≡ x.0 → ⊥) → are_others first (rs ++ x ∷ []) ≡ true
others-push first [] x h n = and_from (not (is_router first x)) true (⊎_elim
    (λ (t : is_router first x ≡ true). absurd (n (sym (eqb-true x.0 first.0 t))))
    (λ (t : is_router first x ≡ false). not_from_false (is_router first x) t)
    (cases_Bool (is_router first x))) refl
others-push first (y ∷ ys) x h n =
    let p : (not (is_router first y) ≡ true) × (are_others first ys ≡ true) = other-parts first y ys h in
    and_from (not (is_router first y)) (are_others first (ys ++ x ∷ [])) p.0 (others-push first ys x p.1 n)

-- ---- routers on a way back differ

one-tail : (f : RouterId → Target) (first r : RouterId) (xs ys : List RouterId) → are_others first xs ≡ true → are_others first ys ≡ true → go_round f first (r ∷ xs) ≡ true → go_round f first (r ∷ ys) ≡ true → length xs ≡ length ys
one-tail f first r [] [] a b h k = refl
one-tail f first r [] (y ∷ ys) a b h k =
    let m : (goes_to f r y ≡ true) × (go_round f first (y ∷ ys) ≡ true) = and_parts (goes_to f r y) (go_round f first (y ∷ ys)) k in
    absurd (not-first first y (other-parts first y ys b).0 (one-next f r first y h m.0))
one-tail f first r (x ∷ xs) [] a b h k =
    let m : (goes_to f r x ≡ true) × (go_round f first (x ∷ xs) ≡ true) = and_parts (goes_to f r x) (go_round f first (x ∷ xs)) h in
    absurd (not-first first x (other-parts first x xs a).0 (one-next f r first x k m.0))
one-tail f first r (x ∷ xs) (y ∷ ys) a b h k =
    let m : (goes_to f r x ≡ true) × (go_round f first (x ∷ xs) ≡ true) = and_parts (goes_to f r x) (go_round f first (x ∷ xs)) h in
    let n : (goes_to f r y ≡ true) × (go_round f first (y ∷ ys) ≡ true) = and_parts (goes_to f r y) (go_round f first (y ∷ ys)) k in
    let P : RouterId → Type 0 = λ v. go_round f first (v ∷ ys) ≡ true in
    let rest : length xs ≡ length ys = one-tail f first x xs ys (other-parts first x xs a).1 (other-parts first y ys b).1 m.1 (subst P (sym (one-next f r x y m.0 n.0)) n.1) in
    omega arith

head-new : (f : RouterId → Target) (first r : RouterId) (rest : List RouterId) → are_others first rest ≡ true → go_round f first (r ∷ rest) ≡ true → is_among rest r ≡ false
head-new f first r rest after round = ⊎_elim
    (λ (m : is_among rest r ≡ true).
    let d : (a : List RouterId) × (b : List RouterId) × (rest ≡ a ++ r ∷ b) = among-split r rest m in
    let P : List RouterId → Type 0 = λ v. are_others first v ≡ true in
    let whole : go_round f first (r ∷ d.0 ++ r ∷ d.1) ≡ true = ap (λ (v : List RouterId). go_round f first (r ∷ v)) (sym d.2) ∙ round in
    let later : go_round f first (r ∷ d.1) ≡ true = (and_parts (go_round f r (r ∷ d.0)) (go_round f first (r ∷ d.1)) (sym (split-round f first r r d.0 d.1) ∙ whole)).1 in
    let same : length rest ≡ length d.1 = one-tail f first r rest d.1 after (others-rest first d.0 d.1 r (subst P d.2 after)) round later in
    let n : length rest ≡ length (d.0 ++ r ∷ d.1) = ap (λ (v : List RouterId). length v) d.2 in
    let n1 : length (d.0 ++ r ∷ d.1) ≡ length d.0 + length (r ∷ d.1) = length-append d.0 (r ∷ d.1) in
    absurd (omega arith))
    (λ (m : is_among rest r ≡ false). m)
    (cases_Bool (is_among rest r))

all-new : (f : RouterId → Target) (first r : RouterId) (rest : List RouterId) → are_others first rest ≡ true → go_round f first (r ∷ rest) ≡ true → all_differ is_router (r ∷ rest) ≡ true
all-new f first r [] after round = refl
all-new f first r (y ∷ ys) after round =
    and_from (not (is_among (y ∷ ys) r)) (all_differ is_router (y ∷ ys)) (not_from_false (is_among (y ∷ ys) r) (head-new f first r (y ∷ ys) after round))
    (all-new f first y ys (other-parts first y ys after).1 (and_parts (goes_to f r y) (go_round f first (y ∷ ys)) round).1)

-- a way past others is no longer than one that comes back to the first
no-longer : (f : RouterId → Target) (first r : RouterId) (xs ys : List RouterId) → are_others first xs ≡ true → linked f (r ∷ xs) ≡ true → go_round f first (r ∷ ys) ≡ true → length xs ≤ length ys
no-longer f first r [] ys a h k = omega arith
no-longer f first r (x ∷ xs) [] a h k =
    let m : (goes_to f r x ≡ true) × (linked f (x ∷ xs) ≡ true) = and_parts (goes_to f r x) (linked f (x ∷ xs)) h in
    absurd (not-first first x (other-parts first x xs a).0 (one-next f r first x k m.0))
no-longer f first r (x ∷ xs) (y ∷ ys) a h k =
    let m : (goes_to f r x ≡ true) × (linked f (x ∷ xs) ≡ true) = and_parts (goes_to f r x) (linked f (x ∷ xs)) h in
    let n : (goes_to f r y ≡ true) × (go_round f first (y ∷ ys) ≡ true) = and_parts (goes_to f r y) (go_round f first (y ∷ ys)) k in
    let P : RouterId → Type 0 = λ v. go_round f first (v ∷ ys) ≡ true in
    let rest : length xs ≤ length ys = no-longer f first x xs ys (other-parts first x xs a).1 m.1 (subst P (sym (one-next f r x y m.0 n.0)) n.1) in
    omega arith

-- ---- a way so far

pub record IsWay (f : RouterId → Target) (first last : RouterId) (path : List RouterId) : Type 0 where
  pub rest : List RouterId
  pub is : path ≡ first ∷ rest
  pub others : are_others first rest ≡ true
  pub link : linked f (first ∷ rest) ≡ true
  pub round : (s : RouterId) → goes_to f last s ≡ true → go_round f s (first ∷ rest) ≡ true
  pub follows : Follows f first last

-- a way so far, to a router that does this
pub record HasWay (f : RouterId → Target) (first : RouterId) (target : Target) (path : List RouterId) : Type 0 where
  pub last : RouterId
  pub way : IsWay f first last path
  pub does : f last ≡ target

pub way-start : (f : RouterId → Target) (first : RouterId) (path : List RouterId) → path ≡ first ∷ [] → IsWay f first first path
way-start f first path is = record {
  rest = [];
  is = is;
  others = refl;
  link = refl;
  round = λ s g. g;
  follows = λ rs c m. m;
}

pub way-next : (f : RouterId → Target) (first last far : RouterId) (l : LinkId) (path new : List RouterId) → IsWay f first last path → f last ≡ To far l → (far.0 ≡ first.0 → ⊥) → new ≡ path ++ far ∷ [] → IsWay f first far new
way-next f first last far l path new h to other is =
    let there : goes_to f last far ≡ true = goes-there f last far far l to refl in
    let come : go_round f far (first ∷ h.rest) ≡ true = h.round far there in
    record {
      rest = h.rest ++ far ∷ [];
      is = is ∙ ap (λ (rs : List RouterId). rs ++ far ∷ []) h.is;
      others = others-push first h.rest far h.others (λ e. other (sym e));
      link = linked-push f far first h.rest ∙ come;
      round = λ s g. split-round f s first far h.rest [] ∙ and_from (go_round f far (first ∷ h.rest)) (goes_to f far s) come g;
      follows = λ rs c m. step f rs last far c (h.follows rs c m) there;
    }

pub way-back : (f : RouterId → Target) (first last far : RouterId) (l : LinkId) (path : List RouterId) → IsWay f first last path → f last ≡ To far l → far.0 ≡ first.0 → ComesBack f first path
way-back f first last far l path h to back = record {
  rest = h.rest;
  is = h.is;
  others = h.others;
  round = h.round first (goes-there f last first far l to back);
}

pub way-ends : (f : RouterId → Target) (first last : RouterId) (path : List RouterId) → IsWay f first last path → ((s : RouterId) (l : LinkId) → f last ≡ To s l → ⊥) → IsInNone f first
way-ends f first last path h none = λ rs c m. in-none f last none rs c (h.follows rs c m)

pub way-long : (f : RouterId → Target) (n : ℕ) (first last : RouterId) (path : List RouterId) → ((r x : RouterId) → goes_to f r x ≡ true → r.0 < n) → IsWay f first last path → n + 1 ≤ length path → IsInNone f first
way-long f n first last path below h long = λ rs c m.
    let turn : (rest : List RouterId) × (go_round f first (first ∷ rest) ≡ true) × (length rest + 1 ≡ length rs) = rotated f rs first c m in
    let few : length rs ≤ n = few-routers f n rs below c in
    let some : length h.rest ≤ length turn.0 = no-longer f first first h.rest turn.0 h.others h.link turn.1 in
    let many : length path ≡ length (first ∷ h.rest) = ap (λ (v : List RouterId). length v) h.is in
    let k : length turn.0 + 1 ≡ length rs = turn.2 in
    omega arith

-- ---- ways that go round elsewhere

others-back : (first : RouterId) (a c : List RouterId) → are_others first (a ++ c) ≡ true → are_others first c ≡ true
others-back first [] c h = h
others-back first (y ∷ a) c h = others-back first a c (other-parts first y (a ++ c) h).1

others-append : (first : RouterId) (a c : List RouterId) → are_others first a ≡ true → are_others first c ≡ true → are_others first (a ++ c) ≡ true
others-append first [] c h k = k
others-append first (y ∷ a) c h k =
    let p : (not (is_router first y) ≡ true) × (are_others first a ≡ true) = other-parts first y a h in
    and_from (not (is_router first y)) (are_others first (a ++ c)) p.0 (others-append first a c p.1 k)

round-linked : (f : RouterId → Target) (s r : RouterId) (xs : List RouterId) → go_round f s (r ∷ xs) ≡ true → linked f (r ∷ xs) ≡ true
round-linked f s r [] h = refl
round-linked f s r (y ∷ ys) h =
    let p : (goes_to f r y ≡ true) × (go_round f s (y ∷ ys) ≡ true) = and_parts (goes_to f r y) (go_round f s (y ∷ ys)) h in
    and_from (goes_to f r y) (linked f (y ∷ ys)) p.0 (round-linked f s y ys p.1)

-- a way past other routers to a given one
record LeadsTo (f : RouterId → Target) (first far : RouterId) (rest : List RouterId) : Type 0 where
  others : are_others first rest ≡ true
  round : go_round f far (first ∷ rest) ≡ true

-- which is as long as need be where it goes round and round from there
round-again : (f : RouterId → Target) (first far : RouterId) (rest b : List RouterId) (k : ℕ) → LeadsTo f first far rest → are_others first (far ∷ b) ≡ true → go_round f far (far ∷ b) ≡ true → (ys : List RouterId) × LeadsTo f first far ys × (k ≤ length ys)
round-again f first far rest b zero h o g = (rest, h, omega arith)
round-again f first far rest b (suc k) h o g =
    let w : (ys : List RouterId) × LeadsTo f first far ys × (k ≤ length ys) = round-again f first far rest b k h o g in
    let n : length (w.0 ++ far ∷ b) ≡ length w.0 + length (far ∷ b) = length-append w.0 (far ∷ b) in
    let l : k ≤ length w.0 = w.2 in
    let more : LeadsTo f first far (w.0 ++ far ∷ b) = record {
      others = others-append first w.0 (far ∷ b) w.1.others o;
      round = split-round f far first far w.0 b ∙ and_from (go_round f far (first ∷ w.0)) (go_round f far (far ∷ b)) w.1.round g;
    } in
    (w.0 ++ far ∷ b, more, omega arith)

-- a way that comes to another of its routers again is no way back
pub way-passed : (f : RouterId → Target) (first last far : RouterId) (l : LinkId) (path : List RouterId) → IsWay f first last path → f last ≡ To far l → (far.0 ≡ first.0 → ⊥) → is_among path far ≡ true → IsInNone f first
way-passed f first last far l path h to other m = λ rs c i.
    let M : List RouterId → Type 0 = λ v. is_among v far ≡ true in
    let passed : is_among h.rest far ≡ true = ⊎_elim
    (λ (x : is_router far first ≡ true). absurd (other (sym (eqb-true first.0 far.0 x))))
    (λ (x : is_among h.rest far ≡ true). x)
    (or_cases (is_router far first) (is_among h.rest far) (subst M h.is m)) in
    let d : (a : List RouterId) × (b : List RouterId) × (h.rest ≡ a ++ far ∷ b) = among-split far h.rest passed in
    let O : List RouterId → Type 0 = λ v. are_others first v ≡ true in
    let G : List RouterId → Type 0 = λ v. go_round f far (first ∷ v) ≡ true in
    let come : go_round f far (first ∷ h.rest) ≡ true = h.round far (goes-there f last far far l to refl) in
    let loop : go_round f far (far ∷ d.1) ≡ true = (and_parts (go_round f far (first ∷ d.0)) (go_round f far (far ∷ d.1)) (sym (split-round f far first far d.0 d.1) ∙ subst G d.2 come)).1 in
    let others : are_others first (far ∷ d.1) ≡ true = others-back first d.0 (far ∷ d.1) (subst O d.2 h.others) in
    let turn : (rest : List RouterId) × (go_round f first (first ∷ rest) ≡ true) × (length rest + 1 ≡ length rs) = rotated f rs first c i in
    let w : (ys : List RouterId) × LeadsTo f first far ys × (length turn.0 + 1 ≤ length ys) = round-again f first far h.rest d.1 (length turn.0 + 1) (record { others = h.others; round = come }) others loop in
    let some : length w.0 ≤ length turn.0 = no-longer f first first w.0 turn.0 w.1.others (round-linked f far first w.0 w.1.round) turn.1 in
    let many : length turn.0 + 1 ≤ length w.0 = w.2 in
    absurd (omega arith)

-- a way past as many routers as there are comes back with its next hop, or never
pub way-last : (f : RouterId → Target) (n : ℕ) (first last : RouterId) (path : List RouterId) (found : Bool) → ((r x : RouterId) → goes_to f r x ≡ true → r.0 < n) → IsWay f first last path → n ≤ length path → found ≡ goes_to f last first → IsFollowed f first path found
way-last f n first last path true below h long e = record { rest = h.rest; is = h.is; others = h.others; round = h.round first (sym e) }
way-last f n first last path false below h long e = ⊎_elim
    (λ (to : (s : RouterId) × (l : LinkId) × (f last ≡ To s l)).
    let other : to.0.0 ≡ first.0 → ⊥ = λ same. false≢true (e ∙ goes-there f last first to.0 to.1 to.2 same) in
    let more : length (path ++ to.0 ∷ []) ≡ length path + 1 = length-append path (to.0 ∷ []) in
    way-long f n first to.0 (path ++ to.0 ∷ []) below (way-next f first last to.0 to.1 path (path ++ to.0 ∷ []) h to.2 other refl) (omega arith))
    (λ (none : (s : RouterId) (l : LinkId) → f last ≡ To s l → ⊥). way-ends f first last path h none)
    (target_cases (f last))

pub among-at : (rs : List RouterId) (k : ℕ) (d x : RouterId) → k < length rs → (get_or rs k d).0 ≡ x.0 → is_among rs x ≡ true
among-at [] k d x l e = absurd (omega arith)
among-at (r ∷ rs) zero d x l e = or_left (is_router x r) (is_among rs x) (eq-eqb r.0 x.0 e)
among-at (r ∷ rs) (suc k) d x l e = or_right (is_router x r) (is_among rs x) (among-at rs k d x (omega arith) e)

-- ---- from the first of the routers on

among-append-left : (x : RouterId) (a b : List RouterId) → is_among a x ≡ true → is_among (a ++ b) x ≡ true
among-append-left x [] b m = absurd (false≢true m)
among-append-left x (r ∷ a) b m = ⊎_elim
    (λ (h : is_router x r ≡ true). or_left (is_router x r) (is_among (a ++ b) x) h)
    (λ (h : is_among a x ≡ true). or_right (is_router x r) (is_among (a ++ b) x) (among-append-left x a b h))
    (or_cases (is_router x r) (is_among a x) m)

among-append-right : (x : RouterId) (a b : List RouterId) → is_among b x ≡ true → is_among (a ++ b) x ≡ true
among-append-right x [] b m = m
among-append-right x (r ∷ a) b m = or_right (is_router x r) (is_among (a ++ b) x) (among-append-right x a b m)

among-append : (x : RouterId) (a b : List RouterId) → is_among (a ++ b) x ≡ true → (is_among a x ≡ true) ⊎ (is_among b x ≡ true)
among-append x [] b m = inr m
among-append x (r ∷ a) b m = ⊎_elim
    (λ (h : is_router x r ≡ true). inl (or_left (is_router x r) (is_among a x) h))
    (λ (h : is_among (a ++ b) x ≡ true). ⊎_elim
    (λ (i : is_among a x ≡ true). inl (or_right (is_router x r) (is_among a x) i))
    (λ (i : is_among b x ≡ true). inr i)
    (among-append x a b h))
    (or_cases (is_router x r) (is_among (a ++ b) x) m)

in-back : (front back : List RouterId) (x : RouterId) → all_differ is_router (front ++ x ∷ back) ≡ true → is_among back x ≡ true → ⊥
in-back [] back x d i = false≢true (sym (ap not i) ∙ (and_parts (not (is_among back x)) (all_differ is_router back) d).0)
in-back (y ∷ front) back x d i = in-back front back x (and_parts (not (is_among (front ++ x ∷ back) y)) (all_differ is_router (front ++ x ∷ back)) d).1 i

in-front : (front back : List RouterId) (x : RouterId) → all_differ is_router (front ++ x ∷ back) ≡ true → is_among front x ≡ true → ⊥
in-front [] back x d i = false≢true i
in-front (y ∷ front) back x d i =
    let p : (not (is_among (front ++ x ∷ back) y) ≡ true) × (all_differ is_router (front ++ x ∷ back) ≡ true) = and_parts (not (is_among (front ++ x ∷ back) y)) (all_differ is_router (front ++ x ∷ back)) d in
    let Q : RouterId → Type 0 = λ v. is_among (front ++ x ∷ back) v ≡ true in
    ⊎_elim
    (λ (h : is_router x y ≡ true).
    let here : is_among (front ++ x ∷ back) x ≡ true = among-append-right x front (x ∷ back) (among-head x x back refl) in
    false≢true (sym (ap not (subst Q (sym (same-router y x (eqb-true y.0 x.0 h))) here)) ∙ p.0))
    (λ (h : is_among front x ≡ true). in-front front back x p.1 h)
    (or_cases (is_router x y) (is_among front x) i)

-- the others of a list whose routers differ
differ-others : (front back : List RouterId) (x : RouterId) → all_differ is_router (front ++ x ∷ back) ≡ true → (r : RouterId) → is_among (back ++ front) r ≡ true → x.0 ≡ r.0 → ⊥
differ-others front back x d r m e =
    let same : x ≡ r = same-router x r e in
    let P : RouterId → Type 0 = λ v. is_among (back ++ front) v ≡ true in
    ⊎_elim
    (λ (i : is_among back x ≡ true). in-back front back x d i)
    (λ (i : is_among front x ≡ true). in-front front back x d i)
    (among-append x back front (subst P (sym same) m))

all-after : (n : ℕ) (rs : List RouterId) → ((r : RouterId) → is_among rs r ≡ true → n < r.0) → list_all (λ s. nat_lt n s.0) rs ≡ true
all-after n [] h = refl
all-after n (r ∷ rs) h = and_from (nat_lt n r.0) (list_all (λ s. nat_lt n s.0) rs) (lt-ltb n r.0 (h r (among-head r r rs refl))) (all-after n rs (λ x m. h x (or_right (is_router x r) (is_among rs x) m)))

abbrev head-round : (RouterId → Target) → List RouterId → Bool
head-round f [] = false
head-round f (r ∷ rs) = go_round f r (r ∷ rs)

turned-round : (f : RouterId → Target) (first x : RouterId) (rest front back : List RouterId) → first ∷ rest ≡ front ++ x ∷ back → go_round f first (first ∷ rest) ≡ true → go_round f x (x ∷ (back ++ front)) ≡ true
turned-round f first x rest [] back e h =
    let P : List RouterId → Type 0 = λ v. go_round f x (x ∷ v) ≡ true in
    let Q : List RouterId → Type 0 = λ v. head-round f v ≡ true in
    subst P (sym (append-nil back)) (subst Q e h)
turned-round f first x rest (y ∷ front) back e h =
    let Q : List RouterId → Type 0 = λ v. head-round f v ≡ true in
    let whole : go_round f y (y ∷ front ++ x ∷ back) ≡ true = subst Q e h in
    let both : (go_round f x (y ∷ front) ≡ true) × (go_round f y (x ∷ back) ≡ true) = and_parts (go_round f x (y ∷ front)) (go_round f y (x ∷ back)) (sym (split-round f y y x front back) ∙ whole) in
    split-round f x x y back front ∙ and_from (go_round f y (x ∷ back)) (go_round f x (y ∷ front)) both.1 both.0

pub turned-cycle : (f : RouterId → Target) (first : RouterId) (path turned : List RouterId) → ComesBack f first path → IsTurned path turned → (is_cycle f turned ≡ true) × (is_among turned first ≡ true)
turned-cycle f first path turned h t =
    let split : first ∷ h.rest ≡ t.front ++ t.first ∷ t.back = sym h.is ∙ t.is in
    let round : go_round f t.first (t.first ∷ (t.back ++ t.front)) ≡ true = turned-round f first t.first h.rest t.front t.back split h.round in
    let D : List RouterId → Type 0 = λ v. all_differ is_router v ≡ true in
    let differ : all_differ is_router (t.front ++ t.first ∷ t.back) ≡ true = subst D split (all-new f first first h.rest h.others h.round) in
    let M : List RouterId → Type 0 = λ v. is_among v first ≡ true in
    let after : list_all (λ s. nat_lt t.first.0 s.0) (t.back ++ t.front) ≡ true = all-after t.first.0 (t.back ++ t.front) (λ (r : RouterId). λ (m : is_among (t.back ++ t.front) r ≡ true).
    let N : List RouterId → Type 0 = λ v. is_among v r ≡ true in
    let inside : is_among path r ≡ true = subst N (sym t.is) (⊎_elim
    (λ (i : is_among t.back r ≡ true). among-append-right r t.front (t.first ∷ t.back) (or_right (is_router r t.first) (is_among t.back r) i))
    (λ (i : is_among t.front r ≡ true). among-append-left r t.front (t.first ∷ t.back) i)
    (among-append r t.back t.front m)) in
    let low : t.first.0 ≤ r.0 = t.least r inside in
    let other : t.first.0 ≡ r.0 → ⊥ = differ-others t.front t.back t.first differ r m in
    ⊎_elim
    (λ (l : t.first.0 < r.0). l)
    (λ (l : r.0 ≤ t.first.0). let e : t.first.0 ≡ r.0 = omega arith in absurd (other e))
    (cases_lt t.first.0 r.0)) in
    let is : is_cycle f (t.first ∷ (t.back ++ t.front)) ≡ true =
    and_from (list_all (λ s. nat_lt t.first.0 s.0) (t.back ++ t.front) && all_differ is_router (t.first ∷ (t.back ++ t.front))) (go_round f t.first (t.first ∷ (t.back ++ t.front)))
    (and_from (list_all (λ s. nat_lt t.first.0 s.0) (t.back ++ t.front)) (all_differ is_router (t.first ∷ (t.back ++ t.front))) after (differs f t.first t.first (t.back ++ t.front) after round)) round in
    let here : is_among (t.first ∷ (t.back ++ t.front)) first ≡ true = ⊎_elim
    (λ (i : is_among t.front first ≡ true). or_right (is_router first t.first) (is_among (t.back ++ t.front) first) (among-append-right first t.back t.front i))
    (λ (i : is_among (t.first ∷ t.back) first ≡ true). ⊎_elim
    (λ (j : is_router first t.first ≡ true). or_left (is_router first t.first) (is_among (t.back ++ t.front) first) j)
    (λ (j : is_among t.back first ≡ true). or_right (is_router first t.first) (is_among (t.back ++ t.front) first) (among-append-left first t.back t.front j))
    (or_cases (is_router first t.first) (is_among t.back first) i))
    (among-append first t.front (t.first ∷ t.back) (subst M split (among-head first first h.rest refl))) in
    let C : List RouterId → Type 0 = λ v. (is_cycle f v ≡ true) × (is_among v first ≡ true) in
    subst C (sym t.turn) (is, here)
