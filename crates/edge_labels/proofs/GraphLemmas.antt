-- Rows, edges and sets that say the same.
use Rattle.std.proofs.Common.{◌≡◌, ℕ, zero, suc, ◌+◌, ◌*◌, ◌/◌, ◌%◌, ◌<◌, ◌≤◌, ◌||◌, ◌&&◌, not, eqb, ltb, Bool, true, false, List, [], ◌∷◌, ◌++◌, length, get_or, set, refl, ap, sym, subst, ◌∙◌, arith}
use Rattle.std.specs.List.{list_any}
use Rattle.std.specs.List.Sorted.{IsStrictlyIncreasing}
use Rattle.std.proofs.lemmas.Bool.{false_from_ne_true, false≢true}
use Rattle.std.proofs.lemmas.Bool.Decides.{nat_tests}
use Rattle.std.proofs.lemmas.List.{get_or_append_left, get_or_default, get_or_past, get_or_push, length_push}
use Rattle.std.proofs.lemmas.List.Folds.{list_any_at, list_any_none}
use Rattle.std.proofs.lemmas.Nat.{div-add-mod', div_below, mod_below}
use Rattle.base.specs.declared.target.Target.{Target}
use Rattle.target_rows.specs.declared.codes.Edge.{Edge}
use Rattle.edge_labels.specs.Atoms.{has_atom}
use Rattle.target_rows.specs.Codes.{edge_at, IsCoded}
use Rattle.edge_labels.specs.Labels.{IsLabel}
use Rattle.target_rows.specs.Labels.{Labels, target_at}
use Rattle.edge_labels.specs.Rows.{AreFirstSets, AreJoined, AreKept, AreLeft, AreReached, AreRowJoined}
use Rattle.target_rows.specs.Rows.{AreFirst, AreRows, code_at, codes_of, IsCodeOf, labels_of}
use Rattle.target_rows.proofs.RowLemmas.{length-row, row-at}
use Rattle.edge_labels.proofs.MovedLemmas.{code-before, code-here, code-last, code-other, inherited-rows, moved-rows}
use Rattle.target_rows.proofs.TargetLemmas.{atoms-of, below-from, first-code, first-router, first-rows, itself, same-from, still, target-now}

edge-is : (e : Edge) (r : ℕ) (t : Target) → e.router ≡ r → e.target ≡ t → e ≡ record { router = r; target = t }
edge-is e r t p q = let make : ℕ → Target → Edge = λ x y. record { router = x; target = y } in ap (λ x. make x e.target) p ∙ ap (λ y. make r y) q

apart : (j k : ℕ) → (j ≡ k → ⊥) → eqb j k ≡ false
apart j k h = grind (arith, nat_tests)

below : (j k : ℕ) → j < k → ltb j k ≡ true
below j k h = grind (arith, nat_tests)

not-below : (j k : ℕ) → k ≤ j → ltb j k ≡ false
not-below j k h = grind (arith, nat_tests)

both : (p q : Bool) → (p && q) ≡ true → (p ≡ true) × (q ≡ true)
both true q h = (refl, h)
both false q h = absurd (false≢true h)

and-false : (b : Bool) → (b && false) ≡ false
and-false true = refl
and-false false = refl

and-true : (b : Bool) → (b && true) ≡ b
and-true true = refl
and-true false = refl

or-false : (b : Bool) → (b || false) ≡ b
or-false true = refl
or-false false = refl

outside : (p q x : Bool) → ((p && false) || (not (q && false) && x)) ≡ x
outside true true x = refl
outside true false x = refl
outside false true x = refl
outside false false x = refl

exchanged : (p q : Bool) → ((p && true) || (not (q && true) && q)) ≡ p
exchanged true q = refl
exchanged false true = refl
exchanged false false = refl

flip : (a b : ℕ) → eqb a b ≡ eqb b a
flip a b = grind (arith, nat_tests)

-- ---- a label

pub label-found : (n atoms r code : ℕ) (codes : List ℕ) (edges : List Edge) (sets : List (List ℕ)) (none label : List ℕ) (t : Target) (g : Labels) → labels_of n atoms codes edges ≡ g → AreKept n atoms codes edges sets none → ((c d : ℕ) → c < length edges → d < length edges → edge_at edges c ≡ edge_at edges d → c ≡ d) → r < n → code < length edges → edge_at edges code ≡ record { router = r; target = t } → label ≡ get_or sets code [] → IsStrictlyIncreasing label → IsLabel g r t label
label-found n atoms r code codes edges sets none label t g is kept once lr lc at here up = record { ascending = up; exact = λ a. (there a, back a) }
  where
    says : (a : ℕ) → has_atom label a ≡ (ltb a atoms && eqb (code_at n codes a r) code)
    says a = ap (λ xs. has_atom xs a) here ∙ kept.labels code a lc ∙ ap (λ q. ltb a atoms && eqb (code_at n codes a q) code) (ap (λ e. e.router) at)

    there : (a : ℕ) → has_atom label a ≡ true → (a < length g.rows) × (target_at g r a ≡ t)
    there a h =
        let two = both (ltb a atoms) (eqb (code_at n codes a r) code) (sym (says a) ∙ h) in
        let la : a < atoms = below-from a atoms two.0 in
        (omega (arith, atoms-of n atoms codes edges g is), sym (target-now n atoms r a codes edges g is kept.rows.long lr la) ∙ ap (λ c. (edge_at edges c).target) (same-from (code_at n codes a r) code two.1) ∙ ap (λ e. e.target) at)

    back : (a : ℕ) → (a < length g.rows) × (target_at g r a ≡ t) → has_atom label a ≡ true
    back a h =
        let la : a < atoms = omega (arith, atoms-of n atoms codes edges g is, h.0) in
        let own : IsCodeOf edges r (code_at n codes a r) = kept.rows.own a r la lr in
        let does : (edge_at edges (code_at n codes a r)).target ≡ t = target-now n atoms r a codes edges g is kept.rows.long lr la ∙ h.1 in
        let same : code_at n codes a r ≡ code = once (code_at n codes a r) code own.there lc (edge-is (edge_at edges (code_at n codes a r)) r t own.router does ∙ sym at) in
        says a ∙ ap (λ b. b && eqb (code_at n codes a r) code) (below a atoms la) ∙ itself (code_at n codes a r) code same

pub label-none : (n atoms r : ℕ) (codes : List ℕ) (edges : List Edge) (sets : List (List ℕ)) (none label : List ℕ) (t : Target) (g : Labels) → labels_of n atoms codes edges ≡ g → AreKept n atoms codes edges sets none → ((c : ℕ) → c < length edges → edge_at edges c ≡ record { router = r; target = t } → ⊥) → r < n → label ≡ none → IsStrictlyIncreasing label → IsLabel g r t label
label-none n atoms r codes edges sets none label t g is kept absent lr here up = record { ascending = up; exact = λ a. (there a, back a) }
  where
    there : (a : ℕ) → has_atom label a ≡ true → (a < length g.rows) × (target_at g r a ≡ t)
    there a h = absurd (false≢true (sym (ap (λ xs. has_atom xs a) (here ∙ kept.empty)) ∙ h))

    back : (a : ℕ) → (a < length g.rows) × (target_at g r a ≡ t) → has_atom label a ≡ true
    back a h =
        let la : a < atoms = omega (arith, atoms-of n atoms codes edges g is, h.0) in
        let own : IsCodeOf edges r (code_at n codes a r) = kept.rows.own a r la lr in
        let does : (edge_at edges (code_at n codes a r)).target ≡ t = target-now n atoms r a codes edges g is kept.rows.long lr la ∙ h.1 in
        absurd (absent (code_at n codes a r) own.there (edge-is (edge_at edges (code_at n codes a r)) r t own.router does))

-- ---- an atom is added

any-row : (n atoms codes-atom c : ℕ) (codes : List ℕ) (edges : List Edge) (sets : List (List ℕ)) (none : List ℕ) → AreKept n atoms codes edges sets none → codes-atom < atoms → c < length edges → list_any (λ k. eqb k c) (codes_of n codes codes-atom) ≡ eqb (code_at n codes codes-atom (edge_at edges c).router) c
any-row n atoms old c codes edges sets none kept lo lc = by (eqb (code_at n codes old (edge_at edges c).router) c) refl
  where
    len : length (codes_of n codes old) ≡ n
    len = length-row n atoms old codes kept.rows.long lo

    lr : (edge_at edges c).router < n
    lr = kept.rows.within c lc

    other : (k : ℕ) → k < n → eqb (code_at n codes old (edge_at edges c).router) c ≡ false → eqb (code_at n codes old k) c ≡ true → true ≡ false
    other k l fails passes =
        let at : code_at n codes old k ≡ c = same-from (code_at n codes old k) c passes in
        let router : (edge_at edges c).router ≡ k = ap (λ x. (edge_at edges x).router) (sym at) ∙ (kept.rows.own old k lo l).router in
        sym passes ∙ ap (λ q. eqb (code_at n codes old q) c) (sym router) ∙ fails

    each : (k d : ℕ) → k < length (codes_of n codes old) → eqb (code_at n codes old (edge_at edges c).router) c ≡ false → eqb (get_or (codes_of n codes old) k d) c ≡ false
    each k d l fails =
        let lk : k < n = omega (arith, len) in
        ap (λ x. eqb x c) (get_or_default (codes_of n codes old) k d 0 l ∙ row-at n old k codes lk)
        ∙ false_from_ne_true (eqb (code_at n codes old k) c) (λ passes. absurd (false≢true (sym (other k lk fails passes))))

    by : (t : Bool) → eqb (code_at n codes old (edge_at edges c).router) c ≡ t → list_any (λ k. eqb k c) (codes_of n codes old) ≡ eqb (code_at n codes old (edge_at edges c).router) c
    by true e = list_any_at (λ k. eqb k c) (codes_of n codes old) (edge_at edges c).router 0 (omega (arith, len, lr)) (ap (λ k. eqb k c) (row-at n old (edge_at edges c).router codes lr) ∙ e) ∙ sym e
    by false e = list_any_none (λ k. eqb k c) (codes_of n codes old) (λ k d l. each k d l e) ∙ sym e

pub inherited-kept : (n atoms old : ℕ) (codes new : List ℕ) (edges : List Edge) (sets now : List (List ℕ)) (none : List ℕ) → AreKept n atoms codes edges sets none → old < atoms → atoms < 4294967296 → new ≡ codes ++ codes_of n codes old → AreRowJoined sets now (codes_of n codes old) atoms → AreKept n (atoms + 1) new edges now none
inherited-kept n atoms old codes new edges sets now none kept lo few is joined = record {
  rows = inherited-rows n atoms old codes new edges kept.rows lo few is;
  each = joined.long ∙ kept.each;
  labels = λ c a l. joined.exact c a ∙ by c a l (ltb a atoms) (eqb a atoms) refl refl;
  empty = kept.empty;
}
  where
    by : (c a : ℕ) → c < length edges → (t u : Bool) → ltb a atoms ≡ t → eqb a atoms ≡ u → ((list_any (λ k. eqb k c) (codes_of n codes old) && eqb a atoms) || has_atom (get_or sets c []) a) ≡ (ltb a (atoms + 1) && eqb (code_at n new a (edge_at edges c).router) c)
    by c a l true u e f =
        let la : a < atoms = below-from a atoms e in
        let ne : eqb a atoms ≡ false = apart a atoms (λ s. let no : ⊥ = omega arith in no) in
        ap (λ b. (list_any (λ k. eqb k c) (codes_of n codes old) && b) || has_atom (get_or sets c []) a) ne
        ∙ ap (λ b. b || has_atom (get_or sets c []) a) (and-false (list_any (λ k. eqb k c) (codes_of n codes old)))
        ∙ kept.labels c a l
        ∙ ap (λ b. b && eqb (code_at n codes a (edge_at edges c).router) c) (below a atoms la ∙ sym (below a (atoms + 1) (omega arith)))
        ∙ ap (λ x. ltb a (atoms + 1) && eqb x c) (sym (code-before n atoms old a (edge_at edges c).router codes new kept.rows.long is la (kept.rows.within c l)))
    by c a l false true e f =
        let last : a ≡ atoms = same-from a atoms f in
        let none-there : has_atom (get_or sets c []) a ≡ false = kept.labels c a l ∙ ap (λ b. b && eqb (code_at n codes a (edge_at edges c).router) c) e in
        ap (λ b. (list_any (λ k. eqb k c) (codes_of n codes old) && b) || has_atom (get_or sets c []) a) f
        ∙ ap (λ b. (list_any (λ k. eqb k c) (codes_of n codes old) && true) || b) none-there
        ∙ or-false (list_any (λ k. eqb k c) (codes_of n codes old) && true) ∙ and-true (list_any (λ k. eqb k c) (codes_of n codes old))
        ∙ any-row n atoms old c codes edges sets none kept lo l
        ∙ ap (λ x. eqb x c) (sym (ap (λ x. code_at n new x (edge_at edges c).router) last ∙ code-last n atoms old (edge_at edges c).router codes new kept.rows.long is (kept.rows.within c l)))
        ∙ sym (ap (λ b. b && eqb (code_at n new a (edge_at edges c).router) c) (below a (atoms + 1) (omega arith)))
    by c a l false false e f =
        let past : atoms + 1 ≤ a = grind (arith, nat_tests) in
        let none-there : has_atom (get_or sets c []) a ≡ false = kept.labels c a l ∙ ap (λ b. b && eqb (code_at n codes a (edge_at edges c).router) c) e in
        ap (λ b. (list_any (λ k. eqb k c) (codes_of n codes old) && b) || has_atom (get_or sets c []) a) f
        ∙ ap (λ b. b || has_atom (get_or sets c []) a) (and-false (list_any (λ k. eqb k c) (codes_of n codes old)))
        ∙ none-there
        ∙ sym (ap (λ b. b && eqb (code_at n new a (edge_at edges c).router) c) (not-below a (atoms + 1) past))

-- ---- a router does something else with an atom

pub before-labels : (n atoms r : ℕ) (codes : List ℕ) (edges new : List Edge) (sets reached : List (List ℕ)) (none : List ℕ) (t : Target) (code : ℕ) → AreKept n atoms codes edges sets none → IsCoded edges new (record { router = r; target = t }) code → AreReached sets reached (length new) → r < n → (c b : ℕ) → c < length new → has_atom (get_or reached c []) b ≡ (ltb b atoms && eqb (code_at n codes b (edge_at new c).router) c)
before-labels n atoms r codes edges new sets reached none t code kept coded reach lr c b l = reach.exact c b ∙ by (ltb c (length edges)) refl
  where
    by : (u : Bool) → ltb c (length edges) ≡ u → has_atom (get_or sets c []) b ≡ (ltb b atoms && eqb (code_at n codes b (edge_at new c).router) c)
    by true e =
        let lc : c < length edges = below-from c (length edges) e in
        kept.labels c b lc ∙ ap (λ x. ltb b atoms && eqb (code_at n codes b x.router) c) (sym (coded.same c lc))
    by false e = ap (λ xs. has_atom xs b) (get_or_past sets c [] (omega (arith, kept.each, high))) ∙ sym (no-one (ltb b atoms) refl)
      where
        high : length edges ≤ c
        high = grind (arith, nat_tests)

        router : (edge_at new c).router ≡ r
        router = ap (λ x. (edge_at new x).router) (coded.only c high l) ∙ ap (λ x. x.router) coded.is

        no-one : (u : Bool) → ltb b atoms ≡ u → (ltb b atoms && eqb (code_at n codes b (edge_at new c).router) c) ≡ false
        no-one true f =
            let own : IsCodeOf edges r (code_at n codes b r) = kept.rows.own b r (below-from b atoms f) lr in
            ap (λ q. ltb b atoms && eqb (code_at n codes b q) c) router
            ∙ ap (λ x. ltb b atoms && x) (apart (code_at n codes b r) c (λ s. let no : ⊥ = omega (arith, own.there, high) in no))
            ∙ and-false (ltb b atoms)
        no-one false f = ap (λ x. x && eqb (code_at n codes b (edge_at new c).router) c) f

pub moved-kept : (n atoms r a old code : ℕ) (codes now : List ℕ) (edges new : List Edge) (sets reached left joined : List (List ℕ)) (none : List ℕ) (t : Target) → AreKept n atoms codes edges sets none → IsCoded edges new (record { router = r; target = t }) code → AreReached sets reached (length new) → old ≡ code_at n codes a r → AreLeft reached left old a → AreJoined left joined code a → now ≡ set codes (a * n + r) code → r < n → a < atoms → AreKept n atoms now new joined none
moved-kept n atoms r a old code codes now edges new sets reached left joined none t kept coded reach was leaves joins is lr la = record {
  rows = rows;
  each = joins.long ∙ leaves.long ∙ reach.long;
  labels = λ c b l.
      joins.exact c b
      ∙ ap (λ x. (eqb c code && eqb b a) || x) (leaves.exact c b)
      ∙ ap (λ x. (eqb c code && eqb b a) || (not (eqb c old && eqb b a) && x)) (before-labels n atoms r codes edges new sets reached none t code kept coded reach lr c b l)
      ∙ by c b l (eqb b a) (eqb (edge_at new c).router r) refl refl;
  empty = kept.empty;
}
  where
    rows : AreRows n atoms now new
    rows = moved-rows n atoms r a code codes now edges new t kept.rows coded is lr la

    other : (b q : ℕ) → q < n → (b ≡ a → q ≡ r → ⊥) → code_at n now b q ≡ code_at n codes b q
    other b q lq ne = code-other n r a code b q codes now is lr lq ne

    old-code : IsCodeOf edges r old
    old-code = subst (IsCodeOf edges r) (sym was) (kept.rows.own a r la lr)

    by : (c b : ℕ) → c < length new → (u v : Bool) → eqb b a ≡ u → eqb (edge_at new c).router r ≡ v → ((eqb c code && eqb b a) || (not (eqb c old && eqb b a) && (ltb b atoms && eqb (code_at n codes b (edge_at new c).router) c))) ≡ (ltb b atoms && eqb (code_at n now b (edge_at new c).router) c)
    by c b l false v e f =
        ap (λ x. (eqb c code && x) || (not (eqb c old && x) && (ltb b atoms && eqb (code_at n codes b (edge_at new c).router) c))) e
        ∙ outside (eqb c code) (eqb c old) (ltb b atoms && eqb (code_at n codes b (edge_at new c).router) c)
        ∙ ap (λ x. ltb b atoms && eqb x c) (sym (other b (edge_at new c).router (rows.within c l) (λ s u. false≢true (sym e ∙ itself b a s))))
    by c b l true true e f =
        let here : b ≡ a = same-from b a e in
        let router : (edge_at new c).router ≡ r = same-from (edge_at new c).router r f in
        let lb : ltb b atoms ≡ true = ap (λ x. ltb x atoms) here ∙ below a atoms la in
        let before : code_at n codes b (edge_at new c).router ≡ old = ap (λ x. code_at n codes x (edge_at new c).router) here ∙ ap (λ q. code_at n codes a q) router ∙ sym was in
        let after : code_at n now b (edge_at new c).router ≡ code = ap (λ x. code_at n now x (edge_at new c).router) here ∙ ap (λ q. code_at n now a q) router ∙ code-here n atoms r a code codes now kept.rows.long is lr la in
        ap (λ x. (eqb c code && x) || (not (eqb c old && x) && (ltb b atoms && eqb (code_at n codes b (edge_at new c).router) c))) e
        ∙ ap (λ x. (eqb c code && true) || (not (eqb c old && true) && (x && eqb (code_at n codes b (edge_at new c).router) c))) lb
        ∙ ap (λ x. (eqb c code && true) || (not (eqb c old && true) && eqb x c)) before
        ∙ ap (λ x. (eqb c code && true) || (not (x && true) && eqb old c)) (flip c old)
        ∙ ap (λ x. (x && true) || (not (eqb old c && true) && eqb old c)) (flip c code)
        ∙ exchanged (eqb code c) (eqb old c)
        ∙ ap (λ x. eqb x c) (sym after)
        ∙ ap (λ x. x && eqb (code_at n now b (edge_at new c).router) c) (sym lb)
    by c b l true false e f =
        let away : (edge_at new c).router ≡ r → ⊥ = λ u. false≢true (sym f ∙ itself (edge_at new c).router r u) in
        let not-new : eqb c code ≡ false = apart c code (λ s. away (ap (λ x. (edge_at new x).router) s ∙ ap (λ x. x.router) coded.is)) in
        let not-old : eqb c old ≡ false = apart c old (λ s. away (ap (λ x. (edge_at new x).router) s ∙ (still edges new (record { router = r; target = t }) r old code coded old-code).router)) in
        ap (λ x. (x && eqb b a) || (not (eqb c old && eqb b a) && (ltb b atoms && eqb (code_at n codes b (edge_at new c).router) c))) not-new
        ∙ ap (λ x. not (x && eqb b a) && (ltb b atoms && eqb (code_at n codes b (edge_at new c).router) c)) not-old
        ∙ ap (λ x. ltb b atoms && eqb x c) (sym (other b (edge_at new c).router (rows.within c l) (λ s u. away u)))

-- ---- the first sets

pub first-sets-none : (sets : List (List ℕ)) → sets ≡ [] → AreFirstSets 0 sets
first-sets-none sets e = record {
  long = ap length e;
  each = λ c a l. absurd (let no : ⊥ = omega arith in no);
}

pub first-sets-more : (r : ℕ) (sets sets' : List (List ℕ)) (set : List ℕ) → AreFirstSets r sets → sets' ≡ sets ++ set ∷ [] → ((a : ℕ) → has_atom set a ≡ eqb a 0) → AreFirstSets (r + 1) sets'
first-sets-more r sets sets' set first es one = record {
  long = omega (arith, ap length es ∙ length_push sets set, first.long);
  each = λ c a l. at c a l (ltb c r) refl;
}
  where
    at : (c a : ℕ) → c < r + 1 → (u : Bool) → ltb c r ≡ u → has_atom (get_or sets' c []) a ≡ eqb a 0
    at c a l true e = let lc : c < r = below-from c r e in ap (λ xs. has_atom (get_or xs c []) a) es ∙ ap (λ xs. has_atom xs a) (get_or_append_left sets (set ∷ []) [] c (omega (arith, first.long))) ∙ first.each c a lc
    at c a l false e = let here : c ≡ r = grind (arith, nat_tests) in ap (λ xs. has_atom (get_or xs c []) a) es ∙ ap (λ xs. has_atom xs a) (get_or_push sets set [] c (omega (arith, first.long))) ∙ one a

pub first-kept : (n : ℕ) (codes : List ℕ) (edges : List Edge) (sets : List (List ℕ)) (none : List ℕ) → AreFirst n codes edges → AreFirstSets n sets → none ≡ [] → AreKept n 1 codes edges sets none
first-kept n codes edges sets none first one empty = record {
  rows = first-rows n codes edges first;
  each = one.long ∙ sym first.long_edges;
  labels = λ c a l. one.each c a (omega (arith, first.long_edges)) ∙ by c a l (eqb a 0) refl;
  empty = empty;
}
  where
    by : (c a : ℕ) → c < length edges → (u : Bool) → eqb a 0 ≡ u → eqb a 0 ≡ (ltb a 1 && eqb (code_at n codes a (edge_at edges c).router) c)
    by c a l true e =
        let here : a ≡ 0 = same-from a 0 e in
        let same : code_at n codes a (edge_at edges c).router ≡ c = ap (λ x. code_at n codes x (edge_at edges c).router) here ∙ ap (λ q. code_at n codes 0 q) (first-router n c codes edges first l) ∙ first-code n c codes edges first (omega (arith, first.long_edges)) in
        e ∙ sym (ap (λ x. x && eqb (code_at n codes a (edge_at edges c).router) c) (below a 1 (omega arith)) ∙ itself (code_at n codes a (edge_at edges c).router) c same)
    by c a l false e =
        let past : 1 ≤ a = grind (arith, nat_tests) in
        e ∙ sym (ap (λ x. x && eqb (code_at n codes a (edge_at edges c).router) c) (not-below a 1 past))

-- every code that stands in a row has a set
pub codes-known : (n atoms : ℕ) (codes : List ℕ) (edges : List Edge) (sets : List (List ℕ)) (none : List ℕ) → AreKept n atoms codes edges sets none → (k d : ℕ) → k < length codes → get_or codes k d < length sets
codes-known n atoms codes edges sets none kept k d l = by n refl
  where
    by : (m : ℕ) → n ≡ m → get_or codes k d < length sets
    by zero e =
        let none-there : length codes ≡ 0 = omega (arith, kept.rows.long, ap (λ x. atoms * x) e) in
        absurd (let fails : ⊥ = omega arith in fails)
    by (suc m) e =
        let some : 0 < n = omega arith in
        let la : k / n < atoms = div_below k n atoms some (omega (arith, kept.rows.long)) in
        let lr : k % n < n = mod_below k n some in
        let at : k / n * n + k % n ≡ k = div-add-mod' k n in
        let known : get_or codes k 0 < length edges = subst (λ (x : ℕ). get_or codes x 0 < length edges) at (kept.rows.own (k / n) (k % n) la lr).there in
        omega (arith, get_or_default codes k d 0 l, kept.each, known)

pub zero-alone : (a : ℕ) → has_atom (0 ∷ []) a ≡ eqb a 0
zero-alone a = or-false (eqb 0 a) ∙ flip 0 a
