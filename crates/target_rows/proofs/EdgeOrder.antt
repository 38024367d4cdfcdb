-- The order of edges tells edges apart, and edges have one code each.
use Rattle.std.proofs.Common.{◌≡◌, ℕ, ◌+◌, ◌<◌, ◌≤◌, ltb, cond, Bool, true, false, List, [], ◌∷◌, ◌++◌, Option, None, Some, IfSome, length, refl, rules, arith, ap, subst, sym, ◌∙◌}
use Rattle.std.specs.declared.cmp.Ordering.{Ordering}
use Rattle.std.specs.declared.cmp.Ordering.TheVariants.{Less, Equal, Greater}
use Rattle.std.specs.BTreeMap.{is_at}
use Rattle.std.specs.Cmp.{IsTotalOrder}
use Rattle.std.specs.Map.{lookup}
use Rattle.std.specs.Ordering.{is_eq}
use Rattle.std.proofs.lemmas.Bool.{false_from_ne_true, false≢true}
use Rattle.std.proofs.lemmas.Bool.Decides.{nat_tests}
use Rattle.std.proofs.lemmas.Cmp.{tied_itself}
use Rattle.std.proofs.lemmas.List.{get_or_append_left, get_or_push, length_push}
use Rattle.base.specs.declared.target.Target.TheVariants.{NoRoute}
use Rattle.target_rows.specs.Codes.{code_in, edge_at, IsCoded, IsIndexed}
use Rattle.target_rows.specs.declared.codes.Edge.{Edge}
use Rattle.target_rows.specs.contracts.codes.EdgeOrd.TheImpl.{cmp-value}
use Rattle.target_rows.specs.contracts.codes.EdgePartialEq.TheImpl.{eq-value}
use Rattle.target_rows.specs.contracts.codes.EdgeOrd.TheImpl.Laws as laws

pub edge-total : IsTotalOrder cmp-value.it
edge-total = laws.total-law

eq-exact : (x y : Edge) → eq-value.it x y ≡ true → x ≡ y
eq-exact x y h = search rules

edge-exact : (x y : Edge) → cmp-value.it x y ≡ Equal → x ≡ y
edge-exact x y h = eq-exact x y (laws.matches_eq-law x y ∙ ap is_eq h)

equal-from : (o : Ordering) → is_eq o ≡ true → o ≡ Equal
equal-from Less h = absurd (false≢true h)
equal-from Equal h = refl
equal-from Greater h = absurd (false≢true h)

-- the test of an edge passes that edge alone
pub at-itself : (e : Edge) → is_at (cmp-value.it e) e ≡ true
at-itself e = ap is_eq (tied_itself edge-total e)

pub at-exact : (x y : Edge) → is_at (cmp-value.it x) y ≡ true → x ≡ y
at-exact x y h = edge-exact x y (equal-from (cmp-value.it x y) h)

-- ---- codes

none-some : (c : ℕ) → None ≡ Some c → ⊥
none-some c h = cc

pub indexed-none : (edges : List Edge) (index : List (Edge × ℕ)) → edges ≡ [] → index ≡ [] → IsIndexed edges index
unfolding code_in
indexed-none edges index es is = record {
  sound = λ c l. absurd (let e : length edges ≡ 0 = ap length es in let no : ⊥ = omega arith in no);
  exact = λ e c h. absurd (none-some c (sym (ap (λ m. lookup (is_at (cmp-value.it e)) m) is) ∙ h));
}

pub found : (edges : List Edge) (index : List (Edge × ℕ)) (e : Edge) (r : Option ℕ) → IsIndexed edges index → r ≡ code_in index e → IfSome r (λ c. (c < length edges) × (edge_at edges c ≡ e))
found edges index e None k h = tt
found edges index e (Some c) k h = k.exact e c (sym h)

pub absent : (edges : List Edge) (index : List (Edge × ℕ)) (e : Edge) → IsIndexed edges index → code_in index e ≡ None → (c : ℕ) → c < length edges → edge_at edges c ≡ e → ⊥
absent edges index e k h c l is = none-some c (sym h ∙ ap (code_in index) (sym is) ∙ k.sound c l)

some-same : (c d : ℕ) → Some c ≡ Some d → c ≡ d
some-same c d h = cc

pub once : (edges : List Edge) (index : List (Edge × ℕ)) → IsIndexed edges index → (c d : ℕ) → c < length edges → d < length edges → edge_at edges c ≡ edge_at edges d → c ≡ d
once edges index k c d l m same = some-same c d (sym (k.sound c l) ∙ ap (code_in index) same ∙ k.sound d m)

pub indexed-more : (edges new : List Edge) (index now : List (Edge × ℕ)) (e : Edge) (code : ℕ) → IsIndexed edges index → ((c : ℕ) → c < length edges → edge_at edges c ≡ e → ⊥) → code ≡ length edges → new ≡ edges ++ e ∷ [] → ((q : Edge) → code_in now q ≡ cond (is_at (cmp-value.it e) q) (Some code) (code_in index q)) → IsIndexed new now
indexed-more edges new index now e code k fresh at is noted = record {
  sound = λ c l. sound c l (ltb c (length edges)) refl;
  exact = λ q c h. exact q c h (is_at (cmp-value.it e) q) refl;
}
  where
    long : length new ≡ length edges + 1
    long = ap length is ∙ length_push edges e

    before : (c : ℕ) → c < length edges → edge_at new c ≡ edge_at edges c
    before c l = ap (λ es. edge_at es c) is ∙ get_or_append_left edges (e ∷ []) (record { router = 0; target = NoRoute }) c l

    last : edge_at new code ≡ e
    last = ap (λ es. edge_at es code) is ∙ get_or_push edges e (record { router = 0; target = NoRoute }) code (sym at)

    sound : (c : ℕ) → c < length new → (t : Bool) → ltb c (length edges) ≡ t → code_in now (edge_at new c) ≡ Some c
    sound c l true h =
        let low : c < length edges = grind (arith, nat_tests) in
        let no : is_at (cmp-value.it e) (edge_at edges c) ≡ false = false_from_ne_true (is_at (cmp-value.it e) (edge_at edges c)) (λ t. fresh c low (sym (at-exact e (edge_at edges c) t))) in
        ap (code_in now) (before c low) ∙ noted (edge_at edges c) ∙ ap (λ t. cond t (Some code) (code_in index (edge_at edges c))) no ∙ k.sound c low
    sound c l false h =
        let high : length edges ≤ c = grind (arith, nat_tests) in
        let here : c ≡ code = omega (arith, long, at) in
        ap (λ n. code_in now (edge_at new n)) here ∙ ap (code_in now) last ∙ noted e ∙ ap (λ t. cond t (Some code) (code_in index e)) (at-itself e) ∙ ap (λ (n : ℕ). Some n) (sym here)

    exact : (q : Edge) (c : ℕ) → code_in now q ≡ Some c → (t : Bool) → is_at (cmp-value.it e) q ≡ t → (c < length new) × (edge_at new c ≡ q)
    exact q c h true t =
        let here : code ≡ c = some-same code c (sym (noted q ∙ ap (λ b. cond b (Some code) (code_in index q)) t) ∙ h) in
        (omega (arith, long, at), ap (edge_at new) (sym here) ∙ last ∙ at-exact e q t)
    exact q c h false t =
        let old = k.exact q c (sym (noted q ∙ ap (λ b. cond b (Some code) (code_in index q)) t) ∙ h) in
        (omega (arith, long, old.0), before c old.0 ∙ old.1)

pub coded-new : (edges new : List Edge) (e : Edge) (code : ℕ) → code ≡ length edges → new ≡ edges ++ e ∷ [] → IsCoded edges new e code
coded-new edges new e code at is =
    let long : length new ≡ length edges + 1 = ap length is ∙ length_push edges e in
    record {
      many = omega arith;
      few = omega arith;
      only = λ c l m. omega arith;
      below = omega arith;
      is = ap (λ es. edge_at es code) is ∙ get_or_push edges e (record { router = 0; target = NoRoute }) code (sym at);
      same = λ c l. ap (λ es. edge_at es c) is ∙ get_or_append_left edges (e ∷ []) (record { router = 0; target = NoRoute }) c l;
    }

pub coded-old : (edges : List Edge) (e : Edge) (code : ℕ) → (code < length edges) × (edge_at edges code ≡ e) → IsCoded edges edges e code
coded-old edges e code h = record { many = omega arith; few = omega arith; only = λ c l m. absurd (let no : ⊥ = omega arith in no); below = h.0; is = h.1; same = λ c l. refl }

pub fresh-inside : (edges now : List Edge) (e : Edge) → edges ≡ now → ((c : ℕ) → c < length now → edge_at now c ≡ e → ⊥) → (c : ℕ) → c < length edges → edge_at edges c ≡ e → ⊥
fresh-inside edges now e is fresh c l same = fresh c (let long : length edges ≡ length now = ap length is in omega arith) (ap (λ es. edge_at es c) (sym is) ∙ same)

-- the same edges, and the same codes under them
pub indexed-again : (edges new : List Edge) (index now : List (Edge × ℕ)) → IsIndexed edges index → new ≡ edges → ((q : Edge) → code_in now q ≡ code_in index q) → IsIndexed new now
indexed-again edges new index now k is same = subst (λ (es : List Edge). IsIndexed es now) (sym is) (record {
  sound = λ c l. same (edge_at edges c) ∙ k.sound c l;
  exact = λ q c h. k.exact q c (sym (same q) ∙ h);
})

-- nothing stands under an edge that has no code
pub unknown : (edges now : List Edge) (index : List (Edge × ℕ)) (e : Edge) → IsIndexed edges index → edges ≡ now → ((c : ℕ) → c < length now → edge_at now c ≡ e → ⊥) → code_in index e ≡ None
unknown edges now index e k is fresh = from (code_in index e) refl
  where
    from : (o : Option ℕ) → code_in index e ≡ o → code_in index e ≡ None
    from None h = h
    from (Some c) h = absurd (fresh-inside edges now e is fresh c (k.exact e c h).0 (k.exact e c h).1)

-- what was put under an edge, and is taken away again
pub forgotten : (index mid new : List (Edge × ℕ)) (e : Edge) (code : ℕ) → code_in index e ≡ None → ((q : Edge) → code_in mid q ≡ cond (is_at (cmp-value.it e) q) (Some code) (code_in index q)) → ((q : Edge) → code_in new q ≡ cond (is_at (cmp-value.it e) q) None (code_in mid q)) → (q : Edge) → code_in new q ≡ code_in index q
forgotten index mid new e code none noted gone q = from (is_at (cmp-value.it e) q) refl
  where
    from : (t : Bool) → is_at (cmp-value.it e) q ≡ t → code_in new q ≡ code_in index q
    from true t = gone q ∙ ap (λ b. cond b None (code_in mid q)) t ∙ sym none ∙ ap (code_in index) (at-exact e q t)
    from false t = gone q ∙ ap (λ b. cond b None (code_in mid q)) t ∙ noted q ∙ ap (λ b. cond b (Some code) (code_in index q)) t
