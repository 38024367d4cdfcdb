-- Rows of codes by the number of an atom, where an atom is added, or a router does something else with one.
use Rattle.std.proofs.Common.{◌≡◌, ◌≢◌, ℕ, ◌+◌, ◌*◌, ◌<◌, eqb, ltb, Bool, true, false, List, [], ◌∷◌, ◌++◌, length, map, get_or, set, refl, ap, sym, subst, ◌∙◌, arith, length-append}
use Rattle.std.specs.List.{range_with_len}
use Rattle.std.proofs.lemmas.Bool.{false≢true}
use Rattle.std.proofs.lemmas.Bool.Decides.{nat_tests}
use Rattle.std.proofs.lemmas.List.{get_or-set_other, get_or-set_same, length-set, map-set, set-get_or}
use Rattle.std.proofs.lemmas.List.FromFn.{fill_by_all, get_or-map-range_with_len, length-map-range_with_len, map-range_with_len_more}
use Rattle.base.specs.declared.target.Target.{Target}
use Rattle.base.specs.declared.target.Target.TheVariants.{NoRoute}
use Rattle.edge_labels.specs.Labels.{inherited, moved}
use Rattle.target_rows.specs.declared.codes.Edge.{Edge}
use Rattle.target_rows.specs.Codes.{edge_at, IsCoded}
use Rattle.target_rows.specs.Labels.{Labels, target_at, targets_of}
use Rattle.target_rows.specs.Rows.{AreRows, code_at, codes_of, IsCodeOf, labels_of, targets_by}
use Rattle.edge_labels.proofs.RowLemmas.{code-added, code-kept, map-along, row-added, row-kept, row-other, row-written}
use Rattle.target_rows.proofs.RowLemmas.{length-row, place-atom, place-router, row-at, row-fits}
use Rattle.target_rows.proofs.TargetLemmas.{below-from, coded-within, itself, same-from, still, targets-kept}

-- a router does already what it is to do
pub moved-same : (g : Labels) (r a : ℕ) (t : Target) → target_at g r a ≡ t → g ≡ moved g r a t
moved-same g r a t same =
    let make : List (List Target) → Labels = λ rows. record { routers = g.routers; rows = rows } in
    ap make (sym (ap (λ row. set g.rows a row) (ap (λ x. set (targets_of g a) r x) (sym same) ∙ set-get_or (targets_of g a) r NoRoute) ∙ set-get_or g.rows a []))

-- ---- an atom is added

pub code-before : (n atoms old b q : ℕ) (codes new : List ℕ) → length codes ≡ atoms * n → new ≡ codes ++ codes_of n codes old → b < atoms → q < n → code_at n new b q ≡ code_at n codes b q
code-before n atoms old b q codes new long is lb lq = ap (λ cs. code_at n cs b q) is ∙ code-kept n atoms b q codes (codes_of n codes old) long lb lq

pub code-last : (n atoms old q : ℕ) (codes new : List ℕ) → length codes ≡ atoms * n → new ≡ codes ++ codes_of n codes old → q < n → code_at n new atoms q ≡ code_at n codes old q
code-last n atoms old q codes new long is lq = ap (λ cs. code_at n cs atoms q) is ∙ code-added n atoms q codes (codes_of n codes old) long ∙ row-at n old q codes lq

pub inherited-rows : (n atoms old : ℕ) (codes new : List ℕ) (edges : List Edge) → AreRows n atoms codes edges → old < atoms → atoms < 4294967296 → new ≡ codes ++ codes_of n codes old → AreRows n (atoms + 1) new edges
inherited-rows n atoms old codes new edges kept lo few is = record {
  long = ap length is ∙ length-append codes (codes_of n codes old) ∙ omega (arith, length-row n atoms old codes kept.long lo, kept.long);
  few = omega arith;
  own = own;
  within = kept.within;
}
  where
    own : (b q : ℕ) → b < atoms + 1 → q < n → IsCodeOf edges q (code_at n new b q)
    own b q lb lq = from (ltb b atoms) refl
      where
        from : (t : Bool) → ltb b atoms ≡ t → IsCodeOf edges q (code_at n new b q)
        from true e = subst (IsCodeOf edges q) (sym (code-before n atoms old b q codes new kept.long is (below-from b atoms e) lq)) (kept.own b q (below-from b atoms e) lq)
        from false e =
            let last : b ≡ atoms = grind (arith, nat_tests) in
            subst (IsCodeOf edges q) (sym (ap (λ x. code_at n new x q) last ∙ code-last n atoms old q codes new kept.long is lq)) (kept.own old q lo lq)

pub inherited-labels : (n atoms old : ℕ) (codes new : List ℕ) (edges : List Edge) (g : Labels) → labels_of n atoms codes edges ≡ g → length codes ≡ atoms * n → old < atoms → new ≡ codes ++ codes_of n codes old → labels_of n (atoms + 1) new edges ≡ inherited g old
unfolding labels_of
inherited-labels n atoms old codes new edges g is long lo made =
    let make : List (List Target) → Labels = λ rows. record { routers = n; rows = rows } in
    let len : length (codes_of n codes old) ≡ n = length-row n atoms old codes long lo in
    ap (λ cs. make (map (λ a. targets_by edges (codes_of n cs a)) (range_with_len 0 (atoms + 1)))) made
    ∙ ap make (map-range_with_len_more (λ a. targets_by edges (codes_of n (codes ++ codes_of n codes old) a)) 0 atoms atoms (omega arith))
    ∙ ap (λ row. make (map (λ a. targets_by edges (codes_of n (codes ++ codes_of n codes old) a)) (range_with_len 0 atoms) ++ targets_by edges row ∷ [])) (row-added n atoms codes (codes_of n codes old) long len)
    ∙ ap (λ rows. make (rows ++ targets_by edges (codes_of n codes old) ∷ [])) (map-along (λ a. targets_by edges (codes_of n (codes ++ codes_of n codes old) a)) (λ a. targets_by edges (codes_of n codes a)) 0 atoms (λ a l m. ap (targets_by edges) (row-kept n atoms a codes (codes_of n codes old) long (omega arith))))
    ∙ ap (λ row. make (map (λ a. targets_by edges (codes_of n codes a)) (range_with_len 0 atoms) ++ row ∷ [])) (sym (get_or-map-range_with_len (λ b. targets_by edges (codes_of n codes b)) 0 atoms old old [] lo (omega arith)))
    ∙ ap (λ l. inherited l old) is

-- ---- a router does something else with an atom

pub code-here : (n atoms r a code : ℕ) (codes now : List ℕ) → length codes ≡ atoms * n → now ≡ set codes (a * n + r) code → r < n → a < atoms → code_at n now a r ≡ code
code-here n atoms r a code codes now long is lr la = ap (λ cs. get_or cs (a * n + r) 0) is ∙ get_or-set_same codes (a * n + r) code 0 (omega (arith, long, row-fits a atoms n la))

pub code-other : (n r a code b q : ℕ) (codes now : List ℕ) → now ≡ set codes (a * n + r) code → r < n → q < n → (b ≡ a → q ≡ r → ⊥) → code_at n now b q ≡ code_at n codes b q
code-other n r a code b q codes now is lr lq ne = ap (λ cs. get_or cs (b * n + q) 0) is ∙ get_or-set_other codes (a * n + r) (b * n + q) code 0 (λ s. ne (place-atom a b q r n lq lr s) (place-router a b q r n lq lr s))

pub moved-rows : (n atoms r a code : ℕ) (codes now : List ℕ) (edges new : List Edge) (t : Target) → AreRows n atoms codes edges → IsCoded edges new (record { router = r; target = t }) code → now ≡ set codes (a * n + r) code → r < n → a < atoms → AreRows n atoms now new
moved-rows n atoms r a code codes now edges new t kept coded is lr la = record {
  long = ap length is ∙ length-set codes (a * n + r) code ∙ kept.long;
  few = kept.few;
  own = own;
  within = λ c l. coded-within n r code edges new t kept.within coded lr c l;
}
  where
    own : (b q : ℕ) → b < atoms → q < n → IsCodeOf new q (code_at n now b q)
    own b q lb lq = from (eqb b a) (eqb q r) refl refl
      where
        other : (b ≡ a → q ≡ r → ⊥) → IsCodeOf new q (code_at n now b q)
        other ne = subst (IsCodeOf new q) (sym (code-other n r a code b q codes now is lr lq ne)) (still edges new (record { router = r; target = t }) q (code_at n codes b q) code coded (kept.own b q lb lq))

        from : (u v : Bool) → eqb b a ≡ u → eqb q r ≡ v → IsCodeOf new q (code_at n now b q)
        from true true e f =
            let same : code_at n now b q ≡ code = ap (λ x. code_at n now x q) (same-from b a e) ∙ ap (λ x. code_at n now a x) (same-from q r f) ∙ code-here n atoms r a code codes now kept.long is lr la in
            subst (IsCodeOf new q) (sym same) (record { there = coded.below; router = ap (λ x. x.router) coded.is ∙ sym (same-from q r f) })
        from true false e f = other (λ s u. false≢true (sym f ∙ itself q r u))
        from false v e f = other (λ s u. false≢true (sym e ∙ itself b a s))

pub moved-labels : (n atoms r a code : ℕ) (codes now : List ℕ) (edges new : List Edge) (t : Target) (g : Labels) → labels_of n atoms codes edges ≡ g → AreRows n atoms codes edges → IsCoded edges new (record { router = r; target = t }) code → now ≡ set codes (a * n + r) code → r < n → a < atoms → labels_of n atoms now new ≡ moved g r a t
unfolding labels_of
moved-labels n atoms r a code codes now edges new t g is kept coded made lr la =
    let make : List (List Target) → Labels = λ rows. record { routers = n; rows = rows } in
    ap make (sym (fill_by_all (λ b. targets_by new (codes_of n now b)) (set rows a (set (get_or rows a []) r t)) atoms [] (length-set rows a (set (get_or rows a []) r t) ∙ length-map-range_with_len before_move 0 atoms) (λ b l. each b l (eqb b a) refl)))
    ∙ ap (λ l. moved l r a t) is
  where
    before_move : ℕ → List Target
    before_move b = targets_by edges (codes_of n codes b)

    rows : List (List Target)
    rows = map (λ b. targets_by edges (codes_of n codes b)) (range_with_len 0 atoms)

    each : (b : ℕ) → b < atoms → (u : Bool) → eqb b a ≡ u → get_or (set rows a (set (get_or rows a []) r t)) b [] ≡ targets_by new (codes_of n now b)
    each b l true e =
        let here : b ≡ a = same-from b a e in
        ap (λ x. get_or (set rows a (set (get_or rows a []) r t)) x []) here
        ∙ get_or-set_same rows a (set (get_or rows a []) r t) [] (omega (arith, length-map-range_with_len before_move 0 atoms))
        ∙ ap (λ xs. set xs r t) (get_or-map-range_with_len before_move 0 atoms a a [] la (omega arith) ∙ sym (targets-kept n atoms r a code codes edges new t kept coded la))
        ∙ ap (λ x. set (targets_by new (codes_of n codes a)) r x) (sym (ap (λ x. x.target) coded.is))
        ∙ sym (map-set (λ c. (edge_at new c).target) (codes_of n codes a) r code)
        ∙ ap (targets_by new) (sym (row-written n a r code codes lr))
        ∙ ap (λ cs. targets_by new (codes_of n cs a)) (sym made)
        ∙ ap (λ x. targets_by new (codes_of n now x)) (sym here)
    each b l false e =
        let ne : b ≢ a = λ s. false≢true (sym e ∙ itself b a s) in
        get_or-set_other rows a b (set (get_or rows a []) r t) [] ne
        ∙ get_or-map-range_with_len before_move 0 atoms b b [] l (omega arith)
        ∙ sym (targets-kept n atoms r b code codes edges new t kept coded l)
        ∙ ap (targets_by new) (sym (row-other n a b r code codes lr ne))
        ∙ ap (λ cs. targets_by new (codes_of n cs b)) (sym made)
