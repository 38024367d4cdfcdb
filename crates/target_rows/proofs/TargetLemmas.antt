-- Rows of codes that stand for what routers do.
use Rattle.std.proofs.Common.{◌≡◌, ℕ, ◌+◌, ◌*◌, ◌<◌, ◌≤◌, eqb, ltb, Bool, true, false, List, [], ◌∷◌, ◌++◌, length, replicate, get_or, refl, ap, sym, subst, ◌∙◌, arith, lit≤}
use Rattle.std.proofs.lemmas.Bool.Decides.{nat_tests}
use Rattle.std.proofs.lemmas.List.{get_or-map, get_or-replicate, get_or_append_left, get_or_push, length_push, length-map, length-replicate, same_lists}
use Rattle.std.proofs.lemmas.List.FromFn.{get_or-map-range_with_len, length-map-range_with_len}
use Rattle.base.specs.declared.target.Target.{Target}
use Rattle.base.specs.declared.target.Target.TheVariants.{NoRoute}
use Rattle.target_rows.specs.declared.codes.Edge.{Edge}
use Rattle.target_rows.specs.Codes.{edge_at, IsCoded}
use Rattle.target_rows.specs.Labels.{Labels, first_labels, target_at, targets_of}
use Rattle.target_rows.specs.Rows.{AreFirst, AreRows, code_at, codes_of, IsCodeOf, labels_of, targets_by}
use Rattle.target_rows.proofs.RowLemmas.{length-row, map-agree, row-at}

-- ---- what labels are seen as

pub routers-of : (n atoms : ℕ) (codes : List ℕ) (edges : List Edge) (g : Labels) → labels_of n atoms codes edges ≡ g → n ≡ g.routers
unfolding labels_of
routers-of n atoms codes edges g is = ap (λ l. l.routers) is

pub atoms-of : (n atoms : ℕ) (codes : List ℕ) (edges : List Edge) (g : Labels) → labels_of n atoms codes edges ≡ g → length g.rows ≡ atoms
unfolding labels_of
atoms-of n atoms codes edges g is = ap (λ l. length l.rows) (sym is) ∙ length-map-range_with_len (λ a. targets_by edges (codes_of n codes a)) 0 atoms

row-of : (n atoms a : ℕ) (codes : List ℕ) (edges : List Edge) → a < atoms → targets_of (labels_of n atoms codes edges) a ≡ targets_by edges (codes_of n codes a)
unfolding labels_of
row-of n atoms a codes edges l = get_or-map-range_with_len (λ b. targets_by edges (codes_of n codes b)) 0 atoms a a [] l (omega arith)

target-of : (n atoms r a : ℕ) (codes : List ℕ) (edges : List Edge) → length codes ≡ atoms * n → r < n → a < atoms → target_at (labels_of n atoms codes edges) r a ≡ (edge_at edges (code_at n codes a r)).target
target-of n atoms r a codes edges long lr la =
    ap (λ row. get_or row r NoRoute) (row-of n atoms a codes edges la)
    ∙ get_or-map (λ c. (edge_at edges c).target) (codes_of n codes a) r 0 NoRoute (omega (arith, length-row n atoms a codes long la))
    ∙ ap (λ c. (edge_at edges c).target) (row-at n a r codes lr)

pub target-now : (n atoms r a : ℕ) (codes : List ℕ) (edges : List Edge) (g : Labels) → labels_of n atoms codes edges ≡ g → length codes ≡ atoms * n → r < n → a < atoms → (edge_at edges (code_at n codes a r)).target ≡ target_at g r a
target-now n atoms r a codes edges g is long lr la = sym (target-of n atoms r a codes edges long lr la) ∙ ap (λ l. target_at l r a) is

pub itself : (j k : ℕ) → j ≡ k → eqb j k ≡ true
itself j k h = grind (arith, nat_tests)

pub same-from : (j k : ℕ) → eqb j k ≡ true → j ≡ k
same-from j k h = grind (arith, nat_tests)

pub below-from : (j k : ℕ) → ltb j k ≡ true → j < k
below-from j k h = grind (arith, nat_tests)

-- ---- an edge gets a code

-- a code of a router stays one
pub still : (edges new : List Edge) (e : Edge) (q c code : ℕ) → IsCoded edges new e code → IsCodeOf edges q c → IsCodeOf new q c
still edges new e q c code coded k = record { there = omega (arith, k.there, coded.many); router = ap (λ x. x.router) (coded.same c k.there) ∙ k.router }

pub coded-within : (n r code : ℕ) (edges new : List Edge) (t : Target) → ((c : ℕ) → c < length edges → (edge_at edges c).router < n) → IsCoded edges new (record { router = r; target = t }) code → r < n → (c : ℕ) → c < length new → (edge_at new c).router < n
coded-within n r code edges new t within coded lr c l = from (ltb c (length edges)) refl
  where
    from : (u : Bool) → ltb c (length edges) ≡ u → (edge_at new c).router < n
    from true e = let lc : c < length edges = below-from c (length edges) e in subst (λ (x : Edge). x.router < n) (sym (coded.same c lc)) (within c lc)
    from false e =
        let high : length edges ≤ c = grind (arith, nat_tests) in
        let router : (edge_at new c).router ≡ r = ap (λ x. (edge_at new x).router) (coded.only c high l) ∙ ap (λ x. x.router) coded.is in
        omega (arith, router, lr)

-- codes that stay mean the same
pub targets-kept : (n atoms r b code : ℕ) (codes : List ℕ) (edges new : List Edge) (t : Target) → AreRows n atoms codes edges → IsCoded edges new (record { router = r; target = t }) code → b < atoms → targets_by new (codes_of n codes b) ≡ targets_by edges (codes_of n codes b)
targets-kept n atoms r b code codes edges new t kept coded l = map-agree (λ c. (edge_at new c).target) (λ c. (edge_at edges c).target) (codes_of n codes b) (λ q m.
    let lq : q < n = omega (arith, length-row n atoms b codes kept.long l) in
    let known : get_or (codes_of n codes b) q 0 < length edges = subst (λ (x : ℕ). x < length edges) (sym (row-at n b q codes lq)) (kept.own b q l lq).there in
    ap (λ e. e.target) (coded.same (get_or (codes_of n codes b) q 0) known))

-- ---- the first row

pub first-none : (codes : List ℕ) (edges : List Edge) → codes ≡ [] → edges ≡ [] → AreFirst 0 codes edges
first-none codes edges e f = record {
  long_codes = ap length e;
  long_edges = ap length f;
  each_code = λ c l. absurd (let no : ⊥ = omega arith in no);
  each_edge = λ c l. absurd (let no : ⊥ = omega arith in no);
}

pub first-more : (r code : ℕ) (codes codes' : List ℕ) (edges edges' : List Edge) → AreFirst r codes edges → IsCoded edges edges' (record { router = r; target = NoRoute }) code → codes' ≡ codes ++ code ∷ [] → AreFirst (r + 1) codes' edges'
first-more r code codes codes' edges edges' first coded ec = record {
  long_codes = omega (arith, ap length ec ∙ length_push codes code, first.long_codes);
  long_edges = omega (arith, at, coded.below, coded.few, first.long_edges);
  each_code = λ c l. codes-at c l (ltb c r) refl;
  each_edge = λ c l. edges-at c l (ltb c r) refl;
}
  where
    old-router : (c : ℕ) → c < length edges → (edge_at edges c).router ≡ c
    old-router c l = ap (λ e. e.router) (first.each_edge c (omega (arith, first.long_edges)))

    high : (u : Bool) → ltb code (length edges) ≡ u → length edges ≤ code
    high true e =
        let l : code < length edges = below-from code (length edges) e in
        let router : (edge_at edges code).router ≡ r = ap (λ x. x.router) (sym (coded.same code l)) ∙ ap (λ x. x.router) coded.is in
        omega (arith, old-router code l, router, first.long_edges)
    high false e = grind (arith, nat_tests)

    at : code ≡ r
    at = omega (arith, high (ltb code (length edges)) refl, coded.below, coded.few, first.long_edges)

    codes-at : (c : ℕ) → c < r + 1 → (u : Bool) → ltb c r ≡ u → get_or codes' c 0 ≡ c
    codes-at c l true e = let lc : c < r = below-from c r e in ap (λ xs. get_or xs c 0) ec ∙ get_or_append_left codes (code ∷ []) 0 c (omega (arith, first.long_codes)) ∙ first.each_code c lc
    codes-at c l false e = let here : c ≡ r = grind (arith, nat_tests) in ap (λ xs. get_or xs c 0) ec ∙ get_or_push codes code 0 c (omega (arith, first.long_codes)) ∙ at ∙ sym here

    edges-at : (c : ℕ) → c < r + 1 → (u : Bool) → ltb c r ≡ u → edge_at edges' c ≡ record { router = c; target = NoRoute }
    edges-at c l true e = let lc : c < r = below-from c r e in coded.same c (omega (arith, first.long_edges)) ∙ first.each_edge c lc
    edges-at c l false e =
        let here : c ≡ r = grind (arith, nat_tests) in
        let make : ℕ → Edge = λ x. record { router = x; target = NoRoute } in
        ap (edge_at edges') (here ∙ sym at) ∙ coded.is ∙ ap make (sym here)

pub zero-code : (n q : ℕ) (codes : List ℕ) → code_at n codes 0 q ≡ get_or codes q 0
zero-code n q codes = let e : 0 * n + q ≡ q = omega arith in ap (λ i. get_or codes i 0) e

-- the codes of the first row, and the routers of the first edges
pub first-code : (n q : ℕ) (codes : List ℕ) (edges : List Edge) → AreFirst n codes edges → q < n → code_at n codes 0 q ≡ q
first-code n q codes edges first l = zero-code n q codes ∙ first.each_code q l

pub first-router : (n c : ℕ) (codes : List ℕ) (edges : List Edge) → AreFirst n codes edges → c < length edges → (edge_at edges c).router ≡ c
first-router n c codes edges first l = ap (λ e. e.router) (first.each_edge c (omega (arith, first.long_edges)))

pub first-rows : (n : ℕ) (codes : List ℕ) (edges : List Edge) → AreFirst n codes edges → AreRows n 1 codes edges
first-rows n codes edges first = record {
  long = omega (arith, first.long_codes);
  few = lit≤ tt;
  own = λ a q la lq. own a q la lq;
  within = λ c l. omega (arith, first-router n c codes edges first l, first.long_edges);
}
  where
    own : (a q : ℕ) → a < 1 → q < n → IsCodeOf edges q (code_at n codes a q)
    own a q la lq =
        let here : a ≡ 0 = omega arith in
        subst (IsCodeOf edges q) (sym (ap (λ x. code_at n codes x q) here ∙ first-code n q codes edges first lq)) (record { there = omega (arith, first.long_edges); router = ap (λ e. e.router) (first.each_edge q lq) })

pub first-seen : (n : ℕ) (codes : List ℕ) (edges : List Edge) → AreFirst n codes edges → labels_of n 1 codes edges ≡ first_labels n
unfolding labels_of
first-seen n codes edges first = ap (λ row. make (row ∷ [])) (same_lists (targets_by edges (codes_of n codes 0)) (replicate n NoRoute) (long ∙ sym (length-replicate n NoRoute)) (λ k d l. each k d (omega (arith, long))))
  where
    make : List (List Target) → Labels
    make rows = record { routers = n; rows = rows }

    len : length (codes_of n codes 0) ≡ n
    len = length-row n 1 0 codes (omega (arith, first.long_codes)) (omega arith)

    long : length (targets_by edges (codes_of n codes 0)) ≡ n
    long = length-map (codes_of n codes 0) (λ c. (edge_at edges c).target) ∙ len

    each : (k : ℕ) (d : Target) → k < n → get_or (targets_by edges (codes_of n codes 0)) k d ≡ get_or (replicate n NoRoute) k d
    each k d l =
        get_or-map (λ c. (edge_at edges c).target) (codes_of n codes 0) k 0 d (omega (arith, len))
        ∙ ap (λ c. (edge_at edges c).target) (row-at n 0 k codes l ∙ zero-code n k codes ∙ first.each_code k l)
        ∙ ap (λ e. e.target) (first.each_edge k l)
        ∙ sym (get_or-replicate n k NoRoute d l)

-- what is read of a router and an atom
pub code-known : (n atoms r a place code : ℕ) (codes : List ℕ) (edges : List Edge) (g : Labels) → labels_of n atoms codes edges ≡ g → AreRows n atoms codes edges → r < g.routers → a < length g.rows → place ≡ a * n + r → code ≡ get_or codes place 0 → (code < length edges) × ((edge_at edges code).target ≡ target_at g r a) × (code ≡ code_at n codes a r)
code-known n atoms r a place code codes edges g is kept lr la at read =
    let lr' : r < n = omega (arith, routers-of n atoms codes edges g is) in
    let la' : a < atoms = omega (arith, atoms-of n atoms codes edges g is) in
    let same : code ≡ code_at n codes a r = read ∙ ap (λ i. get_or codes i 0) at in (
      subst (λ (x : ℕ). x < length edges) (sym same) (kept.own a r la' lr').there,
      ap (λ x. (edge_at edges x).target) same ∙ target-now n atoms r a codes edges g is kept.long lr' la',
      same,
    )
