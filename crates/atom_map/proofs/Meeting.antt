-- The atoms that an interval meets: from the one of its first address to the last that begins below its end.
use Rattle.std.proofs.Common.{◌≡◌, ℕ, ◌+◌, ◌<◌, ◌≤◌, ◌^◌, ◌∙◌, ◌⊎◌, ⊎_elim, zero, suc, true, false, cond, List, [], ◌∷◌, ◌++◌, ◌&&◌, length, get_or, map, drop, filter, refl, ap, sym, add-one, append_assoc, arith, drop-cons, ltb}
use Rattle.std.proofs.lemmas.Bool.{cases_lt, lt-ltb, le-ltb, and_from, and_left, and_right}
use Rattle.std.proofs.lemmas.List.{append-nil, drop_all}
use Rattle.base.specs.Rows.{CoverFrom}
use Rattle.atom_map.specs.Atoms.{AreAtoms, atom_low, atom_past, meets, atoms_in, atom_of}
use Rattle.atom_map.specs.declared.atom_row.AtomRow.{AtomRow}
use Rattle.base.specs.declared.ids.AtomId.{AtomId}
use Rattle.base.proofs.Covers.{low-at, starts-below}
use Rattle.atom_map.specs.Index.{first_below}

abbrev Cover : ℕ → List AtomRow → Type 0
Cover start rows = CoverFrom atom_low atom_past start rows

-- when an atom is met
meets-all : (lo hi : ℕ) (r : AtomRow) → lo < hi → r.low < hi → lo < r.past → meets lo hi r ≡ true
meets-all lo hi r a b c = and_from (ltb lo hi) (ltb r.low hi && ltb lo r.past) (lt-ltb lo hi a) (and_from (ltb r.low hi) (ltb lo r.past) (lt-ltb r.low hi b) (lt-ltb lo r.past c))

meets-none : (lo hi : ℕ) (r : AtomRow) → hi ≤ lo → meets lo hi r ≡ false
meets-none lo hi r a = and_left (ltb lo hi) (ltb r.low hi && ltb lo r.past) (le-ltb lo hi a)

meets-above : (lo hi : ℕ) (r : AtomRow) → hi ≤ r.low → meets lo hi r ≡ false
meets-above lo hi r a = and_right (ltb lo hi) (ltb r.low hi && ltb lo r.past) (and_left (ltb r.low hi) (ltb lo r.past) (le-ltb r.low hi a))

meets-below : (lo hi : ℕ) (r : AtomRow) → r.past ≤ lo → meets lo hi r ≡ false
meets-below lo hi r a = and_right (ltb lo hi) (ltb r.low hi && ltb lo r.past) (and_right (ltb r.low hi) (ltb lo r.past) (le-ltb lo r.past a))

-- a filter at one more
kept : (lo hi : ℕ) (r : AtomRow) (rs : List AtomRow) → meets lo hi r ≡ true → filter (meets lo hi) (r ∷ rs) ≡ r ∷ filter (meets lo hi) rs
kept lo hi r rs e = ap (λ b. cond b (r ∷ filter (meets lo hi) rs) (filter (meets lo hi) rs)) e

left-out : (lo hi : ℕ) (r : AtomRow) (rs : List AtomRow) → meets lo hi r ≡ false → filter (meets lo hi) (r ∷ rs) ≡ filter (meets lo hi) rs
left-out lo hi r rs e = ap (λ b. cond b (r ∷ filter (meets lo hi) rs) (filter (meets lo hi) rs)) e

taken : (hi : ℕ) (r : AtomRow) (rs : List AtomRow) → r.low < hi → first_below hi (r ∷ rs) ≡ r ∷ first_below hi rs
taken hi r rs l = ap (λ b. cond b (r ∷ first_below hi rs) []) (lt-ltb r.low hi l)

pub not-taken : (hi : ℕ) (r : AtomRow) (rs : List AtomRow) → hi ≤ r.low → first_below hi (r ∷ rs) ≡ []
not-taken hi r rs l = ap (λ b. cond b (r ∷ first_below hi rs) []) (le-ltb r.low hi l)

-- the elements from a place on, by the one there
pub from-place : {X : Type 0} (xs : List X) (i : ℕ) (x : X) → i < length xs → ((d : X) → x ≡ get_or xs i d) → drop i xs ≡ x ∷ drop (i + 1) xs
from-place {X} xs i x l is =
    drop-cons xs i x l
    ∙ ap (λ (y : X). y ∷ drop (suc i) xs) (sym (is x))
    ∙ ap (λ k. x ∷ drop k xs) (sym (add-one i))

-- a walk over the atoms that begin below an address: one more, the first that doesn't, and the end
pub one-more-below : (hi i : ℕ) (rows : List AtomRow) (row : AtomRow) (old new whole : List AtomId) → i < length rows → ((d : AtomRow) → row ≡ get_or rows i d) → row.low < hi → old ++ map atom_of (first_below hi (drop i rows)) ≡ whole → new ≡ old ++ row.atom ∷ [] → new ++ map atom_of (first_below hi (drop (i + 1) rows)) ≡ whole
one-more-below hi i rows row old new whole l is b e n =
    let rest : List AtomId = map atom_of (first_below hi (drop (i + 1) rows)) in
    ap (λ (xs : List AtomId). xs ++ rest) n
    ∙ append_assoc old (row.atom ∷ []) rest
    ∙ ap (λ (xs : List AtomRow). old ++ map atom_of xs) (sym (ap (first_below hi) (from-place rows i row l is) ∙ taken hi row (drop (i + 1) rows) b))
    ∙ e

pub no-more-below : (hi i : ℕ) (rows : List AtomRow) (row : AtomRow) (got whole : List AtomId) → i < length rows → ((d : AtomRow) → row ≡ get_or rows i d) → hi ≤ row.low → got ++ map atom_of (first_below hi (drop i rows)) ≡ whole → got ≡ whole
no-more-below hi i rows row got whole l is b e =
    sym (append-nil got)
    ∙ ap (λ (xs : List AtomRow). got ++ map atom_of xs) (sym (ap (first_below hi) (from-place rows i row l is) ∙ not-taken hi row (drop (i + 1) rows) b))
    ∙ e

pub all-below : (hi i : ℕ) (rows : List AtomRow) (got whole : List AtomId) → length rows ≤ i → got ++ map atom_of (first_below hi (drop i rows)) ≡ whole → got ≡ whole
all-below hi i rows got whole l e =
    sym (append-nil got)
    ∙ ap (λ (xs : List AtomRow). got ++ map atom_of (first_below hi xs)) (sym (drop_all i rows l))
    ∙ e

-- no atom of an interval with no address
pub none-of-none : (lo hi : ℕ) (rows : List AtomRow) → hi ≤ lo → filter (meets lo hi) rows ≡ []
none-of-none lo hi [] h = refl
none-of-none lo hi (r ∷ rs) h = left-out lo hi r rs (meets-none lo hi r h) ∙ none-of-none lo hi rs h

-- no atom past the last address
pub none-past : (start lo hi : ℕ) (rows : List AtomRow) → Cover start rows → 2 ^ 32 ≤ lo → filter (meets lo hi) rows ≡ []
none-past start lo hi [] h l = refl
none-past start lo hi (r ∷ rs) h l =
    let b : r.past ≤ 2 ^ 32 = starts-below atom_low atom_past r.past rs h.2 in
    left-out lo hi r rs (meets-below lo hi r (omega arith)) ∙ none-past r.past lo hi rs h.2 l

-- no atom that begins past the interval's end
none-above : (start lo hi : ℕ) (rows : List AtomRow) → Cover start rows → hi ≤ start → filter (meets lo hi) rows ≡ []
none-above start lo hi [] h l = refl
none-above start lo hi (r ∷ rs) h l =
    let e : r.low ≡ start = h.0 in
    let o : r.low < r.past = h.1 in
    left-out lo hi r rs (meets-above lo hi r (omega arith)) ∙ none-above r.past lo hi rs h.2 (omega arith)

-- from an atom on that ends above the interval's first address
met-from : (start lo hi : ℕ) (rows : List AtomRow) → Cover start rows → lo < hi → lo < start → filter (meets lo hi) rows ≡ first_below hi rows
met-from start lo hi [] h o l = refl
met-from start lo hi (r ∷ rs) h o l =
    let e : r.low ≡ start = h.0 in
    let w : r.low < r.past = h.1 in
    ⊎_elim
    (λ (b : r.low < hi).
    kept lo hi r rs (meets-all lo hi r o b (omega arith))
    ∙ ap (λ (xs : List AtomRow). r ∷ xs) (met-from r.past lo hi rs h.2 o (omega arith))
    ∙ sym (taken hi r rs b))
    (λ (b : hi ≤ r.low).
    left-out lo hi r rs (meets-above lo hi r b)
    ∙ none-above r.past lo hi rs h.2 (omega arith)
    ∙ sym (not-taken hi r rs b))
    (cases_lt r.low hi)

-- from the atom of the interval's first address on
pub met-at : (start lo hi : ℕ) (rows : List AtomRow) (i : ℕ) (d : AtomRow) → Cover start rows → lo < hi → i < length rows → atom_low (get_or rows i d) ≤ lo → lo < atom_past (get_or rows i d) → filter (meets lo hi) rows ≡ first_below hi (drop i rows)
met-at start lo hi [] i d h o l from to = absurd (omega arith)
met-at start lo hi (r ∷ rs) zero d h o l from to =
    kept lo hi r rs (meets-all lo hi r o (omega arith) to)
    ∙ ap (λ (xs : List AtomRow). r ∷ xs) (met-from r.past lo hi rs h.2 o to)
    ∙ sym (taken hi r rs (omega arith))
met-at start lo hi (r ∷ rs) (suc i) d h o l from to =
    let k : r.past ≤ atom_low (get_or rs i d) = low-at atom_low atom_past r.past rs i d h.2 (omega arith) in
    left-out lo hi r rs (meets-below lo hi r (omega arith))
    ∙ met-at r.past lo hi rs i d h.2 o (omega arith) from to

-- as the answers are stated
pub atoms-met : (lo hi : ℕ) (rows : List AtomRow) (i : ℕ) (d : AtomRow) → AreAtoms rows → lo < hi → i < length rows → atom_low (get_or rows i d) ≤ lo → lo < atom_past (get_or rows i d) → map atom_of (first_below hi (drop i rows)) ≡ atoms_in rows lo hi
atoms-met lo hi rows i d h o l from to = ap (λ (xs : List AtomRow). map atom_of xs) (sym (met-at 0 lo hi rows i d h.cover o l from to))

pub no-atoms-met : (lo hi : ℕ) (rows : List AtomRow) → AreAtoms rows → (hi ≤ lo) ⊎ (2 ^ 32 ≤ lo) → [] ≡ atoms_in rows lo hi
no-atoms-met lo hi rows h c =
    ⊎_elim
    (λ (l : hi ≤ lo). ap (λ (xs : List AtomRow). map atom_of xs) (sym (none-of-none lo hi rows l)))
    (λ (l : 2 ^ 32 ≤ lo). ap (λ (xs : List AtomRow). map atom_of xs) (sym (none-past 0 lo hi rows h.cover l)))
    c
