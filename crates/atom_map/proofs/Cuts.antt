-- Atoms of which one is cut in two.
use Rattle.std.proofs.Common.{◌≡◌, ℕ, ◌<◌, ◌≤◌, ◌^◌, ◌∙◌, ⊎_elim, zero, suc, true, false, cond, ◌||◌, Some, option_map, List, [], ◌∷◌, ◌++◌, length, get_or, take, drop, refl, ap, sym, subst, arith, leb, ltb, eqb}
use Rattle.std.proofs.lemmas.Bool.{cases_Bool, cases_lt, lt-ltb, le-ltb, leb-true, ltb-true, eqb-false, ne_eqb, and_parts, or_from, both_ways}
use Rattle.base.specs.Rows.{is_within, CoverFrom}
use Rattle.atom_map.specs.Atoms.{atom_low, atom_past, has_address, row_at, is_boundary, AreBelow, HasNone, AreOnce, AreAtoms, lower_part, upper_part, cut_rows, part_of}
use Rattle.atom_map.specs.declared.atom_row.AtomRow.{AtomRow}
use Rattle.base.specs.declared.ids.AtomId.{AtomId}
use Rattle.base.proofs.Covers.{within-yes, within-below, within-above, holder-first, holder-rest, low-at}

abbrev pub Cover : ℕ → List AtomRow → Type 0
Cover start rows = CoverFrom atom_low atom_past start rows

-- the cut at the first row, or after it
pub cut-first : (r : AtomRow) (rs : List AtomRow) (at : ℕ) (new : AtomId) → has_address at r ≡ true → cut_rows (r ∷ rs) at new ≡ lower_part at r ∷ upper_part at new r ∷ rs
cut-first r rs at new e = ap (λ b. cond b (lower_part at r ∷ upper_part at new r ∷ rs) (r ∷ cut_rows rs at new)) e

pub cut-rest : (r : AtomRow) (rs : List AtomRow) (at : ℕ) (new : AtomId) → has_address at r ≡ false → cut_rows (r ∷ rs) at new ≡ r ∷ cut_rows rs at new
cut-rest r rs at new e = ap (λ b. cond b (lower_part at r ∷ upper_part at new r ∷ rs) (r ∷ cut_rows rs at new)) e

-- the part of an address
pub part-whole : (at : ℕ) (new : AtomId) (a : ℕ) (r : AtomRow) → has_address at r ≡ false → part_of at new a r ≡ r
part-whole at new a r e = ap (λ b. cond b (cond (ltb a at) (lower_part at r) (upper_part at new r)) r) e

pub part-lower : (at : ℕ) (new : AtomId) (a : ℕ) (r : AtomRow) → has_address at r ≡ true → a < at → part_of at new a r ≡ lower_part at r
part-lower at new a r e l =
    ap (λ b. cond b (cond (ltb a at) (lower_part at r) (upper_part at new r)) r) e
    ∙ ap (λ b. cond b (lower_part at r) (upper_part at new r)) (lt-ltb a at l)

pub part-upper : (at : ℕ) (new : AtomId) (a : ℕ) (r : AtomRow) → has_address at r ≡ true → at ≤ a → part_of at new a r ≡ upper_part at new r
part-upper at new a r e l =
    ap (λ b. cond b (cond (ltb a at) (lower_part at r) (upper_part at new r)) r) e
    ∙ ap (λ b. cond b (lower_part at r) (upper_part at new r)) (le-ltb a at l)

-- no row after the cut is changed
pub uncut : (start : ℕ) (rows : List AtomRow) (at : ℕ) (new : AtomId) (a : ℕ) → Cover start rows → at < start → option_map (part_of at new a) (row_at rows a) ≡ row_at rows a
uncut start [] at new a h l = refl
uncut start (r ∷ rs) at new a h l =
    let e : r.low ≡ start = h.0 in
    let o : r.low < r.past = h.1 in
    ⊎_elim
    (λ (y : is_within r.low r.past a ≡ true).
    ap (option_map (part_of at new a)) (holder-first atom_low atom_past r rs a y)
    ∙ ap (λ (x : AtomRow). Some x) (part-whole at new a r (within-below r.low r.past at (omega arith)))
    ∙ sym (holder-first atom_low atom_past r rs a y))
    (λ (n : is_within r.low r.past a ≡ false).
    ap (option_map (part_of at new a)) (holder-rest atom_low atom_past r rs a n)
    ∙ uncut r.past rs at new a h.2 (omega arith)
    ∙ sym (holder-rest atom_low atom_past r rs a n))
    (cases_Bool (is_within r.low r.past a))

-- the two parts of the first row, and what follows it, by address
parts-first : (r : AtomRow) (rs : List AtomRow) (at : ℕ) (new : AtomId) (a : ℕ) → has_address at r ≡ true → is_within r.low r.past a ≡ true → row_at (lower_part at r ∷ upper_part at new r ∷ rs) a ≡ Some (part_of at new a r)
parts-first r rs at new a e y =
    let b : (leb r.low a ≡ true) × (ltb a r.past ≡ true) = and_parts (leb r.low a) (ltb a r.past) y in
    let from : r.low ≤ a = leb-true r.low a b.0 in
    let to : a < r.past = ltb-true a r.past b.1 in
    ⊎_elim
    (λ (l : a < at).
    holder-first atom_low atom_past (lower_part at r) (upper_part at new r ∷ rs) a (within-yes r.low at a from l)
    ∙ ap (λ (x : AtomRow). Some x) (sym (part-lower at new a r e l)))
    (λ (l : at ≤ a).
    holder-rest atom_low atom_past (lower_part at r) (upper_part at new r ∷ rs) a (within-above r.low at a l)
    ∙ holder-first atom_low atom_past (upper_part at new r) rs a (within-yes at r.past a l to)
    ∙ ap (λ (x : AtomRow). Some x) (sym (part-upper at new a r e l)))
    (cases_lt a at)

parts-rest : (r : AtomRow) (rs : List AtomRow) (at : ℕ) (new : AtomId) (a : ℕ) → r.low ≤ at → at < r.past → is_within r.low r.past a ≡ false → row_at (lower_part at r ∷ upper_part at new r ∷ rs) a ≡ row_at rs a
parts-rest r rs at new a from to n =
    ⊎_elim
    (λ (l : a < r.low).
    holder-rest atom_low atom_past (lower_part at r) (upper_part at new r ∷ rs) a (within-below r.low at a l)
    ∙ holder-rest atom_low atom_past (upper_part at new r) rs a (within-below at r.past a (omega arith)))
    (λ (l : r.low ≤ a).
    ⊎_elim
    (λ (m : a < r.past). absurd (both_ways (is_within r.low r.past a) n (within-yes r.low r.past a l m)))
    (λ (m : r.past ≤ a).
    holder-rest atom_low atom_past (lower_part at r) (upper_part at new r ∷ rs) a (within-above r.low at a (omega arith))
    ∙ holder-rest atom_low atom_past (upper_part at new r) rs a (within-above at r.past a m))
    (cases_lt a r.past))
    (cases_lt a r.low)

-- after a cut the row of an address is its part of the row before
pub row-after-cut : (start : ℕ) (rows : List AtomRow) (at : ℕ) (new : AtomId) (a : ℕ) → Cover start rows → row_at (cut_rows rows at new) a ≡ option_map (part_of at new a) (row_at rows a)
row-after-cut start [] at new a h = refl
row-after-cut start (r ∷ rs) at new a h =
    ⊎_elim
    (λ (e : has_address at r ≡ true).
    let b : (leb r.low at ≡ true) × (ltb at r.past ≡ true) = and_parts (leb r.low at) (ltb at r.past) e in
    let from : r.low ≤ at = leb-true r.low at b.0 in
    let to : at < r.past = ltb-true at r.past b.1 in
    ap (λ (xs : List AtomRow). row_at xs a) (cut-first r rs at new e)
    ∙ ⊎_elim
    (λ (y : is_within r.low r.past a ≡ true).
    parts-first r rs at new a e y ∙ sym (ap (option_map (part_of at new a)) (holder-first atom_low atom_past r rs a y)))
    (λ (n : is_within r.low r.past a ≡ false).
    parts-rest r rs at new a from to n
    ∙ sym (uncut r.past rs at new a h.2 to)
    ∙ sym (ap (option_map (part_of at new a)) (holder-rest atom_low atom_past r rs a n)))
    (cases_Bool (is_within r.low r.past a)))
    (λ (e : has_address at r ≡ false).
    ap (λ (xs : List AtomRow). row_at xs a) (cut-rest r rs at new e)
    ∙ ⊎_elim
    (λ (y : is_within r.low r.past a ≡ true).
    holder-first atom_low atom_past r (cut_rows rs at new) a y
    ∙ ap (λ (x : AtomRow). Some x) (sym (part-whole at new a r e))
    ∙ sym (ap (option_map (part_of at new a)) (holder-first atom_low atom_past r rs a y)))
    (λ (n : is_within r.low r.past a ≡ false).
    holder-rest atom_low atom_past r (cut_rows rs at new) a n
    ∙ row-after-cut r.past rs at new a h.2
    ∙ sym (ap (option_map (part_of at new a)) (holder-rest atom_low atom_past r rs a n)))
    (cases_Bool (is_within r.low r.past a)))
    (cases_Bool (has_address at r))

-- boundaries
pub boundary-parts : (r : AtomRow) (rs : List AtomRow) (at : ℕ) → is_boundary (r ∷ rs) at ≡ false → (r.low ≡ at → ⊥) × (is_boundary rs at ≡ false)
boundary-parts r rs at n =
    ⊎_elim
    (λ (e : eqb r.low at ≡ true). absurd (both_ways (is_boundary (r ∷ rs) at) n (ap (λ b. b || is_boundary rs at) e)))
    (λ (e : eqb r.low at ≡ false). (eqb-false r.low at e, sym (ap (λ b. b || is_boundary rs at) e) ∙ n))
    (cases_Bool (eqb r.low at))

-- a cut keeps the cover
pub cover-after-cut : (start : ℕ) (rows : List AtomRow) (at : ℕ) (new : AtomId) → Cover start rows → is_boundary rows at ≡ false → Cover start (cut_rows rows at new)
cover-after-cut start [] at new h n = h
cover-after-cut start (r ∷ rs) at new h n =
    let P : List AtomRow → Type 0 = λ xs. Cover start xs in
    let k : (r.low ≡ at → ⊥) × (is_boundary rs at ≡ false) = boundary-parts r rs at n in
    ⊎_elim
    (λ (e : has_address at r ≡ true).
    let b : (leb r.low at ≡ true) × (ltb at r.past ≡ true) = and_parts (leb r.low at) (ltb at r.past) e in
    let from : r.low ≤ at = leb-true r.low at b.0 in
    let to : at < r.past = ltb-true at r.past b.1 in
    let apart : r.low ≡ at → ⊥ = k.0 in
    let above : r.low < at = omega arith in
    subst P (sym (cut-first r rs at new e)) (h.0, above, (refl, to, h.2)))
    (λ (e : has_address at r ≡ false).
    subst P (sym (cut-rest r rs at new e)) (h.0, h.1, cover-after-cut r.past rs at new h.2 k.1))
    (cases_Bool (has_address at r))

-- a cut makes one row more, where the address is covered
pub length-after-cut : (start : ℕ) (rows : List AtomRow) (at : ℕ) (new : AtomId) → Cover start rows → start ≤ at → at < 2 ^ 32 → length (cut_rows rows at new) ≡ suc (length rows)
length-after-cut start [] at new h l b = let e : start ≡ 2 ^ 32 = h in absurd (omega arith)
length-after-cut start (r ∷ rs) at new h l b =
    let e : r.low ≡ start = h.0 in
    ⊎_elim
    (λ (t : at < r.past). ap (λ (xs : List AtomRow). length xs) (cut-first r rs at new (within-yes r.low r.past at (omega arith) t)))
    (λ (t : r.past ≤ at).
    ap (λ (xs : List AtomRow). length xs) (cut-rest r rs at new (within-above r.low r.past at t))
    ∙ ap (λ n. suc n) (length-after-cut r.past rs at new h.2 t b))
    (cases_lt at r.past)

-- a cut keeps the numbers, and adds the new one
pub below-more : (n m : ℕ) (rows : List AtomRow) → AreBelow n rows → n ≤ m → AreBelow m rows
below-more n m [] h l = tt
below-more n m (r ∷ rs) h l = let b : r.atom.0 < n = h.0 in (omega arith, below-more n m rs h.1 l)

pub below-after-cut : (n : ℕ) (rows : List AtomRow) (at : ℕ) (new : AtomId) → AreBelow n rows → new.0 < n → AreBelow n (cut_rows rows at new)
below-after-cut n [] at new h l = tt
below-after-cut n (r ∷ rs) at new h l =
    let P : List AtomRow → Type 0 = λ xs. AreBelow n xs in
    ⊎_elim
    (λ (e : has_address at r ≡ true). subst P (sym (cut-first r rs at new e)) (h.0, (l, h.1)))
    (λ (e : has_address at r ≡ false). subst P (sym (cut-rest r rs at new e)) (h.0, below-after-cut n rs at new h.1 l))
    (cases_Bool (has_address at r))

pub none-of-new : (new : AtomId) (rows : List AtomRow) → AreBelow new.0 rows → HasNone new rows
none-of-new new [] h = tt
none-of-new new (r ∷ rs) h =
    let b : r.atom.0 < new.0 = h.0 in
    ((λ (e : r.atom ≡ new). let f : r.atom.0 ≡ new.0 = ap (λ (x : AtomId). x.0) e in omega arith), none-of-new new rs h.1)

none-after-cut : (atom : AtomId) (rows : List AtomRow) (at : ℕ) (new : AtomId) → HasNone atom rows → (new ≡ atom → ⊥) → HasNone atom (cut_rows rows at new)
none-after-cut atom [] at new h n = tt
none-after-cut atom (r ∷ rs) at new h n =
    let P : List AtomRow → Type 0 = λ xs. HasNone atom xs in
    ⊎_elim
    (λ (e : has_address at r ≡ true). subst P (sym (cut-first r rs at new e)) (h.0, (n, h.1)))
    (λ (e : has_address at r ≡ false). subst P (sym (cut-rest r rs at new e)) (h.0, none-after-cut atom rs at new h.1 n))
    (cases_Bool (has_address at r))

pub once-after-cut : (rows : List AtomRow) (at : ℕ) (new : AtomId) → AreOnce rows → HasNone new rows → AreOnce (cut_rows rows at new)
once-after-cut [] at new h n = tt
once-after-cut (r ∷ rs) at new h n =
    let P : List AtomRow → Type 0 = λ xs. AreOnce xs in
    let apart : new ≡ r.atom → ⊥ = λ e. n.0 (sym e) in
    ⊎_elim
    (λ (e : has_address at r ≡ true). subst P (sym (cut-first r rs at new e)) ((apart, h.0), (n.1, h.1)))
    (λ (e : has_address at r ≡ false). subst P (sym (cut-rest r rs at new e)) (none-after-cut r.atom rs at new h.0 apart, once-after-cut rs at new h.1 n.1))
    (cases_Bool (has_address at r))

-- a cut keeps atoms atoms
pub atoms-after-cut : (rows : List AtomRow) (at : ℕ) (new : AtomId) → AreAtoms rows → at < 2 ^ 32 → is_boundary rows at ≡ false → new.0 ≡ length rows → AreAtoms (cut_rows rows at new)
atoms-after-cut rows at new h b n e =
    let long : length (cut_rows rows at new) ≡ suc (length rows) = length-after-cut 0 rows at new h.cover (omega arith) b in
    let P : ℕ → Type 0 = λ k. AreBelow k (cut_rows rows at new) in
    let Q : ℕ → Type 0 = λ k. AreBelow k rows in
    record {
      cover = cover-after-cut 0 rows at new h.cover n;
      below = subst P (sym long) (below-after-cut (suc (length rows)) rows at new (below-more (length rows) (suc (length rows)) rows h.below (omega arith)) (omega arith));
      once = once-after-cut rows at new h.once (none-of-new new rows (subst Q (sym e) h.below));
    }

-- a cut by place
pub cut-at : (start : ℕ) (rows : List AtomRow) (i : ℕ) (d : AtomRow) (at : ℕ) (new : AtomId) → Cover start rows → i < length rows → atom_low (get_or rows i d) ≤ at → at < atom_past (get_or rows i d) → cut_rows rows at new ≡ take i rows ++ lower_part at (get_or rows i d) ∷ upper_part at new (get_or rows i d) ∷ drop (suc i) rows
cut-at start [] i d at new h l from to = absurd (omega arith)
cut-at start (r ∷ rs) zero d at new h l from to = cut-first r rs at new (within-yes r.low r.past at from to)
cut-at start (r ∷ rs) (suc i) d at new h l from to =
    let k : r.past ≤ atom_low (get_or rs i d) = low-at atom_low atom_past r.past rs i d h.2 (omega arith) in
    cut-rest r rs at new (within-above r.low r.past at (omega arith))
    ∙ ap (λ (xs : List AtomRow). r ∷ xs) (cut-at r.past rs i d at new h.2 (omega arith) from to)

-- by place: whether an address is a boundary
no-boundary-below : (start : ℕ) (rows : List AtomRow) (at : ℕ) → Cover start rows → at < start → is_boundary rows at ≡ false
no-boundary-below start [] at h l = refl
no-boundary-below start (r ∷ rs) at h l =
    let e : r.low ≡ start = h.0 in
    let o : r.low < r.past = h.1 in
    let apart : r.low ≡ at → ⊥ = λ (q : r.low ≡ at). omega arith in
    or_from (eqb r.low at) (is_boundary rs at) (ne_eqb r.low at apart) (no-boundary-below r.past rs at h.2 (omega arith))

pub boundary-at : (start : ℕ) (rows : List AtomRow) (i : ℕ) (d : AtomRow) (at : ℕ) → Cover start rows → i < length rows → atom_low (get_or rows i d) ≤ at → at < atom_past (get_or rows i d) → is_boundary rows at ≡ eqb (atom_low (get_or rows i d)) at
boundary-at start [] i d at h l from to = absurd (omega arith)
boundary-at start (r ∷ rs) zero d at h l from to =
    ⊎_elim
    (λ (e : eqb r.low at ≡ true). ap (λ b. b || is_boundary rs at) e ∙ sym e)
    (λ (e : eqb r.low at ≡ false). ap (λ b. b || is_boundary rs at) e ∙ no-boundary-below r.past rs at h.2 to ∙ sym e)
    (cases_Bool (eqb r.low at))
boundary-at start (r ∷ rs) (suc i) d at h l from to =
    let o : r.low < r.past = h.1 in
    let k : r.past ≤ atom_low (get_or rs i d) = low-at atom_low atom_past r.past rs i d h.2 (omega arith) in
    let apart : r.low ≡ at → ⊥ = λ (q : r.low ≡ at). omega arith in
    ap (λ b. b || is_boundary rs at) (ne_eqb r.low at apart) ∙ boundary-at r.past rs i d at h.2 (omega arith) from to
