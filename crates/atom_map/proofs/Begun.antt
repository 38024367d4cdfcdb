-- Where the atoms begin, by number: at first, after a cut, and where one is asked for.
use Rattle.std.proofs.Common.{◌≡◌, ℕ, ◌+◌, ◌<◌, ◌≤◌, ◌^◌, ◌∙◌, ⊎_elim, zero, suc, true, false, Some, option_map, Contains, List, [], ◌∷◌, length, get_or, refl, ap, sym, subst, arith, leb, ltb, lit<}
use Rattle.std.proofs.lemmas.Bool.{cases_Bool, cases_lt, and_parts, leb-true, ne_eqb}
use Rattle.std.proofs.lemmas.Option.{none-some}
use Rattle.base.specs.Rows.{is_within, CoverFrom}
use Rattle.atom_map.specs.Atoms.{AreAtoms, AreBelow, atom_of, atom_low, atom_past, has_address, row_at, row_of, is_boundary, lower_part, upper_part, cut_rows, part_of}
use Rattle.atom_map.specs.declared.atom_row.AtomRow.{AtomRow}
use Rattle.base.specs.declared.ids.AtomId.{AtomId}
use Rattle.base.proofs.Covers.{within-yes, holder-first, holder-rest, holder-at, few-rows}
use Rattle.atom_map.proofs.Cuts.{boundary-at, boundary-parts, row-after-cut, length-after-cut, atoms-after-cut, part-whole, part-lower, part-upper}
use Rattle.atom_map.specs.Index.{one_atom, AgreeBelow, Begins, IsIndexed, IsNoted}

-- the one atom
one-begins : (n : ℕ) → n < length one_atom → Begins one_atom n (get_or (0 ∷ []) n 0)
one-begins zero l = record {
  row = row_of (record { 0 = 0 }) 0 (2 ^ 32);
  at = holder-first atom_low atom_past (row_of (record { 0 = 0 }) 0 (2 ^ 32)) [] 0 (within-yes 0 (2 ^ 32) 0 (omega arith) (lit< tt));
  low = refl;
  is = refl;
}
one-begins (suc n) l = absurd (omega arith)

pub one-indexed : IsIndexed one_atom (0 ∷ [])
one-indexed = record {
  atoms = record { cover = (refl, lit< tt, refl); below = (lit< tt, tt); once = (tt, tt) };
  long = omega arith;
  begins = one-begins;
}

-- the one atom in a list, and its beginning
pub one-made : (rows : List AtomRow) (lows : List ℕ) → rows ≡ one_atom → lows ≡ 0 ∷ [] → IsIndexed rows lows
one-made rows lows r l =
    let P : List AtomRow → Type 0 = λ xs. IsIndexed xs lows in
    let Q : List ℕ → Type 0 = λ ys. IsIndexed one_atom ys in
    subst P (sym r) (subst Q (sym l) one-indexed)

-- the row of an address doesn't begin at an address where none begins
not-boundary : (rows : List AtomRow) (b at : ℕ) (row : AtomRow) → row_at rows b ≡ Some row → is_boundary rows at ≡ false → row.low ≡ at → ⊥
not-boundary [] b at row e n = absurd (none-some row e)
not-boundary (r ∷ rs) b at row e n =
    ⊎_elim
    (λ (y : is_within r.low r.past b ≡ true).
    let s : Some r ≡ Some row = sym (holder-first atom_low atom_past r rs b y) ∙ e in
    let k : r ≡ row = cc in
    let P : AtomRow → Type 0 = λ x. x.low ≡ at → ⊥ in
    subst P k (boundary-parts r rs at n).0)
    (λ (y : is_within r.low r.past b ≡ false).
    not-boundary rs b at row (sym (holder-rest atom_low atom_past r rs b y) ∙ e) (boundary-parts r rs at n).1)
    (cases_Bool (is_within r.low r.past b))

-- an atom that was there begins where it began
old-begins : (rows : List AtomRow) (at n b : ℕ) (new : AtomId) → AreAtoms rows → is_boundary rows at ≡ false → Begins rows n b → Begins (cut_rows rows at new) n b
old-begins rows at n b new h none w =
    let e : row_at (cut_rows rows at new) b ≡ Some (part_of at new b w.row) = row-after-cut 0 rows at new b h.cover ∙ ap (option_map (part_of at new b)) w.at in
    let apart : w.row.low ≡ at → ⊥ = not-boundary rows b at w.row w.at none in
    let low : w.row.low ≡ b = w.low in
    ⊎_elim
    (λ (y : has_address at w.row ≡ true).
    let from : w.row.low ≤ at = leb-true w.row.low at (and_parts (leb w.row.low at) (ltb at w.row.past) y).0 in
    let below : b < at = omega arith in
    record {
      row = lower_part at w.row;
      at = e ∙ ap (λ (x : AtomRow). Some x) (part-lower at new b w.row y below);
      low = low;
      is = w.is;
    })
    (λ (y : has_address at w.row ≡ false).
    record {
      row = w.row;
      at = e ∙ ap (λ (x : AtomRow). Some x) (part-whole at new b w.row y);
      low = low;
      is = w.is;
    })
    (cases_Bool (has_address at w.row))

-- the new one begins at the cut
new-begins : (rows : List AtomRow) (place at : ℕ) (d : AtomRow) (new : AtomId) → AreAtoms rows → place < length rows → atom_low (get_or rows place d) ≤ at → at < atom_past (get_or rows place d) → Begins (cut_rows rows at new) new.0 at
new-begins rows place at d new h l from to =
    let row : AtomRow = get_or rows place d in
    let has : has_address at (get_or rows place d) ≡ true = within-yes (atom_low (get_or rows place d)) (atom_past (get_or rows place d)) at from to in
    record {
      row = upper_part at new (get_or rows place d);
      at = row-after-cut 0 rows at new at h.cover
          ∙ ap (option_map (part_of at new at)) (holder-at atom_low atom_past 0 rows place d at h.cover l from to)
          ∙ ap (λ (x : AtomRow). Some x) (part-upper at new at (get_or rows place d) has (omega arith));
      low = refl;
      is = refl;
    }

-- a cut in the midst of an atom
pub no-boundary : (rows : List AtomRow) (place at : ℕ) (d : AtomRow) → AreAtoms rows → place < length rows → atom_low (get_or rows place d) < at → at < atom_past (get_or rows place d) → is_boundary rows at ≡ false
no-boundary rows place at d h l from to = boundary-at 0 rows place d at h.cover l (omega arith) to ∙ ne_eqb (atom_low (get_or rows place d)) at (λ (q : atom_low (get_or rows place d) ≡ at). omega arith)

pub cut-indexed : (rows : List AtomRow) (lows more : List ℕ) (place at : ℕ) (d : AtomRow) (new : AtomId) → IsIndexed rows lows → at < 2 ^ 32 → place < length rows → atom_low (get_or rows place d) < at → at < atom_past (get_or rows place d) → new.0 ≡ length rows → AgreeBelow lows more (length rows) → IsNoted more (length rows) at → IsIndexed (cut_rows rows at new) more
cut-indexed rows lows more place at d new h b l from to e agree noted =
    let none : is_boundary rows at ≡ false = no-boundary rows place at d h.atoms l from to in
    let long : length (cut_rows rows at new) ≡ suc (length rows) = length-after-cut 0 rows at new h.atoms.cover (omega arith) b in
    record {
      atoms = atoms-after-cut rows at new h.atoms b none e;
      long = omega (arith, long, noted.long);
      begins = λ n k.
          ⊎_elim
          (λ (o : n < length rows).
          let P : ℕ → Type 0 = λ x. Begins (cut_rows rows at new) n x in
          subst P (sym (agree.same n 0 o)) (old-begins rows at n (get_or lows n 0) new h.atoms none (h.begins n o)))
          (λ (o : length rows ≤ n).
          let is : length rows ≡ n = omega (arith, long) in
          let number : new.0 ≡ n = omega arith in
          let P : ℕ → Type 0 = λ x. Begins (cut_rows rows at new) n x in
          let Q : ℕ → Type 0 = λ x. Begins (cut_rows rows at new) x at in
          subst P (sym (ap (λ m. get_or more m 0) (sym is) ∙ noted.there 0)) (subst Q number (new-begins rows place at d new h.atoms l (omega arith) to)))
          (cases_lt n (length rows));
    }

-- what is noted beyond the atoms means nothing
pub kept-indexed : (old rows : List AtomRow) (lows more : List ℕ) → IsIndexed old lows → rows ≡ old → AgreeBelow lows more (length old) → IsIndexed rows more
kept-indexed old rows lows more h e agree =
    let P : List AtomRow → Type 0 = λ xs. IsIndexed xs more in
    subst P (sym e) (record {
      atoms = h.atoms;
      long = agree.long;
      begins = λ n k. let Q : ℕ → Type 0 = λ x. Begins old n x in subst Q (sym (agree.same n 0 k)) (h.begins n k);
    })

-- the atom with a number is the one of the address where it begins
pub number-at : (rows : List AtomRow) (lows : List ℕ) (n place low : ℕ) (d : AtomRow) → IsIndexed rows lows → n < length rows → low ≡ get_or lows n 0 → place < length rows → atom_low (get_or rows place d) ≤ low → low < atom_past (get_or rows place d) → (get_or rows place d).atom.0 ≡ n
number-at rows lows n place low d h l e k from to =
    let w : Begins rows n (get_or lows n 0) = h.begins n l in
    let p : row_at rows low ≡ Some (get_or rows place d) = holder-at atom_low atom_past 0 rows place d low h.atoms.cover k from to in
    let q : row_at rows low ≡ Some w.row = ap (λ a. row_at rows a) e ∙ w.at in
    let s : Some (get_or rows place d) ≡ Some w.row = sym p ∙ q in
    let r : get_or rows place d ≡ w.row = cc in
    ap (λ (x : AtomRow). x.atom.0) r ∙ w.is

pub contained : (rows : List AtomRow) (place : ℕ) (row : AtomRow) (atom : AtomId) → place < length rows → row ≡ get_or rows place row → row.atom.0 ≡ atom.0 → Contains rows (row_of atom row.low row.past)
contained rows place row atom l is e =
    let P : AtomRow → Type 0 = λ r. Contains rows r in
    let s : row ≡ row_of atom row.low row.past = ap (λ n. row_of (record { 0 = n }) row.low row.past) e in
    subst P s (place, l, sym is)

-- there are no more atoms than addresses, and fewer where one has two
few-wide : (start : ℕ) (rows : List AtomRow) (i : ℕ) (d : AtomRow) → CoverFrom atom_low atom_past start rows → i < length rows → suc (atom_low (get_or rows i d)) < atom_past (get_or rows i d) → start + length rows < 2 ^ 32
few-wide start [] i d h l w = absurd (omega arith)
few-wide start (r ∷ rs) zero d h l w =
    let e : r.low ≡ start = h.0 in
    let k : r.past + length rs ≤ 2 ^ 32 = few-rows atom_low atom_past r.past rs h.2 in
    omega arith
few-wide start (r ∷ rs) (suc i) d h l w =
    let e : r.low ≡ start = h.0 in
    let o : r.low < r.past = h.1 in
    let k : r.past + length rs < 2 ^ 32 = few-wide r.past rs i d h.2 (omega arith) w in
    omega arith

pub few-atoms : (rows : List AtomRow) (place at : ℕ) (d : AtomRow) → AreAtoms rows → place < length rows → atom_low (get_or rows place d) < at → at < atom_past (get_or rows place d) → length rows < 2 ^ 32
few-atoms rows place at d h l from to = let k : 0 + length rows < 2 ^ 32 = few-wide 0 rows place d h.cover l (omega arith) in omega arith

-- the number of an atom is below their count
pub below-at : (n : ℕ) (rows : List AtomRow) (i : ℕ) (d : AtomRow) → AreBelow n rows → i < length rows → (get_or rows i d).atom.0 < n
below-at n [] i d h l = absurd (omega arith)
below-at n (r ∷ rs) zero d h l = h.0
below-at n (r ∷ rs) (suc i) d h l = below-at n rs i d h.1 (omega arith)

-- the atom of an address, by place
pub atom-at : (rows : List AtomRow) (place a : ℕ) (row : AtomRow) → AreAtoms rows → place < length rows → row ≡ get_or rows place row → atom_low (get_or rows place row) ≤ a → a < atom_past (get_or rows place row) → option_map atom_of (row_at rows a) ≡ Some row.atom
atom-at rows place a row h l is from to = ap (option_map atom_of) (holder-at atom_low atom_past 0 rows place row a h.cover l from to) ∙ ap (λ (x : AtomRow). Some x.atom) (sym is)
