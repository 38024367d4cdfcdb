-- Rows of codes in chunks of eight, seen as codes one after another.
use Rattle.std.proofs.Common.{◌≡◌, ◌≢◌, ℕ, ◌+◌, ◌-◌, ◌*◌, ◌/◌, ◌%◌, ◌<◌, ◌≤◌, cond, eqb, ltb, Bool, true, false, List, [], ◌++◌, length, map, take, drop, get_or, set, refl, ap, sym, subst, append_assoc, ⊎_elim, ◌∙◌, arith, length-append, get_or-set_other, get_or-set_same}
use Rattle.std.specs.Fn.{FnOnceReturnsAtMut}
use Rattle.std.specs.List.{insert, range_with_len}
use Rattle.std.proofs.lemmas.Bool.{cases_lt, le-ltb, lt-ltb}
use Rattle.std.proofs.lemmas.Bool.Decides.{nat_tests}
use Rattle.std.proofs.lemmas.List.{get_or-append-add, get_or-drop, get_or-take, get_or_append_left, get_or_default, length-drop, length-set, length-take-le, same_lists}
use Rattle.std.proofs.lemmas.List.Edits.{get_or-insert_above, get_or-insert_at, get_or-insert_below, length-insert}
use Rattle.std.proofs.lemmas.List.FromFn.{get_or-map-range_with_len, length-map-range_with_len}
use Rattle.std.proofs.lemmas.Nat.{div-mul-add, mod-mul-add}
use Rattle.version_pages.specs.Changes.{Changes}
use Rattle.base.specs.declared.target.Target.{Target}
use Rattle.target_rows.specs.declared.code_chunk.CodeChunk.{CodeChunk}
use Rattle.target_rows.specs.declared.codes.Edge.{Edge}
use Rattle.target_rows.specs.ChunkRows.{AreChunkRows, AreLaid, code_in, codes_in, IsWritten, labels_in, lane_at, no_codes, repeated, stride_of}
use Rattle.target_rows.specs.Codes.{edge_at}
use Rattle.target_rows.specs.Labels.{Labels, first_labels, parted, target_at}
use Rattle.target_rows.specs.Rows.{AreFirst, AreRows, codes_of, IsCodeOf, labels_of, targets_by}
use Rattle.target_rows.proofs.RowLemmas.{length-row, place-atom, place-router, row-fits}
use Rattle.target_rows.proofs.TargetLemmas.{atoms-of, code-known, first-rows, first-seen, routers-of}
use denote.Param.Members.{Once}
use denote.Ref.{MutBor}

-- ---- where codes stand

-- each router has a chunk of the row
pub chunk-fits : (r n : ℕ) → r < n → r / 8 < stride_of n
chunk-fits r n l = omega arith

-- and so the row of each atom has one among all chunks
pub place-inside : (a atoms r n : ℕ) → a < atoms → r < n → a * stride_of n + r / 8 < atoms * stride_of n
place-inside a atoms r n la lr = omega (arith, row-fits a atoms (stride_of n) la, chunk-fits r n lr)

-- a place in chunks has one atom and one router
pub same-place : (a b q r n : ℕ) → q < n → r < n → b * stride_of n + q / 8 ≡ a * stride_of n + r / 8 → q % 8 ≡ r % 8 → b * n + q ≡ a * n + r
same-place a b q r n lq lr chunk lane =
    let atom : b ≡ a = place-atom a b (q / 8) (r / 8) (stride_of n) (chunk-fits q n lq) (chunk-fits r n lr) chunk in
    let high : q / 8 ≡ r / 8 = place-router a b (q / 8) (r / 8) (stride_of n) (chunk-fits q n lq) (chunk-fits r n lr) chunk in
    let router : q ≡ r = omega arith in
    ap (λ x. x * n + q) atom ∙ ap (λ x. a * n + x) router

-- ---- codes one after another

pub length-codes : (n atoms : ℕ) (chunks : List CodeChunk) → length (codes_in n atoms chunks) ≡ atoms * n
unfolding codes_in
length-codes n atoms chunks = length-map-range_with_len (λ k. code_in n chunks (k / n) (k % n)) 0 (atoms * n)

pub code-read : (n atoms k d : ℕ) (chunks : List CodeChunk) → k < atoms * n → get_or (codes_in n atoms chunks) k d ≡ code_in n chunks (k / n) (k % n)
unfolding codes_in
code-read n atoms k d chunks l = get_or-map-range_with_len (λ j. code_in n chunks (j / n) (j % n)) 0 (atoms * n) k k d l (omega arith)

pub code-flat : (n atoms a r d : ℕ) (chunks : List CodeChunk) → a < atoms → r < n → get_or (codes_in n atoms chunks) (a * n + r) d ≡ code_in n chunks a r
code-flat n atoms a r d chunks la lr =
    code-read n atoms (a * n + r) d chunks (omega (arith, row-fits a atoms n la))
    ∙ ap (λ x. code_in n chunks x ((a * n + r) % n)) (div-mul-add a n r lr)
    ∙ ap (λ x. code_in n chunks a x) (mod-mul-add a n r lr)

-- ---- one code is written

-- what a call that changes a chunk leaves
pub changed-written : {F R : Type 0} (g : Once F (MutBor CodeChunk × Unit {0}) (R × (MutBor CodeChunk × Unit {0}))) (h : F) (old new : List CodeChunk) (i lane code : ℕ) (r : R) → i < length old → Changes g h old new i r → ((x y : CodeChunk) → FnOnceReturnsAtMut g h x r y → (get_or y.codes lane 0 ≡ code) × ((k : ℕ) → (k ≡ lane → ⊥) → get_or y.codes k 0 ≡ get_or x.codes k 0)) → IsWritten old new i lane code
changed-written g h old new i lane code r inside made says = record {
  long = ap length made.list ∙ length-set old i made.value;
  here = ap (λ cs. lane_at cs i lane) made.list ∙ ap (λ c. get_or c.codes lane 0) (get_or-set_same old i made.value no_codes inside) ∙ put.0;
  others = λ j k ne. ap (λ cs. lane_at cs j k) made.list ∙ at j k ne (eqb j i) refl;
}
  where
    put : (get_or made.value.codes lane 0 ≡ code) × ((k : ℕ) → (k ≡ lane → ⊥) → get_or made.value.codes k 0 ≡ get_or (get_or old i no_codes).codes k 0)
    put = says (get_or old i no_codes) made.value (made.called no_codes)

    at : (j k : ℕ) → (j ≡ i → k ≡ lane → ⊥) → (t : Bool) → eqb j i ≡ t → lane_at (set old i made.value) j k ≡ lane_at old j k
    at j k ne true e =
        let same : j ≡ i = grind (arith, nat_tests) in
        ap (λ x. lane_at (set old i made.value) x k) same
        ∙ ap (λ c. get_or c.codes k 0) (get_or-set_same old i made.value no_codes inside)
        ∙ put.1 k (ne same)
        ∙ ap (λ x. lane_at old x k) (sym same)
    at j k ne false e =
        let away : j ≢ i = grind (arith, nat_tests) in
        ap (λ c. get_or c.codes k 0) (get_or-set_other old i j made.value no_codes away)

-- ---- a row comes to stand twice

-- no rows at all
pub no-chunks : (n : ℕ) (chunks : List CodeChunk) (edges : List Edge) → chunks ≡ [] → ((c : ℕ) → c < length edges → (edge_at edges c).router < n) → AreChunkRows n 0 chunks edges
no-chunks n chunks edges none within = record {
  long = ap length none ∙ omega arith;
  rows = record {
    long = length-codes n 0 chunks;
    few = omega arith;
    own = λ a r la lr. absurd (let no : ⊥ = omega arith in no);
    within = within;
  };
}

-- the row that stands at a place, where one comes to stand twice: those behind it stood one place before
abbrev came_from : ℕ → ℕ → ℕ
came_from a b = cond (ltb a b) (b - 1) b

came-before : (a b : ℕ) → b ≤ a → came_from a b ≡ b
came-before a b l = ap (λ t. cond t (b - 1) b) (le-ltb a b l)

came-behind : (a b : ℕ) → a < b → came_from a b ≡ b - 1
came-behind a b l = ap (λ t. cond t (b - 1) b) (lt-ltb a b l)

came-inside : (a b atoms : ℕ) → a < atoms → b < atoms + 1 → came_from a b < atoms
came-inside a b atoms la lb = ⊎_elim
    (λ (l : a < b). let e : came_from a b ≡ b - 1 = came-behind a b l in omega arith)
    (λ (l : b ≤ a). let e : came_from a b ≡ b = came-before a b l in omega arith)
    (cases_lt a b)

-- the chunks of a row once more behind them
abbrev pub twice : ℕ → ℕ → List CodeChunk → List CodeChunk
twice n a chunks = take ((a + 1) * stride_of n) chunks ++ (take (stride_of n) (drop (a * stride_of n) chunks) ++ drop ((a + 1) * stride_of n) chunks)

-- as the call says it
pub made-twice : (n a width from next : ℕ) (old new : List CodeChunk) → width ≡ stride_of n → from ≡ a * stride_of n → next ≡ (a + 1) * stride_of n → new ≡ repeated old from width next → new ≡ twice n a old
made-twice n a width from next old new wide begin end made =
    made
    ∙ append_assoc (take next old) (take width (drop from old)) (drop next old)
    ∙ ap (λ (xs : List CodeChunk). take next old ++ (xs ++ drop next old)) (ap (λ k. take k (drop from old)) wide ∙ ap (λ k. take (stride_of n) (drop k old)) begin)
    ∙ ap (λ k. take k old ++ (take (stride_of n) (drop (a * stride_of n) old) ++ drop k old)) end

module _ (n atoms a : ℕ) (old new : List CodeChunk) (long : length old ≡ atoms * stride_of n) (la : a < atoms) (is : new ≡ twice n a old) where
  fits : (a + 1) * stride_of n ≤ length old
  fits = omega (arith, long, row-fits a atoms (stride_of n) la)

  front-long : length (take ((a + 1) * stride_of n) old) ≡ (a + 1) * stride_of n
  front-long = length-take-le ((a + 1) * stride_of n) old fits

  row-long : length (take (stride_of n) (drop (a * stride_of n) old)) ≡ stride_of n
  row-long = length-take-le (stride_of n) (drop (a * stride_of n) old) (omega (arith, length-drop (a * stride_of n) old, fits))

  back-long : length (drop ((a + 1) * stride_of n) old) ≡ length old - (a + 1) * stride_of n
  back-long = length-drop ((a + 1) * stride_of n) old

  pub twice-long : length new ≡ (atoms + 1) * stride_of n
  twice-long =
      let whole : length (take ((a + 1) * stride_of n) old ++ (take (stride_of n) (drop (a * stride_of n) old) ++ drop ((a + 1) * stride_of n) old)) ≡ length (take ((a + 1) * stride_of n) old) + length (take (stride_of n) (drop (a * stride_of n) old) ++ drop ((a + 1) * stride_of n) old) =
      length-append (take ((a + 1) * stride_of n) old) (take (stride_of n) (drop (a * stride_of n) old) ++ drop ((a + 1) * stride_of n) old) in
      let rest : length (take (stride_of n) (drop (a * stride_of n) old) ++ drop ((a + 1) * stride_of n) old) ≡ length (take (stride_of n) (drop (a * stride_of n) old)) + length (drop ((a + 1) * stride_of n) old) =
      length-append (take (stride_of n) (drop (a * stride_of n) old)) (drop ((a + 1) * stride_of n) old) in
      ap length is ∙ omega (arith, whole, rest, front-long, row-long, back-long, long, fits)

  -- a chunk up to the row, of the row that was put in, and behind it
  in-front : (i : ℕ) → i < (a + 1) * stride_of n → get_or new i no_codes ≡ get_or old i no_codes
  in-front i l =
      ap (λ cs. get_or cs i no_codes) is
      ∙ get_or_append_left (take ((a + 1) * stride_of n) old) (take (stride_of n) (drop (a * stride_of n) old) ++ drop ((a + 1) * stride_of n) old) no_codes i (omega (arith, front-long))
      ∙ get_or-take ((a + 1) * stride_of n) old i no_codes l

  in-row : (k : ℕ) → k < stride_of n → get_or new ((a + 1) * stride_of n + k) no_codes ≡ get_or old (a * stride_of n + k) no_codes
  in-row k l =
      ap (λ cs. get_or cs ((a + 1) * stride_of n + k) no_codes) is
      ∙ ap (λ m. get_or (twice n a old) (m + k) no_codes) (sym front-long)
      ∙ get_or-append-add (take ((a + 1) * stride_of n) old) (take (stride_of n) (drop (a * stride_of n) old) ++ drop ((a + 1) * stride_of n) old) k no_codes
      ∙ get_or_append_left (take (stride_of n) (drop (a * stride_of n) old)) (drop ((a + 1) * stride_of n) old) no_codes k (omega (arith, row-long))
      ∙ get_or-take (stride_of n) (drop (a * stride_of n) old) k no_codes l
      ∙ get_or-drop (a * stride_of n) old k no_codes

  in-back : (k : ℕ) → get_or new ((a + 1) * stride_of n + (stride_of n + k)) no_codes ≡ get_or old ((a + 1) * stride_of n + k) no_codes
  in-back k =
      ap (λ cs. get_or cs ((a + 1) * stride_of n + (stride_of n + k)) no_codes) is
      ∙ ap (λ m. get_or (twice n a old) (m + (stride_of n + k)) no_codes) (sym front-long)
      ∙ get_or-append-add (take ((a + 1) * stride_of n) old) (take (stride_of n) (drop (a * stride_of n) old) ++ drop ((a + 1) * stride_of n) old) (stride_of n + k) no_codes
      ∙ ap (λ m. get_or (take (stride_of n) (drop (a * stride_of n) old) ++ drop ((a + 1) * stride_of n) old) (m + k) no_codes) (sym row-long)
      ∙ get_or-append-add (take (stride_of n) (drop (a * stride_of n) old)) (drop ((a + 1) * stride_of n) old) k no_codes
      ∙ get_or-drop ((a + 1) * stride_of n) old k no_codes

  code-front : (b q : ℕ) → b ≤ a → q < n → code_in n new b q ≡ code_in n old b q
  code-front b q l lq = ap (λ c. get_or c.codes (q % 8) 0) (in-front (b * stride_of n + q / 8) (omega (arith, place-inside b (a + 1) q n (omega arith) lq)))

  code-row : (q : ℕ) → q < n → code_in n new (a + 1) q ≡ code_in n old a q
  code-row q lq = ap (λ c. get_or c.codes (q % 8) 0) (in-row (q / 8) (chunk-fits q n lq))

  code-back : (b j q : ℕ) → b ≡ a + 2 + j → code_in n new b q ≡ code_in n old (b - 1) q
  code-back b j q e =
      let now : b * stride_of n + q / 8 ≡ (a + 1) * stride_of n + (stride_of n + (j * stride_of n + q / 8)) = ap (λ x. x * stride_of n + q / 8) e ∙ (omega arith) in
      let before : b - 1 ≡ a + 1 + j = omega arith in
      let was : (b - 1) * stride_of n + q / 8 ≡ (a + 1) * stride_of n + (j * stride_of n + q / 8) = ap (λ x. x * stride_of n + q / 8) before ∙ (omega arith) in
      ap (λ i. lane_at new i (q % 8)) now
      ∙ ap (λ c. get_or c.codes (q % 8) 0) (in-back (j * stride_of n + q / 8))
      ∙ sym (ap (λ i. lane_at old i (q % 8)) was)

  code-twice : (b q : ℕ) → q < n → code_in n new b q ≡ code_in n old (came_from a b) q
  code-twice b q lq = ⊎_elim
      (λ (l : a < b).
      ⊎_elim
      (λ (m : a + 1 < b). code-back b (b - (a + 2)) q (omega arith))
      (λ (m : b ≤ a + 1).
      let e : b ≡ a + 1 = omega arith in
      let f : b - 1 ≡ a = omega arith in
      ap (λ x. code_in n new x q) e ∙ code-row q lq ∙ ap (λ x. code_in n old x q) (sym f))
      (cases_lt (a + 1) b)
      ∙ ap (λ x. code_in n old x q) (sym (came-behind a b l)))
      (λ (l : b ≤ a). code-front b q l lq ∙ ap (λ x. code_in n old x q) (sym (came-before a b l)))
      (cases_lt a b)

  flat-twice : (b q d : ℕ) → b < atoms + 1 → q < n → get_or (codes_in n (atoms + 1) new) (b * n + q) d ≡ get_or (codes_in n atoms old) (came_from a b * n + q) d
  flat-twice b q d lb lq =
      code-flat n (atoms + 1) b q d new lb lq
      ∙ code-twice b q lq
      ∙ sym (code-flat n atoms (came_from a b) q d old (came-inside a b atoms la lb) lq)

  row-twice : (b : ℕ) → b < atoms + 1 → codes_of n (codes_in n (atoms + 1) new) b ≡ codes_of n (codes_in n atoms old) (came_from a b)
  row-twice b lb =
      let here : length (codes_of n (codes_in n (atoms + 1) new) b) ≡ n = length-row n (atoms + 1) b (codes_in n (atoms + 1) new) (length-codes n (atoms + 1) new) lb in
      let there : length (codes_of n (codes_in n atoms old) (came_from a b)) ≡ n = length-row n atoms (came_from a b) (codes_in n atoms old) (length-codes n atoms old) (came-inside a b atoms la lb) in
      same_lists (codes_of n (codes_in n (atoms + 1) new) b) (codes_of n (codes_in n atoms old) (came_from a b)) (here ∙ sym there)
      (λ k d l.
      let lk : k < n = omega arith in
      get_or-take n (drop (b * n) (codes_in n (atoms + 1) new)) k d lk
      ∙ get_or-drop (b * n) (codes_in n (atoms + 1) new) k d
      ∙ flat-twice b k d lb lk
      ∙ sym (get_or-drop (came_from a b * n) (codes_in n atoms old) k d)
      ∙ sym (get_or-take n (drop (came_from a b * n) (codes_in n atoms old)) k d lk))

  pub parted-chunks : (edges : List Edge) → AreChunkRows n atoms old edges → atoms < 4294967296 → AreChunkRows n (atoms + 1) new edges
  parted-chunks edges kept few = record {
    long = twice-long;
    rows = record {
      long = length-codes n (atoms + 1) new;
      few = omega arith;
      own = λ b q lb lq. subst (IsCodeOf edges q) (sym (flat-twice b q 0 lb lq)) (kept.rows.own (came_from a b) q (came-inside a b atoms la lb) lq);
      within = kept.rows.within;
    };
  }

  -- the targets of a row, and the row that stands at a place where one stands twice
  abbrev targets-then : List Edge → ℕ → List Target
  targets-then edges b = targets_by edges (codes_of n (codes_in n atoms old) b)

  abbrev targets-now : List Edge → ℕ → List Target
  targets-now edges b = targets_by edges (codes_of n (codes_in n (atoms + 1) new) b)

  abbrev rows-then : List Edge → List (List Target)
  rows-then edges = map (λ b. targets_by edges (codes_of n (codes_in n atoms old) b)) (range_with_len 0 atoms)

  then-long : (edges : List Edge) → length (rows-then edges) ≡ atoms
  then-long edges = length-map-range_with_len (targets-then edges) 0 atoms

  then-read : (edges : List Edge) (k : ℕ) (d : List Target) → k < atoms → get_or (rows-then edges) k d ≡ targets_by edges (codes_of n (codes_in n atoms old) k)
  then-read edges k d l = get_or-map-range_with_len (targets-then edges) 0 atoms k k d l (omega arith)

  inserted-read : (edges : List Edge) (k : ℕ) (d : List Target) → k < atoms + 1 → get_or (insert (rows-then edges) (a + 1) (get_or (rows-then edges) a [])) k d ≡ targets_by edges (codes_of n (codes_in n atoms old) (came_from a k))
  inserted-read edges k d l =
      let len : length (rows-then edges) ≡ atoms = then-long edges in
      let place : a + 1 ≤ length (rows-then edges) = omega arith in
      ⊎_elim
      (λ (m : a < k).
      ⊎_elim
      (λ (o : a + 1 < k).
      let e : k ≡ k - 1 + 1 = omega arith in
      ap (λ x. get_or (insert (rows-then edges) (a + 1) (get_or (rows-then edges) a [])) x d) e
      ∙ get_or-insert_above (rows-then edges) (a + 1) (get_or (rows-then edges) a []) d (k - 1) (omega arith) place
      ∙ then-read edges (k - 1) d (omega arith))
      (λ (o : k ≤ a + 1).
      let e : k ≡ a + 1 = omega arith in
      let f : k - 1 ≡ a = omega arith in
      ap (λ x. get_or (insert (rows-then edges) (a + 1) (get_or (rows-then edges) a [])) x d) e
      ∙ get_or-insert_at (rows-then edges) (a + 1) (get_or (rows-then edges) a []) d place
      ∙ then-read edges a [] la
      ∙ ap (λ x. targets_by edges (codes_of n (codes_in n atoms old) x)) (sym f))
      (cases_lt (a + 1) k)
      ∙ ap (λ x. targets_by edges (codes_of n (codes_in n atoms old) x)) (sym (came-behind a k m)))
      (λ (m : k ≤ a).
      get_or-insert_below (rows-then edges) (a + 1) (get_or (rows-then edges) a []) d k (omega arith) place
      ∙ then-read edges k d (omega arith)
      ∙ ap (λ x. targets_by edges (codes_of n (codes_in n atoms old) x)) (sym (came-before a k m)))
      (cases_lt a k)

  pub parted-chunks-seen : (edges : List Edge) (g : Labels) → labels_in n atoms old edges ≡ g → labels_in n (atoms + 1) new edges ≡ parted g a
  unfolding labels_of
  parted-chunks-seen edges g seen =
      let make : List (List Target) → Labels = λ rows. record { routers = n; rows = rows } in
      let len : length (rows-then edges) ≡ atoms = then-long edges in
      let long-now : length (map (λ b. targets_by edges (codes_of n (codes_in n (atoms + 1) new) b)) (range_with_len 0 (atoms + 1))) ≡ atoms + 1 = length-map-range_with_len (targets-now edges) 0 (atoms + 1) in
      let long-then : length (insert (rows-then edges) (a + 1) (get_or (rows-then edges) a [])) ≡ length (rows-then edges) + 1 = length-insert (rows-then edges) (a + 1) (get_or (rows-then edges) a []) (omega arith) in
      ap make (same_lists (map (λ b. targets_by edges (codes_of n (codes_in n (atoms + 1) new) b)) (range_with_len 0 (atoms + 1))) (insert (rows-then edges) (a + 1) (get_or (rows-then edges) a [])) (omega arith)
      (λ k d l.
      let lk : k < atoms + 1 = omega arith in
      get_or-map-range_with_len (targets-now edges) 0 (atoms + 1) k k d lk (omega arith)
      ∙ ap (targets_by edges) (row-twice k lk)
      ∙ sym (inserted-read edges k d lk)))
      ∙ ap (λ l. parted l a) seen

-- ---- the first row

pub laid-none : (codes : List ℕ) (chunks : List CodeChunk) (count : ℕ) → length chunks ≡ stride_of count → AreLaid codes chunks count 0
laid-none codes chunks count long = record {
  long = long;
  each = λ r l. absurd (let no : ⊥ = omega arith in no);
}

pub laid-more : (codes : List ℕ) (old new : List CodeChunk) (count r code : ℕ) → AreLaid codes old count r → IsWritten old new (r / 8) (r % 8) code → code ≡ get_or codes r 0 → AreLaid codes new count (r + 1)
laid-more codes old new count r code so is code-is = record {
  long = is.long ∙ so.long;
  each = λ q l. at q l (eqb q r) refl;
}
  where
    at : (q : ℕ) → q < r + 1 → (t : Bool) → eqb q r ≡ t → lane_at new (q / 8) (q % 8) ≡ get_or codes q 0
    at q l true e =
        let same : q ≡ r = grind (arith, nat_tests) in
        ap (λ x. lane_at new (x / 8) (x % 8)) same ∙ is.here ∙ code-is ∙ ap (λ x. get_or codes x 0) (sym same)
    at q l false e =
        let ne : q ≢ r = grind (arith, nat_tests) in
        is.others (q / 8) (q % 8) (λ c m. ne (omega arith)) ∙ so.each q (omega arith)

pub laid-codes : (codes : List ℕ) (chunks : List CodeChunk) (n : ℕ) → length codes ≡ n → AreLaid codes chunks n n → codes_in n 1 chunks ≡ codes
laid-codes codes chunks n len so =
    same_lists (codes_in n 1 chunks) codes (long ∙ sym len)
    (λ k d l. at k d (omega (arith, long)))
  where
    long : length (codes_in n 1 chunks) ≡ n
    long = length-codes n 1 chunks ∙ omega arith

    at : (k d : ℕ) → k < n → get_or (codes_in n 1 chunks) k d ≡ get_or codes k d
    at k d l =
        let place : 0 * n + k ≡ k = omega arith in
        let chunk : 0 * stride_of n + k / 8 ≡ k / 8 = omega arith in
        ap (λ x. get_or (codes_in n 1 chunks) x d) (sym place)
        ∙ code-flat n 1 0 k d chunks (omega arith) l
        ∙ ap (λ i. lane_at chunks i (k % 8)) chunk
        ∙ so.each k l
        ∙ get_or_default codes k 0 d (omega (arith, len))

pub first-chunks : (n : ℕ) (codes : List ℕ) (chunks : List CodeChunk) (edges : List Edge) → AreFirst n codes edges → AreLaid codes chunks n n → AreChunkRows n 1 chunks edges
first-chunks n codes chunks edges first so = record {
  long = omega (arith, so.long);
  rows = subst (λ (cs : List ℕ). AreRows n 1 cs edges) (sym (laid-codes codes chunks n first.long_codes so)) (first-rows n codes edges first);
}

pub first-chunks-seen : (n : ℕ) (codes : List ℕ) (chunks : List CodeChunk) (edges : List Edge) → AreFirst n codes edges → AreLaid codes chunks n n → labels_in n 1 chunks edges ≡ first_labels n
first-chunks-seen n codes chunks edges first so = ap (λ cs. labels_of n 1 cs edges) (laid-codes codes chunks n first.long_codes so) ∙ first-seen n codes edges first

-- ---- what the calls need of rows in chunks

pub routers-in : (n atoms : ℕ) (chunks : List CodeChunk) (edges : List Edge) (g : Labels) → labels_in n atoms chunks edges ≡ g → n ≡ g.routers
routers-in n atoms chunks edges g is = routers-of n atoms (codes_in n atoms chunks) edges g is

pub atoms-in : (n atoms : ℕ) (chunks : List CodeChunk) (edges : List Edge) (g : Labels) → labels_in n atoms chunks edges ≡ g → length g.rows ≡ atoms
atoms-in n atoms chunks edges g is = atoms-of n atoms (codes_in n atoms chunks) edges g is

-- what is read of a router and an atom
pub code-seen : (n atoms r a i lane code : ℕ) (chunks : List CodeChunk) (edges : List Edge) (g : Labels) → labels_in n atoms chunks edges ≡ g → AreChunkRows n atoms chunks edges → r < g.routers → a < length g.rows → i ≡ a * stride_of n + r / 8 → lane ≡ r % 8 → code ≡ lane_at chunks i lane → (code < length edges) × ((edge_at edges code).target ≡ target_at g r a)
code-seen n atoms r a i lane code chunks edges g is kept lr la at-chunk at-lane read =
    let lr' : r < n = omega (arith, routers-in n atoms chunks edges g is) in
    let la' : a < atoms = omega (arith, atoms-in n atoms chunks edges g is) in
    let flat : code ≡ get_or (codes_in n atoms chunks) (a * n + r) 0 =
    read ∙ ap (λ x. lane_at chunks x lane) at-chunk ∙ ap (λ x. lane_at chunks (a * stride_of n + r / 8) x) at-lane ∙ sym (code-flat n atoms a r 0 chunks la' lr') in
    let known = code-known n atoms r a (a * n + r) code (codes_in n atoms chunks) edges g is kept.rows lr la refl flat in
    (known.0, known.1)
