-- A router's code at atoms that stand side by side.
use Rattle.std.proofs.Common.{IfOk, ◌≡◌, ◌≢◌, ℕ, ◌+◌, ◌-◌, ◌*◌, ◌/◌, ◌%◌, ◌<◌, ◌≤◌, List, [], ◌++◌, length, map, take, drop, get_or, set, refl, ap, sym, subst, append_assoc, ⊎_elim, ◌∙◌, arith, get_or-set_other, get_or-set_same}
use Rattle.std.specs.declared.result.Result.{Result}
use Rattle.std.specs.declared.result.Result.TheVariants.{Ok, Err}
use Rattle.std.specs.Fn.{FnOnceReturnsAtMut}
use Rattle.std.specs.List.{range_with_len}
use Rattle.std.proofs.lemmas.Bool.{cases_eq, cases_lt}
use Rattle.std.proofs.lemmas.List.{ext_get_or, get_or-drop, get_or-take, get_or_default, length-drop, length-set, length-take-le, map-set, same_lists}
use Rattle.std.proofs.lemmas.List.FromFn.{get_or-map-range_with_len, length-map-range_with_len}
use Rattle.std.proofs.lemmas.Nat.{mul-le}
use Rattle.version_pages.specs.Changes.{ChangesRun}
use Rattle.base.specs.declared.target.Target.{Target}
use Rattle.target_rows.specs.declared.code_chunk.CodeChunk.{CodeChunk}
use Rattle.target_rows.specs.declared.codes.Edge.{Edge}
use Rattle.target_rows.specs.ChunkRows.{AreChunkRows, AreWritten, codes_in, IsColumnWritten, labels_in, lane_at, no_codes, stride_of}
use Rattle.target_rows.specs.Codes.{edge_at, IsCoded}
use Rattle.target_rows.specs.Labels.{Labels, moved_run, targets_of}
use Rattle.target_rows.specs.Rows.{AreRows, code_at, codes_of, IsCodeOf, labels_of, targets_by}
use Rattle.target_rows.proofs.ChunkLemmas.{code-flat, length-codes, same-place}
use Rattle.target_rows.proofs.MovedRun.{moved_run-away, moved_run-long, moved_run-row}
use Rattle.target_rows.proofs.Patched.{patched-before, patched-behind, patched-here, patched-long}
use Rattle.target_rows.proofs.RowLemmas.{length-row, place-atom, place-router, row-at}
use Rattle.target_rows.proofs.TargetLemmas.{coded-within, still, targets-kept}
use denote.Param.Members.{Once}
use denote.Ref.{MutBor}

-- ---- one chunk after another

pub written-none : (chunks : List CodeChunk) (from stride lane code : ℕ) → AreWritten chunks chunks from stride lane 0 code
written-none chunks from stride lane code = record {
  long = refl;
  inside = λ k l. absurd (let no : ⊥ = omega arith in no);
  here = λ k l. absurd (let no : ⊥ = omega arith in no);
  others = λ j m ne. refl;
}

-- two of them are apart
apart : (i k stride : ℕ) → i < k → 0 < stride → i * stride < k * stride
apart i k stride l some = let m : (i + 1) * stride ≤ k * stride = mul-le (i + 1) stride k stride (omega arith) (omega arith) in omega arith

further : (from stride done i : ℕ) → from + done * stride + i * stride ≡ from + (done + i) * stride
further from stride done i = omega arith

pub written-on : (old now new : List CodeChunk) (from stride lane done more code : ℕ) → 0 < stride → AreWritten old now from stride lane done code → AreWritten now new (from + done * stride) stride lane more code → AreWritten old new from stride lane (done + more) code
written-on old now new from stride lane done more code some so on = record {
  long = on.long ∙ so.long;
  inside = λ k l.
      ⊎_elim
      (λ (m : k < done). so.inside k m)
      (λ (m : done ≤ k). let at : from + done * stride + (k - done) * stride ≡ from + k * stride = behind k m in omega (arith, on.inside (k - done) (omega arith), so.long))
      (cases_lt k done);
  here = λ k l.
      ⊎_elim
      (λ (m : k < done). on.others (from + k * stride) lane (λ i li e f. omega (arith, apart k done stride m some)) ∙ so.here k m)
      (λ (m : done ≤ k). ap (λ x. lane_at new x lane) (sym (behind k m)) ∙ on.here (k - done) (omega arith))
      (cases_lt k done);
  others = λ j m ne.
      on.others j m (λ i li e f. ne (done + i) (omega arith) (e ∙ further from stride done i) f)
      ∙ so.others j m (λ k l e f. ne k (omega arith) e f);
}
  where
    behind : (k : ℕ) → done ≤ k → from + done * stride + (k - done) * stride ≡ from + k * stride
    behind k l = let back : done + (k - done) ≡ k = omega arith in further from stride done (k - done) ∙ ap (λ x. from + x * stride) back

-- what is written in a part is written in the whole
pub part-written : (old part new : List CodeChunk) (i len stride lane count code : ℕ) → i + len ≤ length old → length part ≡ len → new ≡ take i old ++ part ++ drop (i + len) old → AreWritten (take len (drop i old)) part 0 stride lane count code → AreWritten old new i stride lane count code
part-written old part new i len stride lane count code fits long made is = record {
  long = ap length whole ∙ patched-long old part i (i + len) (omega arith) fits len-is;
  inside = λ k l. omega (arith, within k l);
  here = λ k l.
      let there : i + k * stride < i + len = omega (arith, within k l) in
      let back : i + k * stride - i ≡ 0 + k * stride = omega arith in
      ap (λ cs. lane_at cs (i + k * stride) lane) whole
      ∙ ap (λ c. get_or c.codes lane 0) (patched-here old part i (i + len) (omega arith) fits len-is (i + k * stride) no_codes (omega arith) there)
      ∙ ap (λ p. lane_at part p lane) back
      ∙ is.here k l;
  others = λ j m ne.
      ap (λ cs. lane_at cs j m) whole
      ∙ ⊎_elim
      (λ (l : j < i). ap (λ c. get_or c.codes m 0) (patched-before old part i (i + len) (omega arith) fits len-is j no_codes l))
      (λ (l : i ≤ j).
      ⊎_elim
      (λ (u : j < i + len).
      let back : i + (j - i) ≡ j = omega arith in
      ap (λ c. get_or c.codes m 0) (patched-here old part i (i + len) (omega arith) fits len-is j no_codes l u)
      ∙ is.others (j - i) m (λ k lk e f. ne k lk (omega arith) f)
      ∙ ap (λ c. get_or c.codes m 0) (get_or-take len (drop i old) (j - i) no_codes (omega arith) ∙ get_or-drop i old (j - i) no_codes)
      ∙ ap (λ p. lane_at old p m) back)
      (λ (u : i + len ≤ j). ap (λ c. get_or c.codes m 0) (patched-behind old part i (i + len) (omega arith) fits len-is j no_codes u))
      (cases_lt j (i + len)))
      (cases_lt j i);
}
  where
    whole : new ≡ take i old ++ (part ++ drop (i + len) old)
    whole = made ∙ append_assoc (take i old) part (drop (i + len) old)

    len-is : length part ≡ i + len - i
    len-is = omega arith

    within : (k : ℕ) → k < count → k * stride < len
    within k l = omega (arith, is.inside k l, length-take-le len (drop i old) (omega (arith, length-drop i old)))

-- what a call leaves that writes them in a part
abbrev pub WritesEach : List CodeChunk → List CodeChunk → ℕ → ℕ → ℕ → ℕ → ℕ → Type 0
WritesEach x y stride lane most code n = (0 < length x → 0 < most → 0 < n) × (n ≤ most) × AreWritten x y 0 stride lane n code

pub changed-run-written : {F E : Type 0} (g : Once F (MutBor (List CodeChunk) × Unit {0}) (ℕ × (MutBor (List CodeChunk) × Unit {0}))) (h : F) (old new : List CodeChunk) (i stride lane most code : ℕ) (res : Result ℕ E) → 0 < most → IfOk res (ChangesRun g h old new i) → ((x y : List CodeChunk) (n : ℕ) → FnOnceReturnsAtMut g h x n y → WritesEach x y stride lane most code n) → IfOk res (λ n. 0 < n) × IfOk res (λ n. n ≤ most) × IfOk res (λ n. AreWritten old new i stride lane n code)
changed-run-written g h old new i stride lane most code (Ok r) some made says =
    let at = says (take made.count (drop i old)) made.run r made.called in
    let long : length (take made.count (drop i old)) ≡ made.count = length-take-le made.count (drop i old) (omega (arith, length-drop i old, made.inside)) in (
      at.0 (omega (arith, long, made.some)) some,
      at.1,
      part-written old made.run new i made.count stride lane r code made.inside made.long made.list at.2,
    )
changed-run-written g h old new i stride lane most code (Err e) some made says = (tt, tt, tt)

-- ---- a column

pub column-none : (n r first : ℕ) (chunks : List CodeChunk) (code : ℕ) → IsColumnWritten n r first chunks chunks 0 code
column-none n r first chunks code = written-none chunks (first * stride_of n + r / 8) (stride_of n) (r % 8) code

down : (a k s q : ℕ) → a * s + q + k * s ≡ (a + k) * s + q
down a k s q = omega arith

-- as the calls say it
pub column-more : (n r first done more code i stride lane : ℕ) (old now new : List CodeChunk) → r < n → stride ≡ stride_of n → i ≡ (first + done) * stride_of n + r / 8 → lane ≡ r % 8 → IsColumnWritten n r first old now done code → AreWritten now new i stride lane more code → IsColumnWritten n r first old new (done + more) code
column-more n r first done more code i stride lane old now new lr wide place at-lane so on =
    let some : 0 < stride_of n = omega arith in
    let at : i ≡ first * stride_of n + r / 8 + done * stride_of n = place ∙ sym (down first done (stride_of n) (r / 8)) in
    written-on old now new (first * stride_of n + r / 8) (stride_of n) (r % 8) done more code some so
    (subst (λ (x : ℕ). AreWritten now new x (stride_of n) (r % 8) more code) at
    (subst (λ (x : ℕ). AreWritten now new i x (r % 8) more code) wide
    (subst (λ (x : ℕ). AreWritten now new i stride x more code) at-lane on)))

-- ---- codes one after another

-- a router has this code at the atoms from one up to, and without, another, and all other codes stay
record AreMoved (n atoms r first past code : ℕ) (codes now : List ℕ) : Type 0 where
  pub long : length now ≡ atoms * n
  pub here : (b : ℕ) → first ≤ b → b < past → code_at n now b r ≡ code
  pub others : (b q : ℕ) → b < atoms → q < n → (first ≤ b → b < past → q ≡ r → ⊥) → code_at n now b q ≡ code_at n codes b q

column-moved : (n atoms r first count code : ℕ) (old new : List CodeChunk) → IsColumnWritten n r first old new count code → r < n → first + count ≤ atoms → AreMoved n atoms r first (first + count) code (codes_in n atoms old) (codes_in n atoms new)
column-moved n atoms r first count code old new is lr fits = record {
  long = length-codes n atoms new;
  here = λ b low high.
      let back : first + (b - first) ≡ b = omega arith in
      let at : b * stride_of n + r / 8 ≡ first * stride_of n + r / 8 + (b - first) * stride_of n = sym (place (b - first) ∙ ap (λ x. x * stride_of n + r / 8) back) in
      code-flat n atoms b r 0 new (omega arith) lr
      ∙ ap (λ p. lane_at new p (r % 8)) at
      ∙ is.here (b - first) (omega arith);
  others = λ b q lb lq ne.
      code-flat n atoms b q 0 new lb lq
      ∙ is.others (b * stride_of n + q / 8) (q % 8) (λ k lk e f.
      let same : b * n + q ≡ (first + k) * n + r = same-place (first + k) b q r n lq lr (e ∙ place k) f in
      let atom : b ≡ first + k = place-atom (first + k) b q r n lq lr same in
      ne (omega arith) (omega arith) (place-router (first + k) b q r n lq lr same))
      ∙ sym (code-flat n atoms b q 0 old lb lq);
}
  where
    place : (k : ℕ) → first * stride_of n + r / 8 + k * stride_of n ≡ (first + k) * stride_of n + r / 8
    place k = down first k (stride_of n) (r / 8)

module _ (n atoms r first past code : ℕ) (codes now : List ℕ) (edges new : List Edge) (t : Target) (kept : AreRows n atoms codes edges) (coded : IsCoded edges new (record { router = r; target = t }) code) (is : AreMoved n atoms r first past code codes now) (lr : r < n) where
  run-rows : AreRows n atoms now new
  run-rows = record {
    long = is.long;
    few = kept.few;
    own = λ b q lb lq.
        ⊎_elim
        (λ (l : b < first). other b q lb lq (λ m o e. omega arith))
        (λ (l : first ≤ b).
        ⊎_elim
        (λ (m : b < past).
        ⊎_elim
        (λ (e : q ≡ r).
        let same : code_at n now b q ≡ code = ap (λ x. code_at n now b x) e ∙ is.here b l m in
        subst (IsCodeOf new q) (sym same) (record { there = coded.below; router = ap (λ x. x.router) coded.is ∙ sym e }))
        (λ (ne : q ≢ r). other b q lb lq (λ k o e. ne e))
        (cases_eq q r))
        (λ (m : past ≤ b). other b q lb lq (λ k o e. omega arith))
        (cases_lt b past))
        (cases_lt b first);
    within = λ c l. coded-within n r code edges new t kept.within coded lr c l;
  }
    where
      other : (b q : ℕ) → b < atoms → q < n → (first ≤ b → b < past → q ≡ r → ⊥) → IsCodeOf new q (code_at n now b q)
      other b q lb lq ne = subst (IsCodeOf new q) (sym (is.others b q lb lq ne)) (still edges new (record { router = r; target = t }) q (code_at n codes b q) code coded (kept.own b q lb lq))

  row-long : (b : ℕ) → b < atoms → length (codes_of n codes b) ≡ n
  row-long b lb = length-row n atoms b codes kept.long lb

  row-long-now : (b : ℕ) → b < atoms → length (codes_of n now b) ≡ n
  row-long-now b lb = length-row n atoms b now is.long lb

  -- a row at another place, and one at one of these places
  row-away : (b : ℕ) → b < atoms → (first ≤ b → b < past → ⊥) → codes_of n now b ≡ codes_of n codes b
  row-away b lb away = ext_get_or 0 (codes_of n now b) (codes_of n codes b) (row-long-now b lb ∙ sym (row-long b lb)) (λ q l.
      let lq : q < n = omega (arith, row-long-now b lb) in
      row-at n b q now lq ∙ is.others b q lb lq (λ m o e. away m o) ∙ sym (row-at n b q codes lq))

  row-here : (b : ℕ) → b < atoms → first ≤ b → b < past → codes_of n now b ≡ set (codes_of n codes b) r code
  row-here b lb low high = ext_get_or 0 (codes_of n now b) (set (codes_of n codes b) r code) (row-long-now b lb ∙ sym (length-set (codes_of n codes b) r code ∙ row-long b lb)) (λ q l.
      let lq : q < n = omega (arith, row-long-now b lb) in
      row-at n b q now lq
      ∙ ⊎_elim
      (λ (e : q ≡ r).
      ap (λ x. code_at n now b x) e
      ∙ is.here b low high
      ∙ sym (get_or-set_same (codes_of n codes b) r code 0 (omega (arith, row-long b lb)))
      ∙ ap (λ x. get_or (set (codes_of n codes b) r code) x 0) (sym e))
      (λ (ne : q ≢ r). is.others b q lb lq (λ m o e. ne e) ∙ sym (row-at n b q codes lq) ∙ sym (get_or-set_other (codes_of n codes b) r q code 0 ne))
      (cases_eq q r))

  -- what the routers do at a place
  targets-away : (b : ℕ) → b < atoms → (first ≤ b → b < past → ⊥) → targets_by new (codes_of n now b) ≡ targets_by edges (codes_of n codes b)
  targets-away b lb away = ap (targets_by new) (row-away b lb away) ∙ targets-kept n atoms r b code codes edges new t kept coded lb

  targets-here : (b : ℕ) → b < atoms → first ≤ b → b < past → targets_by new (codes_of n now b) ≡ set (targets_by edges (codes_of n codes b)) r t
  targets-here b lb low high =
      ap (targets_by new) (row-here b lb low high)
      ∙ map-set (λ c. (edge_at new c).target) (codes_of n codes b) r code
      ∙ ap (λ x. set (targets_by new (codes_of n codes b)) r x) (ap (λ x. x.target) coded.is)
      ∙ ap (λ xs. set xs r t) (targets-kept n atoms r b code codes edges new t kept coded lb)

  run-labels : (g : Labels) → labels_of n atoms codes edges ≡ g → first ≤ past → past ≤ atoms → labels_of n atoms now new ≡ moved_run g r first past t
  unfolding labels_of
  run-labels g seen order inside =
      ap make (same_lists (map (λ b. targets_by new (codes_of n now b)) (range_with_len 0 atoms)) (moved_run before r first past t).rows (long-now ∙ sym (moved_run-long before r first past t order inside' ∙ long-then)) (λ b d l.
      let lb : b < atoms = omega (arith, long-now) in
      get_or-map-range_with_len (λ a. targets_by new (codes_of n now a)) 0 atoms b b d lb (omega arith)
      ∙ each b lb
      ∙ sym (get_or_default (moved_run before r first past t).rows b d [] (omega (arith, moved_run-long before r first past t order inside', long-then)))))
      ∙ ap (λ x. moved_run x r first past t) seen
    where
      make : List (List Target) → Labels
      make rows = record { routers = n; rows = rows }

      before : Labels
      before = make (map (λ b. targets_by edges (codes_of n codes b)) (range_with_len 0 atoms))

      long-now : length (map (λ b. targets_by new (codes_of n now b)) (range_with_len 0 atoms)) ≡ atoms
      long-now = length-map-range_with_len (λ b. targets_by new (codes_of n now b)) 0 atoms

      long-then : length (map (λ b. targets_by edges (codes_of n codes b)) (range_with_len 0 atoms)) ≡ atoms
      long-then = length-map-range_with_len (λ b. targets_by edges (codes_of n codes b)) 0 atoms

      inside' : past ≤ length (map (λ b. targets_by edges (codes_of n codes b)) (range_with_len 0 atoms))
      inside' = omega (arith, long-then)

      read : (b : ℕ) → b < atoms → targets_of before b ≡ targets_by edges (codes_of n codes b)
      read b lb = get_or-map-range_with_len (λ a. targets_by edges (codes_of n codes a)) 0 atoms b b [] lb (omega arith)

      each : (b : ℕ) → b < atoms → targets_by new (codes_of n now b) ≡ targets_of (moved_run before r first past t) b
      each b lb = ⊎_elim
          (λ (l : b < first). other b lb (λ m o. omega arith))
          (λ (l : first ≤ b).
          ⊎_elim
          (λ (m : b < past). targets-here b lb l m ∙ ap (λ row. set row r t) (sym (read b lb)) ∙ sym (moved_run-row before r first past t order inside' b l m))
          (λ (m : past ≤ b). other b lb (λ k o. omega arith))
          (cases_lt b past))
          (cases_lt b first)
        where
          other : (b : ℕ) → b < atoms → (first ≤ b → b < past → ⊥) → targets_by new (codes_of n now b) ≡ targets_of (moved_run before r first past t) b
          other b lb away = targets-away b lb away ∙ sym (read b lb) ∙ sym (moved_run-away before r first past t order inside' b away)

-- ---- what the call leaves

pub run-chunks : (n atoms r first count code : ℕ) (old now : List CodeChunk) (edges new : List Edge) (t : Target) → AreChunkRows n atoms old edges → IsCoded edges new (record { router = r; target = t }) code → IsColumnWritten n r first old now count code → r < n → first + count ≤ atoms → AreChunkRows n atoms now new
run-chunks n atoms r first count code old now edges new t kept coded is lr fits = record {
  long = is.long ∙ kept.long;
  rows = run-rows n atoms r first (first + count) code (codes_in n atoms old) (codes_in n atoms now) edges new t kept.rows coded (column-moved n atoms r first count code old now is lr fits) lr;
}

pub run-chunks-seen : (n atoms r first past count code : ℕ) (old now : List CodeChunk) (edges new : List Edge) (t : Target) (g : Labels) → labels_in n atoms old edges ≡ g → AreChunkRows n atoms old edges → IsCoded edges new (record { router = r; target = t }) code → IsColumnWritten n r first old now count code → r < n → past ≤ atoms → first + count ≡ past → labels_in n atoms now new ≡ moved_run g r first past t
run-chunks-seen n atoms r first past count code old now edges new t g seen kept coded is lr inside e =
    subst (λ (x : ℕ). labels_in n atoms now new ≡ moved_run g r first x t) e
    (run-labels n atoms r first (first + count) code (codes_in n atoms old) (codes_in n atoms now) edges new t kept.rows coded (column-moved n atoms r first count code old now is lr (omega arith)) lr g seen (omega arith) (omega arith))
