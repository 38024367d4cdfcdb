-- Codes in two halves, seen as whole ones.
use Rattle.std.proofs.Common.{OnOk, ◌≡◌, ℕ, zero, suc, ◌+◌, ◌*◌, ◌/◌, ◌%◌, ◌<◌, ◌≤◌, List, [], ◌∷◌, ◌++◌, length, replicate, take, drop, get_or, refl, ap, sym, subst, ⊎_elim, ◌∙◌, arith, length-append}
use Rattle.std.specs.declared.result.Result.{Result}
use Rattle.std.specs.declared.result.Result.TheVariants.{Ok, Err}
use Rattle.std.proofs.lemmas.Bool.{cases_lt}
use Rattle.std.proofs.lemmas.List.{ext_get_or, get_or_past, get_or-replicate, length-drop, length-replicate, length-take-le}
use Rattle.std.proofs.lemmas.List.FromFn.{get_or-map-range_with_len, length-map-range_with_len}
use Rattle.target_rows.specs.declared.code_chunk.CodeChunk.{CodeChunk}
use Rattle.target_rows.specs.ChunkRows.{AreWritten, IsColumnWritten, IsWritten, lane_at, no_codes, repeated, stride_of}
use Rattle.target_rows.specs.SplitCodes.{AreHalves, joined, side_by_side}

-- ---- what is read

joined-lane : (x y : CodeChunk) (lane : ℕ) → lane < 8 → get_or (joined x y).codes lane 0 ≡ get_or x.codes lane 0 + 65536 * get_or y.codes lane 0
unfolding joined
joined-lane x y lane l = get_or-map-range_with_len (λ k. get_or x.codes k 0 + 65536 * get_or y.codes k 0) 0 8 lane lane 0 l (omega arith)

joined-past : (x y : CodeChunk) (lane : ℕ) → 8 ≤ lane → get_or (joined x y).codes lane 0 ≡ 0
unfolding joined
joined-past x y lane l = get_or_past (joined x y).codes lane 0 (omega (arith, length-map-range_with_len (λ k. get_or x.codes k 0 + 65536 * get_or y.codes k 0) 0 8))

zero-lane : (lane : ℕ) → get_or no_codes.codes lane 0 ≡ 0
zero-lane lane = ⊎_elim
    (λ (l : lane < 8). get_or-replicate 8 lane 0 0 l)
    (λ (l : 8 ≤ lane). get_or_past no_codes.codes lane 0 l)
    (cases_lt lane 8)

-- behind the last chunk all codes are 0
past-lane : (chunks : List CodeChunk) (i lane : ℕ) → length chunks ≤ i → lane_at chunks i lane ≡ 0
past-lane chunks i lane l = ap (λ c. get_or c.codes lane 0) (get_or_past chunks i no_codes l) ∙ zero-lane lane

pub sides-long : (lows highs : List CodeChunk) → length (side_by_side lows highs) ≡ length lows
sides-long [] highs = refl
sides-long (x ∷ xs) [] = ap suc (sides-long xs [])
sides-long (x ∷ xs) (y ∷ ys) = ap suc (sides-long xs ys)

sides-get : (lows highs : List CodeChunk) (i : ℕ) → i < length lows → get_or (side_by_side lows highs) i no_codes ≡ joined (get_or lows i no_codes) (get_or highs i no_codes)
sides-get [] highs i l = absurd (let no : ⊥ = omega arith in no)
sides-get (x ∷ xs) [] zero l = refl
sides-get (x ∷ xs) [] (suc i) l = sides-get xs [] i (omega arith)
sides-get (x ∷ xs) (y ∷ ys) zero l = refl
sides-get (x ∷ xs) (y ∷ ys) (suc i) l = sides-get xs ys i (omega arith)

pub sides-lane : (lows highs : List CodeChunk) (i lane : ℕ) → i < length lows → lane < 8 → lane_at (side_by_side lows highs) i lane ≡ lane_at lows i lane + 65536 * lane_at highs i lane
sides-lane lows highs i lane l m = ap (λ c. get_or c.codes lane 0) (sides-get lows highs i l) ∙ joined-lane (get_or lows i no_codes) (get_or highs i no_codes) lane m

pub sides-lane-low : (lows highs : List CodeChunk) (i lane : ℕ) → i < length lows → lane < 8 → length highs ≡ 0 → lane_at (side_by_side lows highs) i lane ≡ lane_at lows i lane
sides-lane-low lows highs i lane l m none =
    sides-lane lows highs i lane l m
    ∙ ap (λ x. lane_at lows i lane + 65536 * x) (past-lane highs i lane (omega arith))
    ∙ add-none (lane_at lows i lane)
  where
    add-none : (x : ℕ) → x + 65536 * 0 ≡ x
    add-none x = omega arith

few : (lows highs : List CodeChunk) → AreHalves lows highs → length highs ≤ length lows
few lows highs halves = ⊎_elim
    (λ (l : 0 < length highs). omega (arith, halves.long l))
    (λ (l : length highs ≤ 0). omega arith)
    (cases_lt 0 (length highs))

-- also where there is no chunk
each-lane : (lows highs : List CodeChunk) (i lane : ℕ) → AreHalves lows highs → lane < 8 → lane_at (side_by_side lows highs) i lane ≡ lane_at lows i lane + 65536 * lane_at highs i lane
each-lane lows highs i lane halves m = ⊎_elim
    (λ (l : i < length lows). sides-lane lows highs i lane l m)
    (λ (l : length lows ≤ i).
    past-lane (side_by_side lows highs) i lane (omega (arith, sides-long lows highs))
    ∙ sym (ap (λ x. x + 65536 * lane_at highs i lane) (past-lane lows i lane l) ∙ ap (λ x. 0 + 65536 * x) (past-lane highs i lane (omega (arith, few lows highs halves)))))
    (cases_lt i (length lows))

no-lane : (lows highs : List CodeChunk) (i lane : ℕ) → 8 ≤ lane → lane_at (side_by_side lows highs) i lane ≡ 0
no-lane lows highs i lane m = ⊎_elim
    (λ (l : i < length lows). ap (λ c. get_or c.codes lane 0) (sides-get lows highs i l) ∙ joined-past (get_or lows i no_codes) (get_or highs i no_codes) lane m)
    (λ (l : length lows ≤ i). past-lane (side_by_side lows highs) i lane (omega (arith, sides-long lows highs)))
    (cases_lt i (length lows))

-- a list of upper halves that are all 0 says the same as none
pub sides-same : (lows highs others : List CodeChunk) → ((i : ℕ) → get_or highs i no_codes ≡ get_or others i no_codes) → side_by_side lows highs ≡ side_by_side lows others
sides-same lows highs others same = ext_get_or no_codes (side_by_side lows highs) (side_by_side lows others) (sides-long lows highs ∙ sym (sides-long lows others)) (λ i l.
    let inside : i < length lows = omega (arith, sides-long lows highs) in
    sides-get lows highs i inside ∙ ap (joined (get_or lows i no_codes)) (same i) ∙ sym (sides-get lows others i inside))

pub zeros-same : (chunks none : List CodeChunk) (n i : ℕ) → chunks ≡ replicate n no_codes → length none ≡ 0 → get_or chunks i no_codes ≡ get_or none i no_codes
zeros-same chunks none n i is long =
    ap (λ cs. get_or cs i no_codes) is
    ∙ ⊎_elim
    (λ (l : i < n). get_or-replicate n i no_codes no_codes l)
    (λ (l : n ≤ i). get_or_past (replicate n no_codes) i no_codes (omega (arith, length-replicate n no_codes)))
    (cases_lt i n)
    ∙ sym (get_or_past none i no_codes (omega arith))

-- ---- what is written

parts : (code : ℕ) → code % 65536 + 65536 * (code / 65536) ≡ code
parts code = omega arith

below : (code : ℕ) → code < 65536 → code % 65536 + 65536 * 0 ≡ code
below code l = omega arith

-- the lower halves of a code that has been written, and what then is read of upper halves
module _ (lows lows' highs highs' : List CodeChunk) (halves : AreHalves lows highs) (halves' : AreHalves lows' highs') where
  -- where both stay, the whole does
  stay : (j m : ℕ) → lane_at lows' j m ≡ lane_at lows j m → lane_at highs' j m ≡ lane_at highs j m → lane_at (side_by_side lows' highs') j m ≡ lane_at (side_by_side lows highs) j m
  stay j m low high = ⊎_elim
      (λ (l : m < 8).
      each-lane lows' highs' j m halves' l
      ∙ ap (λ x. x + 65536 * lane_at highs' j m) low
      ∙ ap (λ x. lane_at lows j m + 65536 * x) high
      ∙ sym (each-lane lows highs j m halves l))
      (λ (l : 8 ≤ m). no-lane lows' highs' j m l ∙ sym (no-lane lows highs j m l))
      (cases_lt m 8)

  -- where both are there, the code is
  come : (j lane low high code : ℕ) → lane < 8 → lane_at lows' j lane ≡ low → lane_at highs' j lane ≡ high → low + 65536 * high ≡ code → lane_at (side_by_side lows' highs') j lane ≡ code
  come j lane low high code l at-low at-high e =
      each-lane lows' highs' j lane halves' l
      ∙ ap (λ x. x + 65536 * lane_at highs' j lane) at-low
      ∙ ap (λ x. low + 65536 * x) at-high
      ∙ e

  long-as : length lows' ≡ length lows → length (side_by_side lows' highs') ≡ length (side_by_side lows highs)
  long-as e = sides-long lows' highs' ∙ e ∙ sym (sides-long lows highs)

  written-both : (i lane code : ℕ) → lane < 8 → IsWritten lows lows' i lane (code % 65536) → IsWritten highs highs' i lane (code / 65536) → IsWritten (side_by_side lows highs) (side_by_side lows' highs') i lane code
  written-both i lane code l low high = record {
    long = long-as low.long;
    here = come i lane (code % 65536) (code / 65536) code l low.here high.here (parts code);
    others = λ j k ne. stay j k (low.others j k ne) (high.others j k ne);
  }

  column-both : (from stride lane count code : ℕ) → lane < 8 → AreWritten lows lows' from stride lane count (code % 65536) → AreWritten highs highs' from stride lane count (code / 65536) → AreWritten (side_by_side lows highs) (side_by_side lows' highs') from stride lane count code
  column-both from stride lane count code l low high = record {
    long = long-as low.long;
    inside = λ k m. omega (arith, low.inside k m, sides-long lows highs);
    here = λ k m. come (from + k * stride) lane (code % 65536) (code / 65536) code l (low.here k m) (high.here k m) (parts code);
    others = λ j m ne. stay j m (low.others j m ne) (high.others j m ne);
  }

-- there is no list of upper halves, nor does the code need one
module _ (lows lows' highs : List CodeChunk) (code : ℕ) (halves : AreHalves lows highs) (halves' : AreHalves lows' highs) (none : length highs ≡ 0) (there : 65536 ≤ code → length highs ≡ length lows) where
  small : 0 < length lows → code < 65536
  small some = ⊎_elim
      (λ (l : code < 65536). l)
      (λ (l : 65536 ≤ code). absurd (let no : ⊥ = omega (arith, there l) in no))
      (cases_lt code 65536)

  written-low : (i lane : ℕ) → i < length lows → lane < 8 → IsWritten lows lows' i lane (code % 65536) → IsWritten (side_by_side lows highs) (side_by_side lows' highs) i lane code
  written-low i lane inside l low = record {
    long = long-as lows lows' highs highs halves halves' low.long;
    here = come lows lows' highs highs halves halves' i lane (code % 65536) 0 code l low.here (past-lane highs i lane (omega arith)) (below code (small (omega arith)));
    others = λ j k ne. stay lows lows' highs highs halves halves' j k (low.others j k ne) refl;
  }

  column-low : (from stride lane count : ℕ) → lane < 8 → AreWritten lows lows' from stride lane count (code % 65536) → AreWritten (side_by_side lows highs) (side_by_side lows' highs) from stride lane count code
  column-low from stride lane count l low = record {
    long = long-as lows lows' highs highs halves halves' low.long;
    inside = λ k m. omega (arith, low.inside k m, sides-long lows highs);
    here = λ k m. come lows lows' highs highs halves halves' (from + k * stride) lane (code % 65536) 0 code l (low.here k m) (past-lane highs (from + k * stride) lane (omega arith)) (below code (small (omega (arith, low.inside k m))));
    others = λ j m ne. stay lows lows' highs highs halves halves' j m (low.others j m ne) refl;
  }

-- ---- chunks once more

sides-take : (n : ℕ) (xs ys : List CodeChunk) → length ys ≡ length xs → take n (side_by_side xs ys) ≡ side_by_side (take n xs) (take n ys)
sides-take zero xs ys e = refl
sides-take (suc n) [] ys e = refl
sides-take (suc n) (x ∷ xs) [] e = absurd (let no : ⊥ = omega arith in no)
sides-take (suc n) (x ∷ xs) (y ∷ ys) e = ap (λ zs. joined x y ∷ zs) (sides-take n xs ys (omega arith))

sides-drop : (n : ℕ) (xs ys : List CodeChunk) → length ys ≡ length xs → drop n (side_by_side xs ys) ≡ side_by_side (drop n xs) (drop n ys)
sides-drop zero xs ys e = refl
sides-drop (suc n) [] ys e = refl
sides-drop (suc n) (x ∷ xs) [] e = absurd (let no : ⊥ = omega arith in no)
sides-drop (suc n) (x ∷ xs) (y ∷ ys) e = sides-drop n xs ys (omega arith)

sides-append : (xs us ys vs : List CodeChunk) → length ys ≡ length xs → side_by_side (xs ++ us) (ys ++ vs) ≡ side_by_side xs ys ++ side_by_side us vs
sides-append [] us [] vs e = refl
sides-append [] us (y ∷ ys) vs e = absurd (let no : ⊥ = omega arith in no)
sides-append (x ∷ xs) us [] vs e = absurd (let no : ⊥ = omega arith in no)
sides-append (x ∷ xs) us (y ∷ ys) vs e = ap (λ zs. joined x y ∷ zs) (sides-append xs us ys vs (omega arith))

alone-take : (n : ℕ) (xs : List CodeChunk) → take n (side_by_side xs []) ≡ side_by_side (take n xs) []
alone-take zero xs = refl
alone-take (suc n) [] = refl
alone-take (suc n) (x ∷ xs) = ap (λ zs. joined x no_codes ∷ zs) (alone-take n xs)

alone-drop : (n : ℕ) (xs : List CodeChunk) → drop n (side_by_side xs []) ≡ side_by_side (drop n xs) []
alone-drop zero xs = refl
alone-drop (suc n) [] = refl
alone-drop (suc n) (x ∷ xs) = alone-drop n xs

alone-append : (xs us : List CodeChunk) → side_by_side (xs ++ us) [] ≡ side_by_side xs [] ++ side_by_side us []
alone-append [] us = refl
alone-append (x ∷ xs) us = ap (λ zs. joined x no_codes ∷ zs) (alone-append xs us)

pub repeated-long : (xs : List CodeChunk) (from count next : ℕ) → from + count ≤ length xs → next ≤ length xs → length (repeated xs from count next) ≡ length xs + count
repeated-long xs from count next inside place =
    let front : length (take next xs) ≡ next = length-take-le next xs place in
    let row : length (take count (drop from xs)) ≡ count = length-take-le count (drop from xs) (omega (arith, length-drop from xs)) in
    let both : length (take next xs ++ take count (drop from xs)) ≡ length (take next xs) + length (take count (drop from xs)) = length-append (take next xs) (take count (drop from xs)) in
    let whole : length (repeated xs from count next) ≡ length (take next xs ++ take count (drop from xs)) + length (drop next xs) = length-append (take next xs ++ take count (drop from xs)) (drop next xs) in
    omega (arith, front, row, both, whole, length-drop next xs)

pub repeated-both : (lows highs : List CodeChunk) (from count next : ℕ) → length highs ≡ length lows → from + count ≤ length lows → next ≤ length lows → side_by_side (repeated lows from count next) (repeated highs from count next) ≡ repeated (side_by_side lows highs) from count next
repeated-both lows highs from count next e inside place =
    let dropped : length (drop from highs) ≡ length (drop from lows) = omega (arith, length-drop from highs, length-drop from lows) in
    let behind : length (drop next highs) ≡ length (drop next lows) = omega (arith, length-drop next highs, length-drop next lows) in
    let front : length (take next highs) ≡ length (take next lows) = omega (arith, length-take-le next lows place, length-take-le next highs (omega arith)) in
    let row : length (take count (drop from highs)) ≡ length (take count (drop from lows)) = omega (arith, length-take-le count (drop from lows) (omega (arith, length-drop from lows)), length-take-le count (drop from highs) (omega (arith, length-drop from highs))) in
    let both : length (take next highs ++ take count (drop from highs)) ≡ length (take next lows ++ take count (drop from lows)) = omega (arith, length-append (take next highs) (take count (drop from highs)), length-append (take next lows) (take count (drop from lows)), front, row) in
    sides-append (take next lows ++ take count (drop from lows)) (drop next lows) (take next highs ++ take count (drop from highs)) (drop next highs) both
    ∙ ap (λ zs. zs ++ side_by_side (drop next lows) (drop next highs)) (sides-append (take next lows) (take count (drop from lows)) (take next highs) (take count (drop from highs)) front)
    ∙ ap (λ zs. zs ++ side_by_side (take count (drop from lows)) (take count (drop from highs)) ++ side_by_side (drop next lows) (drop next highs)) (sym (sides-take next lows highs e))
    ∙ ap (λ zs. take next (side_by_side lows highs) ++ zs ++ side_by_side (drop next lows) (drop next highs)) (sym (sides-take count (drop from lows) (drop from highs) dropped) ∙ ap (take count) (sym (sides-drop from lows highs e)))
    ∙ ap (λ zs. take next (side_by_side lows highs) ++ take count (drop from (side_by_side lows highs)) ++ zs) (sym (sides-drop next lows highs e))

repeated-alone : (lows : List CodeChunk) (from count next : ℕ) → side_by_side (repeated lows from count next) [] ≡ repeated (side_by_side lows []) from count next
repeated-alone lows from count next =
    alone-append (take next lows ++ take count (drop from lows)) (drop next lows)
    ∙ ap (λ zs. zs ++ side_by_side (drop next lows) []) (alone-append (take next lows) (take count (drop from lows)))
    ∙ ap (λ zs. zs ++ side_by_side (take count (drop from lows)) [] ++ side_by_side (drop next lows) []) (sym (alone-take next lows))
    ∙ ap (λ zs. take next (side_by_side lows []) ++ zs ++ side_by_side (drop next lows) []) (sym (alone-take count (drop from lows)) ∙ ap (take count) (sym (alone-drop from lows)))
    ∙ ap (λ zs. take next (side_by_side lows []) ++ take count (drop from (side_by_side lows [])) ++ zs) (sym (alone-drop next lows))

pub repeated-low : (lows highs : List CodeChunk) (from count next : ℕ) → length highs ≡ 0 → side_by_side (repeated lows from count next) highs ≡ repeated (side_by_side lows highs) from count next
repeated-low lows [] from count next none = repeated-alone lows from count next
repeated-low lows (y ∷ ys) from count next none = absurd (let no : ⊥ = omega arith in no)

-- as the calls say it
pub again-both : {E : Type 0} (res : Result Unit E) (lows highs lows' highs' : List CodeChunk) (from count next : ℕ) → length highs ≡ length lows → from + count ≤ length lows → next ≤ length lows → lows' ≡ repeated lows from count next → OnOk res (highs' ≡ repeated highs from count next) → OnOk res (side_by_side lows' highs' ≡ repeated (side_by_side lows highs) from count next)
again-both (Ok u) lows highs lows' highs' from count next e inside place low high =
    ap (λ cs. side_by_side cs highs') low
    ∙ ap (side_by_side (repeated lows from count next)) high
    ∙ repeated-both lows highs from count next e inside place
again-both (Err x) lows highs lows' highs' from count next e inside place low high = tt

-- ---- what the calls leave

-- a code is written where there may be no list of upper halves
module _ (now lows lows' before highs : List CodeChunk) (code : ℕ) (seen : side_by_side lows before ≡ now) (same : (i : ℕ) → get_or highs i no_codes ≡ get_or before i no_codes) (halves : AreHalves lows highs) (there : 65536 ≤ code → length highs ≡ length lows) (long : length lows' ≡ length lows) where
  reached : side_by_side lows highs ≡ now
  reached = sides-same lows highs before same ∙ seen

  stay-halves : (highs' : List CodeChunk) → length highs' ≡ length highs → AreHalves lows' highs'
  stay-halves highs' e = record { long = λ l. e ∙ halves.long (omega arith) ∙ sym long }

  pub write-low : (i lane low : ℕ) → length highs ≡ 0 → i < length lows → lane < 8 → low ≡ code % 65536 → IsWritten lows lows' i lane low → IsWritten now (side_by_side lows' highs) i lane code
  write-low i lane low none inside l e is = subst (λ (xs : List CodeChunk). IsWritten xs (side_by_side lows' highs) i lane code) reached
      (written-low lows lows' highs code halves (stay-halves highs refl) none there i lane inside l (subst (λ (x : ℕ). IsWritten lows lows' i lane x) e is))

  pub write-both : {E : Type 0} (res : Result Unit E) (highs' : List CodeChunk) (i lane low high : ℕ) → lane < 8 → low ≡ code % 65536 → high ≡ code / 65536 → IsWritten lows lows' i lane low → OnOk res (IsWritten highs highs' i lane high) → OnOk res (IsWritten now (side_by_side lows' highs') i lane code)
  write-both (Ok u) highs' i lane low high l e f is so = subst (λ (xs : List CodeChunk). IsWritten xs (side_by_side lows' highs') i lane code) reached
      (written-both lows lows' highs highs' halves (stay-halves highs' so.long) i lane code l (subst (λ (x : ℕ). IsWritten lows lows' i lane x) e is) (subst (λ (x : ℕ). IsWritten highs highs' i lane x) f so))
  write-both (Err x) highs' i lane low high l e f is so = tt

  pub write-column-low : (n r first count low : ℕ) → length highs ≡ 0 → low ≡ code % 65536 → IsColumnWritten n r first lows lows' count low → IsColumnWritten n r first now (side_by_side lows' highs) count code
  write-column-low n r first count low none e is = subst (λ (xs : List CodeChunk). IsColumnWritten n r first xs (side_by_side lows' highs) count code) reached
      (column-low lows lows' highs code halves (stay-halves highs refl) none there (first * stride_of n + r / 8) (stride_of n) (r % 8) count (omega arith) (subst (λ (x : ℕ). IsColumnWritten n r first lows lows' count x) e is))

  pub write-column-both : {E : Type 0} (res : Result Unit E) (highs' : List CodeChunk) (n r first count low high : ℕ) → low ≡ code % 65536 → high ≡ code / 65536 → IsColumnWritten n r first lows lows' count low → OnOk res (IsColumnWritten n r first highs highs' count high) → OnOk res (IsColumnWritten n r first now (side_by_side lows' highs') count code)
  write-column-both (Ok u) highs' n r first count low high e f is so = subst (λ (xs : List CodeChunk). IsColumnWritten n r first xs (side_by_side lows' highs') count code) reached
      (column-both lows lows' highs highs' halves (stay-halves highs' so.long) (first * stride_of n + r / 8) (stride_of n) (r % 8) count code (omega arith) (subst (λ (x : ℕ). IsColumnWritten n r first lows lows' count x) e is) (subst (λ (x : ℕ). IsColumnWritten n r first highs highs' count x) f so))
  write-column-both (Err x) highs' n r first count low high e f is so = tt
