-- What codes in chunks stand for, of many atoms or of many routers at once.
use Rattle.std.proofs.Common.{◌≡◌, ◌≢◌, ℕ, ◌+◌, ◌*◌, ◌/◌, ◌%◌, ◌<◌, ◌≤◌, List, [], length, take, drop, get_or, set, min, refl, ap, sym, subst, ⊎_elim, ◌∙◌, arith, get_or-set_other, get_or-set_same}
use Rattle.std.proofs.lemmas.Bool.{cases_lt}
use Rattle.std.proofs.lemmas.Grind.{div_ceil_times}
use Rattle.std.proofs.lemmas.List.{get_or-drop, get_or-take, get_or_default, length-drop, length-take}
use Rattle.std.proofs.lemmas.Nat.{mul-le}
use Rattle.base.specs.declared.target.Target.{Target}
use Rattle.target_rows.specs.declared.code_chunk.CodeChunk.{CodeChunk}
use Rattle.target_rows.specs.declared.codes.Edge.{Edge}
use Rattle.target_rows.specs.ChunkRows.{AreChunkRows, labels_in, lane_at, meant_at, no_codes, stride_of}
use Rattle.target_rows.specs.Labels.{Labels, target_at}
use Rattle.target_rows.proofs.ChunkLemmas.{atoms-in, code-seen, routers-in}

-- ---- a run of chunks

-- so many chunks, each so much further on than the one before, stand in a run
pub each-inside : (k count most len stride : ℕ) → 0 < stride → k < count → count ≤ most → most ≡ len / stride + min 1 (len % stride) → k * stride < len
each-inside k count most len stride some l few is =
    let next : (k + 1) * stride ≤ most * stride = mul-le (k + 1) stride most stride (omega arith) (omega arith) in
    let all : most * stride < len + stride = subst (λ (x : ℕ). x * stride < len + stride) (sym is) (div_ceil_times len stride some).1 in
    omega arith

pub chunk-lane : (run : List CodeChunk) (i lane : ℕ) → i < length run → get_or (get_or run i (record { codes = [] })).codes lane 0 ≡ lane_at run i lane
chunk-lane run i lane l = ap (λ c. get_or c.codes lane 0) (get_or_default run i (record { codes = [] }) no_codes l)

-- one more is put behind those that are there
pub put-more : (out : List Target) (k : ℕ) (x : Target) (f : ℕ → Target) → k < length out → ((j : ℕ) (e : Target) → j < k → get_or out j e ≡ f j) → x ≡ f k → (j : ℕ) (e : Target) → j < k + 1 → get_or (set out k x) j e ≡ f j
put-more out k x f inside so is j e l = ⊎_elim
    (λ (m : j < k). let away : j ≢ k = λ same. omega arith in get_or-set_other out k j x e away ∙ so j e m)
    (λ (m : k ≤ j).
    let same : j ≡ k = omega arith in
    ap (λ i. get_or (set out k x) i e) same ∙ get_or-set_same out k x e inside ∙ is ∙ ap f (sym same))
    (cases_lt j k)

-- what a page has from a place on
pub run-fits : (xs run : List CodeChunk) (i : ℕ) → i < length xs → take (length run) (drop i xs) ≡ run → i + length run ≤ length xs
run-fits xs run i inside is =
    let few : length run ≡ min (length run) (length (drop i xs)) = sym (ap length is) ∙ length-take (length run) (drop i xs) in
    omega (arith, few, length-drop i xs)

pub run-lane : (xs run : List CodeChunk) (i k lane : ℕ) → k < length run → take (length run) (drop i xs) ≡ run → lane_at run k lane ≡ lane_at xs (i + k) lane
run-lane xs run i k lane l is =
    ap (λ cs. lane_at cs k lane) (sym is)
    ∙ ap (λ c. get_or c.codes lane 0) (get_or-take (length run) (drop i xs) k no_codes l ∙ get_or-drop i xs k no_codes)

-- ---- what the codes of the rows stand for

before-end : (a atoms s q : ℕ) → a * s + q < atoms * s → a < atoms
before-end a atoms s q l = ⊎_elim
    (λ (m : a < atoms). m)
    (λ (m : atoms ≤ a). let all : atoms * s ≤ a * s = mul-le atoms s a s m (omega arith) in absurd (let no : ⊥ = omega arith in no))
    (cases_lt a atoms)

down : (a k s q : ℕ) → a * s + q + k * s ≡ (a + k) * s + q
down a k s q = omega arith

module _ (n atoms : ℕ) (chunks : List CodeChunk) (edges : List Edge) (g : Labels) (seen : labels_in n atoms chunks edges ≡ g) (kept : AreChunkRows n atoms chunks edges) where
  -- of a router and an atom
  pub code-means : (r a i lane : ℕ) → r < n → a < atoms → i ≡ a * stride_of n + r / 8 → lane ≡ r % 8 → (lane_at chunks i lane < length edges) × (meant_at edges chunks i lane ≡ target_at g r a)
  code-means r a i lane lr la at-chunk at-lane = code-seen n atoms r a i lane (lane_at chunks i lane) chunks edges g seen kept (omega (arith, routers-in n atoms chunks edges g seen)) (omega (arith, atoms-in n atoms chunks edges g seen)) at-chunk at-lane refl

  -- of a router and an atom so many places further on
  column-at : (r a k i stride : ℕ) → i ≡ a * stride_of n + r / 8 → stride ≡ stride_of n → i + k * stride ≡ (a + k) * stride_of n + r / 8
  column-at r a k i stride at wide = ap (λ x. x + k * stride) at ∙ ap (λ x. a * stride_of n + r / 8 + k * x) wide ∙ down a k (stride_of n) (r / 8)

  pub column-atom : (r a k i stride : ℕ) → i ≡ a * stride_of n + r / 8 → stride ≡ stride_of n → i + k * stride < length chunks → a + k < atoms
  column-atom r a k i stride at wide l = before-end (a + k) atoms (stride_of n) (r / 8) (subst (λ (x : ℕ). x < atoms * stride_of n) (column-at r a k i stride at wide) (omega (arith, kept.long)))

  pub column-means : (r a k i lane stride : ℕ) → r < n → i ≡ a * stride_of n + r / 8 → lane ≡ r % 8 → stride ≡ stride_of n → i + k * stride < length chunks → (lane_at chunks (i + k * stride) lane < length edges) × (meant_at edges chunks (i + k * stride) lane ≡ target_at g r (a + k))
  column-means r a k i lane stride lr at at-lane wide l = code-means r (a + k) (i + k * stride) lane lr (column-atom r a k i stride at wide l) (column-at r a k i stride at wide) at-lane

  -- of an atom and a router
  pub row-means : (a r from : ℕ) → a < atoms → from ≡ a * stride_of n → r < n → (lane_at chunks (from + r / 8) (r % 8) < length edges) × (meant_at edges chunks (from + r / 8) (r % 8) ≡ target_at g r a)
  row-means a r from la begin lr = code-means r a (from + r / 8) (r % 8) lr la (ap (λ x. x + r / 8) begin) refl
