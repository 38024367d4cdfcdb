-- Rows of codes in one list.
use Rattle.std.proofs.Common.{◌≡◌, ℕ, suc, ◌+◌, ◌*◌, ◌/◌, ◌%◌, ◌<◌, ◌≤◌, List, [], ◌∷◌, ◌++◌, length, map, take, drop, get_or, refl, ap, sym, ◌∙◌, arith, length-append}
use Rattle.std.proofs.lemmas.List.{get_or-drop, get_or-take, length-drop, length-take-le, take-take, drop-drop}
use Rattle.std.proofs.lemmas.Nat.{div-mul-add, mod-mul-add, mul-le}
use Rattle.std.proofs.Math.Seq.{take-add, take-append_seam}
use Rattle.target_rows.specs.Rows.{code_at, codes_of}

pub row-fits : (a atoms n : ℕ) → a < atoms → a * n + n ≤ atoms * n
row-fits a atoms n l = let m : (a + 1) * n ≤ atoms * n = mul-le (a + 1) n atoms n (omega arith) (omega arith) in omega arith

pub length-row : (n atoms a : ℕ) (codes : List ℕ) → length codes ≡ atoms * n → a < atoms → length (codes_of n codes a) ≡ n
length-row n atoms a codes long l = length-take-le n (drop (a * n) codes) (omega (arith, length-drop (a * n) codes, row-fits a atoms n l))

pub row-at : (n a r : ℕ) (codes : List ℕ) → r < n → get_or (codes_of n codes a) r 0 ≡ code_at n codes a r
row-at n a r codes l = get_or-take n (drop (a * n) codes) r 0 l ∙ get_or-drop (a * n) codes r 0

-- a place has one atom and one router
pub place-router : (a b q r n : ℕ) → q < n → r < n → b * n + q ≡ a * n + r → q ≡ r
place-router a b q r n lq lr e = sym (mod-mul-add b n q lq) ∙ ap (λ x. x % n) e ∙ mod-mul-add a n r lr

pub place-atom : (a b q r n : ℕ) → q < n → r < n → b * n + q ≡ a * n + r → b ≡ a
place-atom a b q r n lq lr e = sym (div-mul-add b n q lq) ∙ ap (λ x. x / n) e ∙ div-mul-add a n r lr

pub map-agree : {X : Type 0} (f g : ℕ → X) (xs : List ℕ) → ((i : ℕ) → i < length xs → f (get_or xs i 0) ≡ g (get_or xs i 0)) → map f xs ≡ map g xs
map-agree f g [] same = refl
map-agree f g (x ∷ xs) same = ap (λ y. y ∷ map f xs) (same 0 (omega arith)) ∙ ap (λ ys. g x ∷ ys) (map-agree f g xs (λ i l. same (suc i) (omega arith)))

-- a row goes on with what a page has
pub row-more : {X : Type 0} (codes row run : List X) (from more : ℕ) → row ≡ take (length row) (drop from codes) → take (length run) (drop (from + length row) codes) ≡ run → more ≤ length run → row ++ take more run ≡ take (length (row ++ take more run)) (drop from codes)
row-more codes row run from more so page few =
    let long : length (row ++ take more run) ≡ length row + more = omega (arith, length-append row (take more run), length-take-le more run few) in
    let next : take more run ≡ take more (drop (length row) (drop from codes)) =
    ap (take more) (sym page)
    ∙ take-take more (length run) (drop (from + length row) codes) few
    ∙ ap (take more) (sym (drop-drop (length row) from codes)) in
    ap (λ xs. xs ++ take more run) so
    ∙ ap (λ xs. take (length row) (drop from codes) ++ xs) next
    ∙ sym (take-add (length row) more (drop from codes))
    ∙ ap (λ n. take n (drop from codes)) (sym long)

-- the front of a row that has what stands from a place on, with what a page has
pub front-more : {X : Type 0} (chunks row new run : List X) (from done more : ℕ) → done + more ≤ length row → more ≤ length run → take done row ≡ take done (drop from chunks) → take (length run) (drop (from + done) chunks) ≡ run → new ≡ take done row ++ take more run ++ drop (done + more) row → (length new ≡ length row) × (take (done + more) new ≡ take (done + more) (drop from chunks))
front-more chunks row new run from done more room few so page made =
    let front : length (take done row) ≡ done = length-take-le done row (omega arith) in
    let next : length (take more run) ≡ more = length-take-le more run few in
    let long : length (take done row ++ take more run) ≡ done + more = omega (arith, length-append (take done row) (take more run), front, next) in
    let on : take done row ++ take more run ≡ take (length (take done row ++ take more run)) (drop from chunks) =
    row-more chunks (take done row) run from more (so ∙ ap (λ n. take n (drop from chunks)) (sym front)) (ap (λ n. take (length run) (drop (from + n) chunks)) front ∙ page) few in (
      ap length made ∙ omega (arith, length-append (take done row ++ take more run) (drop (done + more) row), length-drop (done + more) row, long),
      ap (λ xs. take (done + more) xs) made
          ∙ ap (λ n. take n (take done row ++ take more run ++ drop (done + more) row)) (sym long)
          ∙ take-append_seam (take done row ++ take more run) (drop (done + more) row)
          ∙ on
          ∙ ap (λ n. take n (drop from chunks)) long,
    )

-- where the rows of all atoms end, with one more, fits into 64 bits
pub rows-fit : (a n : ℕ) → a ≤ 4294967296 → n ≤ 536870912 → a * n + n < 18446744073709551616
rows-fit a n la ln = let m : a * n ≤ 4294967296 * 536870912 = mul-le a n 4294967296 536870912 la ln in omega arith
