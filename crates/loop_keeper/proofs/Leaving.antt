-- Segments left out that have no cycle, behind ones that have none.
use Rattle.std.proofs.Common.{◌≡◌, ℕ, zero, suc, ◌+◌, ◌-◌, ◌<◌, ◌≤◌, ◌^◌, ◌∙◌, ⊎_elim, List, [], ◌∷◌, ◌++◌, length, get_or, take, drop, min, insert, refl, ap, sym, subst, arith}
use Rattle.std.proofs.Math.Nat.{min-le_left, le-min}
use Rattle.std.proofs.lemmas.Bool.{cases_lt}
use Rattle.std.proofs.lemmas.List.{get_or_append_left, get_or-append_right, get_or-drop, get_or-take, get_or_default, length-append, length-drop, length-take}
use Rattle.base.specs.declared.change.Change.{Change}
use Rattle.loop_keeper.specs.Edits.{AreAlike, AreTakenOut, IsCut, IsInserted}
use Rattle.loop_keeper.specs.Kept.{AreSegments, IsOnce, Kept}
use Rattle.loop_keeper.proofs.Segments.{cut-new, low_of, some_kept}
use Rattle.version_pages.specs.Search.{EndsBelow}

-- ---- the same again

pub alike-none : (old : List Kept) → AreSegments old → AreAlike old old
alike-none old form = record { form = form; only = λ rs a h. h; kept = λ rs a h. h }

pub alike-next : (x y z : List Kept) → AreAlike x y → AreAlike y z → AreAlike x z
alike-next x y z h g = record {
  form = g.form;
  only = λ rs a k. h.only rs a (g.only rs a k);
  kept = λ rs a k. g.kept rs a (h.kept rs a k);
}

pub out-alike : (cs : List Change) (old x new : List Kept) → AreTakenOut cs old x → AreAlike x new → AreTakenOut cs old new
out-alike cs old x new h g = record {
  form = g.form;
  only = λ rs a b k. h.only rs a b (g.only rs a k);
  kept = λ rs a b k n. g.kept rs a (h.kept rs a b k n);
}

-- ---- one less

put-back : {X : Type 0} (xs : List X) (n : ℕ) (d : X) → n < length xs → insert (take n xs ++ drop (suc n) xs) n (get_or xs n d) ≡ xs
put-back [] n d l = absurd (omega arith)
put-back (x ∷ xs) zero d l = refl
put-back (x ∷ xs) (suc n) d l = ap (λ ys. x ∷ ys) (put-back xs n d (omega arith))

module _ (n : ℕ) (old new : List Kept) (form : AreSegments old) (l : n < length old) (none : (d : Kept) → (get_or old n d).cycles ≡ []) (before : 0 < n → (d : Kept) → (get_or old (n - 1) d).cycles ≡ []) (is : new ≡ take n old ++ drop (n + 1) old) where
  front : length (take n old) ≡ n
  front =
      let e : length (take n old) ≡ min n (length old) = length-take n old in
      let lower : min n (length old) ≤ n = min-le_left n (length old) in
      let upper : n ≤ min n (length old) = le-min (omega arith) (omega arith) in
      omega arith

  size : length new + 1 ≡ length old
  size =
      let e : length new ≡ length (take n old) + length (drop (n + 1) old) = ap (λ (v : List Kept). length v) is ∙ length-append (take n old) (drop (n + 1) old) in
      let f : length (take n old) ≡ n = front in
      let g : length (drop (n + 1) old) ≡ length old - (n + 1) = length-drop (n + 1) old in
      omega arith

  low-part : (k : ℕ) (d : Kept) → k < n → get_or new k d ≡ get_or old k d
  low-part k d b =
      let f : length (take n old) ≡ n = front in
      ap (λ (v : List Kept). get_or v k d) is
      ∙ get_or_append_left (take n old) (drop (n + 1) old) d k (omega arith)
      ∙ get_or-take n old k d b

  high-part : (k : ℕ) (d : Kept) → n ≤ k → get_or new k d ≡ get_or old (k + 1) d
  high-part k d b =
      let e : n + 1 + (k - n) ≡ k + 1 = omega arith in
      ap (λ (v : List Kept). get_or v k d) is
      ∙ get_or-append_right (take n old) (drop (n + 1) old) n k d front b
      ∙ get_or-drop (n + 1) old (k - n) d
      ∙ ap (λ (j : ℕ). get_or old j d) e

  low-low : (k : ℕ) (d : Kept) → k < n → (get_or new k d).low ≡ (get_or old k d).low
  low-low k d b = ap (λ (v : Kept). v.low) (low-part k d b)

  high-low : (k : ℕ) (d : Kept) → n ≤ k → (get_or new k d).low ≡ (get_or old (k + 1) d).low
  high-low k d b = ap (λ (v : Kept). v.low) (high-part k d b)

  left-rise : (i j : ℕ) (d : Kept) → i < j → j < length new → (get_or new i d).low < (get_or new j d).low
  left-rise i j d o b =
      let s : length new + 1 ≡ length old = size in
      ⊎_elim
      (λ (x : j < n).
      let ei : (get_or new i d).low ≡ (get_or old i d).low = low-low i d (omega arith) in
      let ej : (get_or new j d).low ≡ (get_or old j d).low = low-low j d x in
      let r : (get_or old i d).low < (get_or old j d).low = form.rise i j d o (omega arith) in
      omega arith)
      (λ (x : n ≤ j).
      let ej : (get_or new j d).low ≡ (get_or old (j + 1) d).low = high-low j d x in
      ⊎_elim
      (λ (y : i < n).
      let ei : (get_or new i d).low ≡ (get_or old i d).low = low-low i d y in
      let r : (get_or old i d).low < (get_or old (j + 1) d).low = form.rise i (j + 1) d (omega arith) (omega arith) in
      omega arith)
      (λ (y : n ≤ i).
      let ei : (get_or new i d).low ≡ (get_or old (i + 1) d).low = high-low i d y in
      let r : (get_or old (i + 1) d).low < (get_or old (j + 1) d).low = form.rise (i + 1) (j + 1) d (omega arith) (omega arith) in
      omega arith)
      (cases_lt i n))
      (cases_lt j n)

  left-below : (i : ℕ) (d : Kept) → i < length new → (get_or new i d).low < 2 ^ 32
  left-below i d b =
      let s : length new + 1 ≡ length old = size in
      ⊎_elim
      (λ (x : i < n).
      let e : (get_or new i d).low ≡ (get_or old i d).low = low-low i d x in
      let r : (get_or old i d).low < 2 ^ 32 = form.below i d (omega arith) in
      omega arith)
      (λ (x : n ≤ i).
      let e : (get_or new i d).low ≡ (get_or old (i + 1) d).low = high-low i d x in
      let r : (get_or old (i + 1) d).low < 2 ^ 32 = form.below (i + 1) d (omega arith) in
      omega arith)
      (cases_lt i n)

  left-once : (i : ℕ) (d : Kept) → i < length new → IsOnce (get_or new i d).cycles
  left-once i d b =
      let s : length new + 1 ≡ length old = size in
      let P : Kept → Type 0 = λ v. IsOnce v.cycles in
      ⊎_elim
      (λ (x : i < n). subst P (sym (low-part i d x)) (form.once i d (omega arith)))
      (λ (x : n ≤ i). subst P (sym (high-part i d x)) (form.once (i + 1) d (omega arith)))
      (cases_lt i n)

  left-form : AreSegments new
  left-form = record { rise = left-rise; below = left-below; once = left-once }

  abbrev one : Kept
  one = get_or old n some_kept

  inserted : IsInserted n one.low new old
  inserted = record {
    one = one;
    low = refl;
    first = λ z. none some_kept;
    same = λ d b. none some_kept ∙ sym (ap (λ (v : Kept). v.cycles) (low-part (n - 1) d (omega arith)) ∙ before b d);
    is =
        let next : n + 1 ≡ suc n = omega arith in
        sym (ap (λ (v : List Kept). insert v n one) is ∙ ap (λ (k : ℕ). insert (take n old ++ drop k old) n one) next ∙ put-back old n some_kept l);
  }

  here : (d : Kept) → (get_or old n d).low ≡ one.low
  here d = ap (λ (v : Kept). v.low) (get_or_default old n d some_kept l)

  ends : EndsBelow low_of new one.low n
  ends =
      let s : length new + 1 ≡ length old = size in
      record {
        inside = omega arith;
        before = λ d b.
            let e : (get_or new (n - 1) d).low ≡ (get_or old (n - 1) d).low = low-low (n - 1) d (omega arith) in
            let r : (get_or old (n - 1) d).low < (get_or old n d).low = form.rise (n - 1) n d (omega arith) l in
            let h : (get_or old n d).low ≡ one.low = here d in
            omega arith;
        after = λ d b.
            let e : (get_or new n d).low ≡ (get_or old (n + 1) d).low = high-low n d (omega arith) in
            let r : (get_or old n d).low < (get_or old (n + 1) d).low = form.rise n (n + 1) d (omega arith) (omega arith) in
            let h : (get_or old n d).low ≡ one.low = here d in
            omega arith;
      }

  other : (d : Kept) → n < length new → (get_or new n d).low ≡ one.low → ⊥
  other d b e =
      let s : length new + 1 ≡ length old = size in
      let f : (get_or new n d).low ≡ (get_or old (n + 1) d).low = high-low n d (omega arith) in
      let r : (get_or old n d).low < (get_or old (n + 1) d).low = form.rise n (n + 1) d (omega arith) (omega arith) in
      let h : (get_or old n d).low ≡ one.low = here d in
      omega arith

  pub left-out : AreAlike old new
  left-out =
      let cut : IsCut one.low new old = cut-new one.low n new old left-form ends other (form.below n some_kept l) inserted in
      record { form = left-form; only = λ rs a h. cut.kept rs a h; kept = λ rs a h. cut.only rs a h }
