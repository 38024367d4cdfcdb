-- Elements from a place on to the end of a page: the first of them, and what is left behind it.
use Rattle.std.proofs.Common.{◌≡◌, ℕ, ◌+◌, ◌-◌, ◌<◌, List, [], ◌∷◌, length, get_or, take, drop, min, refl, ap, sym, ◌∙◌, arith}
use Rattle.std.proofs.lemmas.List.{drop-drop, get_or-drop, get_or-take, get_or_default, length-drop, length-take}

pub run-inside : {T : Type 0} (all run : List T) (place : ℕ) → take (length run) (drop place all) ≡ run → 0 < length run → place < length all
run-inside all run place is some =
    let e : length (take (length run) (drop place all)) ≡ length run = ap length is in
    let m : length (take (length run) (drop place all)) ≡ min (length run) (length (drop place all)) = length-take (length run) (drop place all) in
    let n : length (drop place all) ≡ length all - place = length-drop place all in
    omega arith

-- the first of them stands at the place
pub run-first : {T : Type 0} (all run : List T) (place : ℕ) (x d : T) → take (length run) (drop place all) ≡ run → 0 < length run → x ≡ get_or run 0 x → x ≡ get_or all place d
run-first all run place x d is some first =
    let here : place + 0 ≡ place = omega arith in
    first
    ∙ ap (λ (xs : List _). get_or xs 0 x) (sym is)
    ∙ get_or-take (length run) (drop place all) 0 x some
    ∙ get_or-drop place all 0 x
    ∙ ap (λ n. get_or all n x) here
    ∙ get_or_default all place x d (run-inside all run place is some)

rest-of : {T : Type 0} (run rest : List T) → take (length run) rest ≡ run → take (length (drop 1 run)) (drop 1 rest) ≡ drop 1 run
rest-of [] rest e = refl
rest-of (x ∷ xs) [] e = absurd (omega (arith, ap length e))
rest-of (x ∷ xs) (y ∷ ys) e = ap (drop 1) e

-- and those behind it from the next place on
pub run-rest : {T : Type 0} (all run : List T) (place : ℕ) → take (length run) (drop place all) ≡ run → take (length (drop 1 run)) (drop (place + 1) all) ≡ drop 1 run
run-rest all run place is = ap (take (length (drop 1 run))) (sym (drop-drop 1 place all)) ∙ rest-of run (drop place all) is
