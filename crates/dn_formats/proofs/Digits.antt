-- The number that digits write, digit by digit.
use Rattle.std.proofs.Common.{◌≡◌, ◌<◌, ◌≤◌, ℕ, ◌+◌, ◌*◌, ◌-◌, List, [], ◌∷◌, length, take, drop, get_or, sym, ◌∙◌, ap, arith, None, Some, nat_le, if◌then◌else◌}
use Rattle.std.specs.List.{fold}
use Rattle.std.proofs.lemmas.List.{take-append-drop, take_all}
use Rattle.std.proofs.lemmas.List.Sums.{fold_more, fold-append}
use Rattle.std.proofs.lemmas.Bool.Decides.{nat_tests}
use Rattle.dn_formats.specs.Decimal.{decimal_value}

pub decimal_value-more : (ds : List ℕ) (i : ℕ) → i < length ds → decimal_value (take (i + 1) ds) ≡ 10 * decimal_value (take i ds) + (get_or ds i 0 - 48)
decimal_value-more ds i h = fold_more (λ n d. 10 * n + (d - 48)) 0 ds i 0 h

grows : (a : ℕ) (ds : List ℕ) → a ≤ fold (λ n d. 10 * n + (d - 48)) a ds
grows a [] = omega arith
grows a (d ∷ ds) = omega (arith, grows (10 * a + (d - 48)) ds)

-- more digits make no smaller number
pub decimal_value-front : (ds : List ℕ) (i : ℕ) → decimal_value (take i ds) ≤ decimal_value ds
decimal_value-front ds i =
    let whole : fold (λ n d. 10 * n + (d - 48)) (decimal_value (take i ds)) (drop i ds) ≡ decimal_value ds =
    sym (fold-append (λ n d. 10 * n + (d - 48)) 0 (take i ds) (drop i ds)) ∙ ap decimal_value (take-append-drop i ds) in
    omega (arith, grows (decimal_value (take i ds)) (drop i ds))

pub decimal_value-all : (ds : List ℕ) (i : ℕ) → length ds ≤ i → decimal_value (take i ds) ≡ decimal_value ds
decimal_value-all ds i h = ap decimal_value (take_all i ds h)

pub too_large : (n high : ℕ) → high < n → None ≡ (if nat_le n high then Some n else None)
too_large n high h = grind (arith, nat_tests)
