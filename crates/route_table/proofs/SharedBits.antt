-- How many leading bits two addresses have in common.
use Rattle.std.proofs.Common.{◌≡◌, ℕ, ◌+◌, ◌*◌, ◌<◌, ◌≤◌, ◌-◌, ◌/◌, ◌^◌, ◌∙◌, false, ap, sym, subst, add-one, arith}
use lib.Bits.{bit_xor, xor_self}
use lib.Count.{count_leading_zeros}
use Rattle.std.proofs.lemmas.Bool.{eqb-true, false_from_ne_true}
use Rattle.std.proofs.lemmas.Nat.{leading_length, pow_pos, xor_lt, xor_shr}
use Rattle.std.proofs.Math.Nat.{pow-le-pow_right, div-lt_iff_lt-mul, pow-succ'}
use Rattle.route_table.specs.Above.{shares}

-- a number whose upper part is 0 has no more than the lower part
below-part : (n m : ℕ) → 0 < m → n / m ≡ 0 → n < m
below-part n m some e = omega (arith, (div-lt_iff_lt-mul some).0 (subst (λ (x : ℕ). x < 1) (sym e) (omega arith)))

pub apart : (a b k : ℕ) → a < 2 ^ 32 → b < 2 ^ 32 → count_leading_zeros 32 (bit_xor a b) < k → k ≤ 32 → shares a b k ≡ false
apart a b k small_a small_b more most = false_from_ne_true (shares a b k) (λ same.
    let j : ℕ = 32 - k in
    let x : ℕ = bit_xor a b in
    let l = leading_length 32 x (xor_lt 32 a b small_a small_b) in
    let q : a / 2 ^ j ≡ b / 2 ^ j = eqb-true (a / 2 ^ j) (b / 2 ^ j) same in
    let none : x / 2 ^ j ≡ 0 = xor_shr a b j ∙ ap (λ (n : ℕ). bit_xor n (b / 2 ^ j)) q ∙ xor_self (b / 2 ^ j) in
    let less : x < 2 ^ j = below-part x (2 ^ j) (pow_pos j) none in
    let longer : 2 ^ (j + 1) ≤ 2 ^ l.0 = pow-le-pow_right (omega arith) (omega (arith, l.1)) in
    let two : 2 ^ (j + 1) ≡ 2 * 2 ^ j = ap (λ (n : ℕ). 2 ^ n) (add-one j) ∙ pow-succ' 2 j in
    absurd (omega (arith, less, longer, two, l.3)))
