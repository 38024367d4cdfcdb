-- The block of addresses that has an address.
use Rattle.std.proofs.Common.{◌≡◌, ℕ, ◌-◌, ◌*◌, ◌/◌, ◌%◌, ◌^◌, ◌<◌, ◌≤◌, arith}
use Rattle.std.proofs.Math.Nat.{div-mul-le_self, mul-mod_left}
use Rattle.std.proofs.Math.Pow.{pow_mono}
use Rattle.base.specs.Cidr.{IsCidr}

-- as the code reckons a block's size: no shift wraps
pub size_found : (len : ℕ) → 1 * 2 ^ (32 - len) % 2 ^ 64 ≡ 2 ^ (32 - len)
size_found len =
    let low : 32 - len ≤ 32 = omega arith in
    let few : 2 ^ (32 - len) ≤ 2 ^ 32 = pow_mono low in
    omega arith

pub block_sound : (a len : ℕ) → a < 2 ^ 32 → len ≤ 32 → IsCidr (record { base = a / 2 ^ (32 - len) * 2 ^ (32 - len); len = len })
block_sound a len fits short =
    let low : a / 2 ^ (32 - len) * 2 ^ (32 - len) ≤ a = div-mul-le_self a (2 ^ (32 - len)) in
    record { base = omega arith; len = short; aligned = mul-mod_left (a / 2 ^ (32 - len)) (2 ^ (32 - len)) }
