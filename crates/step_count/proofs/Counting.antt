-- Steps of parts that take as many steps each.
use Rattle.std.proofs.Common.{ℕ, ◌≡◌, ◌+◌, ◌*◌, ◌≤◌, arith}
use Rattle.std.proofs.Math.Nat.{add-mul}
use Rattle.std.proofs.lemmas.Nat.{mul-le}

-- of some parts, and one more
pub steps_more : (each first now new i : ℕ) → now ≤ first + i * each → new ≤ now + each → new ≤ first + (i + 1) * each
steps_more each first now new i h k =
    let sum : (i + 1) * each ≡ i * each + 1 * each = add-mul i 1 each in
    omega arith

-- of some parts, of which there are at most so many
pub steps_most : (each first now i parts : ℕ) → now ≤ first + i * each → i ≤ parts → now ≤ first + parts * each
steps_most each first now i parts h l =
    let most : i * each ≤ parts * each = mul-le i each parts each l (omega arith) in
    omega arith
