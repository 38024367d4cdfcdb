-- The ends of prefixes.
use Rattle.std.proofs.Common.{◌≡◌, ℕ, ◌+◌, ◌-◌, ◌*◌, ◌/◌, ◌%◌, ◌^◌, ◌<◌, ◌≤◌, arith, sym, ◌∙◌, ap, subst, ⊎_elim}
use Rattle.std.proofs.Math.Nat.{mul-le-mul_left}
use Rattle.std.proofs.lemmas.Bool.{cases_lt}
use Rattle.std.proofs.lemmas.Nat.{pow-add, pow_pos}
use Rattle.base.specs.Cidr.{Cidr, IsCidr, size}

-- a multiple of w that is below a multiple of w is less by w at least
multiple-below : (w k n : ℕ) → w * k < w * n → w * k + w ≤ w * n
multiple-below w k n h = ⊎_elim
    (λ (l : k < n). let m : k + 1 ≤ n = omega arith in omega (arith, mul-le-mul_left w m))
    (λ (l : n ≤ k). absurd (omega (arith, mul-le-mul_left w l)))
    (cases_lt k n)

end-by : (base w n : ℕ) → 0 < w → base % w ≡ 0 → base < w * n → base + w ≤ w * n
end-by base w n pos aligned below =
    let whole : w * (base / w) ≡ base = omega arith in
    let lower : w * (base / w) < w * n = subst (λ k. k < w * n) (sym whole) below in
    subst (λ k. k + w ≤ w * n) whole (multiple-below w (base / w) n lower)

pub cidr-end : (p : Cidr) → IsCidr p → p.base + size p ≤ 2 ^ 32
cidr-end p h =
    let sum : (32 - p.len) + p.len ≡ 32 = let l : p.len ≤ 32 = h.len in omega arith in
    let parts : 2 ^ 32 ≡ size p * 2 ^ p.len = sym (ap (λ k. 2 ^ k) sum) ∙ pow-add 2 (32 - p.len) p.len in
    subst (λ k. p.base + size p ≤ k) (sym parts) (end-by p.base (size p) (2 ^ p.len) (pow_pos (32 - p.len)) h.aligned (subst (λ k. p.base < k) parts h.base))

-- as the code reckons it: no sum or shift wraps
pub end-found : (base len : ℕ) (p : Cidr) → IsCidr p → base ≡ p.base → len ≡ p.len → base + 1 * 2 ^ (32 - len) % 2 ^ 64 ≤ 2 ^ 32
end-found base len p h b l =
    let end : p.base + 2 ^ (32 - p.len) ≤ 2 ^ 32 = cidr-end p h in
    let same : 2 ^ (32 - len) ≡ 2 ^ (32 - p.len) = ap (λ k. 2 ^ (32 - k)) l in
    omega arith
