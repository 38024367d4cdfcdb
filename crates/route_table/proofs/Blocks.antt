-- Blocks of addresses: two lie in one another or apart.
use Rattle.std.proofs.Common.{◌≡◌, ℕ, ◌+◌, ◌-◌, ◌*◌, ◌/◌, ◌%◌, ◌^◌, ◌<◌, ◌≤◌, arith, true, sym, ◌∙◌, ap, subst, ⊎_elim, leb, ltb}
use Rattle.std.proofs.Math.Nat.{mul-le-mul_left, mul_assoc, mul-add}
use Rattle.std.proofs.lemmas.Bool.{and_from, and_parts, cases_lt, leb-true, le-leb, ltb-true, lt-ltb}
use Rattle.std.proofs.lemmas.Nat.{pow-add, pow_pos}
use Rattle.base.specs.Cidr.{Cidr, IsCidr, covers, size}

-- ---- multiples

-- a multiple of w that is below a multiple of w is less by w at least
multiple-below : (w k n : ℕ) → w * k < w * n → w * k + w ≤ w * n
multiple-below w k n h = ⊎_elim
    (λ (l : k < n). let m : k + 1 ≤ n = omega arith in omega (arith, mul-le-mul_left w m))
    (λ (l : n ≤ k). absurd (omega (arith, mul-le-mul_left w l)))
    (cases_lt k n)

end-by : (base w n : ℕ) → 0 < w → base % w ≡ 0 → base < w * n → base + w ≤ w * n
end-by base w n pos aligned below =
    let whole : w * (base / w) ≡ base = omega arith in
    let lower : w * (base / w) < w * n = subst (λ k. k < w * n) (sym whole) below in
    subst (λ k. k + w ≤ w * n) whole (multiple-below w (base / w) n lower)

-- a multiple of w that is at or below an address of the next w from a multiple of w on is at or below that
start-by : (base w n a : ℕ) → 0 < w → base % w ≡ 0 → w * n ≤ a → a < base + w → w * n ≤ base
start-by base w n a pos aligned from to = ⊎_elim
    (λ (l : base < w * n). absurd (let e : base + w ≤ w * n = end-by base w n pos aligned l in omega arith))
    (λ (l : w * n ≤ base). l)
    (cases_lt base (w * n))

-- ---- blocks

pub cidr-end : (p : Cidr) → IsCidr p → p.base + size p ≤ 2 ^ 32
cidr-end p h =
    let sum : (32 - p.len) + p.len ≡ 32 = let l : p.len ≤ 32 = h.len in omega arith in
    let parts : 2 ^ 32 ≡ size p * 2 ^ p.len = sym (ap (λ k. 2 ^ k) sum) ∙ pow-add 2 (32 - p.len) p.len in
    subst (λ k. p.base + size p ≤ k) (sym parts) (end-by p.base (size p) (2 ^ p.len) (pow_pos (32 - p.len)) h.aligned (subst (λ k. p.base < k) parts h.base))

-- as the code reckons it: no sum or shift wraps
pub end-found : (base len : ℕ) (p : Cidr) → IsCidr p → base ≡ p.base → len ≡ p.len → base + 1 * 2 ^ (32 - len) % 2 ^ 64 ≤ 2 ^ 32
end-found base len p h b l =
    let end : p.base + 2 ^ (32 - p.len) ≤ 2 ^ 32 = cidr-end p h in
    let same : 2 ^ (32 - len) ≡ 2 ^ (32 - p.len) = ap (λ k. 2 ^ (32 - k)) l in
    omega arith

pub covers-from : (p : Cidr) (a : ℕ) → covers p a ≡ true → p.base ≤ a
covers-from p a h = leb-true p.base a (and_parts (leb p.base a) (ltb a (p.base + size p)) h).0

pub covers-to : (p : Cidr) (a : ℕ) → covers p a ≡ true → a < p.base + size p
covers-to p a h = ltb-true a (p.base + size p) (and_parts (leb p.base a) (ltb a (p.base + size p)) h).1

pub covers-in : (p : Cidr) (a : ℕ) → p.base ≤ a → a < p.base + size p → covers p a ≡ true
covers-in p a from to = and_from (leb p.base a) (ltb a (p.base + size p)) (le-leb p.base a from) (lt-ltb a (p.base + size p) to)

pub size-some : (p : Cidr) → 0 < size p
size-some p = pow_pos (32 - p.len)

-- how many blocks of a length fit in one of a lesser length
fits : (k l : ℕ) → k ≤ l → l ≤ 32 → 2 ^ (32 - k) ≡ 2 ^ (32 - l) * 2 ^ (l - k)
fits k l o b = ap (λ n. 2 ^ n) (let e : 32 - k ≡ (32 - l) + (l - k) = omega arith in e) ∙ pow-add 2 (32 - l) (l - k)

-- a base on a block's boundary lies on those of shorter blocks
aligned-less : (b w m : ℕ) → 0 < w → b % (w * m) ≡ 0 → b ≡ w * (m * (b / (w * m)))
aligned-less b w m pos h =
    let whole : (w * m) * (b / (w * m)) ≡ b = omega arith in
    sym whole ∙ mul_assoc w m (b / (w * m))

-- what a longer block that has an address of another has, the other has
module _ (p q : Cidr) (a : ℕ) (sp : IsCidr p) (sq : IsCidr q) (order : p.len ≤ q.len) (in_p : covers p a ≡ true) (in_q : covers q a ≡ true) where
  abbrev much : ℕ
  much = 2 ^ (q.len - p.len)

  size_is : size p ≡ size q * much
  size_is = fits p.len q.len order sq.len

  base_is : p.base ≡ size q * (much * (p.base / (size q * much)))
  base_is = aligned-less p.base (size q) much (size-some q) (subst (λ n. p.base % n ≡ 0) size_is sp.aligned)

  pub nested-from : p.base ≤ q.base
  nested-from =
      let from : p.base ≤ a = covers-from p a in_p in
      let to : a < q.base + size q = covers-to q a in_q in
      let n : ℕ = much * (p.base / (size q * much)) in
      subst (λ b. b ≤ q.base) (sym base_is) (start-by q.base (size q) n a (size-some q) sq.aligned (subst (λ b. b ≤ a) base_is from) to)

  pub nested-to : q.base + size q ≤ p.base + size p
  nested-to =
      let to : a < p.base + size p = covers-to p a in_p in
      let from : q.base ≤ a = covers-from q a in_q in
      let n : ℕ = much * (p.base / (size q * much)) in
      let past : p.base + size p ≡ size q * (n + much) = ap (λ b. b + size p) base_is ∙ ap (λ s. size q * n + s) size_is ∙ sym (mul-add (size q) n much) in
      subst (λ k. q.base + size q ≤ k) (sym past) (end-by q.base (size q) (n + much) (size-some q) sq.aligned (subst (λ k. q.base < k) past (omega arith)))
