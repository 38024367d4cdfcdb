-- IPv4 prefixes as blocks of addresses (RFC 4632).
use Rattle.std.specs.Prelude.{ℕ, Bool, ◌≡◌, ◌<◌, ◌≤◌, ◌^◌, ◌-◌, ◌+◌, ◌%◌, nat_le, nat_lt, ◌&&◌}

-- the first address of a block, and how many bits all its addresses share
pub record Cidr : Type 0 where
  pub base : ℕ
  pub len : ℕ

-- at most 32 bits, and no bit of the base is set past them
pub record IsCidr (p : Cidr) : Type 0 where
  pub base : p.base < 2 ^ 32
  pub len : p.len ≤ 32
  pub aligned : p.base % 2 ^ (32 - p.len) ≡ 0

-- how many addresses the block has
abbrev pub size : Cidr → ℕ
size p = 2 ^ (32 - p.len)

-- whether the block holds an address
abbrev pub covers : Cidr → ℕ → Bool
covers p a = nat_le p.base a && nat_lt a (p.base + size p)
