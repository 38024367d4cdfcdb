-- Numbers and addresses written in digits.
use Rattle.std.specs.Prelude.{ℕ, ◌+◌, ◌*◌, ◌-◌, Bool, false, List, [], ◌∷◌, nat_le, ◌&&◌, ◌==◌, not, if◌then◌else◌, fold, Option, None, Some}
use Rattle.std.specs.List.{list_all, slice_split}

abbrev pub is_digit : ℕ → Bool
is_digit b = nat_le 48 b && nat_le b 57

-- digits alone, at least one, and no zero before another digit
abbrev pub is_decimal : List ℕ → Bool
is_decimal [] = false
is_decimal (d ∷ []) = is_digit d
is_decimal (d ∷ e ∷ es) = not (d == 48) && list_all is_digit (d ∷ e ∷ es)

-- the number that digits write
abbrev pub decimal_value : List ℕ → ℕ
decimal_value digits = fold (λ n d. 10 * n + (d - 48)) 0 digits

-- the number from low to high that a text writes, if it writes one
abbrev pub number_within : ℕ → ℕ → List ℕ → Option ℕ
number_within low high text =
    if is_decimal text && (nat_le low (decimal_value text) && nat_le (decimal_value text) high)
    then Some (decimal_value text) else None

abbrev pub octet_of : List ℕ → Option ℕ
octet_of text = number_within 0 255 text

abbrev pub is_dot : ℕ → Bool
is_dot b = b == 46

-- the address of these four octets, the highest first
abbrev pub address_of_octets : Option ℕ → Option ℕ → Option ℕ → Option ℕ → Option ℕ
address_of_octets None b c d = None
address_of_octets (Some a) None c d = None
address_of_octets (Some a) (Some b) None d = None
address_of_octets (Some a) (Some b) (Some c) None = None
address_of_octets (Some a) (Some b) (Some c) (Some d) = Some (16777216 * a + 65536 * b + 256 * c + d)

abbrev pub address_of_parts : List (List ℕ) → Option ℕ
address_of_parts (a ∷ b ∷ c ∷ d ∷ []) = address_of_octets (octet_of a) (octet_of b) (octet_of c) (octet_of d)
address_of_parts _ = None

-- the address that a dotted quad writes, if the text is one
abbrev pub address_of : List ℕ → Option ℕ
address_of text = address_of_parts (slice_split is_dot text)
