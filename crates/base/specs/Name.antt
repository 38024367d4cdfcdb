-- Names of routers and links.
use Rattle.std.specs.Prelude.{ℕ, Bool, List, length, nat_le, ◌&&◌, ◌||◌, ◌==◌}
use Rattle.std.specs.List.{list_all}
use Rattle.std.specs.Str.{bytes_eq}

-- a to z, 0 to 9, _ and -
abbrev pub is_byte_of_name : ℕ → Bool
is_byte_of_name b = (nat_le 97 b && nat_le b 122) || (nat_le 48 b && nat_le b 57) || (b == 95) || (b == 45)

-- 1 to 32 bytes, each of which may stand in a name
abbrev pub is_name_text : List ℕ → Bool
is_name_text text = nat_le 1 (length text) && nat_le (length text) 32 && list_all is_byte_of_name text

-- whether two texts are equal
abbrev pub same_text : List ℕ → List ℕ → Bool
same_text = bytes_eq
