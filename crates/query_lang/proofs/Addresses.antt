-- Addresses, part by part.
use Rattle.std.proofs.Common.{◌≡◌, ◌<◌, ℕ, Bool, List, [], ◌∷◌, length, refl, arith, None}
use Rattle.std.specs.List.{slice_split}
use Rattle.std.proofs.lemmas.List.Splits.{length-slice_split}
use Rattle.dn_formats.specs.Decimal.{address_of_parts, address_of_octets, octet_of}

-- a text has one part at least
pub slice_split-some : (p : ℕ → Bool) (xs : List ℕ) → 0 < length (slice_split p xs)
slice_split-some p xs = omega (arith, length-slice_split p xs)

-- four parts and no more
pub parts_one : (ps : List (List ℕ)) (a : List ℕ) → ps ≡ a ∷ [] → address_of_parts ps ≡ None
parts_one ps a e = rw e refl

pub parts_two : (ps qs : List (List ℕ)) (a b : List ℕ) → ps ≡ a ∷ qs → qs ≡ b ∷ [] → address_of_parts ps ≡ None
parts_two ps qs a b e f = rw (e, f) refl

pub parts_three : (ps qs rs : List (List ℕ)) (a b c : List ℕ) → ps ≡ a ∷ qs → qs ≡ b ∷ rs → rs ≡ c ∷ [] → address_of_parts ps ≡ None
parts_three ps qs rs a b c e f g = rw (e, f, g) refl

pub parts_four : (ps qs rs ss : List (List ℕ)) (a b c d : List ℕ) → ps ≡ a ∷ qs → qs ≡ b ∷ rs → rs ≡ c ∷ ss → ss ≡ d ∷ []
    → address_of_parts ps ≡ address_of_octets (octet_of a) (octet_of b) (octet_of c) (octet_of d)
parts_four ps qs rs ss a b c d e f g h = rw (e, f, g, h) refl

pub parts_more : (ps qs rs ss : List (List ℕ)) (a b c d : List ℕ) (ts : List (List ℕ)) → 0 < length ts → ps ≡ a ∷ qs → qs ≡ b ∷ rs → rs ≡ c ∷ ss → ss ≡ d ∷ ts
    → address_of_parts ps ≡ None
parts_more ps qs rs ss a b c d [] l e f g h = absurd (omega arith)
parts_more ps qs rs ss a b c d (t ∷ ts) l e f g h = rw (e, f, g, h) refl

pub ruleset address_parts = (parts_one, parts_two, parts_three, parts_four, parts_more, slice_split-some)
