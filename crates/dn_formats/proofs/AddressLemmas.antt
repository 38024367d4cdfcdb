-- Numbers and addresses, written and read.
use Rattle.std.specs.Prelude.{if◌then◌else◌}
use Rattle.std.proofs.Common.{◌≡◌, ◌<◌, ◌≤◌, ℕ, zero, suc, append_assoc, ◌+◌, ◌*◌, ◌-◌, ◌/◌, ◌%◌, ◌^◌, Bool, true, false, List, [], ◌∷◌, ◌++◌, ◌&&◌, ◌==◌, nat_le, not, length, get_or, Option, None, Some, decimal, refl, sym, ◌∙◌, ap, subst, arith}
use Rattle.std.specs.List.{fold, join_with_byte, list_all, slice_split}
use Rattle.std.proofs.lemmas.Bool.{and_parts, and_from, le-leb, leb-true, ne_eqb}
use Rattle.std.proofs.lemmas.Bool.Decides.{nat_tests}
use Rattle.std.proofs.lemmas.Fmt.{decimal_digit, decimal_nonempty, first_decimal, digits_decimal, digits_value-decimal, decimal-digits_value}
use Rattle.std.proofs.lemmas.List.Splits.{join_with_byte-slice_split}
use Rattle.std.proofs.lemmas.Option.{none-some, same_Some}
use Rattle.std.proofs.lemmas.Str.Parse.{IsDigitsTest, FoldsDigits, IsNumeralModel, numerals_by_fold}
use Rattle.std.specs.Int.{IsInRange}
use Rattle.dn_formats.specs.Decimal.{address_of, address_of_octets, address_of_parts, decimal_value, is_decimal, is_digit, is_dot, number_within, octet_of}
use Rattle.dn_formats.specs.Texts.{address_text}
use Rattle.dn_formats.proofs.SplitLemmas.{all-weaker, is_word, joined-word, no-gap, none_pass, some-bytes, split-joined}
use Rattle.dn_formats.specs.ScriptText.{has_bytes, is_gap}

-- ---- digits

is-digit : (c : ℕ) → is_digit c ≡ true → IsInRange 48 57 c
is-digit c h = let two = and_parts (nat_le 48 c) (nat_le c 57) h in (leb-true 48 c two.0, leb-true c 57 two.1)

digit-is : (c : ℕ) → IsInRange 48 57 c → is_digit c ≡ true
digit-is c h = and_from (nat_le 48 c) (nat_le c 57) (le-leb 48 c h.0) (le-leb c 57 h.1)

tells : IsDigitsTest (λ ds. list_all is_digit ds ≡ true)
tells = record {
  empty = refl;
  parts = λ c cs h. let two = and_parts (is_digit c) (list_all is_digit cs) h in (is-digit c two.0, two.1);
  more = λ c cs is all. and_from (is_digit c) (list_all is_digit cs) (digit-is c is) all;
}

reads : FoldsDigits (λ n ds. fold (λ n d. 10 * n + (d - 48)) n ds)
reads = record {
  empty = λ n. refl;
  more = λ n c cs is. ap (λ k. fold (λ n d. 10 * n + (d - 48)) k cs) (omega arith);
}

own : IsNumeralModel (λ ds. list_all is_digit ds ≡ true) decimal_value
own = numerals_by_fold _ tells (λ n ds. fold (λ n d. 10 * n + (d - 48)) n ds) reads

-- ---- numbers

-- digits, the first of which is no zero or the only one
decimal-is : (ds : List ℕ) → list_all is_digit ds ≡ true → 0 < length ds → (get_or ds 0 0 ≡ 48 → length ds ≡ 1) → is_decimal ds ≡ true
decimal-is [] all some first = absurd (omega arith)
decimal-is (d ∷ []) all some first = (and_parts (is_digit d) true all).0
decimal-is (d ∷ e ∷ es) all some first =
    and_from (not (d == 48)) (list_all is_digit (d ∷ e ∷ es)) (ap not (ne_eqb d 48 (λ is. absurd (let l : length (d ∷ e ∷ es) ≡ 1 = first is in omega arith)))) all

-- and back
record IsDigits (ds : List ℕ) : Type 0 where
  all : list_all is_digit ds ≡ true
  some : 0 < length ds
  first : get_or ds 0 0 ≡ 48 → length ds ≡ 1

is-decimal : (ds : List ℕ) → is_decimal ds ≡ true → IsDigits ds
is-decimal [] h = absurd (cc)
is-decimal (d ∷ []) h = record { all = and_from (is_digit d) true h refl; some = omega arith; first = λ _. refl }
is-decimal (d ∷ e ∷ es) h =
    let two = and_parts (not (d == 48)) (list_all is_digit (d ∷ e ∷ es)) h in
    record { all = two.1; some = omega arith; first = λ (is : d ≡ 48). absurd (let e = two.0 in grind (arith, nat_tests)) }

zero-alone : (n : ℕ) → n < 2 ^ 64 → get_or (decimal n) 0 0 ≡ 48 → length (decimal n) ≡ 1
zero-alone zero small is = ap (λ (ds : List ℕ). length ds) (decimal_digit 0 (omega arith))
zero-alone (suc m) small is = absurd (let l : 48 < get_or (decimal (suc m)) 0 0 = first_decimal (suc m) (omega arith) small in omega arith)

pub is_decimal-decimal : (n : ℕ) → n < 2 ^ 64 → is_decimal (decimal n) ≡ true
is_decimal-decimal n small = decimal-is (decimal n) (digits_decimal own n small) (decimal_nonempty n small) (zero-alone n small)

-- a number that is written is read
pub number-read : (n low high : ℕ) → n < 2 ^ 64 → low ≤ n → n ≤ high → number_within low high (decimal n) ≡ Some n
number-read n low high small least most =
    let value : decimal_value (decimal n) ≡ n = digits_value-decimal own n small in
    rw (is_decimal-decimal n small, value, le-leb low n least, le-leb n high most) refl

-- a number that is read is written so
pub number-written : (text : List ℕ) (low high n : ℕ) → high < 2 ^ 64 → number_within low high text ≡ Some n → (decimal n ≡ text) × (n ≤ high)
number-written text low high n small h = by-test (is_decimal text && (nat_le low (decimal_value text) && nat_le (decimal_value text) high)) refl h
  where
    by-test : (b : Bool) → (is_decimal text && (nat_le low (decimal_value text) && nat_le (decimal_value text) high)) ≡ b → (if b then Some (decimal_value text) else None) ≡ Some n → (decimal n ≡ text) × (n ≤ high)
    by-test false e is = absurd (none-some n is)
    by-test true e is =
        let two = and_parts (is_decimal text) (nat_le low (decimal_value text) && nat_le (decimal_value text) high) e in
        let most : decimal_value text ≤ high = leb-true (decimal_value text) high (and_parts (nat_le low (decimal_value text)) (nat_le (decimal_value text) high) two.1).1 in
        let digits : IsDigits text = is-decimal text two.0 in
        let written : decimal (decimal_value text) ≡ text = decimal-digits_value own text digits.all digits.some digits.first (omega arith) in
        subst (λ k. (decimal k ≡ text) × (k ≤ high)) (same_Some (decimal_value text) n is) (written, most)

-- ---- addresses

no-dot : (b : ℕ) → is_digit b ≡ true → not (is_dot b) ≡ true
no-dot b is = let range : IsInRange 48 57 b = is-digit b is in ap not (ne_eqb b 46 (λ (e : b ≡ 46). absurd (omega (arith, range.0))))

no-dots : (n : ℕ) → n < 2 ^ 64 → none_pass is_dot (decimal n) ≡ true
no-dots n small = all-weaker is_digit (λ b. not (is_dot b)) no-dot (decimal n) (digits_decimal own n small)

four : (a b c d : List ℕ) → none_pass is_dot a ≡ true → none_pass is_dot b ≡ true → none_pass is_dot c ≡ true → none_pass is_dot d ≡ true
    → address_of (join_with_byte 46 (a ∷ b ∷ c ∷ d ∷ [])) ≡ address_of_octets (octet_of a) (octet_of b) (octet_of c) (octet_of d)
four a b c d ha hb hc hd = ap address_of_parts (split-joined is_dot 46 refl a (b ∷ c ∷ d ∷ []) (rw (ha, hb, hc, hd) refl))

pieces : (a b c d : List ℕ) → ((((((a ++ (46 ∷ [])) ++ b) ++ (46 ∷ [])) ++ c) ++ (46 ∷ [])) ++ d) ≡ a ++ (46 ∷ (b ++ (46 ∷ (c ++ (46 ∷ d)))))
pieces a b c d = simp append_assoc

-- an address is four numbers joined by dots
in-four : (a : ℕ) → address_text a ≡ join_with_byte 46 (decimal (a / 2 ^ 24) ∷ decimal (a / 2 ^ 16 % 256) ∷ decimal (a / 2 ^ 8 % 256) ∷ decimal (a % 256) ∷ [])
in-four a = pieces (decimal (a / 2 ^ 24)) (decimal (a / 2 ^ 16 % 256)) (decimal (a / 2 ^ 8 % 256)) (decimal (a % 256))

-- the text of an address is one word
digit-no-gap : (b : ℕ) → is_digit b ≡ true → not (is_gap b) ≡ true
digit-no-gap b is = no-gap b (let range : IsInRange 48 57 b = is-digit b is in omega (arith, range.0))

number-word : (n : ℕ) → n < 2 ^ 64 → is_word (decimal n) ≡ true
number-word n small =
    and_from (has_bytes (decimal n)) (none_pass is_gap (decimal n)) (some-bytes (decimal n) (decimal_nonempty n small))
    (all-weaker is_digit (λ b. not (is_gap b)) digit-no-gap (decimal n) (digits_decimal own n small))

pub address-word : (a : ℕ) → a < 2 ^ 32 → is_word (address_text a) ≡ true
address-word a small =
    ap is_word (in-four a)
    ∙ joined-word 46 refl (decimal (a / 2 ^ 24)) (decimal (a / 2 ^ 16 % 256) ∷ decimal (a / 2 ^ 8 % 256) ∷ decimal (a % 256) ∷ [])
    (rw (number-word (a / 2 ^ 24) (omega arith), number-word (a / 2 ^ 16 % 256) (omega arith), number-word (a / 2 ^ 8 % 256) (omega arith), number-word (a % 256) (omega arith)) refl)

-- an address that is written is read
pub address-text-read : (a : ℕ) → a < 2 ^ 32 → address_of (address_text a) ≡ Some a
address-text-read a small =
    let w = a / 2 ^ 24 in
    let x = a / 2 ^ 16 % 256 in
    let y = a / 2 ^ 8 % 256 in
    let z = a % 256 in
    ap address_of (in-four a) ∙ four (decimal w) (decimal x) (decimal y) (decimal z) (no-dots w (omega arith)) (no-dots x (omega arith)) (no-dots y (omega arith)) (no-dots z (omega arith))
    ∙ octets w x y z (number-read w 0 255 (omega arith) (omega arith) (omega arith)) (number-read x 0 255 (omega arith) (omega arith) (omega arith))
    (number-read y 0 255 (omega arith) (omega arith) (omega arith)) (number-read z 0 255 (omega arith) (omega arith) (omega arith))
    ∙ ap Some (omega arith)
  where
    octets : (w x y z : ℕ) → octet_of (decimal w) ≡ Some w → octet_of (decimal x) ≡ Some x → octet_of (decimal y) ≡ Some y → octet_of (decimal z) ≡ Some z
        → address_of_octets (octet_of (decimal w)) (octet_of (decimal x)) (octet_of (decimal y)) (octet_of (decimal z)) ≡ Some (16777216 * w + 65536 * x + 256 * y + z)
    octets w x y z ew ex ey ez = rw (ew, ex, ey, ez) refl

quarters : (w x y z : ℕ) (a b c d : List ℕ) → (decimal w ≡ a) × (w ≤ 255) → (decimal x ≡ b) × (x ≤ 255) → (decimal y ≡ c) × (y ≤ 255) → (decimal z ≡ d) × (z ≤ 255)
    → address_text (16777216 * w + 65536 * x + 256 * y + z) ≡ join_with_byte 46 (a ∷ b ∷ c ∷ d ∷ [])
quarters w x y z a b c d hw hx hy hz =
    let n = 16777216 * w + 65536 * x + 256 * y + z in
    let ew : n / 2 ^ 24 ≡ w = omega (arith, hw.1, hx.1, hy.1, hz.1) in
    let ex : n / 2 ^ 16 % 256 ≡ x = omega (arith, hw.1, hx.1, hy.1, hz.1) in
    let ey : n / 2 ^ 8 % 256 ≡ y = omega (arith, hw.1, hx.1, hy.1, hz.1) in
    let ez : n % 256 ≡ z = omega (arith, hw.1, hx.1, hy.1, hz.1) in
    joined n w x y z ew ex ey ez ∙ ap (λ p. join_with_byte 46 (p ∷ decimal x ∷ decimal y ∷ decimal z ∷ [])) hw.0 ∙ ap (λ p. join_with_byte 46 (a ∷ p ∷ decimal y ∷ decimal z ∷ [])) hx.0
    ∙ ap (λ p. join_with_byte 46 (a ∷ b ∷ p ∷ decimal z ∷ [])) hy.0 ∙ ap (λ p. join_with_byte 46 (a ∷ b ∷ c ∷ p ∷ [])) hz.0
  where
    joined : (n w x y z : ℕ) → n / 2 ^ 24 ≡ w → n / 2 ^ 16 % 256 ≡ x → n / 2 ^ 8 % 256 ≡ y → n % 256 ≡ z
        → address_text n ≡ join_with_byte 46 (decimal w ∷ decimal x ∷ decimal y ∷ decimal z ∷ [])
    joined n w x y z ew ex ey ez =
        in-four n ∙ ap (λ k. join_with_byte 46 (decimal k ∷ decimal (n / 2 ^ 16 % 256) ∷ decimal (n / 2 ^ 8 % 256) ∷ decimal (n % 256) ∷ [])) ew
        ∙ ap (λ k. join_with_byte 46 (decimal w ∷ decimal k ∷ decimal (n / 2 ^ 8 % 256) ∷ decimal (n % 256) ∷ [])) ex
        ∙ ap (λ k. join_with_byte 46 (decimal w ∷ decimal x ∷ decimal k ∷ decimal (n % 256) ∷ [])) ey
        ∙ ap (λ k. join_with_byte 46 (decimal w ∷ decimal x ∷ decimal y ∷ decimal k ∷ [])) ez

octets-written : (p q r s : List ℕ) (a : ℕ) (w x y z : Option ℕ) → octet_of p ≡ w → octet_of q ≡ x → octet_of r ≡ y → octet_of s ≡ z → address_of_octets w x y z ≡ Some a
    → address_text a ≡ join_with_byte 46 (p ∷ q ∷ r ∷ s ∷ [])
octets-written p q r s a None x y z ew ex ey ez is = absurd (none-some a is)
octets-written p q r s a (Some w) None y z ew ex ey ez is = absurd (none-some a is)
octets-written p q r s a (Some w) (Some x) None z ew ex ey ez is = absurd (none-some a is)
octets-written p q r s a (Some w) (Some x) (Some y) None ew ex ey ez is = absurd (none-some a is)
octets-written p q r s a (Some w) (Some x) (Some y) (Some z) ew ex ey ez is =
    ap address_text (sym (same_Some (16777216 * w + 65536 * x + 256 * y + z) a is))
    ∙ quarters w x y z p q r s (number-written p 0 255 w (omega arith) ew) (number-written q 0 255 x (omega arith) ex) (number-written r 0 255 y (omega arith) ey) (number-written s 0 255 z (omega arith) ez)

parts-written : (parts : List (List ℕ)) (a : ℕ) → address_of_parts parts ≡ Some a → address_text a ≡ join_with_byte 46 parts
parts-written [] a is = absurd (none-some a is)
parts-written (p ∷ []) a is = absurd (none-some a is)
parts-written (p ∷ q ∷ []) a is = absurd (none-some a is)
parts-written (p ∷ q ∷ r ∷ []) a is = absurd (none-some a is)
parts-written (p ∷ q ∷ r ∷ s ∷ []) a is = octets-written p q r s a (octet_of p) (octet_of q) (octet_of r) (octet_of s) refl refl refl refl is
parts-written (p ∷ q ∷ r ∷ s ∷ t ∷ more) a is = absurd (none-some a is)

-- an address that is read is written so
pub address-text-written : (word : List ℕ) (a : ℕ) → address_of word ≡ Some a → address_text a ≡ word
address-text-written word a is = parts-written (slice_split is_dot word) a is ∙ join_with_byte-slice_split 46 word
