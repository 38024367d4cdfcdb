-- The attributes of a message, one after another, and what is kept of them.
use Rattle.std.proofs.Common.{◌≡◌, ℕ, zero, suc, ◌-◌, ◌<◌, ◌≤◌, ◌%◌, ◌^◌, Bool, true, false, List, [], ◌∷◌, length, take, drop, refl, ap, sym, ◌∙◌, arith, Option, None, Some}
use Rattle.std.specs.Prelude.{nat_lt, if◌then◌else◌}
use Rattle.std.specs.Int.{w16, from_le_bytes}
use Rattle.std.specs.Int.RustNames.{bit_and}
use Rattle.std.proofs.lemmas.Bool.Decides.{nat_tests}
use Rattle.std.proofs.lemmas.Nat.{and_mask}
use Rattle.std.proofs.lemmas.Slice.{between_is}
use Rattle.feed_model.specs.Attributes.{Attribute, Holds, BadLength, padded, attribute_length, attribute_type, has_bad_length, first_attribute, followed_by, attributes_after, attributes_of, is_bad}
use Rattle.rt_netlink.specs.Gathered.{kept_with, kept_after}
use Rattle.rt_netlink.specs.declared.attributes.RouteAttributes.{RouteAttributes}

-- what is left of the attribute before is passed over
attributes-left : (left : ℕ) (s : List ℕ) → attributes_after left s ≡ attributes_of (drop left s)
unfolding attributes_after
attributes-left zero s = refl
attributes-left (suc left) [] = refl
attributes-left (suc left) (b ∷ s) = attributes-left left s

-- the rest after something of this length
rest_after : (n b : ℕ) (s : List ℕ) → 4 ≤ n → drop (padded n - 1) s ≡ drop (padded n) (b ∷ s)
rest_after n b s h = let e : padded n ≡ suc (padded n - 1) = omega arith in sym (ap {B = List ℕ} (λ m. drop m (b ∷ s)) e)

followed : (bad : Bool) (kind : ℕ) (payload : List ℕ) (xs ys : List Attribute) → (bad ≡ false → xs ≡ ys) →
    followed_by (if bad then BadLength else Holds kind payload) xs ≡ followed_by (if bad then BadLength else Holds kind payload) ys
followed true kind payload xs ys h = refl
followed false kind payload xs ys h = ap (λ more. Holds kind payload ∷ more) (h refl)

-- the attribute at the front, and those after its padding
pub attributes-step : (s : List ℕ) → 4 ≤ length s → attributes_of s ≡ followed_by (first_attribute s) (attributes_of (drop (padded (attribute_length s)) s))
unfolding attributes_after
attributes-step [] h = absurd (omega arith)
attributes-step (b ∷ s) h =
    let enough : nat_lt (length (b ∷ s)) 4 ≡ false = grind (arith, nat_tests) in
    rw enough (followed (has_bad_length (b ∷ s)) (attribute_type (b ∷ s)) (drop 4 (take (attribute_length (b ∷ s)) (b ∷ s)))
    (attributes_after (padded (attribute_length (b ∷ s)) - 1) s) (attributes_of (drop (padded (attribute_length (b ∷ s))) (b ∷ s)))
    (λ good.
    let long : 4 ≤ attribute_length (b ∷ s) = grind (arith, nat_tests) in
    attributes-left (padded (attribute_length (b ∷ s)) - 1) s ∙ ap attributes_of (rest_after (attribute_length (b ∷ s)) b s long)))

-- fewer than 4 bytes are no attribute
pub attributes-short : (s : List ℕ) → length s < 4 → attributes_of s ≡ []
unfolding attributes_after
attributes-short [] h = refl
attributes-short (b ∷ s) h = let few : nat_lt (length (b ∷ s)) 4 ≡ true = grind (arith, nat_tests) in rw few refl

-- the attribute that stands at the front
pub first-good : (s tail part : List ℕ) (len kind : ℕ) → len ≡ attribute_length s → 4 ≤ len → len ≤ length s → tail ≡ drop 2 s →
    kind ≡ from_le_bytes w16 tail → part ≡ take (len - 4) (drop 4 s) → first_attribute s ≡ Holds (bit_and kind 16383) part
first-good s tail part len kind e low high t k p =
    let good : has_bad_length s ≡ false = rw (← e) (grind (arith, nat_tests)) in
    let mask : bit_and kind 16383 ≡ attribute_type s = and_mask kind 14 ∙ ap (λ n. n % 2 ^ 14) (k ∙ ap (from_le_bytes w16) t) in
    let cut : part ≡ drop 4 (take (attribute_length s) s) = p ∙ between_is s 4 len ∙ ap (λ n. drop 4 (take n s)) e in
    rw (good, mask, cut) refl

-- one attribute more is kept, or is a bad one
pub kept-bad_length : (is_set : Bool) (kept : RouteAttributes) (s : List ℕ) → 4 ≤ length s → first_attribute s ≡ BadLength →
    kept_after is_set kept (attributes_of s) ≡ None
unfolding kept_after
kept-bad_length is_set kept s h e = rw (attributes-step s h, e) refl

pub kept-none : (is_set : Bool) (kept : RouteAttributes) (kind : ℕ) (payload s : List ℕ) → 4 ≤ length s → first_attribute s ≡ Holds kind payload →
    is_bad is_set (Holds kind payload) ≡ true → kept_after is_set kept (attributes_of s) ≡ None
unfolding kept_after
kept-none is_set kept kind payload s h e bad =
    rw (attributes-step s h, e) (none_then (is_bad is_set (Holds kind payload)) (kept_after is_set (kept_with kept kind payload) (attributes_of (drop (padded (attribute_length s)) s))) bad)
  where
    none_then : (bad : Bool) (more : Option RouteAttributes) → bad ≡ true → (if bad then None else more) ≡ None
    none_then true more b = refl
    none_then false more b = cc

pub kept-more : (is_set : Bool) (kept next : RouteAttributes) (kind : ℕ) (payload s rest : List ℕ) → 4 ≤ length s → first_attribute s ≡ Holds kind payload →
    rest ≡ drop (padded (attribute_length s)) s → next ≡ kept_with kept kind payload → is_bad is_set (Holds kind payload) ≡ false →
    kept_after is_set kept (attributes_of s) ≡ kept_after is_set next (attributes_of rest)
unfolding kept_after
kept-more is_set kept next kind payload s rest h e r n good =
    rw (attributes-step s h, e, r, n) (more_then (is_bad is_set (Holds kind payload)) (kept_after is_set (kept_with kept kind payload) (attributes_of (drop (padded (attribute_length s)) s))) good)
  where
    more_then : (bad : Bool) (more : Option RouteAttributes) → bad ≡ false → (if bad then None else more) ≡ more
    more_then true more b = cc
    more_then false more b = refl

-- nothing more is kept of fewer than 4 bytes
pub kept-all : (is_set : Bool) (kept : RouteAttributes) (s : List ℕ) → length s < 4 → Some kept ≡ kept_after is_set kept (attributes_of s)
unfolding kept_after
kept-all is_set kept s h = rw (attributes-short s h) refl
