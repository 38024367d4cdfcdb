-- The message that is written of a route says this route.
use Rattle.std.proofs.Common.{◌≡◌, ℕ, ◌+◌, ◌*◌, ◌<◌, ◌≤◌, ◌^◌, ◌%◌, Bool, true, false, List, [], ◌∷◌, ◌++◌, length, refl, ap, sym, ◌∙◌, arith, Option, None, Some, IfSome}
use Rattle.std.specs.Prelude.{◌||◌, ◌==◌, nat_lt, if◌then◌else◌, fold, option_map, option_and_then}
use Rattle.std.specs.List.{list_any}
use Rattle.std.specs.Int.{w32, to_be_bytes, to_le_bytes}
use Rattle.std.proofs.lemmas.Bool.Decides.{nat_tests}
use Rattle.std.proofs.lemmas.List.{append_assoc, append-nil}
use Rattle.std.proofs.lemmas.Grind.{fold-append}
use Rattle.std.proofs.lemmas.Nat.{from_le_bytes-to_le_bytes_4, from_be_bytes-to_be_bytes_4}
use Rattle.feed_model.specs.Attributes.{Attribute, Holds, attributes_of, is_bad, is_of, has, later, last_of, number_in, address_in, has_four_bytes}
use Rattle.feed_model.specs.Message.{attribute, destination_text, gateway_text, number_text, wide_table, attributes_text, NumberFits}
use Rattle.feed_model.specs.declared.raw_route.RawRoute.{RawRoute}
use Rattle.rt_netlink.proofs.AttributesLemmas.{attributes-step, attributes-short}

-- ---- the attributes that are written

-- an attribute of this type, where there is a payload for it
abbrev pub piece : ℕ → Option (List ℕ) → List Attribute
piece kind None = []
piece kind (Some payload) = Holds kind payload ∷ []

-- an attribute with four bytes is read back
attribute-read : (kind : ℕ) (a b c d : ℕ) (more : List ℕ) → kind < 256 →
    attributes_of (attribute kind (a ∷ b ∷ c ∷ d ∷ []) ++ more) ≡ Holds kind (a ∷ b ∷ c ∷ d ∷ []) ∷ attributes_of more
attribute-read kind a b c d more h =
    let s : List ℕ = attribute kind (a ∷ b ∷ c ∷ d ∷ []) ++ more in
    let enough : 4 ≤ length s = omega arith in
    let fits : nat_lt (length s) 8 ≡ false = grind (arith, nat_tests) in
    let same : (kind + 0 * 256) % 2 ^ 14 ≡ kind = omega arith in
    attributes-step s enough ∙ rw (fits, same) refl

piece-read : (kind : ℕ) (o : Option ℕ) (more : List ℕ) → kind < 256 →
    attributes_of (number_text kind o ++ more) ≡ piece kind (option_map (to_le_bytes w32) o) ++ attributes_of more
piece-read kind None more h = refl
piece-read kind (Some n) more h = attribute-read kind _ _ _ _ more h

-- the payloads: of the prefix, of the gateway, and of a number
abbrev pub destination_payload : Bool → ℕ → Option (List ℕ)
destination_payload true base = None
destination_payload false base = Some (to_be_bytes w32 base)

abbrev pub gateway_payload : Bool → Option (List ℕ)
gateway_payload true = Some (192 ∷ 0 ∷ 2 ∷ 1 ∷ [])
gateway_payload false = None

abbrev pub number_payload : Option ℕ → Option (List ℕ)
number_payload o = option_map (to_le_bytes w32) o

destination-read : (b : Bool) (base : ℕ) (more : List ℕ) →
    attributes_of ((if b then [] else attribute 1 (to_be_bytes w32 base)) ++ more) ≡ piece 1 (destination_payload b base) ++ attributes_of more
destination-read true base more = refl
destination-read false base more = attribute-read 1 _ _ _ _ more (omega arith)

gateway-read : (via : Bool) (more : List ℕ) → attributes_of (gateway_text via ++ more) ≡ piece 5 (gateway_payload via) ++ attributes_of more
gateway-read true more = attribute-read 5 192 0 2 1 more (omega arith)
gateway-read false more = refl

-- the five attributes of a message, each where there is a payload for it
abbrev pub pieces : Option (List ℕ) → Option (List ℕ) → Option (List ℕ) → Option (List ℕ) → Option (List ℕ) → List Attribute
pieces d g i m t = piece 1 d ++ (piece 5 g ++ (piece 4 i ++ (piece 6 m ++ piece 15 t)))

abbrev pub pieces_of : RawRoute → List Attribute
pieces_of raw =
    pieces (destination_payload (raw.prefix.len == 0) raw.prefix.base) (gateway_payload raw.via) (number_payload raw.oif) (number_payload raw.metric)
    (number_payload (wide_table raw.table))

last-read : (kind : ℕ) (o : Option ℕ) → kind < 256 → attributes_of (number_text kind o) ≡ piece kind (number_payload o)
last-read kind o h =
    ap attributes_of (sym (append-nil (number_text kind o))) ∙ piece-read kind o [] h
    ∙ ap (λ more. piece kind (number_payload o) ++ more) (attributes-short [] (omega arith)) ∙ append-nil (piece kind (number_payload o))

pub attributes-written : (raw : RawRoute) → attributes_of (attributes_text raw) ≡ pieces_of raw
attributes-written raw =
    let d = destination_text raw.prefix in
    let g = gateway_text raw.via in
    let i = number_text 4 raw.oif in
    let m = number_text 6 raw.metric in
    let t = number_text 15 (wide_table raw.table) in
    ap attributes_of (append_assoc (d ++ g ++ i) m t ∙ append_assoc (d ++ g) i (m ++ t) ∙ append_assoc d g (i ++ (m ++ t)))
    ∙ destination-read (raw.prefix.len == 0) raw.prefix.base (g ++ (i ++ (m ++ t)))
    ∙ ap (λ more. piece 1 (destination_payload (raw.prefix.len == 0) raw.prefix.base) ++ more)
    (gateway-read raw.via (i ++ (m ++ t))
    ∙ ap (λ more. piece 5 (gateway_payload raw.via) ++ more)
    (piece-read 4 raw.oif (m ++ t) (omega arith)
    ∙ ap (λ more. piece 4 (number_payload raw.oif) ++ more)
    (piece-read 6 raw.metric t (omega arith)
    ∙ ap (λ more. piece 6 (number_payload raw.metric) ++ more) (last-read 15 (wide_table raw.table) (omega arith)))))

-- ---- what they say

-- the payload that stands of a type, after what was found before
abbrev found_in : ℕ → ℕ → Option (List ℕ) → Option (List ℕ) → Option (List ℕ)
found_in kind other None found = found
found_in kind other (Some payload) found = if other == kind then Some payload else found

piece-found : (kind other : ℕ) (o found : Option (List ℕ)) → fold (later kind) found (piece other o) ≡ found_in kind other o found
piece-found kind other None found = refl
piece-found kind other (Some payload) found = refl

last-found : (kind : ℕ) (d g i m t : Option (List ℕ)) →
    last_of kind (pieces d g i m t) ≡ found_in kind 15 t (found_in kind 6 m (found_in kind 4 i (found_in kind 5 g (found_in kind 1 d None))))
last-found kind d g i m t =
    let after_d = found_in kind 1 d None in
    let after_g = found_in kind 5 g after_d in
    let after_i = found_in kind 4 i after_g in
    let after_m = found_in kind 6 m after_i in
    fold-append (later kind) None (piece 1 d) (piece 5 g ++ (piece 4 i ++ (piece 6 m ++ piece 15 t)))
    ∙ ap (λ f. fold (later kind) f (piece 5 g ++ (piece 4 i ++ (piece 6 m ++ piece 15 t)))) (piece-found kind 1 d None)
    ∙ fold-append (later kind) after_d (piece 5 g) (piece 4 i ++ (piece 6 m ++ piece 15 t))
    ∙ ap (λ f. fold (later kind) f (piece 4 i ++ (piece 6 m ++ piece 15 t))) (piece-found kind 5 g after_d)
    ∙ fold-append (later kind) after_g (piece 4 i) (piece 6 m ++ piece 15 t)
    ∙ ap (λ f. fold (later kind) f (piece 6 m ++ piece 15 t)) (piece-found kind 4 i after_g)
    ∙ fold-append (later kind) after_i (piece 6 m) (piece 15 t)
    ∙ ap (λ f. fold (later kind) f (piece 15 t)) (piece-found kind 6 m after_i)
    ∙ piece-found kind 15 t after_m

-- an attribute of another type is passed over
passed : (kind other : ℕ) (o found : Option (List ℕ)) → (other == kind) ≡ false → found_in kind other o found ≡ found
passed kind other None found e = refl
passed kind other (Some payload) found e = rw e refl

same : (kind : ℕ) (o : Option (List ℕ)) → (kind == kind) ≡ true → found_in kind kind o None ≡ o
same kind None e = refl
same kind (Some payload) e = rw e refl

pub destination-last : (d g i m t : Option (List ℕ)) → last_of 1 (pieces d g i m t) ≡ d
destination-last d g i m t =
    last-found 1 d g i m t ∙ passed 1 15 t _ refl ∙ passed 1 6 m _ refl ∙ passed 1 4 i _ refl ∙ passed 1 5 g _ refl ∙ same 1 d refl

pub interface-last : (d g i m t : Option (List ℕ)) → last_of 4 (pieces d g i m t) ≡ i
interface-last d g i m t =
    last-found 4 d g i m t ∙ passed 4 15 t _ refl ∙ passed 4 6 m _ refl
    ∙ ap (λ f. found_in 4 4 i f) (passed 4 5 g _ refl ∙ passed 4 1 d None refl) ∙ same 4 i refl

pub metric-last : (d g i m t : Option (List ℕ)) → last_of 6 (pieces d g i m t) ≡ m
metric-last d g i m t =
    last-found 6 d g i m t ∙ passed 6 15 t _ refl
    ∙ ap (λ f. found_in 6 6 m f) (passed 6 4 i _ refl ∙ passed 6 5 g _ refl ∙ passed 6 1 d None refl) ∙ same 6 m refl

pub table-last : (d g i m t : Option (List ℕ)) → last_of 15 (pieces d g i m t) ≡ t
table-last d g i m t =
    last-found 15 d g i m t
    ∙ ap (λ f. found_in 15 15 t f) (passed 15 6 m _ refl ∙ passed 15 4 i _ refl ∙ passed 15 5 g _ refl ∙ passed 15 1 d None refl)
    ∙ same 15 t refl

-- whether there is an attribute that passes a test
any-append : (test : Attribute → Bool) (xs ys : List Attribute) → list_any test (xs ++ ys) ≡ (list_any test xs || list_any test ys)
any-append test [] ys = refl
any-append test (x ∷ xs) ys = ap (λ b. test x || b) (any-append test xs ys) ∙ or_assoc (test x) (list_any test xs) (list_any test ys)
  where
    or_assoc : (a b c : Bool) → (a || (b || c)) ≡ ((a || b) || c)
    or_assoc true b c = refl
    or_assoc false b c = refl

any-pieces : (test : Attribute → Bool) (d g i m t : Option (List ℕ)) →
    list_any test (pieces d g i m t)
    ≡ (list_any test (piece 1 d) || (list_any test (piece 5 g) || (list_any test (piece 4 i) || (list_any test (piece 6 m) || list_any test (piece 15 t)))))
any-pieces test d g i m t =
    any-append test (piece 1 d) (piece 5 g ++ (piece 4 i ++ (piece 6 m ++ piece 15 t)))
    ∙ ap (λ b. list_any test (piece 1 d) || b) (any-append test (piece 5 g) (piece 4 i ++ (piece 6 m ++ piece 15 t))
    ∙ ap (λ b. list_any test (piece 5 g) || b) (any-append test (piece 4 i) (piece 6 m ++ piece 15 t)
    ∙ ap (λ b. list_any test (piece 4 i) || b) (any-append test (piece 6 m) (piece 15 t))))

none-of : (kind other : ℕ) (o : Option (List ℕ)) → (other == kind) ≡ false → has kind (piece other o) ≡ false
none-of kind other None e = refl
none-of kind other (Some payload) e = rw e refl

pub has-none : (kind : ℕ) (d g i m t : Option (List ℕ)) →
    (1 == kind) ≡ false → (5 == kind) ≡ false → (4 == kind) ≡ false → (6 == kind) ≡ false → (15 == kind) ≡ false → has kind (pieces d g i m t) ≡ false
has-none kind d g i m t e f h k l =
    any-pieces (is_of kind) d g i m t ∙ rw (none-of kind 1 d e, none-of kind 5 g f, none-of kind 4 i h, none-of kind 6 m k, none-of kind 15 t l) refl

pub has-gateway : (via : Bool) (d i m t : Option (List ℕ)) → has 5 (pieces d (gateway_payload via) i m t) ≡ via
has-gateway true d i m t = any-pieces (is_of 5) d (gateway_payload true) i m t ∙ rw (none-of 5 1 d refl) refl
has-gateway false d i m t =
    any-pieces (is_of 5) d (gateway_payload false) i m t
    ∙ rw (none-of 5 1 d refl, none-of 5 4 i refl, none-of 5 6 m refl, none-of 5 15 t refl) refl

-- none is a bad one
HasFourBytes : Option (List ℕ) → Type 0
HasFourBytes o = IfSome o (λ payload. (length payload == 4) ≡ true)

good-piece : (set : Bool) (kind : ℕ) (o : Option (List ℕ)) → HasFourBytes o → list_any (is_bad set) (piece kind o) ≡ false
unfolding HasFourBytes
good-piece set kind None h = refl
good-piece set kind (Some payload) h = rw h (either (has_four_bytes set kind))
  where
    either : (b : Bool) → ((if b then false else false) || false) ≡ false
    either true = refl
    either false = refl

good-pieces : (set : Bool) (d g i m t : Option (List ℕ)) →
    HasFourBytes d → HasFourBytes g → HasFourBytes i → HasFourBytes m → HasFourBytes t → list_any (is_bad set) (pieces d g i m t) ≡ false
good-pieces set d g i m t hd hg hi hm ht =
    any-pieces (is_bad set) d g i m t
    ∙ rw (good-piece set 1 d hd, good-piece set 5 g hg, good-piece set 4 i hi, good-piece set 6 m hm, good-piece set 15 t ht) refl

number-four : (o : Option ℕ) → HasFourBytes (number_payload o)
unfolding HasFourBytes
number-four None = tt
number-four (Some n) = refl

destination-four : (b : Bool) (base : ℕ) → HasFourBytes (destination_payload b base)
unfolding HasFourBytes
destination-four true base = tt
destination-four false base = refl

gateway-four : (via : Bool) → HasFourBytes (gateway_payload via)
unfolding HasFourBytes
gateway-four true = refl
gateway-four false = tt

pub none-bad : (set : Bool) (raw : RawRoute) → list_any (is_bad set) (pieces_of raw) ≡ false
none-bad set raw =
    good-pieces set (destination_payload (raw.prefix.len == 0) raw.prefix.base) (gateway_payload raw.via) (number_payload raw.oif) (number_payload raw.metric)
    (number_payload (wide_table raw.table)) (destination-four (raw.prefix.len == 0) raw.prefix.base) (gateway-four raw.via) (number-four raw.oif)
    (number-four raw.metric) (number-four (wide_table raw.table))

-- the number that was written is read
pub number-read : (o : Option ℕ) → NumberFits o → option_and_then number_in (number_payload o) ≡ o
number-read None h = refl
number-read (Some n) h = ap (λ k. Some k) (from_le_bytes-to_le_bytes_4 n h)

pub address-read : (b : Bool) (base : ℕ) → base < 2 ^ 32 → option_and_then address_in (destination_payload b base) ≡ (if b then None else Some base)
address-read true base h = refl
address-read false base h = ap (λ k. Some k) (from_be_bytes-to_be_bytes_4 base h)
