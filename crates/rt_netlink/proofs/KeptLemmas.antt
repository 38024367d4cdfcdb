-- What was kept of attributes says what the attributes say.
use Rattle.std.proofs.Common.{◌≡◌, ℕ, Bool, true, false, List, [], ◌∷◌, refl, ap, sym, ◌∙◌, Option, None, Some}
use Rattle.std.specs.Prelude.{◌||◌, ◌==◌, if◌then◌else◌, fold, option_and_then}
use Rattle.std.specs.List.{list_any}
use Rattle.feed_model.specs.Attributes.{Attribute, Holds, BadLength, is_bad, later, has, address_in, number_in, rta_dst, rta_oif, rta_gateway, rta_priority, rta_multipath, rta_table, rta_via, rta_newdst, rta_encap_type, rta_encap, rta_nh_id}
use Rattle.rt_netlink.specs.Gathered.{kept_with, kept_after, nothing_kept, Keeps, KeepsAll}
use Rattle.rt_netlink.specs.declared.attributes.RouteAttributes.{RouteAttributes}

-- where something is kept, the attribute at the front is not a bad one
goes_on : (bad : Bool) (x : Option RouteAttributes) (r : RouteAttributes) → (if bad then None else x) ≡ Some r → x ≡ Some r
goes_on true x r e = cc
goes_on false x r e = e

is_good : (bad : Bool) (x : Option RouteAttributes) (r : RouteAttributes) → (if bad then None else x) ≡ Some r → bad ≡ false
is_good true x r e = cc
is_good false x r e = refl

-- nothing is kept only where an attribute is bad
bad-none : (is_set : Bool) (attributes : List Attribute) (kept : RouteAttributes) → None ≡ kept_after is_set kept attributes → list_any (is_bad is_set) attributes ≡ true
unfolding kept_after
bad-none is_set [] kept e = cc
bad-none is_set (BadLength ∷ attributes) kept e = refl
bad-none is_set (Holds kind payload ∷ attributes) kept e =
    bad_or (is_bad is_set (Holds kind payload)) (kept_after is_set (kept_with kept kind payload) attributes) (list_any (is_bad is_set) attributes) e
    (bad-none is_set attributes (kept_with kept kind payload))
  where
    bad_or : (bad : Bool) (x : Option RouteAttributes) (more : Bool) → None ≡ (if bad then None else x) → (None ≡ x → more ≡ true) → (bad || more) ≡ true
    bad_or true x more e h = refl
    bad_or false x more e h = h e

none-bad : (is_set : Bool) (attributes : List Attribute) (kept r : RouteAttributes) → kept_after is_set kept attributes ≡ Some r → list_any (is_bad is_set) attributes ≡ false
unfolding kept_after
none-bad is_set [] kept r e = refl
none-bad is_set (BadLength ∷ attributes) kept r e = cc
none-bad is_set (Holds kind payload ∷ attributes) kept r e =
    let good = is_good (is_bad is_set (Holds kind payload)) (kept_after is_set (kept_with kept kind payload) attributes) r e in
    let more = none-bad is_set attributes (kept_with kept kind payload) r (goes_on (is_bad is_set (Holds kind payload)) (kept_after is_set (kept_with kept kind payload) attributes) r e) in
    rw (good, more) refl

-- the number of a type of attribute: of a repeated one the last
later-read : (b : Bool) (read : List ℕ → Option ℕ) (payload : List ℕ) (found : Option (List ℕ)) (was : Option ℕ) → was ≡ option_and_then read found →
    (if b then read payload else was) ≡ option_and_then read (if b then Some payload else found)
later-read true read payload found was e = refl
later-read false read payload found was e = e

number-kept : (is_set : Bool) (f : RouteAttributes → Option ℕ) (type : ℕ) (read : List ℕ → Option ℕ) →
    ((kept : RouteAttributes) (kind : ℕ) (payload : List ℕ) → f (kept_with kept kind payload) ≡ (if kind == type then read payload else f kept)) →
    (attributes : List Attribute) (kept r : RouteAttributes) (found : Option (List ℕ)) → f kept ≡ option_and_then read found →
    kept_after is_set kept attributes ≡ Some r → f r ≡ option_and_then read (fold (later type) found attributes)
unfolding kept_after
number-kept is_set f type read step [] kept r found h e = let same : kept ≡ r = cc in ap f (sym same) ∙ h
number-kept is_set f type read step (BadLength ∷ attributes) kept r found h e = cc
number-kept is_set f type read step (Holds kind payload ∷ attributes) kept r found h e =
    number-kept is_set f type read step attributes (kept_with kept kind payload) r (if kind == type then Some payload else found)
    (step kept kind payload ∙ later-read (kind == type) read payload found (f kept) h)
    (goes_on (is_bad is_set (Holds kind payload)) (kept_after is_set (kept_with kept kind payload) attributes) r e)

-- whether there is an attribute of a type
or_assoc : (a b c : Bool) → ((a || b) || c) ≡ (a || (b || c))
or_assoc true b c = refl
or_assoc false b c = refl

or_false : (a : Bool) → (a || false) ≡ a
or_false true = refl
or_false false = refl

or_swap : (a x b y : Bool) → ((a || x) || (b || y)) ≡ ((a || b) || (x || y))
or_swap true x b y = refl
or_swap false true true y = refl
or_swap false true false y = refl
or_swap false false b y = refl

or_swap_three : (a x b y c z : Bool) → ((a || x) || (b || y) || (c || z)) ≡ ((a || b || c) || (x || y || z))
or_swap_three a x b y c z = ap (λ v. v || (c || z)) (or_swap a x b y) ∙ or_swap (a || b) (x || y) c z

-- whether there is an attribute of one of some types, where a test tells these types
flag-kept : (is_set : Bool) (f : RouteAttributes → Bool) (is_one : ℕ → Bool) (any : List Attribute → Bool) → any [] ≡ false →
    ((kind : ℕ) (payload : List ℕ) (attributes : List Attribute) → any (Holds kind payload ∷ attributes) ≡ (is_one kind || any attributes)) →
    ((kept : RouteAttributes) (kind : ℕ) (payload : List ℕ) → f (kept_with kept kind payload) ≡ (f kept || is_one kind)) →
    (attributes : List Attribute) (kept r : RouteAttributes) → kept_after is_set kept attributes ≡ Some r → f r ≡ (f kept || any attributes)
unfolding kept_after
flag-kept is_set f is_one any none more step [] kept r e =
    let same : kept ≡ r = cc in ap f (sym same) ∙ sym (or_false (f kept)) ∙ ap (λ b. f kept || b) (sym none)
flag-kept is_set f is_one any none more step (BadLength ∷ attributes) kept r e = cc
flag-kept is_set f is_one any none more step (Holds kind payload ∷ attributes) kept r e =
    flag-kept is_set f is_one any none more step attributes (kept_with kept kind payload) r
    (goes_on (is_bad is_set (Holds kind payload)) (kept_after is_set (kept_with kept kind payload) attributes) r e)
    ∙ ap (λ b. b || any attributes) (step kept kind payload) ∙ or_assoc (f kept) (is_one kind) (any attributes)
    ∙ ap (λ b. f kept || b) (sym (more kind payload attributes))

keeps : (is_set : Bool) (attributes : List Attribute) (r : RouteAttributes) → kept_after is_set nothing_kept attributes ≡ Some r → Keeps attributes r
keeps is_set attributes r e = record {
  destination = number-kept is_set (λ k. k.destination) rta_dst address_in (λ kept kind payload. refl) attributes nothing_kept r None refl e;
  interface = number-kept is_set (λ k. k.interface) rta_oif number_in (λ kept kind payload. refl) attributes nothing_kept r None refl e;
  metric = number-kept is_set (λ k. k.metric) rta_priority number_in (λ kept kind payload. refl) attributes nothing_kept r None refl e;
  table = number-kept is_set (λ k. k.table) rta_table number_in (λ kept kind payload. refl) attributes nothing_kept r None refl e;
  via = flag-kept is_set (λ k. k.via) (λ kind. kind == rta_gateway || kind == rta_via) (λ all. has rta_gateway all || has rta_via all) refl
      (λ kind payload all. or_swap (kind == rta_gateway) (has rta_gateway all) (kind == rta_via) (has rta_via all))
      (λ kept kind payload. refl) attributes nothing_kept r e;
  multipath = flag-kept is_set (λ k. k.multipath) (λ kind. kind == rta_multipath) (has rta_multipath) refl (λ kind payload all. refl)
      (λ kept kind payload. refl) attributes nothing_kept r e;
  encap = flag-kept is_set (λ k. k.encap) (λ kind. kind == rta_newdst || kind == rta_encap_type || kind == rta_encap)
      (λ all. has rta_newdst all || has rta_encap_type all || has rta_encap all) refl
      (λ kind payload all. or_swap_three (kind == rta_newdst) (has rta_newdst all) (kind == rta_encap_type) (has rta_encap_type all) (kind == rta_encap) (has rta_encap all))
      (λ kept kind payload. refl) attributes nothing_kept r e;
  next_hop_id = flag-kept is_set (λ k. k.next_hop_id) (λ kind. kind == rta_nh_id) (has rta_nh_id) refl (λ kind payload all. refl)
      (λ kept kind payload. refl) attributes nothing_kept r e;
}

pub keeps_all : (is_set : Bool) (attributes : List Attribute) (r : Option RouteAttributes) → r ≡ kept_after is_set nothing_kept attributes → KeepsAll is_set attributes r
keeps_all is_set attributes None e = bad-none is_set attributes nothing_kept e
keeps_all is_set attributes (Some kept) e = (none-bad is_set attributes nothing_kept kept (sym e), keeps is_set attributes kept (sym e))
