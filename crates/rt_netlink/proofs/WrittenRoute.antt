-- The message that is written of a route says this route, and nothing else.
use Rattle.std.proofs.Common.{◌≡◌, ℕ, ◌+◌, ◌-◌, ◌<◌, ◌≤◌, ◌^◌, ◌%◌, Bool, true, false, List, [], ◌∷◌, ◌++◌, length, take, drop, refl, ap, sym, ◌∙◌, arith, Option, None, Some, IsSome}
use Rattle.std.specs.Prelude.{◌||◌, ◌&&◌, ◌==◌, not, nat_lt, is_none, if◌then◌else◌, option_and_then, unwrap_or}
use Rattle.std.specs.List.{list_any}
use Rattle.std.proofs.lemmas.Bool.Decides.{nat_tests}
use Rattle.std.proofs.lemmas.List.{take_all, drop_all}
use Rattle.std.proofs.lemmas.Nat.{from_le_bytes-to_le_bytes_4}
use Rattle.feed_model.specs.Attributes.{padded, attributes_of, has, number_of, address_of, is_bad, number_in, address_in, rta_dst, rta_oif, rta_gateway, rta_priority, rta_multipath, rta_table, rta_via, rta_newdst, rta_encap_type, rta_encap, rta_nh_id}
use Rattle.base.specs.Cidr.{Cidr}
use Rattle.feed_model.specs.Message.{header_text, route_part, narrow_table, wide_table, attributes_text, message_text, kind_number, NumberFits}
use Rattle.feed_model.specs.Payload.{message_length, is_set, is_deletion, family, prefix_length, source_length, service_type, table_byte, table_by, table_of, is_read, route_type, attributes, destination, prefix_of, interface, kind_of, route_of, message_rows, Row, first_ruling, ruling_of, item_of, said_by, message_said, payload_of, said, said_after, nothing_more, CanBeSaid, HasParts}
use Rattle.feed_model.specs.declared.payload.ItemKind.TheVariants.{Route}
use Rattle.feed_model.specs.declared.payload.Payload.{Payload}
use Rattle.feed_model.specs.declared.raw_route.RouteKind.{RouteKind}
use Rattle.feed_model.specs.declared.raw_route.RouteKind.TheVariants.{Unicast, Local, Blackhole, Unreachable, Prohibit}
use Rattle.feed_model.specs.declared.raw_route.RawRoute.{RawRoute}
use Rattle.rt_netlink.proofs.SaidLemmas.{said-step, said-end}
use Rattle.rt_netlink.proofs.WrittenAttributes.{pieces_of, destination_payload, gateway_payload, number_payload, attributes-written, destination-last, interface-last, metric-last, table-last, has-none, has-gateway, none-bad, number-read, address-read}

-- ---- the fixed part

-- the bytes of a message of this length, with this after the fixed part
abbrev text : Bool → ℕ → ℕ → ℕ → ℕ → List ℕ → List ℕ
text del n len table kind rest = header_text del n ++ route_part len table kind ++ rest

record IsText (m : List ℕ) (del : Bool) (len table kind : ℕ) (rest : List ℕ) : Type 0 where
  length_is : length m ≡ 28 + length rest
  message_length_is : message_length m ≡ 28 + length rest
  set_is : is_set m ≡ not del
  deletion_is : is_deletion m ≡ del
  family_is : family m ≡ 2
  prefix_is : prefix_length m ≡ len
  source_is : source_length m ≡ 0
  service_is : service_type m ≡ 0
  table_is : table_byte m ≡ narrow_table table
  type_is : route_type m ≡ kind
  attributes_are : attributes m ≡ attributes_of rest

attributes_after_fixed : (m rest : List ℕ) (n : ℕ) → message_length m ≡ n → length m ≤ n → drop 28 m ≡ rest → attributes m ≡ attributes_of rest
attributes_after_fixed m rest n e l d =
    ap (λ k. attributes_of (drop 28 (take k m))) e ∙ ap (λ s. attributes_of (drop 28 s)) (take_all n m l) ∙ ap attributes_of d

is_text : (del : Bool) (n len table kind : ℕ) (rest : List ℕ) → n < 2 ^ 32 → n ≡ 28 + length rest →
    IsText (text del n len table kind rest) del len table kind rest
is_text true n len table kind rest f e = record {
  length_is = omega arith;
  message_length_is = from_le_bytes-to_le_bytes_4 n f ∙ e;
  set_is = refl;
  deletion_is = refl;
  family_is = refl;
  prefix_is = refl;
  source_is = refl;
  service_is = refl;
  table_is = refl;
  type_is = refl;
  attributes_are = attributes_after_fixed (text true n len table kind rest) rest n (from_le_bytes-to_le_bytes_4 n f) (omega arith) refl;
}
is_text false n len table kind rest f e = record {
  length_is = omega arith;
  message_length_is = from_le_bytes-to_le_bytes_4 n f ∙ e;
  set_is = refl;
  deletion_is = refl;
  family_is = refl;
  prefix_is = refl;
  source_is = refl;
  service_is = refl;
  table_is = refl;
  type_is = refl;
  attributes_are = attributes_after_fixed (text false n len table kind rest) rest n (from_le_bytes-to_le_bytes_4 n f) (omega arith) refl;
}

-- ---- the values

record HasValues (m : List ℕ) (raw : RawRoute) : Type 0 where
  destination_is : destination m ≡ (if raw.prefix.len == 0 then None else Some raw.prefix.base)
  interface_is : interface m ≡ raw.oif
  metric_is : number_of rta_priority (attributes m) ≡ raw.metric
  table_is : number_of rta_table (attributes m) ≡ wide_table raw.table
  via_is : (has rta_gateway (attributes m) || has rta_via (attributes m)) ≡ raw.via
  good : (set : Bool) → list_any (is_bad set) (attributes m) ≡ false
  multipath : has rta_multipath (attributes m) ≡ false
  newdst : has rta_newdst (attributes m) ≡ false
  encap_type : has rta_encap_type (attributes m) ≡ false
  encap : has rta_encap (attributes m) ≡ false
  nh_id : has rta_nh_id (attributes m) ≡ false

or_false : (a : Bool) → (a || false) ≡ a
or_false true = refl
or_false false = refl

wide-fits : (b : Bool) (table : ℕ) → table < 2 ^ 32 → NumberFits (if b then Some table else None)
wide-fits true table h = h
wide-fits false table h = tt

has_values : (m : List ℕ) (raw : RawRoute) → CanBeSaid raw → attributes m ≡ pieces_of raw → HasValues m raw
has_values m raw h e =
    let d = destination_payload (raw.prefix.len == 0) raw.prefix.base in
    let g = gateway_payload raw.via in
    let i = number_payload raw.oif in
    let p = number_payload raw.metric in
    let t = number_payload (wide_table raw.table) in
    record {
      destination_is = ap (address_of rta_dst) e ∙ ap (option_and_then address_in) (destination-last d g i p t) ∙ address-read (raw.prefix.len == 0) raw.prefix.base h.prefix.base;
      interface_is = ap (number_of rta_oif) e ∙ ap (option_and_then number_in) (interface-last d g i p t) ∙ number-read raw.oif h.oif;
      metric_is = ap (number_of rta_priority) e ∙ ap (option_and_then number_in) (metric-last d g i p t) ∙ number-read raw.metric h.metric;
      table_is = ap (number_of rta_table) e ∙ ap (option_and_then number_in) (table-last d g i p t)
          ∙ number-read (wide_table raw.table) (wide-fits (nat_lt 255 raw.table) raw.table h.table.1);
      via_is = ap (λ xs. has rta_gateway xs || has rta_via xs) e ∙ ap (λ b. has 5 (pieces_of raw) || b) (has-none 18 d g i p t refl refl refl refl refl)
          ∙ or_false (has 5 (pieces_of raw)) ∙ has-gateway raw.via d i p t;
      good = λ set. ap (list_any (is_bad set)) e ∙ none-bad set raw;
      multipath = ap (has rta_multipath) e ∙ has-none 9 d g i p t refl refl refl refl refl;
      newdst = ap (has rta_newdst) e ∙ has-none 19 d g i p t refl refl refl refl refl;
      encap_type = ap (has rta_encap_type) e ∙ has-none 21 d g i p t refl refl refl refl refl;
      encap = ap (has rta_encap) e ∙ has-none 22 d g i p t refl refl refl refl refl;
      nh_id = ap (has rta_nh_id) e ∙ has-none 30 d g i p t refl refl refl refl refl;
    }

-- the prefix's first address: without a length it is 0
is_zero : (n : ℕ) → (n == 0) ≡ true → n ≡ 0
is_zero n e = grind (arith, nat_tests)

base_of_all : (base len : ℕ) → len ≡ 0 → base < 2 ^ 32 → base % 2 ^ (32 - len) ≡ 0 → base ≡ 0
base_of_all base len z b a = let h : base % 2 ^ 32 ≡ 0 = rw z at a in omega arith

base_back : (b : Bool) (base len : ℕ) → (len == 0) ≡ b → base < 2 ^ 32 → base % 2 ^ (32 - len) ≡ 0 → unwrap_or (if b then None else Some base) 0 ≡ base
base_back true base len e f a = sym (base_of_all base len (is_zero len e) f a)
base_back false base len e f a = refl

base_is : (m : List ℕ) (raw : RawRoute) → CanBeSaid raw → HasValues m raw → (prefix_of m).base ≡ raw.prefix.base
base_is m raw h v = ap (λ o. unwrap_or o 0) v.destination_is ∙ base_back (raw.prefix.len == 0) raw.prefix.base raw.prefix.len refl h.prefix.base h.prefix.aligned

-- the table: it stands in the byte or in the attribute, and is never 0
named : (table : ℕ) → 0 < table → table_by table ≡ table
named table h = let some : (table == 0) ≡ false = grind (arith, nat_tests) in rw some refl

table_back : (b : Bool) (table : ℕ) → 0 < table → table_by (unwrap_or (if b then Some table else None) (if b then 0 else table)) ≡ table
table_back true table h = named table h
table_back false table h = named table h

table_is : (m : List ℕ) (raw : RawRoute) → CanBeSaid raw → table_byte m ≡ narrow_table raw.table → HasValues m raw → table_of m ≡ raw.table
table_is m raw h e v =
    ap (λ o. table_by (unwrap_or o (table_byte m))) v.table_is ∙ ap (λ n. table_by (unwrap_or (wide_table raw.table) n)) e
    ∙ table_back (nat_lt 255 raw.table) raw.table h.table.0

-- ---- no row holds

abbrev NoneHolds : List Row → List ℕ → Type 0
NoneHolds [] m = Unit {0}
NoneHolds (row ∷ rows) m = (row.1 m ≡ false) × NoneHolds rows m

none_holds : (rows : List Row) (m : List ℕ) → NoneHolds rows m → first_ruling rows m ≡ None
none_holds [] m h = refl
none_holds (row ∷ rows) m h = rw h.0 (none_holds rows m h.1)

and_false : (a : Bool) → (a && false) ≡ false
and_false true = refl
and_false false = refl

whole-test : (a b : ℕ) → a ≡ b → 28 ≤ b → (nat_lt a 16 || nat_lt b 16 || nat_lt a b) ≡ false
whole-test a b e l = grind (arith, nat_tests)

type-test : (del : Bool) → not (not del || del) ≡ false
type-test true = refl
type-test false = refl

destination-test : (b : Bool) (len base : ℕ) → (len == 0) ≡ b → (nat_lt 0 len && is_none (if b then None else Some base)) ≡ false
destination-test true len base e = let none : nat_lt 0 len ≡ false = grind (arith, nat_tests) in rw none refl
destination-test false len base e = and_false (nat_lt 0 len)

kind-back : (kind : RouteKind) → kind_of (kind_number kind) ≡ Some kind
kind-back Unicast = refl
kind-back Local = refl
kind-back Blackhole = refl
kind-back Unreachable = refl
kind-back Prohibit = refl

interface-test : (del : Bool) (metric : Option ℕ) (kind : RouteKind) (via : Bool) (oif : Option ℕ) → HasParts del metric kind via oif →
    (not del && kind_number kind == 1 && is_none oif) ≡ false
interface-test true metric kind via oif h = refl
interface-test false metric Local via oif h = refl
interface-test false metric Blackhole via oif h = refl
interface-test false metric Unreachable via oif h = refl
interface-test false metric Prohibit via oif h = refl
interface-test false metric Unicast via (Some i) h = refl
interface-test false metric Unicast via None h = absurd (no_interface (h.1 refl))
  where
    no_interface : IsSome {T = ℕ} None → ⊥
    no_interface h = cc

not_ruled : (tables m rest : List ℕ) (raw : RawRoute) → CanBeSaid raw → is_read tables raw.table ≡ true →
    IsText m raw.del raw.prefix.len raw.table (kind_number raw.kind) rest → HasValues m raw → ruling_of tables m ≡ None
unfolding ruling_of
not_ruled tables m rest raw h read t v =
    let n = message_length m in
    let short : nat_lt n 28 ≡ false = rw t.message_length_is (grind (arith, nat_tests)) in
    let bits : nat_lt 32 (prefix_length m) ≡ false = rw t.prefix_is (let l : raw.prefix.len ≤ 32 = h.prefix.len in grind (arith, nat_tests)) in
    let aligned : raw.prefix.base % 2 ^ (32 - raw.prefix.len) ≡ 0 = h.prefix.aligned in
    none_holds (message_rows tables) m (
      whole-test (length m) n (t.length_is ∙ sym t.message_length_is) (omega (arith, t.message_length_is)),
      (
        rw (t.set_is, t.deletion_is) (type-test raw.del),
        (
          short,
          (
            rw t.family_is refl,
            (
              v.good (is_set m),
              (
                ap (λ n. not (is_read tables n)) (table_is m raw h t.table_is v) ∙ ap not read,
                (
                  bits,
                  (
                    rw (t.source_is, t.service_is) refl,
                    (
                      rw (t.prefix_is, v.destination_is) (destination-test (raw.prefix.len == 0) raw.prefix.len raw.prefix.base refl),
                      (
                        rw (base_is m raw h v, t.prefix_is, aligned) refl,
                        (
                          rw (t.type_is, kind-back raw.kind) (and_false (is_set m)),
                          (
                            rw v.multipath (and_false (is_set m)),
                            (
                              rw (v.newdst, v.encap_type, v.encap) (and_false (is_set m)),
                              (
                                rw v.nh_id (and_false (is_set m)),
                                (rw (t.set_is, t.type_is, v.interface_is) (interface-test raw.del raw.metric raw.kind raw.via raw.oif h.parts), tt),
                              ),
                            ),
                          ),
                        ),
                      ),
                    ),
                  ),
                ),
              ),
            ),
          ),
        ),
      ),
    )

-- ---- the route

abbrev route : Bool → Cidr → ℕ → Option ℕ → RouteKind → Bool → Option ℕ → RawRoute
route del p table metric kind via oif =
    record { del = del; prefix = p; table = table; metric = metric; kind = kind; via = via; oif = oif; by = None }

metric-back : (metric : Option ℕ) → IsSome metric → Some (unwrap_or metric 0) ≡ metric
metric-back None h = absurd (no_metric h)
  where
    no_metric : IsSome {T = ℕ} None → ⊥
    no_metric h = cc
metric-back (Some n) h = refl

either_route : (del : Bool) (p : Cidr) (table : ℕ) (metric : Option ℕ) (kind : RouteKind) (via : Bool) (oif : Option ℕ) → HasParts del metric kind via oif →
    (if not del then route false p table (Some (unwrap_or metric 0)) kind via oif else route true p table metric Unicast false None)
    ≡ route del p table metric kind via oif
either_route true p table metric kind via oif h = rw (h.0, h.1, h.2) refl
either_route false p table metric kind via oif h = rw (metric-back metric h.0) refl

is_route : (m rest : List ℕ) (raw : RawRoute) → CanBeSaid raw → IsText m raw.del raw.prefix.len raw.table (kind_number raw.kind) rest → HasValues m raw →
    route_of m ≡ raw
is_route m rest raw h t v =
    let same : (prefix_of m) ≡ raw.prefix = rw (base_is m raw h v, t.prefix_is) refl in
    let table : table_of m ≡ raw.table = table_is m raw h t.table_is v in
    let made : route_of m ≡ route raw.del raw.prefix raw.table raw.metric raw.kind raw.via raw.oif =
    rw (t.set_is, same, table, v.metric_is, t.type_is, kind-back raw.kind, v.via_is, v.interface_is)
    (either_route raw.del raw.prefix raw.table raw.metric raw.kind raw.via raw.oif h.parts) in
    made ∙ ap (λ o. let x : RawRoute = record raw { by = o } in x) (sym h.by)

-- ---- the payload

-- a payload of this one message says its route
pub route_said : (tables : List ℕ) (raw : RawRoute) → CanBeSaid raw → is_read tables raw.table ≡ true → length (attributes_text raw) < 64 →
    record { items = record { at = 0; what = Route raw } ∷ []; refused = None } ≡ payload_of tables (message_text raw)
route_said tables raw h read few =
    let rest = attributes_text raw in
    let m = message_text raw in
    let fits : 28 + length rest < 2 ^ 32 = omega arith in
    let t = is_text raw.del (28 + length rest) raw.prefix.len raw.table (kind_number raw.kind) rest fits refl in
    let v = has_values m raw h (t.attributes_are ∙ attributes-written raw) in
    let past : drop (padded (message_length m)) m ≡ [] = drop_all (padded (message_length m)) m (omega (arith, t.length_is, t.message_length_is)) in
    let long : 4 ≤ length m = omega (arith, t.length_is) in
    let whole : 16 ≤ message_length m = omega (arith, t.message_length_is) in
    let end : said_after tables (0 + padded (message_length m)) 0 (drop (padded (message_length m)) m) ≡ nothing_more =
    ap (said_after tables (0 + padded (message_length m)) 0) past ∙ said-end tables (0 + padded (message_length m)) [] (omega arith) in
    sym (said-step tables 0 m long whole ∙ ap (said 0 (message_said tables m)) end ∙ ap (λ r. said 0 (said_by r (item_of m)) nothing_more) (not_ruled tables m rest raw h read t v)
    ∙ ap (λ x. let p : Payload = record { items = record { at = 0; what = Route x } ∷ []; refused = None } in p) (is_route m rest raw h t v))
