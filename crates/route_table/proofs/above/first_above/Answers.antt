use Rattle.std.proofs.Common.{◌≡◌, ◌<◌, ℕ, ◌∙◌, true, false, sym, subst, get_or, arith}
use Rattle.std.specs.Prelude.{slice_index_or}
use Rattle.base.specs.Cidr.{covers}
use Rattle.route_table.specs.Above.{shares}
use Rattle.route_table.specs.Ascending.{IsFound}
use Rattle.route_table.specs.Rows.{slot_in, slots_in}
use Rattle.route_table.specs.Slots.{PrefixRoutes, key_of, slot_key}
use Rattle.route_table.proofs.Made.{where-there}
use Rattle.route_table.proofs.Places.{place-inside}
use Rattle.route_table.proofs.Searching.{at-none}
use Rattle.route_table.proofs.SideBySide.{found-in, gap-in, place-in, slot-in}
use Rattle.route_table.proofs.Shorter.{IsLeft, above-found, above-none, left-first, left-next, none-first, none-gap}
use Rattle.route_table.proofs.above.first_above.Goals as goal

pub shorter-init : goal.shorter-init
shorter-init c = record {
  fits = omega (arith, c.len-len.ensures.value);
  inside = place-inside slot_key (slots_in c.args.lane.index c.args.rows.now) (key_of c.args.prefix) c.args.place c.requires.place;
  left = subst (λ n. IsLeft (slots_in c.args.lane.index c.args.rows.now) c.args.prefix c.args.place n) (sym c.len-len.ensures.value) (left-first (slots_in c.args.lane.index c.args.rows.now) c.args.prefix c.args.place (c.requires.whole c.args.lane.index).form c.len-len.ensures.sound c.requires.place);
  before = c.requires.before;
}

pub returns-in_default-clause-above : goal.returns-in_default-clause-above
returns-in_default-clause-above c =
    above-none (slots_in c.args.lane.index c.args.rows.now) c.args.lengths.now c.args.prefix c.shorter.place c.shorter.len c.base_of-base.result (c.requires.whole c.args.lane.index).form (c.requires.whole c.args.lane.index).kept c.len-len.ensures.sound c.shorter.invariant.inside c.shorter.invariant.left (c.base_of-base.ensures c.args.lane.index c.shorter.invariant.before)
    (subst (λ n. (k : ℕ) → k < c.shorter.len → slice_index_or c.args.lengths.now k true ≡ true → shares n c.base_of-base.result k ≡ false) c.base.ensures.value c.in_default.ensures.none)

pub returns-then-is_some-clause-above : goal.returns-then-is_some-clause-above
returns-then-is_some-clause-above c =
    let greatest : (k : ℕ) → c.in-Some.next < k → k < c.shorter.len → slice_index_or c.args.lengths.now k true ≡ true → shares c.args.prefix.base c.base_of-base.result k ≡ false =
    subst (λ n. (k : ℕ) → c.in-Some.next < k → k < c.shorter.len → slice_index_or c.args.lengths.now k true ≡ true → shares n c.base_of-base.result k ≡ false) c.base.ensures.value c.in-Some.ensures.greatest in
    let holds : covers c.prefix_around.result c.args.prefix.base ≡ true = subst (λ n. covers c.prefix_around.result n ≡ true) c.base-in-shorter.ensures.value c.prefix_around.ensures.covers in
    let found : IsFound slot_key (slots_in c.args.lane.index c.args.rows.now) (key_of c.prefix_around.result) c.look-spot.result.place = found-in c.args.lane.index c.args.rows.now (key_of c.prefix_around.result) c.look-spot.result.place (where-there _ c.look-spot.result.row c.in-Some-row.row c.in-Some-row.is c.look-spot.ensures.found) in
    let at : (d : PrefixRoutes) → (slot_in c.args.lane.index c.in-Some-row.row.now) ≡ get_or (slots_in c.args.lane.index c.args.rows.now) c.look-spot.result.place d = λ d. slot-in c.args.lane.index c.args.rows.now (key_of c.prefix_around.result) c.look-spot.result.place c.in-Some-row.row.now d (where-there _ c.look-spot.result.row c.in-Some-row.row c.in-Some-row.is c.look-spot.ensures.found) (where-there _ c.look-spot.result.row c.in-Some-row.row c.in-Some-row.is (c.look-spot.ensures.row c.in-Some-row.row.now)) in
    above-found (slots_in c.args.lane.index c.args.rows.now) c.args.lengths.now c.args.prefix c.shorter.place c.shorter.len c.base_of-base.result (c.requires.whole c.args.lane.index).form (c.requires.whole c.args.lane.index).kept c.len-len.ensures.sound c.shorter.invariant.inside c.shorter.invariant.left (c.base_of-base.ensures c.args.lane.index c.shorter.invariant.before) c.in-Some.next c.prefix_around.result c.look-spot.result.place (omega (arith, c.in-Some.ensures.some.0, c.shorter.invariant.fits)) greatest c.prefix_around.ensures.sound c.prefix_around.ensures.len holds
    (slot_in c.args.lane.index c.in-Some-row.row.now) c.first_of-first.result found at c.first_of-first.ensures.first (sym c.is_some.ensures ∙ c.if-is_some.true)

pub shorter-preserved-else-is_some : goal.shorter-preserved-else-is_some
shorter-preserved-else-is_some c =
    let greatest : (k : ℕ) → c.in-Some.next < k → k < c.shorter.len → slice_index_or c.args.lengths.now k true ≡ true → shares c.args.prefix.base c.base_of-base.result k ≡ false =
    subst (λ n. (k : ℕ) → c.in-Some.next < k → k < c.shorter.len → slice_index_or c.args.lengths.now k true ≡ true → shares n c.base_of-base.result k ≡ false) c.base.ensures.value c.in-Some.ensures.greatest in
    let holds : covers c.prefix_around.result c.args.prefix.base ≡ true = subst (λ n. covers c.prefix_around.result n ≡ true) c.base-in-shorter.ensures.value c.prefix_around.ensures.covers in
    let found : IsFound slot_key (slots_in c.args.lane.index c.args.rows.now) (key_of c.prefix_around.result) c.look-spot.result.place = found-in c.args.lane.index c.args.rows.now (key_of c.prefix_around.result) c.look-spot.result.place (where-there _ c.look-spot.result.row c.in-Some-row.row c.in-Some-row.is c.look-spot.ensures.found) in
    let at : (d : PrefixRoutes) → (slot_in c.args.lane.index c.in-Some-row.row.now) ≡ get_or (slots_in c.args.lane.index c.args.rows.now) c.look-spot.result.place d = λ d. slot-in c.args.lane.index c.args.rows.now (key_of c.prefix_around.result) c.look-spot.result.place c.in-Some-row.row.now d (where-there _ c.look-spot.result.row c.in-Some-row.row c.in-Some-row.is c.look-spot.ensures.found) (where-there _ c.look-spot.result.row c.in-Some-row.row c.in-Some-row.is (c.look-spot.ensures.row c.in-Some-row.row.now)) in
    record {
      fits = omega (arith, c.in-Some.ensures.some.0, c.shorter.invariant.fits);
      inside = place-inside slot_key (slots_in c.args.lane.index c.args.rows.now) (key_of c.prefix_around.result) c.look-spot.result.place (place-in c.args.lane.index c.args.rows.now (key_of c.prefix_around.result) c.look-spot.result.place c.look-spot.ensures.place);
      left = left-next (slots_in c.args.lane.index c.args.rows.now) c.args.lengths.now c.args.prefix c.shorter.place c.shorter.len c.base_of-base.result (c.requires.whole c.args.lane.index).form (c.requires.whole c.args.lane.index).kept c.len-len.ensures.sound c.shorter.invariant.inside c.shorter.invariant.left (c.base_of-base.ensures c.args.lane.index c.shorter.invariant.before) c.in-Some.next c.prefix_around.result c.look-spot.result.place (omega (arith, c.in-Some.ensures.some.0, c.shorter.invariant.fits)) greatest c.prefix_around.ensures.sound c.prefix_around.ensures.len holds
          (place-in c.args.lane.index c.args.rows.now (key_of c.prefix_around.result) c.look-spot.result.place c.look-spot.ensures.place) (none-first (slots_in c.args.lane.index c.args.rows.now) (key_of c.prefix_around.result) c.look-spot.result.place (slot_in c.args.lane.index c.in-Some-row.row.now) c.first_of-first.result (c.requires.whole c.args.lane.index).form found at c.first_of-first.ensures.first (sym c.is_some.ensures ∙ c.if-is_some.false));
      before = (c.look-spot.ensures.before c.args.lane.index);
    }

pub shorter-preserved : goal.shorter-preserved
shorter-preserved c =
    let greatest : (k : ℕ) → c.in-Some.next < k → k < c.shorter.len → slice_index_or c.args.lengths.now k true ≡ true → shares c.args.prefix.base c.base_of-base.result k ≡ false =
    subst (λ n. (k : ℕ) → c.in-Some.next < k → k < c.shorter.len → slice_index_or c.args.lengths.now k true ≡ true → shares n c.base_of-base.result k ≡ false) c.base.ensures.value c.in-Some.ensures.greatest in
    let holds : covers c.prefix_around.result c.args.prefix.base ≡ true = subst (λ n. covers c.prefix_around.result n ≡ true) c.base-in-shorter.ensures.value c.prefix_around.ensures.covers in
    record {
      fits = omega (arith, c.in-Some.ensures.some.0, c.shorter.invariant.fits);
      inside = place-inside slot_key (slots_in c.args.lane.index c.args.rows.now) (key_of c.prefix_around.result) c.look-spot.result.place (place-in c.args.lane.index c.args.rows.now (key_of c.prefix_around.result) c.look-spot.result.place c.look-spot.ensures.place);
      left = left-next (slots_in c.args.lane.index c.args.rows.now) c.args.lengths.now c.args.prefix c.shorter.place c.shorter.len c.base_of-base.result (c.requires.whole c.args.lane.index).form (c.requires.whole c.args.lane.index).kept c.len-len.ensures.sound c.shorter.invariant.inside c.shorter.invariant.left (c.base_of-base.ensures c.args.lane.index c.shorter.invariant.before) c.in-Some.next c.prefix_around.result c.look-spot.result.place (omega (arith, c.in-Some.ensures.some.0, c.shorter.invariant.fits)) greatest c.prefix_around.ensures.sound c.prefix_around.ensures.len holds
          (place-in c.args.lane.index c.args.rows.now (key_of c.prefix_around.result) c.look-spot.result.place c.look-spot.ensures.place) (none-gap (slots_in c.args.lane.index c.args.rows.now) (key_of c.prefix_around.result) c.look-spot.result.place (c.requires.whole c.args.lane.index).form (gap-in c.args.lane.index c.args.rows.now (key_of c.prefix_around.result) c.look-spot.result.place (at-none c.look-spot.result.row _ c.in_default-row.is c.look-spot.ensures.gap)));
      before = (c.look-spot.ensures.before c.args.lane.index);
    }
