use Rattle.std.proofs.Common.{◌<◌, ◌≤◌, ◌^◌, length, refl, arith}
use Rattle.atom_map.proofs.Bounded.{begun-already, few-lows, not-begun, parted, place-inside, spans-parted, spans-seen}
use Rattle.atom_map.proofs.bounds.Bounds.cut_at.Goals as goal

pub returns-then-spot-at-clause-ok : goal.returns-then-spot-at-clause-ok
returns-then-spot-at-clause-ok c = (begun-already c.args.self.now c.args.spot.place c.args.at c.args.spot.low c.requires c.if-spot-at.true, refl)

pub overflow_add-spot : goal.overflow_add-spot
overflow_add-spot c =
    let few : length c.self.inside.lows ≤ 2 ^ 32 = few-lows c.self.inside.lows c.self.invariant in
    let inside : c.args.spot.place < length c.self.inside.lows = place-inside c.self.inside.lows c.args.self.now c.args.spot.place c.self.view_is c.requires.inside in
    omega arith

pub insert_at-requires : goal.insert_at-requires
insert_at-requires c = record {
  inside =
      let inside : c.args.spot.place < length c.self.inside.lows = place-inside c.self.inside.lows c.args.self.now c.args.spot.place c.self.view_is c.requires.inside in
      omega arith;
}

pub invariant_of-self-2 : goal.invariant_of-self-2
invariant_of-self-2 c = spans-parted c.args.self.now c.self.inside.lows c.insert_at.new.self c.args.spot.place c.args.at c.args.spot.low c.self.view_is (spans-seen c.self.inside.lows c.args.self.now c.self.view_is c.self.invariant) c.requires c.if-spot-at.false c.in_ok-insert_at.ensures

pub returns-clause-ok : goal.returns-clause-ok
returns-clause-ok c = (
  not-begun c.args.self.now c.args.spot.place c.args.at c.args.spot.low (spans-seen c.self.inside.lows c.args.self.now c.self.view_is c.self.invariant) c.requires c.if-spot-at.false,
  parted c.args.self.now c.self.inside.lows c.insert_at.new.self c.args.spot.place c.args.at c.args.spot.low c.self.view_is (spans-seen c.self.inside.lows c.args.self.now c.self.view_is c.self.invariant) c.requires c.in_ok-insert_at.ensures,
)

pub returns-clause-form : goal.returns-clause-form
returns-clause-form c = invariant_of-self-2 c
