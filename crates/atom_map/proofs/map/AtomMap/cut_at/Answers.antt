use Rattle.std.proofs.Common.{◌≡◌, ◌<◌, ◌^◌, ◌∙◌, suc, length, refl, ap, arith}
use Rattle.atom_map.proofs.Answered.{Found, found-at, atom-found, below-found, few-found, boundary-found, no-boundary-found, is-cut, indexed-found, length-found}
use Rattle.atom_map.proofs.map.AtomMap.cut_at.Goals as goal

pub returns-then-spot-at-clause-ok : goal.returns-then-spot-at-clause-ok
returns-then-spot-at-clause-ok c =
    let f : Found c.args.self.now c.args.spot.place c.args.at c.args.spot.row = found-at c.args.self.now c.self.inside.rows c.args.spot.place c.args.at c.args.spot.row c.self.view_is c.self.invariant.atoms c.requires in
    (boundary-found c.args.self.now c.args.spot.place c.args.at c.args.spot.row f c.if-spot-at.true, refl)

pub part-requires-clause-few : goal.part-requires-clause-few
part-requires-clause-few c =
    let f : Found c.args.self.now c.args.spot.place c.args.at c.args.spot.row = found-at c.args.self.now c.self.inside.rows c.args.spot.place c.args.at c.args.spot.row c.self.view_is c.self.invariant.atoms c.requires in
    let q : length c.self.inside.rows ≡ length c.args.self.now = ap length c.self.view_is in
    let k : length c.args.self.now < 2 ^ 32 = few-found c.args.self.now c.args.spot.place c.args.at c.args.spot.row f c.if-spot-at.false in
    omega arith

pub invariant_of-self-2 : goal.invariant_of-self-2
invariant_of-self-2 c =
    let f : Found c.args.self.now c.args.spot.place c.args.at c.args.spot.row = found-at c.args.self.now c.self.inside.rows c.args.spot.place c.args.at c.args.spot.row c.self.view_is c.self.invariant.atoms c.requires in
    indexed-found c.args.self.now c.self.inside.rows c.part.new.rows c.self.inside.lows c.part.new.lows c.args.spot.place c.args.at c.args.spot.row c.in_ok-new.new c.self.view_is c.self.invariant f c.if-spot-at.false (omega arith) c.in_ok-new.ensures.number
    (is-cut c.args.self.now c.self.inside.rows c.part.new.rows c.args.spot.place c.args.at c.args.spot.row c.in_ok-new.new c.self.view_is f c.in_ok-new.ensures.rows)
    c.part.ensures.below c.in_ok-new.ensures.noted

pub returns-clause-ok : goal.returns-clause-ok
returns-clause-ok c =
    let f : Found c.args.self.now c.args.spot.place c.args.at c.args.spot.row = found-at c.args.self.now c.self.inside.rows c.args.spot.place c.args.at c.args.spot.row c.self.view_is c.self.invariant.atoms c.requires in (
      no-boundary-found c.args.self.now c.args.spot.place c.args.at c.args.spot.row f c.if-spot-at.false,
      c.in_ok-new.ensures.number ∙ ap length c.self.view_is,
      (is-cut c.args.self.now c.self.inside.rows c.part.new.rows c.args.spot.place c.args.at c.args.spot.row c.in_ok-new.new c.self.view_is f c.in_ok-new.ensures.rows),
      atom-found c.args.self.now c.args.spot.place c.args.at c.args.spot.row f,
    )

pub returns-clause-form : goal.returns-clause-form
returns-clause-form c = (invariant_of-self-2 c).atoms

pub returns-clause-there : goal.returns-clause-there
returns-clause-there c =
    let f : Found c.args.self.now c.args.spot.place c.args.at c.args.spot.row = found-at c.args.self.now c.self.inside.rows c.args.spot.place c.args.at c.args.spot.row c.self.view_is c.self.invariant.atoms c.requires in
    let q : length c.self.inside.rows ≡ length c.args.self.now = ap length c.self.view_is in
    let n : c.in_ok-new.new.0 ≡ length c.self.inside.rows = c.in_ok-new.ensures.number in
    let b : c.args.spot.row.atom.0 < length c.args.self.now = below-found c.args.self.now c.args.spot.place c.args.at c.args.spot.row f in
    let more : length c.part.new.rows ≡ suc (length c.args.self.now) = length-found c.args.self.now c.part.new.rows c.args.at c.in_ok-new.new f.atoms (omega arith)
    (is-cut c.args.self.now c.self.inside.rows c.part.new.rows c.args.spot.place c.args.at c.args.spot.row c.in_ok-new.new c.self.view_is f c.in_ok-new.ensures.rows) in
    (omega arith, omega arith)
