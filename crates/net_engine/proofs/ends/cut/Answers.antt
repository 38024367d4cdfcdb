use Rattle.std.proofs.Common.{◌+◌, ◌<◌, ◌≤◌, ◌^◌, true, false, length, subst, sym, arith}
use Rattle.atom_map.specs.Spans.{span_low, span_past}
use Rattle.base.proofs.Covers.{few-rows}
use Rattle.atom_map.proofs.Bounded.{place-of-spot}
use Rattle.net_engine.proofs.Cutting.{cut-there, is-cut-at, not-cut, room-to-cut}
use Rattle.net_engine.proofs.ends.cut.Goals as goal

pub overflow_add-next : goal.overflow_add-next
overflow_add-next c =
    let inside : c.spot_near-spot.result.place < length c.args.atoms.now = c.spot_near-spot.ensures.inside in
    let few : 0 + length c.args.atoms.now ≤ 2 ^ 32 = few-rows span_low span_past 0 c.args.atoms.now c.requires.atoms.cover in
    omega arith

pub part-requires-clause-place : goal.part-requires-clause-place
part-requires-clause-place c = subst (λ n. c.spot_near-spot.result.place < n) (sym c.requires.there) c.spot_near-spot.ensures.inside

pub part-requires-clause-room : goal.part-requires-clause-room
part-requires-clause-room c = room-to-cut c.args.atoms.now c.cut_at.new.self c.args.labels.now c.args.at c.requires (omega arith) c.in_ok-cut_at.ensures.form
    (is-cut-at c.args.atoms.now c.cut_at.new.self c.args.at c.in_ok-cut_at.field-0 true c.if-not-branch.false c.in_ok-cut_at.ensures.ok)

pub returns-then-not-branch : goal.returns-then-not-branch
returns-then-not-branch c = not-cut c.args.atoms.now c.cut_at.new.self c.args.labels.now c.args.at c.requires
    (is-cut-at c.args.atoms.now c.cut_at.new.self c.args.at c.in_ok-cut_at.field-0 false c.if-not-branch.true c.in_ok-cut_at.ensures.ok)

pub returns : goal.returns
returns c = cut-there c.args.atoms.now c.cut_at.new.self c.args.labels.now c.part.new.self c.args.at c.spot_near-spot.result.place c.requires (record {
  cut = is-cut-at c.args.atoms.now c.cut_at.new.self c.args.at c.in_ok-cut_at.field-0 true c.if-not-branch.false c.in_ok-cut_at.ensures.ok;
  within = omega arith;
  form = c.in_ok-cut_at.ensures.form;
  inside = c.spot_near-spot.ensures.inside;
  low = (place-of-spot c.args.atoms.now c.spot_near-spot.result.place c.args.at c.spot_near-spot.result.low c.spot_near-spot.ensures).from;
  past = c.spot_near-spot.ensures.to;
  labels = c.in_ok-part.ensures;
})
