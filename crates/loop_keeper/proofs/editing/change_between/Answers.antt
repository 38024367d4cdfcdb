use Rattle.std.proofs.Common.{◌≤◌, arith}
use Rattle.loop_keeper.proofs.Segments.{changed-end, changed-next, changed-none, changed-within}
use Rattle.loop_keeper.proofs.editing.change_between.Goals as goal

pub places-init : goal.places-init
places-init c = record {
  from = omega arith;
  to = λ l. l;
  still = λ l. omega arith;
  changed = changed-none c.args.edit.now c.count_below-first.result c.args.segments.now;
}

pub places-preserved : goal.places-preserved
places-preserved c =
    let from : c.count_below-first.result ≤ c.places.place = c.places.invariant.from in
    record {
      from = omega arith;
      to = λ l. omega arith;
      still = λ l. absurd (omega arith);
      changed = changed-next c.args.edit.now c.count_below-first.result c.places.place c.args.segments.now c.places.segments c.change_at.new.segments from c.places.invariant.changed c.in_ok-change_at.ensures;
    }

pub returns : goal.returns
returns c = λ form low past.
    let end : c.count_below-end.result ≤ c.places.place = omega arith in
    changed-within c.args.edit.now c.args.low c.args.past c.count_below-first.result c.count_below-end.result c.args.segments.now c.places.segments form c.count_below-first.ensures c.count_below-end.ensures low past
    (changed-end c.args.edit.now c.count_below-first.result c.places.place c.count_below-end.result c.args.segments.now c.places.segments end c.places.invariant.to c.places.invariant.still c.places.invariant.changed)
