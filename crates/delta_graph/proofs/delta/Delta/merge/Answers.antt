use Rattle.std.proofs.lemmas.List.{get_or_default}
use Rattle.delta_graph.proofs.Merging.{merges-at}
use Rattle.delta_graph.proofs.delta.Delta.merge.Goals as goal

pub loop-change-preserved : goal.loop-change-preserved
loop-change-preserved c = merges-at c.changes-change-items.result.now c.args.self.now c.loop-change.merged c.push.new.self c.loop-change.change-index _ c.loop-change-test.true (get_or_default c.changes-change-items.result.now c.loop-change.change-index _ _ c.loop-change-test.true) c.loop-change.invariant c.in_ok-push.ensures.ok
