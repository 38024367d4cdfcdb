use Rattle.loop_keeper.proofs.Segments.{without-changed}
use Rattle.loop_keeper.proofs.segment.without.Goals as goal

pub returns : goal.returns
returns c = without-changed c.args.router c.args.cycles.now c.in_ok-left.left.items c.in_ok-left.ensures
