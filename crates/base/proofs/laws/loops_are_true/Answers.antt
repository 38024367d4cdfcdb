use Rattle.base.proofs.Loops.{walk-loops}
use Rattle.base.proofs.laws.loops_are_true.Goals as goal

pub returns : goal.returns
returns c = walk-loops
