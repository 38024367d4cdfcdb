use Rattle.base.proofs.Loops.{walk-ends}
use Rattle.base.proofs.laws.walks_end_at_the_last_router.Goals as goal

pub returns : goal.returns
returns c = walk-ends
