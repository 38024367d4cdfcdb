use Rattle.base.proofs.RunsOnce.{runs-once}
use Rattle.base.proofs.laws.runs_are_unique.Goals as goal

pub returns : goal.returns
returns c = runs-once
