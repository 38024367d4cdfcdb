use Rattle.base.proofs.DeltaOnce.{delta-once}
use Rattle.base.proofs.laws.deltas_are_unique.Goals as goal

pub returns : goal.returns
returns c = delta-once
