use Rattle.base.proofs.AnswersOnce.{cycles-once}
use Rattle.base.proofs.laws.cycles_are_unique.Goals as goal

pub returns : goal.returns
returns c = cycles-once
