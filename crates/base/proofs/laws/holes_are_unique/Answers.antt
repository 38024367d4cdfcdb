use Rattle.base.proofs.AnswersOnce.{holes-once}
use Rattle.base.proofs.laws.holes_are_unique.Goals as goal

pub returns : goal.returns
returns c = holes-once
