use Rattle.dn_model.proofs.OneAnswer.{one-answer}
use Rattle.dn_model.proofs.laws.answers_are_unique.Goals as goal

pub returns : goal.returns
returns c = one-answer
