use Rattle.std.proofs.Common.{◌∙◌}
use Rattle.std.proofs.lemmas.Result.{IfOk-weaker}
use Rattle.dn_run.proofs.RingLemmas.{digit_text}
use Rattle.dn_run.proofs.ring.name.Goals as goal

pub returns : goal.returns
returns c = IfOk-weaker c.from_text.result _ _ (λ name h. h ∙ digit_text c.args.letter c.args.digit c.requires.digit) c.from_text.ensures
