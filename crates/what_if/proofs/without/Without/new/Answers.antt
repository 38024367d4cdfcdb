use Rattle.what_if.proofs.Lowered.{does-without, same-begin}
use Rattle.what_if.proofs.without.Without.new.Goals as goal

pub returns-clause-bounds : goal.returns-clause-bounds
returns-clause-bounds g c = λ i. same-begin c.args.links.now (g.V.LabelView.rows c.args.view.now) i

pub returns-clause-does : goal.returns-clause-does
returns-clause-does g c = λ r a. does-without c.args.links.now (g.V.LabelView.rows c.args.view.now) r a
