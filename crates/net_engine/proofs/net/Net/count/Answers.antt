use Rattle.std.proofs.Common.{sym, ◌∙◌}
use Rattle.net_engine.proofs.Standing.{length-paired}
use Rattle.net_engine.proofs.net.Net.count.Goals as goal

pub returns : goal.returns
returns c = c.count.ensures.value ∙ sym (length-paired c.args.self.now.labels c.args.self.now.tables c.args.self.now.atoms)
