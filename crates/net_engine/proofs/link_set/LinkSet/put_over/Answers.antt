use Rattle.std.proofs.Common.{◌∙◌, sym}
use Rattle.net_engine.proofs.Flags.{targets-none}
use Rattle.net_engine.proofs.link_set.LinkSet.put_over.Goals as goal

pub returns-else-self : goal.returns-else-self
returns-else-self c = targets-none c.args.self.now c.args.targets.now (sym c.self.view_is ∙ c.self.invariant c.if-self.false)
