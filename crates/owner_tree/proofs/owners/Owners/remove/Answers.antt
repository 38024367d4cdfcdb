use Rattle.std.proofs.Common.{Some}
use Rattle.owner_tree.proofs.Once.{once-cleared}
use Rattle.owner_tree.proofs.owners.Owners.remove.Goals as goal

pub invariant_of-self : goal.invariant_of-self
invariant_of-self c = once-cleared c.self.inside.rules.items c.clear.new.rules.items c.args.len (Some c.args.metric) c.self.invariant c.clear.ensures.left
