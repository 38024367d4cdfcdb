use Rattle.std.proofs.Common.{List}
use Rattle.dn_model.specs.declared.rule.Rule.{Rule}
use Rattle.dn_model.specs.Rules.{with_rule}
use Rattle.owner_tree.proofs.Once.{once-after, once-with}
use Rattle.owner_tree.proofs.owners.Owners.insert.Goals as goal

pub invariant_of-self : goal.invariant_of-self
invariant_of-self c =
    let held : List Rule = c.self.inside.rules.items in
    once-after c.put.result held c.put.new.rules.items (with_rule held c.args.rule) c.self.invariant (once-with held c.args.rule c.self.invariant) c.put.ensures.ok c.put.ensures.err
