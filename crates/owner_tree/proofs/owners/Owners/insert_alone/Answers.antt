use Rattle.std.proofs.Common.{true}
use Rattle.std.proofs.Common.{List}
use Rattle.dn_model.specs.declared.rule.Rule.{Rule}
use Rattle.dn_model.specs.Rules.{placed_rule}
use Rattle.owner_tree.proofs.Once.{once-after, once-alone}
use Rattle.owner_tree.proofs.owners.Owners.insert_alone.Goals as goal

pub invariant_of-self : goal.invariant_of-self
invariant_of-self c =
    let held : List Rule = c.self.inside.rules.items in
    once-after c.put.result held c.put.new.rules.items (placed_rule true held c.args.rule) c.self.invariant (once-alone held c.args.rule c.self.invariant) c.put.ensures.ok c.put.ensures.err
