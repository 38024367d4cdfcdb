use Rattle.std.proofs.Common.{◌∙◌, None, ap, fold}
use Rattle.owner_tree.specs.First.{first_of}
use Rattle.owner_tree.proofs.Best.{top-way}
use Rattle.owner_tree.proofs.Top.{is-top}
use Rattle.owner_tree.proofs.owners.Owners.top.Goals as goal

pub returns-clause-top : goal.returns-clause-top
returns-clause-top c = is-top c.self.inside.rules.items c.args.self.now c.first_rule.result c.self.view_is (c.first_rule.ensures ∙ ap (fold first_of None) c.deref.ensures.value)

pub returns-clause-way : goal.returns-clause-way
returns-clause-way c routes a sound owners = top-way c.args.self.now routes a c.first_rule.result sound owners (returns-clause-top c)
