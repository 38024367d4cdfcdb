use Rattle.std.proofs.Common.{rules, ◌∙◌, ap, sym}
use Rattle.std.proofs.lemmas.Fn.{filter_same}
use Rattle.dn_model.specs.Rules.{cleared_rules}
use Rattle.owner_tree.proofs.owners.clear.Goals as goal

pub returns-in-Some-clause-left : goal.returns-in-Some-clause-left
returns-in-Some-clause-left c = filter_same _ _ _ (λ x b f' k. search rules) _ _ c.retain.ensures.filtered ∙ ap (cleared_rules c.args.rules.now.items c.args.len) (sym c.in-Some.is)

pub returns-in-None-clause-left : goal.returns-in-None-clause-left
returns-in-None-clause-left c = filter_same _ _ _ (λ x b f' k. search rules) _ _ c.retain-in-None.ensures.filtered ∙ ap (cleared_rules c.args.rules.now.items c.args.len) (sym c.in-None.is)
