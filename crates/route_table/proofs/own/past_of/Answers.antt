use Rattle.std.proofs.Common.{◌∙◌}
use Rattle.route_table.proofs.Blocks.{end-found}
use Rattle.route_table.proofs.own.past_of.Goals as goal

pub returns-clause-end : goal.returns-clause-end
returns-clause-end c = end-found c.from.result c.len.result c.args.prefix c.base.ensures.sound (c.from.ensures ∙ c.base.ensures.value) c.len.ensures.value
