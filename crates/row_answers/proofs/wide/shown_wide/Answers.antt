use Rattle.std.proofs.Common.{◌∙◌, sym}
use Rattle.row_answers.proofs.NamesKnown.{holes-from, reach-from, reach-to}
use Rattle.row_answers.proofs.wide.shown_wide.Goals as goal

pub reach-requires-clause-from : goal.reach-requires-clause-from
reach-requires-clause-from g c κs within = reach-from c.args.topology.now c.args.query.now c.in-Reach.from c.in-Reach.to c.requires.known (sym c.ask.ensures.value ∙ c.in-Reach.is)

pub reach-requires-clause-to : goal.reach-requires-clause-to
reach-requires-clause-to g c κs within = reach-to c.args.topology.now c.args.query.now c.in-Reach.from c.in-Reach.to c.requires.known (sym c.ask.ensures.value ∙ c.in-Reach.is)

pub holes-requires-clause-name : goal.holes-requires-clause-name
holes-requires-clause-name g c κs within = holes-from c.args.topology.now c.args.query.now c.in-Blackholes.name c.requires.known (sym c.ask.ensures.value ∙ c.in-Blackholes.is)
