use Rattle.std.proofs.Common.{refl}
use Rattle.route_table.proofs.Setting.{first-of}
use Rattle.route_table.proofs.metrics.least_of.Goals as goal

pub returns-clause-some : goal.returns-clause-some
returns-clause-some c = first-of c.args.ways.now c.in-Some.entry.now c.requires (c.in-Some.ensures.inside.0 refl) c.in-Some.ensures.element
