use Rattle.std.proofs.Common.{refl, arith}
use Rattle.route_table.proofs.Setting.{only-is}
use Rattle.route_table.proofs.metrics.only_of.Goals as goal

pub returns : goal.returns
returns c = only-is c.args.ways.now c.in-Some.entry.now (c.in-Some.ensures.inside.0 refl) (omega (arith, c.if-len-gt1.false, c.len.ensures)) c.in-Some.ensures.element
