use Rattle.std.proofs.Common.{◌≡◌, ◌+◌, arith}
use Rattle.delta_graph.proofs.Replaced.{one-for-one}
use Rattle.delta_graph.proofs.join.replace.Goals as goal

pub returns-then-from-to-2-clause-ok : goal.returns-then-from-to-2-clause-ok
returns-then-from-to-2-clause-ok c = one-for-one c.args.changes.now.items c.args.from c.args.to c.args.change (let s : c.args.from + 1 ≡ c.args.to = c.if-from-to-2.true in omega (arith, c.requires.inside)) (let s : c.args.from + 1 ≡ c.args.to = c.if-from-to-2.true in omega arith)
