use Rattle.std.proofs.Common.{arith}
use Rattle.loop_check.proofs.Joining.{add-apart, add-touching}
use Rattle.par_scan.proofs.more_runs.add_run.Goals as goal

pub returns-then-from : goal.returns-then-from
returns-then-from c = add-touching c.args.runs.now.items c.pop.new.self.items c.push-then-from.new.self.items c.in-Some.last c.args.run c.in-Some.ensures.items c.in_ok-push-2.ensures.items (omega (arith, c.if-from.true, c.from.ensures, c.from-2.ensures))

pub returns : goal.returns
returns c = add-apart c.args.runs.now.items c.pop.new.self.items c.push-2.new.self.items c.push-3.new.self.items c.in-Some.last c.args.run c.in-Some.ensures.items c.in_ok-push-3.ensures.items c.in_ok-push-4.ensures.items (λ e. c.if-from.false (omega (arith, e, c.from.ensures, c.from-2.ensures)))
