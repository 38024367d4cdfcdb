use Rattle.std.proofs.Common.{arith}
use Rattle.dn_model.proofs.Moments.{do-alike}
use Rattle.dn_model.proofs.plain_intervals.interval_below.Goals as goal

pub returns-clause-alike : goal.returns-clause-alike
returns-clause-alike c = do-alike c.args.net.now c.loop-moment.low c.args.past (λ k d l. c.loop-moment.invariant.1 k d (omega arith))
