use Rattle.label_view.proofs.Gathering.{apart-closed}
use Rattle.label_view.proofs.runs.RunList.finish.Goals as goal

pub returns-clause-apart : goal.returns-clause-apart
returns-clause-apart c = apart-closed c.self.inside.closed c.push.new.self c.run_of.result c.self.inside.low c.self.inside.past c.self.invariant c.if-past-low.false c.run_of.ensures.lo c.run_of.ensures.hi c.in_ok-push.ensures.ok
