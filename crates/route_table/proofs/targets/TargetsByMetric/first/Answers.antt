use Rattle.std.proofs.Common.{rules, ◌≡◌}
use Rattle.route_table.proofs.Setting.{least-over}
use Rattle.route_table.proofs.targets.TargetsByMetric.first.Goals as goal

pub returns-in-More-clause-some : goal.returns-in-More-clause-some
returns-in-More-clause-some c =
    let E : c.deref.result.now ≡ c.args.self.now = search rules in
    least-over c.least_of.result c.deref.result.now c.args.self.now E c.least_of.ensures.some
