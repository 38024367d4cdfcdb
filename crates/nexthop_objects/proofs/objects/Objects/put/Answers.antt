use Rattle.std.proofs.Common.{Some, ap}
use Rattle.nexthop_objects.specs.Objects.{Standing}
use Rattle.nexthop_objects.proofs.KeyOrder.{target-set}
use Rattle.nexthop_objects.proofs.objects.Objects.put.Goals as goal

pub returns-clause-ok : goal.returns-clause-ok
returns-clause-ok c = target-set c.self.inside.targets.entries c.insert.new.self.entries c.args.self.now c.args.device c.args.id (Some c.args.target) (ap (λ (s : Standing). s.targets) c.self.view_is) c.in_ok-_before.ensures.updates.0
