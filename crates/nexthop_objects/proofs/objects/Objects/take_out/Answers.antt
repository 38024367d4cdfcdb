use Rattle.std.proofs.Common.{None, ap}
use Rattle.nexthop_objects.specs.Objects.{Standing}
use Rattle.nexthop_objects.proofs.KeyOrder.{target-set}
use Rattle.nexthop_objects.proofs.objects.Objects.take_out.Goals as goal

pub returns-clause-left : goal.returns-clause-left
returns-clause-left c = target-set c.self.inside.targets.entries c.remove.new.self.entries c.args.self.now c.args.device c.args.id None (ap (λ (s : Standing). s.targets) c.self.view_is) c.remove.ensures.updates.0
