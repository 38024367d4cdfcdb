use Rattle.std.proofs.Common.{ap, false}
use Rattle.nexthop_objects.specs.Objects.{Standing}
use Rattle.nexthop_objects.proofs.KeyOrder.{user-set}
use Rattle.nexthop_objects.proofs.objects.Objects.remove_user.Goals as goal

pub returns-clause-left : goal.returns-clause-left
returns-clause-left c =
    user-set c.self.inside.users.keys c.remove-was.new.self.keys c.args.self.now c.new.result c.args.device c.args.id (c.args.router, c.args.prefix, c.args.metric) false
    (ap (λ (s : Standing). s.users) c.self.view_is) c.new.ensures.value c.remove-was.ensures.updates.0
