use Rattle.std.proofs.Common.{ap, true}
use Rattle.nexthop_objects.specs.Objects.{Standing}
use Rattle.nexthop_objects.proofs.KeyOrder.{user-set}
use Rattle.nexthop_objects.proofs.objects.Objects.add_user.Goals as goal

pub returns-clause-ok : goal.returns-clause-ok
returns-clause-ok c =
    user-set c.self.inside.users.keys c.insert.new.self.keys c.args.self.now c.new.result c.args.device c.args.id (c.args.router, c.args.prefix, c.args.metric) true
    (ap (λ (s : Standing). s.users) c.self.view_is) c.new.ensures.value c.in_ok-_is_new.ensures.updates.0
