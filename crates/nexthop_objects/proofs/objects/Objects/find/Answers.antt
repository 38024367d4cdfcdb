use Rattle.std.proofs.Common.{ap, ◌∙◌}
use Rattle.nexthop_objects.specs.Objects.{Standing, target_of}
use Rattle.nexthop_objects.proofs.KeyOrder.{lookup-same}
use Rattle.nexthop_objects.proofs.objects.Objects.find.Goals as goal

pub returns : goal.returns
returns c = c.copied.ensures ∙ c.get.ensures.value ∙ lookup-same c.args.device c.args.id c.self.inside.targets.entries ∙ ap (λ (s : Standing). target_of s c.args.device c.args.id) c.self.view_is
