-- The payload of the frame decides.
use Rattle.std.proofs.Common.{refl}
use Rattle.feed_model.specs.Payload.{payload_of}
use Rattle.route_feed.proofs.HandsLemmas.{says-ok}
use Rattle.route_feed.proofs.frame_step.step_of.Goals as goal

pub returns-clause-comes : goal.returns-clause-comes
returns-clause-comes c =
    says-ok c.args.device.now.tables.now c.args.device.now.topology.now c.args.device.now.router c.args.offset c.args.kind
    c.args.payload.now (payload_of c.args.device.now.tables.now c.args.payload.now) c.step_said.result
    c.if-kind-ne-NETLINK.false refl c.step_said.ensures.step
