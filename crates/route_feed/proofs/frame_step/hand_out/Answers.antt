-- The frame that stands at the front is the one that the cutter shows and passes.
use Rattle.std.proofs.Common.{subst}
use Rattle.base.specs.declared.ids.RouterId.{RouterId}
use Rattle.route_feed.specs.FrameStep.{ComesTo}
use Rattle.route_feed.proofs.HandsLemmas.{hands, at_most}
use Rattle.route_feed.proofs.frame_step.hand_out.Goals as goal

pub tell-requires-clause-frame : goal.tell-requires-clause-frame
tell-requires-clause-frame g c = at_most _ 65531 c.in_ok-step-in-Frame.step c.in-Frame.ensures.1.fits.length_fits c.in_ok-step-in-Frame.ensures.few

pub returns-clause-hands : goal.returns-clause-hands
returns-clause-hands g c =
    hands c.args.device.now.tables.now c.args.device.now.topology.now c.args.intake.now c.pass.new.self c.args.told.now c.tell.new.told c.in_ok-step-in-Frame.step
    c.in-Frame.offset (record { kind = c.in-Frame.kind; payload = c.in-Frame.payload.now }) c.in-Frame.ensures
    (subst (λ (r : RouterId). ComesTo c.args.device.now.tables.now c.args.device.now.topology.now r c.in-Frame.offset
    (record { kind = c.in-Frame.kind; payload = c.in-Frame.payload.now }) c.in_ok-step-in-Frame.step) c.requires.own
    c.in_ok-step-in-Frame.ensures.comes) c.in_ok-step-in-Frame.ensures.few
    c.pass.ensures.frame c.pass.ensures.source c.pass.ensures.limit c.pass.ensures.pending c.in_ok-tell.ensures.ok
