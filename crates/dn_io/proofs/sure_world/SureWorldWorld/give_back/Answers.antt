use Rattle.std.proofs.Common.{arith, ap, Some, ◌∙◌}
use Rattle.dn_io.specs.Calls.{some_failed}
use Rattle.dn_io.proofs.CallsLemmas.{IsOutAt-below, NoneFailed-back}
use Rattle.dn_io.proofs.sure_world.SureWorldWorld.give_back.Goals as goal

pub come_back-requires : goal.come_back-requires
come_back-requires c =
    let below = IsOutAt-below c.args.self.now.calls c.args.src.place c.requires in
    let calls = ap (λ w. w.calls) c.self.view_is in
    grind (arith, below, calls, c.into_parts-place.ensures.place)

pub invariant_of-self : goal.invariant_of-self
invariant_of-self c = ap some_failed c.come_back.ensures ∙ NoneFailed-back c.self.inside.calls c.into_parts-place.result.0 (Some c.into_parts-place.result.1) c.self.invariant
