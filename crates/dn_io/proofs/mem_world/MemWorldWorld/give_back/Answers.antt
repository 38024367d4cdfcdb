use Rattle.std.proofs.Common.{arith, ap}
use Rattle.dn_io.proofs.CallsLemmas.{IsOutAt-below}
use Rattle.dn_io.proofs.mem_world.MemWorldWorld.give_back.Goals as goal

pub come_back-requires : goal.come_back-requires
come_back-requires c =
    let below = IsOutAt-below c.args.self.now.calls c.args.src.place c.requires in
    let calls = ap (λ w. w.calls) c.self.view_is in
    grind (arith, below, calls, c.into_parts-place.ensures.place)
