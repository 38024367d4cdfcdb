use Rattle.std.proofs.Common.{◌<◌, ◌^◌, Option, List, subst, arith}
use Rattle.base.specs.CyclesFrom.{IsCycleFrom}
use Rattle.base.specs.Walk.{at_address}
use Rattle.dn_model.specs.Network.{does_in}
use Rattle.base.specs.declared.ids.RouterId.{RouterId}
use Rattle.base.proofs.CyclesFrom.{tell-of_first}
use Rattle.dn_model.proofs.plain_loops.tell_first.Goals as goal

pub returns : goal.returns
returns c =
    let does = does_in c.args.net.now in
    let P : Option (List RouterId) → Type 0 = λ o. IsCycleFrom (at_address does c.args.a) c.args.first o in
    tell-of_first does c.args.first c.args.a c.in-Some.routers c.args.cycles.now.items c.tell_cycle.new.cycles.items (let l : c.args.a < 2 ^ 32 = omega arith in l) (subst P c.in-Some.is c.in_ok-routers.ensures) c.in_ok-tell_cycle.ensures
