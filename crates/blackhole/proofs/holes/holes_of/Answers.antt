use Rattle.std.proofs.Common.{◌∙◌, List, refl, sym, subst}
use Rattle.std.proofs.lemmas.Iterator.Adapters.{YieldsList-from_vec}
use Rattle.std.proofs.lemmas.Iterator.Consumers.{YieldsList-end}
use Rattle.std.proofs.lemmas.List.{map-id}
use Rattle.blackhole.specs.Gathering.{AreHolesOf}
use Rattle.blackhole.specs.declared.fall.Fall.{Fall}
use Rattle.blackhole.proofs.Telling.{hole-of, holes-more, holes-none}
use Rattle.blackhole.proofs.holes.holes_of.Goals as goal

pub loop-fall-init : goal.loop-fall-init
loop-fall-init c = holes-none c.new-holes.result c.new-holes.ensures

pub loop-fall-preserved : goal.loop-fall-preserved
loop-fall-preserved c = holes-more c.loop-fall.holes c.push.new.self c.loop-fall.yielded (record { router = c.in-Some.fall.router; cause = c.in-Some.fall.cause; runs = c.in_ok-runs.runs }) c.in-Some.fall c.in_ok-push.ensures.ok c.loop-fall.invariant
    (hole-of _ c.in-Some.fall refl refl c.in_ok-runs.ensures.value c.in_ok-runs.ensures.apart)

pub returns : goal.returns
returns c =
    let road = YieldsList-from_vec {s = c.into_iter-fall-iterator.result} c.args.falls.items c.into_iter-fall-iterator.ensures.into_iter_gives.0 (c.into_iter-fall-iterator.ensures.into_iter_gives.1 ∙ c.args.falls.ok.0) in
    let end = YieldsList-end road c.loop-fall.yielded c.loop-fall.fall-iterator c.loop-fall.yielded_by c.next.result c.next.new.self c.in-None.is c.next.ensures.steps in
    let P : List Fall → Type 0 = λ falls. AreHolesOf c.loop-fall.holes falls in
    subst P (sym (map-id c.loop-fall.yielded) ∙ end.0) c.loop-fall.invariant
