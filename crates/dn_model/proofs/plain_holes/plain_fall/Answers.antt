use Rattle.std.proofs.Common.{◌≡◌, ◌∙◌, ap, sym}
use Rattle.base.specs.HolesFrom.{fall_of}
use Rattle.base.specs.Walk.{at_address, walk_last}
use Rattle.dn_model.specs.Network.{does_in, routers_in}
use Rattle.base.specs.declared.path_end.PathEnd.{PathEnd}
use Rattle.base.specs.declared.ids.RouterId.{RouterId}
use Rattle.base.proofs.HolesFrom.{some-last}
use Rattle.base.proofs.WalkLast.{last-told}
use Rattle.dn_model.proofs.plain_holes.plain_fall.Goals as goal

pub returns-in-Some : goal.returns-in-Some
returns-in-Some c =
    let f = at_address (does_in c.args.net.now) c.args.a in
    let last : c.in-Some.last ≡ walk_last f (routers_in c.args.net.now) c.args.first =
    last-told f (routers_in c.args.net.now) c.args.first c.in-Some.last c.as_slice.result.now (c.as_slice.ensures.value ∙ c.in_ok-routers.ensures.routers) (sym c.last_of.ensures ∙ c.in-Some.is) in
    c.fall_by_end.ensures
    ∙ ap (λ (r : RouterId). fall_of r c.in_ok-routers.end) last
    ∙ ap (λ (e : PathEnd). fall_of (walk_last f (routers_in c.args.net.now) c.args.first) e) c.in_ok-routers.ensures.end

pub returns : goal.returns
returns c =
    let f = at_address (does_in c.args.net.now) c.args.a in
    absurd (some-last f (routers_in c.args.net.now) c.args.first c.as_slice.result.now (c.as_slice.ensures.value ∙ c.in_ok-routers.ensures.routers) (sym c.last_of.ensures ∙ c.in-None.is))
