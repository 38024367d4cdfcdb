use Rattle.std.proofs.Common.{◌≡◌, ◌∙◌, ◌&&◌, ap, sym}
use Rattle.base.specs.Holes.{ends_by}
use Rattle.base.specs.Reach.{is_router}
use Rattle.base.specs.Walk.{at_address, walk_last}
use Rattle.dn_model.specs.Network.{does_in, routers_in}
use Rattle.base.specs.declared.path_end.PathEnd.{PathEnd}
use Rattle.base.specs.declared.ids.RouterId.{RouterId}
use Rattle.base.proofs.WalkLast.{last-told}
use Rattle.dn_model.proofs.plain_test.falls_at.Goals as goal

pub returns-in-Some : goal.returns-in-Some
returns-in-Some c =
    let f = at_address (does_in c.args.net.now) c.args.a in
    let last : c.in-Some.router ≡ walk_last f (routers_in c.args.net.now) c.args.hole.0 =
    last-told f (routers_in c.args.net.now) c.args.hole.0 c.in-Some.router c.as_slice.result.now (c.as_slice.ensures.value ∙ c.in_ok-routers.ensures.routers) (sym c.last_of.ensures ∙ c.in-Some.is) in
    c.is_fall.ensures
    ∙ ap (λ (r : RouterId). is_router c.args.hole.1 r && ends_by c.args.hole.2 c.in_ok-routers.end) last
    ∙ ap (λ (e : PathEnd). is_router c.args.hole.1 (walk_last f (routers_in c.args.net.now) c.args.hole.0) && ends_by c.args.hole.2 e) c.in_ok-routers.ensures.end
