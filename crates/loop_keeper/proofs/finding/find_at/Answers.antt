use Rattle.std.proofs.Common.{◌<◌, Bool, List, length, slice_index_or, sym, subst}
use Rattle.base.specs.Forwarding.{target_of}
use Rattle.base.specs.declared.ids.RouterId.{RouterId}
use Rattle.loop_keeper.specs.Following.{IsFollowed, IsTurned}
use Rattle.loop_keeper.proofs.Meeting.{finds-none, finds-one, inside-one}
use Rattle.loop_keeper.proofs.finding.find_at.Goals as goal

pub returns-then-not-branch-clause-found : goal.returns-then-not-branch-clause-found
returns-then-not-branch-clause-found g c = λ does.
    finds-none (g.V.LabelView.width c.args.view.now) (g.V.LabelView.rows c.args.view.now) c.args.i c.args.start.router c.args.search.now.found.items c.requires.form c.requires.place (λ d.
    let P : Bool → Type 0 = λ b. IsFollowed (target_of (slice_index_or (g.V.LabelView.rows c.args.view.now) c.args.i d)) c.args.start.router c.follow.new.path.items b in
    subst P c.if-not-branch.true (c.in_ok-follow.ensures.followed does d))

pub turned-requires : goal.turned-requires
turned-requires g c =
    let L : List RouterId → Type 0 = λ v. 0 < length v in
    subst L (sym c.as_slice.ensures.value) c.in_ok-follow.ensures.some

pub returns-clause-found : goal.returns-clause-found
returns-clause-found g c = λ does.
    let T : List RouterId → Type 0 = λ v. IsTurned v c.in_ok-routers.routers in
    finds-one (g.V.LabelView.width c.args.view.now) (g.V.LabelView.rows c.args.view.now) c.args.i c.args.start.router c.follow.new.path.items (record { routers = c.in_ok-routers.routers; low = c.bounds-low.result.0; past = c.bounds-low.result.1 }) c.args.search.now.found.items c.push.new.self.items c.requires.form c.requires.place (λ d.
    let P : Bool → Type 0 = λ b. IsFollowed (target_of (slice_index_or (g.V.LabelView.rows c.args.view.now) c.args.i d)) c.args.start.router c.follow.new.path.items b in
    subst P c.if-not-branch.false (c.in_ok-follow.ensures.followed does d))
    (subst T c.as_slice.ensures.value c.in_ok-routers.ensures) c.bounds-low.ensures.low c.bounds-low.ensures.past c.in_ok-push.ensures.items

pub returns-clause-inside : goal.returns-clause-inside
returns-clause-inside g c = inside-one (g.V.LabelView.width c.args.view.now) (g.V.LabelView.rows c.args.view.now) c.args.i (record { routers = c.in_ok-routers.routers; low = c.bounds-low.result.0; past = c.bounds-low.result.1 }) c.args.search.now.found.items c.push.new.self.items c.requires.form c.requires.place c.bounds-low.ensures.past c.in_ok-push.ensures.items
