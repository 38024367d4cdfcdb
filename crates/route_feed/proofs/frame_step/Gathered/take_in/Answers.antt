use Rattle.std.proofs.Common.{◌≡◌, ap}
use Rattle.std.proofs.lemmas.List.Elements.{All-push}
use Rattle.feed_model.specs.Feed.{IsToTableOf}
use Rattle.route_feed.specs.FeedReader.{IsFeedUpdate}
use Rattle.route_feed.proofs.frame_step.Gathered.take_in.Goals as goal

pub returns-in_ok-push-in-Route-clause-within : goal.returns-in_ok-push-in-Route-clause-within
returns-in_ok-push-in-Route-clause-within c = λ inside all.
    let before : c.self.inside.ops ≡ c.args.self.now.ops = ap (λ g. g.ops) c.self.view_is in
    rw (c.in_ok-push-in-Route.ensures.ok, before)
    (All-push (IsFeedUpdate c.args.device.now.topology.now) c.args.self.now.ops (c.router_by-to.result, c.in-Some.op) all
    (c.router_by-to.ensures.within inside, c.in-Some.ensures.within))

pub returns-in_ok-push-in-Route-clause-own : goal.returns-in_ok-push-in-Route-clause-own
returns-in_ok-push-in-Route-clause-own c = λ all.
    let before : c.self.inside.ops ≡ c.args.self.now.ops = ap (λ g. g.ops) c.self.view_is in
    rw (c.in_ok-push-in-Route.ensures.ok, before)
    (All-push (IsToTableOf c.args.device.now.topology.now c.args.device.now.router) c.args.self.now.ops (c.router_by-to.result, c.in-Some.op) all c.router_by-to.ensures.own)

pub returns-in-Skipped-clause-own : goal.returns-in-Skipped-clause-own
returns-in-Skipped-clause-own c = λ all.
    let before : c.self.inside.ops ≡ c.args.self.now.ops = ap (λ g. g.ops) c.self.view_is in
    rw before all

pub returns-in-Skipped-clause-within : goal.returns-in-Skipped-clause-within
returns-in-Skipped-clause-within c = λ inside all.
    let before : c.self.inside.ops ≡ c.args.self.now.ops = ap (λ g. g.ops) c.self.view_is in
    rw before all
