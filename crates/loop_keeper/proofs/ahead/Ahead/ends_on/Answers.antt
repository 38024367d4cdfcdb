use Rattle.std.proofs.Common.{◌<◌, ◌≤◌, subst, arith}
use Rattle.base.specs.Forwarding.{does}
use Rattle.base.specs.declared.ids.RouterId.{RouterId}
use Rattle.loop_keeper.specs.Ahead.{EndsOn, IsAhead}
use Rattle.loop_keeper.proofs.ReadAhead.{ends-there}
use Rattle.loop_keeper.proofs.ahead.Ahead.ends_on.Goals as goal

pub returns-in_default-clause-ahead : goal.returns-in_default-clause-ahead
returns-in_default-clause-ahead g c = c.in_default.ensures.ahead (g.V.LabelView.width c.args.view.now) (g.V.LabelView.rows c.args.view.now) c.read_to.ensures.ahead

pub offset_bounds-self-at : goal.offset_bounds-self-at
offset_bounds-self-at g c =
    let ahead : IsAhead (g.V.LabelView.width c.args.view.now) (g.V.LabelView.rows c.args.view.now) c.find.new.self = c.in-Some.ensures.ahead (g.V.LabelView.width c.args.view.now) (g.V.LabelView.rows c.args.view.now) c.read_to.ensures.ahead in
    let room : c.find.new.self.count ≤ 16 = ahead.room in
    let inside : c.in-Some.at < c.find.new.self.count = c.in-Some.ensures.found.inside in
    omega arith

pub bounds-self-at : goal.bounds-self-at
bounds-self-at g c =
    let ahead : IsAhead (g.V.LabelView.width c.args.view.now) (g.V.LabelView.rows c.args.view.now) c.find.new.self = c.in-Some.ensures.ahead (g.V.LabelView.width c.args.view.now) (g.V.LabelView.rows c.args.view.now) c.read_to.ensures.ahead in
    let room : c.find.new.self.count ≤ 16 = ahead.room in
    let inside : c.in-Some.at < c.find.new.self.count = c.in-Some.ensures.found.inside in
    omega arith

pub returns-clause-ahead : goal.returns-clause-ahead
returns-clause-ahead g c = c.in-Some.ensures.ahead (g.V.LabelView.width c.args.view.now) (g.V.LabelView.rows c.args.view.now) c.read_to.ensures.ahead

pub returns-clause-ends : goal.returns-clause-ends
returns-clause-ends g c = λ is.
    let P : RouterId → Type 0 = λ v. EndsOn (does (g.V.LabelView.rows c.args.view.now)) v c.args.run in
    subst P c.read_to.ensures.router (subst P c.in-Some.ensures.router (ends-there (g.V.LabelView.width c.args.view.now) (g.V.LabelView.rows c.args.view.now) c.find.new.self c.in-Some.at c.args.run
    (c.in-Some.ensures.ahead (g.V.LabelView.width c.args.view.now) (g.V.LabelView.rows c.args.view.now) c.read_to.ensures.ahead) c.in-Some.ensures.found (c.goes_nowhere.ensures is)))
