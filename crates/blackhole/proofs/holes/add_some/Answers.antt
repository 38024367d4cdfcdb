use Rattle.std.proofs.Common.{ℕ, ◌≡◌, ◌+◌, ◌<◌, subst, arith}
use Rattle.base.specs.Forwarding.{does}
use Rattle.base.specs.Holes.{falls}
use Rattle.blackhole.specs.Gathering.{AreFalls}
use Rattle.blackhole.proofs.Stretch.{in-one, looks-all, looks-each, no-route-tells}
use Rattle.blackhole.proofs.holes.add_some.Goals as goal

pub returns-in_err-add_rows-clause-cost : goal.returns-in_err-add_rows-clause-cost
returns-in_err-add_rows-clause-cost g c =
    let some : 0 < g.V.LabelView.width c.args.view.now = omega (arith, c.requires.router) in
    looks-all (g.V.LabelView.width c.args.view.now) c.args.steps.now c.no_route_past-past.new.steps c.args.k c.no_route_past-past.result _
    (looks-each (g.V.LabelView.width c.args.view.now) c.args.steps.now c.no_route_past-past.new.steps c.args.k c.no_route_past-past.result some c.no_route_past-past.ensures.from c.no_route_past-past.ensures.cost) c.no_route_past-past.ensures.inside

pub returns-then-past-k-clause-falls : goal.returns-then-past-k-clause-falls
returns-then-past-k-clause-falls g c =
    let some : 0 < g.V.LabelView.width c.args.view.now = omega (arith, c.requires.router) in
    c.in_ok-add_rows.ensures (falls (g.V.LabelView.width c.args.view.now) (does (g.V.LabelView.rows c.args.view.now)) c.args.column.now.router) c.requires.falls
    (no-route-tells (g.V.LabelView.width c.args.view.now) (g.V.LabelView.rows c.args.view.now) c.args.column.now.router c.args.column.now.from c.args.column.now.targets.now c.args.k c.no_route_past-past.result c.requires.form some c.requires.inside c.requires.column c.if-past-k.true c.no_route_past-past.ensures.inside c.no_route_past-past.ensures.none)

pub returns-then-past-k-clause-looks : goal.returns-then-past-k-clause-looks
returns-then-past-k-clause-looks g c =
    let some : 0 < g.V.LabelView.width c.args.view.now = omega (arith, c.requires.router) in
    looks-each (g.V.LabelView.width c.args.view.now) c.args.steps.now c.no_route_past-past.new.steps c.args.k c.no_route_past-past.result some c.no_route_past-past.ensures.from c.no_route_past-past.ensures.cost

pub returns-then-past-k-clause-cost : goal.returns-then-past-k-clause-cost
returns-then-past-k-clause-cost g c =
    let some : 0 < g.V.LabelView.width c.args.view.now = omega (arith, c.requires.router) in
    looks-all (g.V.LabelView.width c.args.view.now) c.args.steps.now c.no_route_past-past.new.steps c.args.k c.no_route_past-past.result _
    (looks-each (g.V.LabelView.width c.args.view.now) c.args.steps.now c.no_route_past-past.new.steps c.args.k c.no_route_past-past.result some c.no_route_past-past.ensures.from c.no_route_past-past.ensures.cost) c.no_route_past-past.ensures.inside

pub returns-clause-falls : goal.returns-clause-falls
returns-clause-falls g c =
    let next : c.args.column.now.from + c.args.k + 1 ≡ c.args.column.now.from + (c.args.k + 1) = omega arith in
    let P : ℕ → Type 0 = λ i. AreFalls c.add_rows-2.new.falls.items (g.V.LabelView.rows c.args.view.now) i (falls (g.V.LabelView.width c.args.view.now) (does (g.V.LabelView.rows c.args.view.now)) c.args.column.now.router) in
    subst P next (c.in_ok-add_rows-2.ensures (falls (g.V.LabelView.width c.args.view.now) (does (g.V.LabelView.rows c.args.view.now)) c.args.column.now.router) c.requires.falls
    (λ last cause a within. c.row_fall-end.ensures.falls last cause a (in-one (g.V.LabelView.rows c.args.view.now) (c.args.column.now.from + c.args.k) a within)))
