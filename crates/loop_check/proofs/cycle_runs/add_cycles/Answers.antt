use Rattle.std.proofs.Common.{◌≡◌, length, arith}
use Rattle.loop_check.proofs.RowRuns.{left-before, left-begin, left-goes, left-known, left-next, left-runs}
use Rattle.loop_check.proofs.cycle_runs.add_cycles.Goals as goal

pub adding-init : goal.adding-init
adding-init g c = left-begin (g.V.LabelView.width c.args.view.now) (g.V.LabelView.rows c.args.view.now) c.args.i c.args.cycles c.into_vec-left.result.items c.args.known.now.entries c.requires.form c.requires.place c.requires.known c.requires.before c.requires.cycles c.into_vec-left.ensures

pub add_cycle-requires-clause-runs : goal.add_cycle-requires-clause-runs
add_cycle-requires-clause-runs g c = left-runs (g.V.LabelView.rows c.args.view.now) c.args.i c.adding.left.items c.pop.new.self.items c.in-Some.routers c.adding.known.entries c.adding.invariant c.in-Some.ensures.items

pub add_cycle-requires-clause-goes : goal.add_cycle-requires-clause-goes
add_cycle-requires-clause-goes g c = λ d. left-goes (g.V.LabelView.rows c.args.view.now) c.args.i c.adding.left.items c.pop.new.self.items c.in-Some.routers c.adding.known.entries c.adding.invariant c.in-Some.ensures.items d

pub adding-preserved : goal.adding-preserved
adding-preserved g c = left-next (g.V.LabelView.rows c.args.view.now) c.args.i c.adding.left.items c.pop.new.self.items c.in-Some.routers c.adding.known.entries c.add_cycle.new.known.entries c.adding.invariant c.in-Some.ensures.items c.in_ok-add_cycle.ensures

pub returns-clause-known : goal.returns-clause-known
returns-clause-known g c =
    let none : length c.adding.left.items ≡ 0 = omega (arith, c.in_default.ensures.cases) in
    left-known (g.V.LabelView.rows c.args.view.now) c.args.i c.adding.left.items c.adding.known.entries c.adding.invariant none

pub returns-clause-before : goal.returns-clause-before
returns-clause-before g c =
    let none : length c.adding.left.items ≡ 0 = omega (arith, c.in_default.ensures.cases) in
    left-before (g.V.LabelView.width c.args.view.now) (g.V.LabelView.rows c.args.view.now) c.args.i c.adding.left.items c.adding.known.entries c.requires.form c.requires.place c.adding.invariant none
