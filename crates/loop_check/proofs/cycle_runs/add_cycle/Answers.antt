use Rattle.std.proofs.Common.{◌≡◌, List, subst}
use Rattle.std.specs.Map.{set_value}
use Rattle.std.proofs.lemmas.Result.{on_ok_weaker}
use Rattle.base.specs.declared.ids.RouterId.{RouterId}
use Rattle.loop_check.specs.CycleRuns.{value_under}
use Rattle.loop_check.proofs.RowRuns.{added-there, round, row-goes, runs-none, runs-there}
use Rattle.loop_check.proofs.UnderRouters.{at, found-under, missed-under}
use Rattle.loop_check.proofs.cycle_runs.add_cycle.Goals as goal

pub push_row_if-requires-clause-order : goal.push_row_if-requires-clause-order
push_row_if-requires-clause-order g c =
    let found = found-under c.args.known.now.entries c.args.routers c.as_slice.result.now c.get_mut.result c.in-Some.runs c.as_slice.ensures.value c.in-Some.is c.get_mut.ensures.value in
    (runs-there (g.V.LabelView.rows c.args.view.now) c.args.i c.args.routers (value_under c.args.known.now.entries c.args.routers) c.in-Some.runs.now found c.requires.runs).before

pub returns-in-Some : goal.returns-in-Some
returns-in-Some g c =
    let found = found-under c.args.known.now.entries c.args.routers c.as_slice.result.now c.get_mut.result c.in-Some.runs c.as_slice.ensures.value c.in-Some.is c.get_mut.ensures.value in
    let Written : List RouterId → Type 0 = λ rs. (c.get_mut.follows.lender c.push_row_if.new.self).entries ≡ set_value (at rs) c.args.known.now.entries c.push_row_if.new.self in
    on_ok_weaker c.push_row_if.result (λ pushed. added-there (g.V.LabelView.rows c.args.view.now) c.args.i c.args.routers c.args.known.now.entries (c.get_mut.follows.lender c.push_row_if.new.self).entries c.in-Some.runs.now c.push_row_if.new.self found
    (subst Written c.as_slice.ensures.value (c.get_mut.follows.holds c.push_row_if.new.self).0)
    (pushed (round (g.V.LabelView.rows c.args.view.now) c.args.routers)
    (runs-there (g.V.LabelView.rows c.args.view.now) c.args.i c.args.routers (value_under c.args.known.now.entries c.args.routers) c.in-Some.runs.now found c.requires.runs)
    (row-goes (g.V.LabelView.width c.args.view.now) (g.V.LabelView.rows c.args.view.now) c.args.i c.args.routers c.requires.form c.requires.place c.requires.goes))) c.push_row_if.ensures

pub add_first-requires-clause-unknown : goal.add_first-requires-clause-unknown
add_first-requires-clause-unknown g c =
    rw c.get_mut.follows.holds-at-none (missed-under c.args.known.now.entries c.args.routers c.as_slice.result.now c.get_mut.result c.as_slice.ensures.value c.in-None.is c.get_mut.ensures.value)

pub add_first-requires-clause-runs : goal.add_first-requires-clause-runs
add_first-requires-clause-runs g c =
    runs-none (g.V.LabelView.rows c.args.view.now) c.args.i c.args.routers (value_under c.args.known.now.entries c.args.routers)
    (missed-under c.args.known.now.entries c.args.routers c.as_slice.result.now c.get_mut.result c.as_slice.ensures.value c.in-None.is c.get_mut.ensures.value) c.requires.runs

pub returns-in-None : goal.returns-in-None
returns-in-None g c = rw c.get_mut.follows.holds-at-none at c.add_first.ensures
