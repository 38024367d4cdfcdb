use Rattle.std.proofs.Common.{◌≡◌, List, subst, sym}
use Rattle.std.proofs.lemmas.Result.{on_ok_weaker}
use Rattle.base.specs.Cycles.{goes_round}
use Rattle.base.specs.CyclesFrom.{IsCycleOf}
use Rattle.base.specs.Forwarding.{does}
use Rattle.base.specs.declared.ids.RouterId.{RouterId}
use Rattle.label_view.specs.Places.{AreGatheredTo}
use Rattle.loop_check.proofs.Sorting.{add-cycle}
use Rattle.loop_check.proofs.cycle_runs.push_known.Goals as goal

pub returns : goal.returns
returns c = on_ok_weaker c.push_cycle.result (λ is. λ rows i l h form other.
    let same : c.from_vec.result ≡ c.args.routers.items = c.from_vec.ensures in
    let Runs : List RouterId → Type 0 = λ rs. AreGatheredTo c.args.runs rows i (goes_round (does rows) rs) in
    let Is : List RouterId → Type 0 = λ rs. IsCycleOf (does rows) rs c.in_ok-cycle.cycle in
    add-cycle (does rows) c.args.routers.items c.in_ok-cycle.cycle c.args.cycles.now.items c.push_cycle.new.cycles.items (subst Is same (c.in_ok-cycle.ensures rows i l (subst Runs (sym same) h))) is form other) c.push_cycle.ensures
