use Rattle.std.proofs.Common.{◌<◌, ◌≤◌, ◌∙◌, List, length, slice_index_or, refl, ap, arith}
use Rattle.base.specs.Runs.{addresses_in}
use Rattle.base.specs.declared.run.Run.{Run}
use Rattle.loop_check.proofs.AllCycles.{cycle-none, cycle-some}
use Rattle.loop_check.proofs.cycle_runs.cycle_of.Goals as goal

pub returns-in_default : goal.returns-in_default
returns-in_default c = λ rows i l h.
    let none : length c.in_ok-runs.runs < 1 = omega arith in
    cycle-none rows i c.args.runs c.in_ok-runs.runs c.args.routers l h c.in_ok-runs.ensures.value c.in_ok-runs.ensures.apart none

pub returns : goal.returns
returns c = λ rows i l h.
    let some : 1 ≤ length c.in_ok-runs.runs = omega arith in
    let least = ap (λ (rs : List Run). (slice_index_or rs 0 (record { lo = 0; hi = 0 })).lo) c.as_slice.ensures.value in
    let addresses = c.count_of.ensures ∙ ap (λ (rs : List Run). addresses_in rs) c.as_slice-2.ensures.value in
    (cycle-some rows i c.args.runs c.in_ok-runs.runs (record { routers = c.args.routers; least = (slice_index_or c.as_slice.result.now 0 (record { lo = 0; hi = 0 })).lo; addresses = c.count_of.result }) (record { lo = 0; hi = 0 }) l h c.in_ok-runs.ensures.value c.in_ok-runs.ensures.apart some least addresses, refl)
