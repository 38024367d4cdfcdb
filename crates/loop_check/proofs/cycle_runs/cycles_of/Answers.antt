use Rattle.std.proofs.Common.{◌≡◌, List, length, subst, sym}
use Rattle.base.specs.Cycles.{AreCycles}
use Rattle.base.specs.Forwarding.{does}
use Rattle.base.specs.declared.cycle.Cycle.{Cycle}
use Rattle.loop_check.proofs.AllCycles.{AreAnswered, answer-all, answer-next, answer-other, answer-runs, answer-start, none-more}
use Rattle.loop_check.proofs.cycle_runs.cycles_of.Goals as goal

pub cycles-init : goal.cycles-init
cycles-init c = λ rows i l h before. answer-start rows i c.args.known.entries c.in_ok-cycles.cycles.items l c.len.ensures.ordered h before c.in_ok-cycles.ensures.items

pub cycles-preserved : goal.cycles-preserved
cycles-preserved c = λ rows i l h before.
    let so_far : AreAnswered rows i c.cycles.left.entries c.cycles.cycles.items = c.cycles.invariant rows i l h before in
    answer-next rows i c.cycles.left.entries c.pop_first.new.self.entries (c.in-Some.routers, c.in-Some.runs) c.cycles.cycles.items c.push_known.new.cycles.items so_far c.in-Some.ensures.removal
    (c.in_ok-push_known.ensures rows i l
    (answer-runs rows i c.cycles.left.entries c.pop_first.new.self.entries (c.in-Some.routers, c.in-Some.runs) c.cycles.cycles.items so_far c.in-Some.ensures.removal)
    so_far.form
    (answer-other rows i c.cycles.left.entries c.pop_first.new.self.entries (c.in-Some.routers, c.in-Some.runs) c.cycles.cycles.items so_far c.in-Some.ensures.removal))

pub returns : goal.returns
returns c = λ rows i l h before.
    let so_far : AreAnswered rows i c.cycles.left.entries c.cycles.cycles.items = c.cycles.invariant rows i l h before in
    let none : length c.cycles.left.entries ≡ 0 = none-more (length c.cycles.left.entries) c.pop_first.result c.in_default.is c.pop_first.ensures.variant.1 in
    let P : List Cycle → Type 0 = λ cs. AreCycles (does rows) cs in
    subst P (sym c.from_vec.ensures) (answer-all rows i c.cycles.left.entries c.cycles.cycles.items c.sort_cycles.new.cycles.items so_far none c.sort_cycles.ensures.same (c.sort_cycles.ensures.order (does rows) so_far.form))
