use Rattle.std.proofs.Common.{arith}
use Rattle.std.proofs.lemmas.Result.{err_from_is_err_and}
use Rattle.topology.proofs.MarkRuns.{marks_step, marks_stop, marks_end}
use Rattle.topology.proofs.lists.read_marks.Goals as goal

pub returns-in_err-add_mark-clause-refused : goal.returns-in_err-add_mark-clause-refused
returns-in_err-add_mark-clause-refused c =
    let p = err_from_is_err_and c.from_residual.result c.from_residual.ensures.1 in
    rw (p.1, p.2) (marks_stop c.args.routers.now c.args.entries.now c.loop-entry.entry-index c.loop-entry.marks c.entry-item.result _ (omega arith) c.entry-item.is c.loop-entry.invariant c.in_err-add_mark.ensures.refused)

pub loop-entry-preserved : goal.loop-entry-preserved
loop-entry-preserved c =
    marks_step c.args.routers.now c.args.entries.now c.loop-entry.entry-index c.loop-entry.marks c.add_mark.new.marks c.entry-item.result c.requires (omega arith) c.entry-item.is c.loop-entry.invariant
    c.in_ok-add_mark.ensures.faultless c.in_ok-add_mark.ensures.said

pub returns-clause-ok : goal.returns-clause-ok
returns-clause-ok c = marks_end c.args.routers.now c.args.entries.now c.loop-entry.entry-index c.loop-entry.marks (omega arith) c.loop-entry.invariant
