use Rattle.std.proofs.Common.{◌≡◌, length}
use Rattle.target_rows.proofs.over.no_marks.Given as goal

abbrev pub invariant-loop-router : goal.invariant-loop-router
invariant-loop-router l = length l.marks.items ≡ l._router
