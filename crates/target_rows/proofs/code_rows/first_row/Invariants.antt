use Rattle.target_rows.specs.Rows.{AreFirst}
use Rattle.target_rows.proofs.code_rows.first_row.Given as goal

abbrev pub invariant-loop-r : goal.invariant-loop-r
invariant-loop-r l = AreFirst l.r l.codes l.book
