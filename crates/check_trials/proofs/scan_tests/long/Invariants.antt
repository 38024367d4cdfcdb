use Rattle.std.proofs.Common.{List, ◌++◌, ◌*◌}
use Rattle.base.specs.Forwarding.{AreEachForwarding, AreForwarding, row_low, row_past}
use Rattle.base.specs.Rows.{CoverFrom}
use Rattle.base.specs.declared.forwarding_row.ForwardingRow.{ForwardingRow}
use Rattle.check_trials.proofs.scan_tests.long.Given as goal

-- with rows that go on where the rows so far end, these cover all addresses
abbrev pub invariant-loop-i : goal.invariant-loop-i
invariant-loop-i g l = (rest : List ForwardingRow) → CoverFrom row_low row_past (l.i * 10) rest → AreEachForwarding 2 rest → AreForwarding 2 (l.rows ++ rest)
