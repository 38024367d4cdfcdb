use Rattle.std.proofs.Common.{◌≡◌, map}
use Rattle.std.specs.List.{range_with_len}
use Rattle.dn_run.specs.Made.{made_table}
use Rattle.dn_run.proofs.ring.tables.Given as goal

abbrev pub invariant-loop-i : goal.invariant-loop-i
invariant-loop-i l = l.tables ≡ map made_table (range_with_len 0 l.i)
