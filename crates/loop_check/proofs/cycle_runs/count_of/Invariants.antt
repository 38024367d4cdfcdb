use Rattle.std.proofs.Common.{◌≡◌, ◌+◌, drop}
use Rattle.base.specs.Runs.{addresses_in}
use Rattle.loop_check.proofs.cycle_runs.count_of.Given as goal

-- those so far and those that are left are all
abbrev pub invariant-loop-run : goal.invariant-loop-run
invariant-loop-run l = l.count + addresses_in (drop l.run-index l.runs) ≡ addresses_in l.runs
