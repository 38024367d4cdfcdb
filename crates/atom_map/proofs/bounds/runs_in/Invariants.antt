use Rattle.std.proofs.Common.{◌-◌, ◌≤◌}
use Rattle.atom_map.specs.Spans.{AreRunsIn}
use Rattle.atom_map.proofs.bounds.runs_in.Given as goal

-- the runs so far
abbrev pub invariant-runs : goal.invariant-runs
invariant-runs l = record {
  few : l.k ≤ l.count;
  runs : AreRunsIn l.page l.k l.out;
}

abbrev pub decreases-runs : goal.decreases-runs
decreases-runs l = l.count - l.k
