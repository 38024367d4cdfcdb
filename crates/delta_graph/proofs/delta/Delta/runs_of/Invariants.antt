use Rattle.std.proofs.Common.{◌≡◌, ◌++◌, drop}
use Rattle.delta_graph.specs.Pushed.{runs_of}
use Rattle.delta_graph.proofs.delta.Delta.runs_of.Given as goal

-- the runs so far and those of the changes that are left are all
abbrev pub invariant-loop-change : goal.invariant-loop-change
invariant-loop-change l = l.runs.items ++ runs_of (drop l.change-index l.change-items) l.router ≡ runs_of l.change-items l.router
