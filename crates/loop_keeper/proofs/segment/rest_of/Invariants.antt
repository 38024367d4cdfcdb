use Rattle.std.proofs.Common.{◌≡◌, ◌++◌, drop}
use Rattle.loop_keeper.specs.Edits.{cycles_without}
use Rattle.loop_keeper.proofs.segment.rest_of.Given as goal

-- those so far and those that are left are all
abbrev pub invariant-loop-one : goal.invariant-loop-one
invariant-loop-one l = l.left.items ++ cycles_without l.router (drop l.one-index l.cycles) ≡ cycles_without l.router l.cycles
