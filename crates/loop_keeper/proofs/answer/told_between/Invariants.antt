use Rattle.std.proofs.Common.{◌≡◌, ◌++◌, drop, map}
use Rattle.loop_keeper.specs.Answer.{cycle_between}
use Rattle.loop_keeper.proofs.answer.told_between.Given as goal

-- those so far and those that are left are all
abbrev pub invariant-loop-one : goal.invariant-loop-one
invariant-loop-one l = l.told.items ++ map (cycle_between l.low l.past) (drop l.one-index l.cycles) ≡ map (cycle_between l.low l.past) l.cycles
