use Rattle.std.proofs.Common.{◌≡◌, ◌++◌, drop}
use Rattle.loop_keeper.proofs.segment.copies_of.Given as goal

-- those so far and those that are left are all
abbrev pub invariant-loop-one : goal.invariant-loop-one
invariant-loop-one l = l.copies.items ++ drop l.one-index l.cycles ≡ l.cycles
