use Rattle.std.proofs.Common.{◌≡◌, ◌++◌, map}
use Rattle.loop_keeper.specs.Whole.{found_between}
use Rattle.loop_keeper.proofs.whole.push_all.Given as goal

-- those so far and those that are left are all
abbrev pub invariant-loop-routers : goal.invariant-loop-routers
invariant-loop-routers l = l.found.items ++ map (found_between l.low l.past) l.routers-iterator.rest.items ≡ l.initial.found.items ++ map (found_between l.low l.past) l.fn.cycles
