use Rattle.std.proofs.Common.{◌-◌, ◌≤◌}
use Rattle.loop_keeper.proofs.ahead.Ahead.find.Given as goal

-- there are no more rows than room
abbrev pub invariant-rows : goal.invariant-rows
invariant-rows l = record { room : l.self.count ≤ 16 }

abbrev pub decreases-rows : goal.decreases-rows
decreases-rows l = l.self.count - l.at
