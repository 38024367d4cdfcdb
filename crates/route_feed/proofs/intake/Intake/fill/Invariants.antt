use Rattle.std.proofs.Common.{◌≡◌, ◌+◌, ◌-◌, ◌≤◌}
use Rattle.route_feed.specs.Intake.{taken, Keeps}
use Rattle.route_feed.proofs.intake.Intake.fill.Given as goal

-- no byte was lost, none past the limit was read, and nothing failed
abbrev pub invariant-loop-end : goal.invariant-loop-end
invariant-loop-end g l = record {
  keeps : Keeps l.fn.self l.self (g.S.Source.left l.fn.self.source) (g.S.Source.left l.self.source);
  within : taken l.self ≤ l.self.limit;
  count : g.S.Source.faults l.self.source ≡ g.S.Source.faults l.fn.self.source;
  stays : g.S.Source.place l.self.source ≡ g.S.Source.place l.fn.self.source;
}

abbrev pub decreases-loop-end : goal.decreases-loop-end
decreases-loop-end g l = l.self.limit + 1 - taken l.self
