use Rattle.std.proofs.Common.{◌≡◌, ◌+◌}
use Rattle.net_engine.proofs.link_turn.count_rows.Given as goal

abbrev pub invariant-loop-row : goal.invariant-loop-row
invariant-loop-row g l = l.steps ≡ l.initial.steps + l._row
