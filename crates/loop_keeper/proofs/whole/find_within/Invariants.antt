use Rattle.std.proofs.Common.{◌≤◌, ◌+◌, ◌-◌, ◌*◌}
use Rattle.loop_keeper.specs.Together.{FindsWithin}
use Rattle.loop_keeper.proofs.whole.find_within.Given as goal

-- the cycles of the rows so far are found, and each row takes as many looks as there are routers
abbrev pub invariant-loop-i : goal.invariant-loop-i
invariant-loop-i g l = record {
  found : FindsWithin (g.V.LabelView.rows l.view) l.first l.i l.initial.search.found.items l.search.found.items;
  within : l.i - l.first ≤ l.past - l.first;
  cost : l.steps ≤ l.initial.steps + g.V.LabelView.width l.view * (l.i - l.first);
}
