use Rattle.std.proofs.Common.{ℕ, ◌<◌, ◌≤◌, ◌+◌, ◌-◌, ◌*◌}
use Rattle.loop_keeper.specs.Finding.{AllInside, FindsBetween}
use Rattle.loop_keeper.specs.Starts.{DoesSo}
use Rattle.loop_keeper.proofs.finding.find_between.Given as goal

-- the cycles of the rows so far are found, and each row takes as many looks as there are routers
abbrev pub invariant-loop-i : goal.invariant-loop-i
invariant-loop-i g l = record {
  found : ((k : ℕ) → l.first ≤ k → k < l.i → DoesSo (g.V.LabelView.rows l.view) l.start k) → FindsBetween (g.V.LabelView.rows l.view) l.first l.i l.start.router l.initial.search.found.items l.search.found.items;
  inside : AllInside l.initial.search.found.items → AllInside l.search.found.items;
  within : l.i - l.first ≤ l.past - l.first;
  cost : l.steps ≤ l.initial.steps + g.V.LabelView.width l.view * (l.i - l.first);
}
