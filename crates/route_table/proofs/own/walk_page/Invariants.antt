use Rattle.std.proofs.Common.{◌≡◌, ◌≤◌, ◌+◌, [], length, take}
use Rattle.route_table.specs.Along.{along}
use Rattle.route_table.specs.Rows.{slots_in}
use Rattle.route_table.proofs.own.walk_page.Given as goal

-- so far it is the walk over the slots before this one
abbrev pub invariant-loop-row : goal.invariant-loop-row
invariant-loop-row g l = record {
  at : l.at ≡ (along l.past (record { at = l.fn.at; runs = l.fn.runs.items; begun = [] }) (take l.row-index (slots_in l.lane.index l.page))).at;
  runs : l.runs.items ≡ (along l.past (record { at = l.fn.at; runs = l.fn.runs.items; begun = [] }) (take l.row-index (slots_in l.lane.index l.page))).runs;
  few : l.steps ≤ l.fn.steps + length (along l.past (record { at = l.fn.at; runs = l.fn.runs.items; begun = [] }) (take l.row-index (slots_in l.lane.index l.page))).begun;
}
