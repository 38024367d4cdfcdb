use Rattle.std.proofs.Common.{◌≡◌, ◌≤◌, ◌+◌, ◌-◌, [], true, drop, length, take}
use Rattle.route_table.specs.Along.{along, begins_past}
use Rattle.route_table.specs.Rows.{slots_in}
use Rattle.route_table.proofs.own.push_own_runs.Given as goal

-- so far it is the walk over the slots before this place
abbrev pub invariant-pages : goal.invariant-pages
invariant-pages g l = record {
  from : l.initial.place ≤ l.place;
  inside : l.place ≤ length l.rows;
  at : l.at ≡ (along l.past (record { at = l.initial.at; runs = l.initial.runs.items; begun = [] }) (take (l.place - l.initial.place) (drop l.initial.place (slots_in l.lane.index l.rows)))).at;
  runs : l.runs.items ≡ (along l.past (record { at = l.initial.at; runs = l.initial.runs.items; begun = [] }) (take (l.place - l.initial.place) (drop l.initial.place (slots_in l.lane.index l.rows)))).runs;
  few : l.steps ≤ l.initial.steps + length (along l.past (record { at = l.initial.at; runs = l.initial.runs.items; begun = [] }) (take (l.place - l.initial.place) (drop l.initial.place (slots_in l.lane.index l.rows)))).begun;
  ended : l.ended ≡ true → begins_past l.past (take (l.place - l.initial.place) (drop l.initial.place (slots_in l.lane.index l.rows))) ≡ true;
}

abbrev pub decreases-pages : goal.decreases-pages
decreases-pages g l = length l.rows - l.place
