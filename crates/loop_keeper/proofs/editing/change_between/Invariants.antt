use Rattle.std.proofs.Common.{◌≤◌, ◌-◌}
use Rattle.loop_keeper.specs.Edits.{AreChangedTo}
use Rattle.loop_keeper.proofs.editing.change_between.Given as goal

-- those so far are changed
abbrev pub invariant-places : goal.invariant-places
invariant-places l = record {
  from : l.first ≤ l.place;
  to : l.first ≤ l.end → l.place ≤ l.end;
  still : l.end ≤ l.first → l.place ≤ l.first;
  changed : AreChangedTo l.edit l.first l.place l.initial.segments l.segments;
}

abbrev pub decreases-places : goal.decreases-places
decreases-places l = l.end - l.place
