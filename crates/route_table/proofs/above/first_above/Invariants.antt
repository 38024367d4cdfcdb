use Rattle.std.proofs.Common.{◌≤◌, length}
use Rattle.std.specs.Option.{IfSome}
use Rattle.route_table.specs.Rows.{slots_in}
use Rattle.route_table.specs.Searches.{IsBaseBefore}
use Rattle.route_table.proofs.Shorter.{IsLeft}
use Rattle.route_table.proofs.above.first_above.Given as goal

abbrev pub invariant-shorter : goal.invariant-shorter
invariant-shorter l = record {
  fits : l.len ≤ l.prefix.len;
  inside : l.place ≤ length (slots_in l.lane.index l.rows);
  left : IsLeft (slots_in l.lane.index l.rows) l.prefix l.place l.len;
  before : IfSome l.before (IsBaseBefore (slots_in l.lane.index l.rows) l.place);
}

abbrev pub decreases-shorter : goal.decreases-shorter
decreases-shorter l = l.len
