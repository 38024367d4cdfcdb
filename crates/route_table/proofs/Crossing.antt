-- Routing tables may cross to another thread, and be shared between threads.
use denote.Param.Send.{IsSend, IsSync, sendable}
use Rattle.std.proofs.Crossing.{crosses}
use Rattle.version_pages.proofs.tree.Kid.TheLaws.TheKnot as knot
use Rattle.route_table.specs.contracts.rows.PrefixRow as PrefixRow
use Rattle.route_table.specs.contracts.table.RouteTable as RouteTable
use Rattle.route_table.specs.contracts.tables.RouteTables as RouteTables
use Rattle.route_table.specs.contracts.targets.TargetsByMetric as TargetsByMetric

TargetsByMetric-send : IsSend TargetsByMetric.the_row
TargetsByMetric-send = search (sendable, crosses, knot.crosses) depth 60 fits 100000

TargetsByMetric-sync : IsSync TargetsByMetric.the_row
TargetsByMetric-sync = search (sendable, crosses, knot.crosses) depth 60 fits 100000

PrefixRow-send : IsSend PrefixRow.the_row
PrefixRow-send = search (TargetsByMetric-send, sendable, crosses) depth 40

PrefixRow-sync : IsSync PrefixRow.the_row
PrefixRow-sync = search (TargetsByMetric-sync, sendable, crosses) depth 40

pub RouteTable-send : IsSend RouteTable.the_row
RouteTable-send = search (PrefixRow-send, PrefixRow-sync, sendable, crosses, knot.crosses) depth 40

pub RouteTable-sync : IsSync RouteTable.the_row
RouteTable-sync = search (PrefixRow-send, PrefixRow-sync, sendable, crosses, knot.crosses) depth 40

pub RouteTables-send : IsSend RouteTables.the_row
RouteTables-send = search (PrefixRow-send, PrefixRow-sync, sendable, crosses, knot.crosses) depth 40

pub RouteTables-sync : IsSync RouteTables.the_row
RouteTables-sync = search (PrefixRow-send, PrefixRow-sync, sendable, crosses, knot.crosses) depth 40
