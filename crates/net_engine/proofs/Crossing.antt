-- A version, and what it shows, may cross to another thread, and be shared between threads. (A function that asks this of its argument in a test
-- would say the same, and its goal computes too long.)
use denote.Param.Send.{IsSend, IsSync, sendable}
use Rattle.std.proofs.Crossing.{crosses}
use Rattle.std.proofs.MapsCrossing as maps
use Rattle.atom_map.proofs.Crossing.{Bounds-send, Bounds-sync}
use Rattle.target_rows.proofs.Crossing.{TargetRows-send, TargetRows-sync}
use Rattle.route_table.proofs.Crossing.{RouteTables-send, RouteTables-sync}
use Rattle.delta_graph.specs.contracts.delta.Delta as Delta
use Rattle.net_engine.specs.contracts.kept_rows.KeptRows as KeptRows
use Rattle.net_engine.specs.contracts.link_set.LinkSet as LinkSet
use Rattle.net_engine.specs.contracts.router_group.RouterGroup as RouterGroup
use Rattle.net_engine.specs.contracts.router_tables.RouterTables as RouterTables
use Rattle.net_engine.specs.contracts.shown.Shown as Shown
use Rattle.net_engine.specs.contracts.version.Version as Version

RouterGroup-send : IsSend RouterGroup.the_row
RouterGroup-send = search (RouteTables-send, sendable, crosses) depth 40

RouterGroup-sync : IsSync RouterGroup.the_row
RouterGroup-sync = search (RouteTables-sync, sendable, crosses) depth 40

RouterTables-send : IsSend RouterTables.the_row
RouterTables-send = search (RouterGroup-send, sendable, crosses) depth 40

RouterTables-sync : IsSync RouterTables.the_row
RouterTables-sync = search (RouterGroup-sync, sendable, crosses) depth 40

Delta-send : IsSend Delta.the_row
Delta-send = search (sendable, crosses) depth 40

Delta-sync : IsSync Delta.the_row
Delta-sync = search (sendable, crosses) depth 40

KeptRows-send : IsSend KeptRows.the_row
KeptRows-send = search (Bounds-send, TargetRows-send, sendable, crosses, maps.crosses) depth 40

KeptRows-sync : IsSync KeptRows.the_row
KeptRows-sync = search (Bounds-sync, TargetRows-sync, sendable, crosses, maps.crosses) depth 40

LinkSet-send : IsSend LinkSet.the_row
LinkSet-send = search (sendable, crosses) depth 40

LinkSet-sync : IsSync LinkSet.the_row
LinkSet-sync = search (sendable, crosses) depth 40

pub Version-send : IsSend Version.the_row
Version-send = search (Bounds-send, Delta-send, LinkSet-send, RouterTables-send, TargetRows-send, sendable, crosses, maps.crosses) depth 40 fits 100000

pub Version-sync : IsSync Version.the_row
Version-sync = search (Bounds-sync, Delta-sync, LinkSet-sync, RouterTables-sync, TargetRows-sync, sendable, crosses, maps.crosses) depth 40 fits 100000

pub Shown-send : IsSend Shown.the_row
Shown-send = search (KeptRows-send, LinkSet-send, sendable, crosses, maps.crosses) depth 40

pub Shown-sync : IsSync Shown.the_row
Shown-sync = search (KeptRows-sync, LinkSet-sync, sendable, crosses, maps.crosses) depth 40
