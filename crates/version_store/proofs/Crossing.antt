-- A snapshot and a store may cross to another thread, and be shared between threads.
use denote.Param.Send.{IsSend, IsSync, sendable}
use Rattle.std.proofs.Crossing.{crosses}
use Rattle.version_pages.proofs.tree.Kid.TheLaws.TheKnot as knot
use Rattle.dn_model.specs.contracts.entry.Posted as Posted
use Rattle.dn_model.specs.contracts.topology.Topology as Topology
use Rattle.delta_graph.specs.contracts.delta.Delta as Delta
use Rattle.loop_keeper.proofs.Crossing.{KeptLoops-send, KeptLoops-sync}
use Rattle.net_engine.proofs.Crossing.{Shown-send, Shown-sync, Version-send, Version-sync}
use Rattle.version_store.specs.contracts.snapshot.Snapshot as Snapshot
use Rattle.version_store.specs.contracts.store.Store as Store

Topology-send : IsSend Topology.the_row
Topology-send = search (sendable, crosses) depth 40

Topology-sync : IsSync Topology.the_row
Topology-sync = search (sendable, crosses) depth 40

Delta-send : IsSend Delta.the_row
Delta-send = search (sendable, crosses) depth 40

Delta-sync : IsSync Delta.the_row
Delta-sync = search (sendable, crosses) depth 40

Posted-send : IsSend Posted.the_row
Posted-send = search (sendable, crosses) depth 60 fits 100000

Posted-sync : IsSync Posted.the_row
Posted-sync = search (sendable, crosses) depth 60 fits 100000

pub Snapshot-send : IsSend Snapshot.the_row
Snapshot-send = search (Shown-send, KeptLoops-send, Topology-send, Topology-sync, Delta-send, Delta-sync, Posted-send, Posted-sync, sendable, crosses, knot.crosses) depth 40

pub Snapshot-sync : IsSync Snapshot.the_row
Snapshot-sync = search (Shown-sync, KeptLoops-sync, Topology-send, Topology-sync, Delta-send, Delta-sync, Posted-send, Posted-sync, sendable, crosses, knot.crosses) depth 40

pub Store-send : IsSend Store.the_row
Store-send = search (Version-send, KeptLoops-send, Topology-send, Topology-sync, Delta-send, Delta-sync, Posted-send, Posted-sync, sendable, crosses, knot.crosses) depth 40

pub Store-sync : IsSync Store.the_row
Store-sync = search (Version-sync, KeptLoops-sync, Topology-send, Topology-sync, Delta-send, Delta-sync, Posted-send, Posted-sync, sendable, crosses, knot.crosses) depth 40
