-- Labels may cross to another thread, and be shared between threads.
use denote.Param.Send.{IsSend, IsSync, sendable}
use Rattle.std.proofs.Crossing.{crosses}
use Rattle.version_pages.proofs.tree.Kid.TheLaws.TheKnot as knot
use Rattle.target_rows.proofs.Crossing.{CodeBook-send, CodeBook-sync}
use Rattle.edge_labels.specs.contracts.atom_set.AtomSet as AtomSet
use Rattle.edge_labels.specs.contracts.label_graph.LabelGraph as LabelGraph

pub AtomSet-send : IsSend AtomSet.the_row
AtomSet-send = search (sendable, crosses, knot.crosses) depth 40

pub AtomSet-sync : IsSync AtomSet.the_row
AtomSet-sync = search (sendable, crosses, knot.crosses) depth 40

pub LabelGraph-send : IsSend LabelGraph.the_row
LabelGraph-send = search (AtomSet-send, AtomSet-sync, CodeBook-send, sendable, crosses, knot.crosses) depth 40

pub LabelGraph-sync : IsSync LabelGraph.the_row
LabelGraph-sync = search (AtomSet-send, AtomSet-sync, CodeBook-sync, sendable, crosses, knot.crosses) depth 40
