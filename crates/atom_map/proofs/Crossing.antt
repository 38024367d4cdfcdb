-- Atoms may cross to another thread, and be shared between threads.
use denote.Param.Send.{IsSend, IsSync, sendable}
use Rattle.std.proofs.Crossing.{crosses}
use Rattle.version_pages.proofs.tree.Kid.TheLaws.TheKnot as knot
use Rattle.atom_map.specs.contracts.map.AtomMap.{the_row}
use Rattle.atom_map.specs.contracts.bounds.Bounds as Bounds

pub AtomMap-send : IsSend the_row
AtomMap-send = search (sendable, crosses, knot.crosses) depth 40

pub AtomMap-sync : IsSync the_row
AtomMap-sync = search (sendable, crosses, knot.crosses) depth 40

pub Bounds-send : IsSend Bounds.the_row
Bounds-send = search (sendable, crosses, knot.crosses) depth 40

pub Bounds-sync : IsSync Bounds.the_row
Bounds-sync = search (sendable, crosses, knot.crosses) depth 40
