-- What is kept may cross to another thread, and be shared between threads.
use denote.Param.Send.{IsSend, IsSync, sendable}
use Rattle.std.proofs.Crossing.{crosses}
use Rattle.version_pages.proofs.tree.Kid.TheLaws.TheKnot as knot
use Rattle.loop_keeper.specs.contracts.kept_loops.KeptLoops as KeptLoops
use Rattle.loop_keeper.specs.contracts.segment.Segment as Segment

Segment-send : IsSend Segment.the_row
Segment-send = search (sendable, crosses) depth 60 fits 100000

Segment-sync : IsSync Segment.the_row
Segment-sync = search (sendable, crosses) depth 60 fits 100000

pub KeptLoops-send : IsSend KeptLoops.the_row
KeptLoops-send = search (Segment-send, Segment-sync, sendable, crosses, knot.crosses) depth 40

pub KeptLoops-sync : IsSync KeptLoops.the_row
KeptLoops-sync = search (Segment-send, Segment-sync, sendable, crosses, knot.crosses) depth 40
