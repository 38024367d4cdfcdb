-- Rows, and books of codes, may cross to another thread, and be shared between threads.
use denote.Param.Send.{IsSend, IsSync, sendable}
use Rattle.std.proofs.Crossing.{crosses}
use Rattle.std.proofs.MapsCrossing as maps
use Rattle.version_pages.proofs.tree.Kid.TheLaws.TheKnot as knot
use Rattle.target_rows.specs.contracts.codes.Edge as Edge
use Rattle.target_rows.specs.contracts.code_book.CodeBook as CodeBook
use Rattle.target_rows.specs.contracts.rows.TargetRows as TargetRows

Edge-send : IsSend Edge.the_row
Edge-send = search (sendable) depth 40

Edge-sync : IsSync Edge.the_row
Edge-sync = search (sendable) depth 40

pub CodeBook-send : IsSend CodeBook.the_row
CodeBook-send = search (Edge-send, Edge-sync, maps.BTreeMap-send, maps.BTreeMap-sync, sendable, crosses, knot.crosses) depth 60 fits 100000

pub CodeBook-sync : IsSync CodeBook.the_row
CodeBook-sync = search (Edge-send, Edge-sync, maps.BTreeMap-send, maps.BTreeMap-sync, sendable, crosses, knot.crosses) depth 60 fits 100000

pub TargetRows-send : IsSend TargetRows.the_row
TargetRows-send = search (CodeBook-send, sendable, crosses, knot.crosses) depth 40

pub TargetRows-sync : IsSync TargetRows.the_row
TargetRows-sync = search (CodeBook-sync, sendable, crosses, knot.crosses) depth 40
