-- The table that stands there is the device's.
use Rattle.std.proofs.Common.{sym}
use Rattle.route_feed.proofs.TableLemmas.{vrf-at}
use Rattle.route_feed.proofs.device.vrf_at.Goals as goal

pub returns-in-Some : goal.returns-in-Some
returns-in-Some c =
    vrf-at c.args.topology.now c.args.device c.args.table c.args.place c.as_slice.result.now c.in-Some.found.now c.requires
    c.as_slice.ensures.value (sym c.in-Some.ensures.lookup.0) c.in-Some.ensures.lookup.1 c.if-found-device.true c.if-found-table.true
