-- A VRF is of the device that has its table.
use Rattle.std.proofs.Common.{◌∙◌, ap}
use Rattle.dn_model.specs.Tables.{device_of}
use Rattle.route_feed.proofs.TableLemmas.{router-own}
use Rattle.route_feed.proofs.device.router_by.Goals as goal

pub returns-clause-own : goal.returns-clause-own
returns-clause-own c =
    ap (device_of c.args.topology.now) c.unwrap_or.ensures
    ∙ router-own c.args.topology.now c.args.device c.args.table c.vrf.result c.vrf.ensures
