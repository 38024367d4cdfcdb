use Rattle.std.proofs.Common.{◌≡◌, ◌++◌, drop}
use Rattle.dn_formats.specs.TopologyText.{main_tables_from, main_tables}
use Rattle.topology.proofs.document.main_tables.Given as goal

abbrev pub invariant-loop-device : goal.invariant-loop-device
invariant-loop-device l = l.tables ++ main_tables_from l.device (drop l.device l.devices) ≡ main_tables l.devices
