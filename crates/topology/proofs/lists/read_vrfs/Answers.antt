use Rattle.std.proofs.Common.{◌≡◌, ◌+◌, arith, length, take, map}
use Rattle.std.proofs.lemmas.Result.{err_from_is_err_and}
use Rattle.toml.specs.View.{view}
use Rattle.topology.proofs.VrfRuns.{vrfs_start, vrfs_step, vrfs_stop, vrfs_end}
use Rattle.topology.proofs.lists.read_vrfs.Goals as goal

pub loop-entry-init : goal.loop-entry-init
loop-entry-init c = vrfs_start c.args.names.now c.args.tables.now (map view c.args.entries.now) c.requires.few c.requires.main

pub returns-in_err-add_vrf-clause-refused : goal.returns-in_err-add_vrf-clause-refused
returns-in_err-add_vrf-clause-refused c =
    let p = err_from_is_err_and c.from_residual.result c.from_residual.ensures.1 in
    rw (p.1, p.2) (vrfs_stop c.args.names.now c.len-devices.result c.args.entries.now c.loop-entry.entry-index c.loop-entry.names c.loop-entry.tables c.entry-item.result _ c.len-devices.ensures (omega arith) c.entry-item.is c.loop-entry.invariant
    c.in_err-add_vrf.ensures.refused)

pub loop-entry-preserved : goal.loop-entry-preserved
loop-entry-preserved c =
    vrfs_step c.args.names.now c.len-devices.result c.args.entries.now c.loop-entry.entry-index c.loop-entry.names c.add_vrf.new.names c.loop-entry.tables c.add_vrf.new.tables c.entry-item.result c.len-devices.ensures (omega arith) c.entry-item.is
    c.loop-entry.invariant c.in_ok-add_vrf.ensures.faultless c.in_ok-add_vrf.ensures.named c.in_ok-add_vrf.ensures.said

pub add_vrf-requires-clause-within : goal.add_vrf-requires-clause-within
add_vrf-requires-clause-within c =
    let all : length c.loop-entry.names ≡ length c.args.names.now + length (take c.loop-entry.entry-index (map view c.args.entries.now)) = c.loop-entry.invariant.as_many in
    let count : c.len-devices.result ≡ length c.args.names.now = c.len-devices.ensures in
    omega arith

pub returns-clause-ok : goal.returns-clause-ok
returns-clause-ok c = vrfs_end c.args.names.now c.args.entries.now c.loop-entry.entry-index c.loop-entry.names c.loop-entry.tables (omega arith) c.loop-entry.invariant
