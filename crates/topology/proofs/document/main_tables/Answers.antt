use Rattle.topology.proofs.Runs.{tables_next, tables_end}
use Rattle.topology.proofs.document.main_tables.Goals as goal

pub loop-device-preserved : goal.loop-device-preserved
loop-device-preserved c =
    tables_next c.args.devices.now c.loop-device.tables c.push.new.self c.loop-device.device c.loop-device-test.true c.loop-device.invariant c.in_ok-push.ensures.ok

pub returns : goal.returns
returns c = tables_end c.args.devices.now c.loop-device.tables c.loop-device.device c.loop-device-test.false c.loop-device.invariant
