use Rattle.route_table.proofs.Listed.{slot-more}
use Rattle.route_table.proofs.table.push_run.Goals as goal

pub loop-row-preserved : goal.loop-row-preserved
loop-row-preserved c = slot-more 0 c.args.run.now c.loop-row.row-index c.row-item.result c.args.routes.now.items c.loop-row.routes.items c.push_slot.new.routes.items c.loop-row-test.true c.row-item.is c.loop-row.invariant c.in_ok-push_slot.ensures
