use Rattle.std.proofs.Common.{arith}
use Rattle.std.proofs.lemmas.Result.{err_from_is_err_and}
use Rattle.topology.proofs.Runs.{routers_step, routers_stop, routers_end}
use Rattle.topology.proofs.lists.read_routers.Goals as goal

pub returns-in_err-add_router-clause-refused : goal.returns-in_err-add_router-clause-refused
returns-in_err-add_router-clause-refused c =
    let p = err_from_is_err_and c.from_residual.result c.from_residual.ensures.1 in
    rw (p.1, p.2) (routers_stop c.args.entries.now c.loop-entry.entry-index c.loop-entry.names c.entry-item.result _ (omega arith) c.entry-item.is c.loop-entry.invariant c.in_err-add_router.ensures.refused)

pub loop-entry-preserved : goal.loop-entry-preserved
loop-entry-preserved c =
    routers_step c.args.entries.now c.loop-entry.entry-index c.loop-entry.names c.add_router.new.names c.entry-item.result (omega arith) c.entry-item.is c.loop-entry.invariant c.in_ok-add_router.ensures.faultless c.in_ok-add_router.ensures.said

pub returns-clause-ok : goal.returns-clause-ok
returns-clause-ok c = routers_end c.args.entries.now c.loop-entry.entry-index c.loop-entry.names (omega arith) c.loop-entry.invariant
