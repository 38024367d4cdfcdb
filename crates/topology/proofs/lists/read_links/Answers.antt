use Rattle.std.proofs.Common.{arith}
use Rattle.std.proofs.lemmas.Result.{err_from_is_err_and}
use Rattle.topology.proofs.Runs.{links_step, links_stop, links_end}
use Rattle.topology.proofs.lists.read_links.Goals as goal

pub returns-in_err-add_link-clause-refused : goal.returns-in_err-add_link-clause-refused
returns-in_err-add_link-clause-refused c =
    let p = err_from_is_err_and c.from_residual-in_err-add_link.result c.from_residual-in_err-add_link.ensures.1 in
    rw (p.1, p.2) (links_stop c.args.routers.now c.args.tables.now c.args.entries.now c.loop-entry.entry-index c.loop-entry.links c.entry-item.result _ (omega arith) c.entry-item.is c.loop-entry.invariant.so_far
    (rw c.loop-entry.invariant.held at c.in_err-add_link.ensures.refused))

pub loop-entry-preserved : goal.loop-entry-preserved
loop-entry-preserved c = record {
  so_far = links_step c.args.routers.now c.args.tables.now c.args.entries.now c.loop-entry.entry-index c.loop-entry.links c.add_link.new.links c.entry-item.result (omega arith) c.entry-item.is c.loop-entry.invariant.so_far
      (rw c.loop-entry.invariant.held at c.in_ok-add_link.ensures.faultless) c.in_ok-add_link.ensures.said;
  held = rw c.loop-entry.invariant.held at c.in_ok-add_link.ensures.held;
}

pub returns-clause-ok : goal.returns-clause-ok
returns-clause-ok c = links_end c.args.routers.now c.args.tables.now c.args.entries.now c.loop-entry.entry-index c.loop-entry.links (omega arith) c.loop-entry.invariant.so_far
