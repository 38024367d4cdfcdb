use Rattle.std.proofs.Common.{arith}
use Rattle.std.proofs.lemmas.Result.{err_from_is_err_and}
use Rattle.dn_model.specs.Topology.{all_ends}
use Rattle.topology.proofs.Runs.{edges_step, edges_stop, edges_end}
use Rattle.topology.proofs.Values.{taken_next}
use Rattle.topology.proofs.lists.read_edges.Goals as goal

pub returns-in_err-add_edge-clause-refused : goal.returns-in_err-add_edge-clause-refused
returns-in_err-add_edge-clause-refused c =
    let p = err_from_is_err_and c.from_residual-in_err-add_edge.result c.from_residual-in_err-add_edge.ensures.1 in
    rw (p.1, p.2) (edges_stop c.args.routers.now c.args.tables.now c.args.links.now c.args.entries.now c.loop-entry.entry-index c.loop-entry.edges c.entry-item.result _ (omega arith) c.entry-item.is c.loop-entry.invariant.so_far
    (rw c.loop-entry.invariant.held at c.in_err-add_edge.ensures.refused))

pub loop-entry-preserved : goal.loop-entry-preserved
loop-entry-preserved c = record {
  so_far = edges_step c.args.routers.now c.args.tables.now c.args.links.now c.args.entries.now c.loop-entry.entry-index c.loop-entry.edges c.add_edge.new.edges c.entry-item.result (omega arith) c.entry-item.is c.loop-entry.invariant.so_far
      (rw c.loop-entry.invariant.held at c.in_ok-add_edge.ensures.faultless) c.in_ok-add_edge.ensures.said;
  held = taken_next c.args.tables.now (all_ends c.args.links.now) _ _ _ _ _ c.loop-entry.invariant.held c.in_ok-add_edge.ensures.held c.in_ok-add_edge.ensures.said;
}

pub returns-clause-ok : goal.returns-clause-ok
returns-clause-ok c = edges_end c.args.routers.now c.args.tables.now c.args.links.now c.args.entries.now c.loop-entry.entry-index c.loop-entry.edges (omega arith) c.loop-entry.invariant.so_far
