use Rattle.dn_model.specs.Topology.{same_end}
use Rattle.dn_model.proofs.Lookups.{lookup-edges}
use Rattle.dn_model.proofs.lookup.port_among_edges.Goals as goal

pub returns-then-is_among_edges : goal.returns-then-is_among_edges
returns-then-is_among_edges c = rw (lookup-edges (same_end c.args.t.now.tables c.args.at) c.args.edges.now, ← c.if-is_among_edges.ensures)

pub returns-else-is_among_edges : goal.returns-else-is_among_edges
returns-else-is_among_edges c = rw (lookup-edges (same_end c.args.t.now.tables c.args.at) c.args.edges.now, ← c.if-is_among_edges.ensures)
