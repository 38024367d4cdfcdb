use Rattle.dn_model.proofs.Lookups.{port_of-parts}
use Rattle.dn_model.proofs.lookup.what_is_at.Goals as goal

pub returns-in-Some : goal.returns-in-Some
returns-in-Some c = rw (port_of-parts c.args.topology.now c.args.at.router c.args.at.index, ← c.as_slice.ensures.value, ← c.in-Some.ensures)

pub returns-in-None : goal.returns-in-None
returns-in-None c =
    rw (port_of-parts c.args.topology.now c.args.at.router c.args.at.index, ← c.as_slice.ensures.value, ← c.port_among_links.ensures, c.in-None.is, ← c.as_slice-in-None.ensures.value)
    c.port_among_edges.ensures
