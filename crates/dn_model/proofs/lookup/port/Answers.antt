use Rattle.dn_model.proofs.Lookups.{port_within}
use Rattle.dn_model.proofs.lookup.port.Goals as goal

pub returns-clause-within : goal.returns-clause-within
returns-clause-within c = rw c.what_is_at.ensures (port_within c.args.topology.now c.args.router c.args.index)
