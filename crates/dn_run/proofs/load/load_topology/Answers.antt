use Rattle.dn_run.proofs.LoadLemmas.{loads-topology, called-read}
use Rattle.dn_run.proofs.load.load_topology.Goals as goal

pub returns-in-Ok-clause-loads : goal.returns-in-Ok-clause-loads
returns-in-Ok-clause-loads g c =
    loads-topology c.topology_in.result _ _ _ _ _ c.in-Ok.ensures.read (rw c.as_slice.ensures.value at c.topology_in.ensures)

pub returns-in-Ok-clause-memory : goal.returns-in-Ok-clause-memory
returns-in-Ok-clause-memory g c = called-read c.topology_in.result _ _ _ _ _ c.in-Ok.ensures.read
