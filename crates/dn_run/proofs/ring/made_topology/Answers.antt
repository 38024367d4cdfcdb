use Rattle.dn_run.proofs.RingLemmas.{ring_sound}
use Rattle.dn_run.proofs.ring.made_topology.Goals as goal

pub invariant_of-result : goal.invariant_of-result
invariant_of-result c = record { sound = rw (c.in_ok-routers.ensures, c.in_ok-tables.ensures, c.in_ok-links.ensures, c.in_ok-edges.ensures) ring_sound }
