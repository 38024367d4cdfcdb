-- The networks of the trials are networks.
use Rattle.std.proofs.Common.{IsTrue, refl}
use Rattle.dn_model.specs.Topology.{is_sound_topology}
use Rattle.dn_model.specs.declared.topology.Replace.{Replace}
use Rattle.model_trials.specs.Networks.{three, three_and_vrf}

pub three_sound : (first : Replace) → IsTrue (is_sound_topology (three first))
three_sound first = refl

pub three_and_vrf_sound : (first : Replace) → IsTrue (is_sound_topology (three_and_vrf first))
three_and_vrf_sound first = refl
