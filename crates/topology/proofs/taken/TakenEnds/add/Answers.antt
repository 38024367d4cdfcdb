use Rattle.topology.specs.Taken.{contains_end}
use Rattle.dn_model.specs.Topology.{device_in}
use Rattle.topology.proofs.Values.{has_end-push}
use Rattle.topology.proofs.taken.TakenEnds.add.Goals as goal

pub invariant_of-self-in-Ok : goal.invariant_of-self-in-Ok
invariant_of-self-in-Ok c =
    λ e. has_end-push c.self.inside.tables.items c.self.inside.ends.items c.push.new.self.items c.args.end e c.device_in-device.result
    (contains_end c.self.inside.found c.self.inside.tables.items e) (contains_end c.insert.new.self c.self.inside.tables.items e)
    (rw c.as_slice.ensures.value at c.device_in-device.ensures) c.in_ok-push.ensures.items (c.self.invariant e) (c.in-Ok.ensures.updates.0 ((device_in c.self.inside.tables.items e.router).0, e.index))
