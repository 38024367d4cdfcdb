use Rattle.topology.proofs.Values.{items_in-items_of}
use Rattle.topology.proofs.value.items.Goals as goal

pub returns-in-Some : goal.returns-in-Some
returns-in-Some c = rw (← c.in-Some.ensures, items_in-items_of, c.as_slice.ensures.value)
