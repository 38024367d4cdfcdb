use Rattle.route_table.specs.Rows.{slots_in}
use Rattle.route_table.specs.Slots.{key_of, slot_key}
use Rattle.route_table.proofs.Shorter.{found-place}
use Rattle.route_table.proofs.update.done_above.Goals as goal

pub first_above-requires-clause-place : goal.first_above-requires-clause-place
first_above-requires-clause-place g c = found-place slot_key (slots_in c.args.lane.index c.args.rows.now) (key_of c.args.prefix) c.args.made.place c.requires.found
