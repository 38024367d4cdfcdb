use Rattle.atom_map.proofs.Answered.{parted}
use Rattle.atom_map.proofs.search.part.Goals as goal

pub returns-clause-rows : goal.returns-clause-rows
returns-clause-rows c = λ d. parted c.args.rows.now c.replace_by_two.new.self c.args.spot.place c.args.at (record { 0 = c.len-number.result }) c.args.spot.row d c.requires.inside c.requires.row c.in_ok-replace_by_two.ensures
