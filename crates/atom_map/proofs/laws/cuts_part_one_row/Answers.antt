use Rattle.atom_map.proofs.Cuts.{atoms-after-cut}
use Rattle.atom_map.proofs.laws.cuts_part_one_row.Goals as goal

pub returns : goal.returns
returns c = atoms-after-cut
