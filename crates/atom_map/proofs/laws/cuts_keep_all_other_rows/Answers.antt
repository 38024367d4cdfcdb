use Rattle.atom_map.proofs.Cuts.{row-after-cut}
use Rattle.atom_map.proofs.laws.cuts_keep_all_other_rows.Goals as goal

pub returns : goal.returns
returns c = λ rows at new a h. row-after-cut 0 rows at new a h.cover
