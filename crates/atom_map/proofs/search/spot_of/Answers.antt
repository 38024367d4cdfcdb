use Rattle.atom_map.proofs.Answered.{atom-read}
use Rattle.atom_map.proofs.search.spot_of.Goals as goal

pub returns : goal.returns
returns c = atom-read c.args.rows.now c.place_of-place.result c.args.a c.read-row.result c.place_of-place.ensures.inside c.read-row.ensures c.place_of-place.ensures.from c.place_of-place.ensures.to
