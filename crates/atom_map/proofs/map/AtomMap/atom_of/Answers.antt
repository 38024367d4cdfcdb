use Rattle.atom_map.proofs.Answered.{found-in, atom-found, below-found}
use Rattle.atom_map.proofs.map.AtomMap.atom_of.Goals as goal

pub returns-clause-atom : goal.returns-clause-atom
returns-clause-atom c = atom-found c.args.self.now c.place_of-place.result c.args.a c.read.result (found-in c.args.self.now c.self.inside.rows c.place_of-place.result c.args.a c.read.result c.self.view_is c.self.invariant.atoms c.place_of-place.ensures.inside c.read.ensures c.place_of-place.ensures.from c.place_of-place.ensures.to)

pub returns-clause-there : goal.returns-clause-there
returns-clause-there c = below-found c.args.self.now c.place_of-place.result c.args.a c.read.result (found-in c.args.self.now c.self.inside.rows c.place_of-place.result c.args.a c.read.result c.self.view_is c.self.invariant.atoms c.place_of-place.ensures.inside c.read.ensures c.place_of-place.ensures.from c.place_of-place.ensures.to)
