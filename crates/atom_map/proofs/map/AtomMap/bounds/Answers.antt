use Rattle.atom_map.proofs.Answered.{found-in, bounds-found, high-found, order-found}
use Rattle.atom_map.proofs.map.AtomMap.bounds.Goals as goal

pub returns-clause-row : goal.returns-clause-row
returns-clause-row c = bounds-found c.args.self.now c.self.inside.rows c.self.inside.lows c.place_of-place.result c.read-low.result c.read-row.result c.args.atom c.self.view_is c.self.invariant (found-in c.args.self.now c.self.inside.rows c.place_of-place.result c.read-low.result c.read-row.result c.self.view_is c.self.invariant.atoms c.place_of-place.ensures.inside c.read-row.ensures c.place_of-place.ensures.from c.place_of-place.ensures.to) c.requires c.read-low.ensures

pub returns-clause-order : goal.returns-clause-order
returns-clause-order c = order-found c.args.self.now c.place_of-place.result c.read-low.result c.read-row.result (found-in c.args.self.now c.self.inside.rows c.place_of-place.result c.read-low.result c.read-row.result c.self.view_is c.self.invariant.atoms c.place_of-place.ensures.inside c.read-row.ensures c.place_of-place.ensures.from c.place_of-place.ensures.to)

pub returns-clause-end : goal.returns-clause-end
returns-clause-end c = high-found c.args.self.now c.place_of-place.result c.read-low.result c.read-row.result (found-in c.args.self.now c.self.inside.rows c.place_of-place.result c.read-low.result c.read-row.result c.self.view_is c.self.invariant.atoms c.place_of-place.ensures.inside c.read-row.ensures c.place_of-place.ensures.from c.place_of-place.ensures.to)
