use Rattle.std.proofs.Common.{◌∙◌, inl, inr, arith}
use Rattle.atom_map.proofs.Answered.{atoms-same, met-found}
use Rattle.atom_map.proofs.Meeting.{no-atoms-met}
use Rattle.atom_map.proofs.map.AtomMap.atoms_in.Goals.{then-lo-hi-via-then-lo-hi, then-lo-hi-via-else-lo-hi+then-lo-ge-END}
use Rattle.atom_map.proofs.map.AtomMap.atoms_in.Goals as goal

pub returns-then-lo-hi : goal.returns-then-lo-hi
returns-then-lo-hi c =
    elim c.then-lo-hi.branch [
      | then-lo-hi-via-then-lo-hi w ↦ c.new.ensures ∙ no-atoms-met c.args.lo c.args.hi c.args.self.now (atoms-same c.args.self.now c.self.inside.rows c.self.view_is c.self.invariant.atoms) (inl (omega arith))
      | then-lo-hi-via-else-lo-hi+then-lo-ge-END w ↦ c.new.ensures ∙ no-atoms-met c.args.lo c.args.hi c.args.self.now (atoms-same c.args.self.now c.self.inside.rows c.self.view_is c.self.invariant.atoms) (inr (omega arith))
    ]

pub returns : goal.returns
returns c = c.from_vec.ensures ∙ met-found c.args.self.now c.self.inside.rows c.in_ok-atoms.atoms.items c.place_of-from.result c.args.lo c.args.hi c.self.view_is c.self.invariant.atoms c.place_of-from.ensures.inside c.place_of-from.ensures.from c.place_of-from.ensures.to (omega arith) c.in_ok-atoms.ensures
