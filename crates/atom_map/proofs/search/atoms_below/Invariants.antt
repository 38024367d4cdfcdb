use Rattle.std.proofs.Common.{◌≡◌, ◌++◌, drop, map}
use Rattle.atom_map.specs.Atoms.{atom_of}
use Rattle.atom_map.specs.Index.{first_below}
use Rattle.atom_map.proofs.search.atoms_below.Given as goal

-- the atoms so far and the first of those that are left are all
abbrev pub invariant-loop-i : goal.invariant-loop-i
invariant-loop-i l = l.atoms.items ++ map atom_of (first_below l.hi (drop l.i l.rows)) ≡ map atom_of (first_below l.hi (drop l.from l.rows))
