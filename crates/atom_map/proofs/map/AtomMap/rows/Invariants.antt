use Rattle.std.proofs.Common.{◌≡◌, ◌++◌, drop, map}
use Rattle.atom_map.specs.Atoms.{bounds_of}
use Rattle.atom_map.proofs.map.AtomMap.rows.Given as goal

-- the rows so far and those that are left are all
abbrev pub invariant-loop-i : goal.invariant-loop-i
invariant-loop-i l = l.rows.items ++ map bounds_of (drop l.i l.self-inside.rows) ≡ map bounds_of l.self-inside.rows
