-- The labels of edges: an edge's label is the set of the atoms that are forwarded over it (Delta-net, NSDI 2017). Here each
-- target of a router has a label, that of no route and of dropped packets too.
use Rattle.std.specs.Prelude.{ℕ, List, [], ◌∷◌, ◌++◌, length, slice_set, IsTrue, ◌≡◌, ◌<◌, ◌↔◌}
use Rattle.std.specs.List.Sorted.{IsStrictlyIncreasing}
use Rattle.base.specs.declared.target.Target.{Target}
use Rattle.edge_labels.specs.Atoms.{has_atom}
use Rattle.target_rows.specs.Labels.{Labels, target_at, targets_of}

-- one router does something else with one atom, and nothing else changes
abbrev pub moved : Labels → ℕ → ℕ → Target → Labels
moved g r a after = record { routers = g.routers; rows = slice_set g.rows a (slice_set (targets_of g a) r after) }

-- an atom of the next number is added, with which each router does what it does with an old one
abbrev pub inherited : Labels → ℕ → Labels
inherited g from = record { routers = g.routers; rows = g.rows ++ targets_of g from ∷ [] }

-- the atoms that have this target at this router, in ascending order
pub record IsLabel (g : Labels) (r : ℕ) (t : Target) (label : List ℕ) : Type 0 where
  pub ascending : IsStrictlyIncreasing label
  pub exact : (a : ℕ) → IsTrue (has_atom label a) ↔ ((a < length g.rows) × (target_at g r a ≡ t))
