-- What routers do with atoms.
use Rattle.std.specs.Prelude.{ℕ, List, [], ◌∷◌, ◌+◌, ◌-◌, ◌++◌, drop, insert, map, replicate, slice_index_or, slice_set, take}
use Rattle.base.specs.declared.target.Target.{Target}
use Rattle.base.specs.declared.target.Target.TheVariants.{NoRoute}

-- How many routers there are, and for each atom the targets by router: either by the atom's number, from 0, or by its place
-- in the order of addresses. Numbers may be freed later, and used again: what stands at a number that no atom has means
-- nothing.
pub record Labels : Type 0 where
  pub routers : ℕ
  pub rows : List (List Target)

-- what the routers do with an atom
abbrev pub targets_of : Labels → ℕ → List Target
targets_of g a = slice_index_or g.rows a []

-- what a router does with an atom
abbrev pub target_at : Labels → ℕ → ℕ → Target
target_at g r a = slice_index_or (targets_of g a) r NoRoute

-- a number of routers and the one atom 0, for which none of them has a route
abbrev pub first_labels : ℕ → Labels
first_labels n = record { routers = n; rows = replicate n NoRoute ∷ [] }

-- one router does something else with the atoms at the places from `first` up to, and without, `past`, and nothing else changes
abbrev pub moved_run : Labels → ℕ → ℕ → ℕ → Target → Labels
moved_run g r first past after = record {
  routers = g.routers;
  rows = take first g.rows ++ (map (λ targets. slice_set targets r after) (take (past - first) (drop first g.rows)) ++ drop past g.rows);
}

-- the atom at a place is cut in two: with the one that comes to stand behind it each router does what it does with the whole
abbrev pub parted : Labels → ℕ → Labels
parted g i = record { routers = g.routers; rows = insert g.rows (i + 1) (targets_of g i) }
