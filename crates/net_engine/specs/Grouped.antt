-- The tables of all routers, four in a group.
use Rattle.std.specs.Prelude.{ℕ, List, [], All, length, slice_index_or, take, ◌≡◌, ◌≤◌, ◌*◌}
use Rattle.std.specs.List.{flat_map}
use Rattle.dn_model.specs.declared.entry.Route.{Route}

-- the tables of so many routers, in order: those of the first group, then those of the next
abbrev pub tables_in : ℕ → List (List (List Route)) → List (List Route)
tables_in routers groups = take routers (flat_map (λ group. group) groups)

-- each group has four tables, there are groups for so many routers, and the tables beyond theirs have no routes
pub record AreGroups (routers : ℕ) (groups : List (List (List Route))) : Type 0 where
  pub four : All (λ group. length group ≡ 4) groups
  pub enough : routers ≤ length groups * 4
  pub rest : (r : ℕ) → routers ≤ r → slice_index_or (flat_map (λ group. group) groups) r [] ≡ []
