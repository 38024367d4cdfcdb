-- Routers that go on over a link.
use Rattle.std.specs.Prelude.{ℕ, Bool, true, false, List, length, slice_index_or, ◌≡◌, ◌<◌}
use Rattle.base.specs.Reach.{is_over}
use Rattle.base.specs.declared.ids.LinkId.{LinkId}
use Rattle.target_rows.specs.Labels.{Labels, target_at}

-- each router that goes on over a link at an atom is marked, by its number; another one may be
pub record MarksOver (g : Labels) (l : LinkId) (marks : List Bool) : Type 0 where
  pub room : length marks ≡ g.routers
  pub marked : (r place : ℕ) → r < g.routers → place < length g.rows → is_over l (target_at g r place) ≡ true
      → slice_index_or marks r false ≡ true
