-- The tables of several routers, side by side, and what an update of one of them comes to.
use Rattle.std.specs.Prelude.{ℕ, List, [], IfNone, IfSome, IsPermutation, slice_index_or, ◌≡◌}
use Rattle.dn_model.specs.Table.{after_table_op, prefix_of_op, way_in}
use Rattle.dn_model.specs.declared.entry.Route.{Route}
use Rattle.base.specs.declared.run.Run.{Run}
use Rattle.route_table.specs.Own.{AreOwnRuns, IsTurned, SetsOrHas, TellsNew}
use Rattle.route_table.specs.declared.table_update.TableUpdate.{TableUpdate}
use Rattle.route_table.specs.declared.table_update.Told.{Told}

-- the table at a place
abbrev pub table_at : List (List Route) → ℕ → List Route
table_at tables lane = slice_index_or tables lane []

-- What is told of an update of one of the tables, which becomes what the update makes of it, in some order. Either it does
-- the same everywhere; or it was turned at the own addresses of the update's prefix, of which these are the runs. And
-- whether the update puts a route whose prefix is new to all of the tables.
pub record IsUpdateIn (lane : ℕ) (old new : List (List Route)) (u : TableUpdate) (told : Told) (runs : List Run) : Type 0 where
  pub table : IsPermutation (table_at new lane) (after_table_op u.alone (table_at old lane) u.op)
  pub same : IfNone told.after ((a : ℕ) → way_in (table_at new lane) a ≡ way_in (table_at old lane) a)
  pub turned : IfSome told.after (IsTurned (table_at old lane) (table_at new lane) (prefix_of_op u.op))
  pub own : IfSome told.after (λ _. AreOwnRuns (table_at new lane) (prefix_of_op u.op) runs)
  pub had : IfSome told.after (λ _. SetsOrHas (table_at old lane) u.op)
  pub is_new : TellsNew old u.op told.is_new
