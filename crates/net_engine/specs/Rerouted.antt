-- What the steps of an update make of the labels, and what is told of it.
use Rattle.std.specs.Prelude.{ℕ, true, false, [], List, None, length, slice_index_or, ◌∷◌, ◌≡◌, ◌+◌, ◌<◌, ◌≤◌, ◌^◌}
use Rattle.std.specs.List.{list_any}
use Rattle.atom_map.specs.Spans.{Span, is_boundary}
use Rattle.base.specs.Delta.{AreChanges, TellsChange, change_at}
use Rattle.base.specs.Rows.{is_within}
use Rattle.base.specs.Runs.{holds}
use Rattle.dn_model.specs.Table.{target_in}
use Rattle.base.specs.declared.change.Change.{Change}
use Rattle.dn_model.specs.declared.entry.Route.{Route}
use Rattle.base.specs.declared.ids.RouterId.{RouterId}
use Rattle.base.specs.declared.run.Run.{Run}
use Rattle.base.specs.declared.target.Target.{Target}
use Rattle.target_rows.specs.Labels.{Labels}
use Rattle.net_engine.specs.Paired.{AreLabelled, does_at}

-- an atom begins at an address, and has this place
pub record AtomBegins (rows : List Span) (place at : ℕ) : Type 0 where
  pub inside : place < length rows
  pub low : (d : Span) → (slice_index_or rows place d).low ≡ at

-- so many atoms begin below an address where one begins, and all do below the end of all addresses
pub record AtomsEnd (rows : List Span) (place past : ℕ) : Type 0 where
  pub inside : place ≤ length rows
  pub below : past < 2 ^ 32 → AtomBegins rows place past
  pub all : 2 ^ 32 ≤ past → place ≡ length rows

-- a router does something with the addresses of a span, and nothing else changes
pub record IsRelabelled (rows : List Span) (x y : Labels) (r lo past : ℕ) (after : Target) : Type 0 where
  pub labelled : AreLabelled rows y
  pub routers : y.routers ≡ x.routers
  pub here : (a : ℕ) → lo ≤ a → a < past → does_at rows y r a ≡ after
  pub away : (a : ℕ) → is_within lo past a ≡ false → does_at rows y r a ≡ does_at rows x r a
  pub others : (q a : ℕ) → (q ≡ r → ⊥) → does_at rows y q a ≡ does_at rows x q a

-- atoms begin where runs begin, and where they end
abbrev pub RunsOfAtoms : List Span → List Run → Type 0
RunsOfAtoms rows [] = Unit {0}
RunsOfAtoms rows (x ∷ runs) = (is_boundary rows x.lo ≡ true) × (x.hi + 1 < 2 ^ 32 → is_boundary rows (x.hi + 1) ≡ true) × RunsOfAtoms rows runs

-- A router does something with the addresses of some runs, and nothing else changes; where that is something else than
-- before it is told.
pub record IsMoved (rows : List Span) (x y : Labels) (now : List Change) (r : RouterId) (runs : List Run) (after : Target) : Type 0 where
  pub labelled : AreLabelled rows y
  pub routers : y.routers ≡ x.routers
  pub here : (a : ℕ) → list_any (holds a) runs ≡ true → does_at rows y r.0 a ≡ after
  pub away : (a : ℕ) → list_any (holds a) runs ≡ false → does_at rows y r.0 a ≡ does_at rows x r.0 a
  pub others : (q a : ℕ) → (q ≡ r.0 → ⊥) → does_at rows y q a ≡ does_at rows x q a
  pub form : AreChanges now
  pub tells : (a : ℕ) → TellsChange (does_at rows x r.0 a) (does_at rows y r.0 a) (change_at now r a)
  pub changes : (q : RouterId) (a : ℕ) → (q.0 ≡ r.0 → ⊥) → change_at now q a ≡ None

-- An update was made to a router's routes: the router does what they say now, nothing else changes, and it is told where it
-- does something else than before.
pub record IsRerouted (rows : List Span) (x y : Labels) (old new : List Route) (now : List Change) (r : RouterId) : Type 0 where
  pub labelled : AreLabelled rows y
  pub routers : y.routers ≡ x.routers
  pub does : (a : ℕ) → a < 2 ^ 32 → does_at rows y r.0 a ≡ target_in [] new a
  pub others : (q a : ℕ) → (q ≡ r.0 → ⊥) → does_at rows y q a ≡ does_at rows x q a
  pub form : AreChanges now
  pub tells : (a : ℕ) → a < 2 ^ 32 → TellsChange (target_in [] old a) (target_in [] new a) (change_at now r a)
  pub changes : (q : RouterId) (a : ℕ) → (q.0 ≡ r.0 → ⊥) → change_at now q a ≡ None
