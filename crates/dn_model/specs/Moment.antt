-- Routers at a moment: their routes and their devices' objects.
use Rattle.std.specs.Prelude.{ℕ, List, Some, ◌≡◌, length, slice_get}
use Rattle.base.specs.Links.{without}
use Rattle.dn_model.specs.Table.{objects, table, target_in}
use Rattle.dn_model.specs.declared.entry.Entry.{Entry}
use Rattle.base.specs.declared.ids.LinkId.{LinkId}
use Rattle.base.specs.declared.ids.RouterId.{RouterId}
use Rattle.dn_model.specs.declared.moment.Moment.{Moment}
use Rattle.base.specs.declared.target.Target.{Target}
use Rattle.dn_model.specs.declared.topology.Topology.{Topology}

-- what a router does then, where these links are down
abbrev pub does_then : List LinkId → Moment → ℕ → Target
does_then down m a = without down (target_in m.objects.items m.routes a)

-- a router after a history
pub record IsMoment (t : Topology) (history : List Entry) (r : RouterId) (m : Moment) : Type 0 where
  pub routes : m.routes ≡ table t history r
  pub objects : m.objects.items ≡ objects t history r

-- these are routers after a history, by their numbers
abbrev pub AreMomentsOf : Topology → List Entry → List Moment → Type 0
AreMomentsOf t history moments =
    (i : ℕ) (m : Moment) → slice_get moments i ≡ Some m → IsMoment t history (record { 0 = i }) m

-- all routers of a network after a history
pub record AreMoments (t : Topology) (history : List Entry) (moments : List Moment) : Type 0 where
  pub count : length moments ≡ length t.routers
  pub each : AreMomentsOf t history moments
