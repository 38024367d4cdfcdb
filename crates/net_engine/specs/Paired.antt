-- How a network's atoms stand beside what routers do: that stands in the order of the atoms, and an atom's rules are those of
-- each router's routes that cover its first address. Nothing here looks at an atom's number.
use Rattle.std.specs.Prelude.{ℕ, true, List, [], ◌∷◌, Option, None, Some, drop, length, map, slice_index_or, ◌≡◌, ◌<◌, ◌^◌}
use Rattle.atom_map.specs.Spans.{AreSpans, Span, is_boundary}
use Rattle.base.specs.Forwarding.{forwarding_at}
use Rattle.dn_model.specs.Routes.{IsTable}
use Rattle.dn_model.specs.Table.{target_in}
use Rattle.net_engine.specs.Version.{Atom}
use Rattle.dn_model.specs.declared.entry.Route.{Route}
use Rattle.base.specs.declared.forwarding_row.ForwardingRow.{ForwardingRow}
use Rattle.dn_model.specs.declared.rule.Rule.{Rule}
use Rattle.base.specs.declared.target.Target.{Target}
use Rattle.base.specs.declared.target.Target.TheVariants.{NoRoute}
use Rattle.target_rows.specs.Labels.{Labels, targets_of}
use Rattle.net_engine.specs.Net.{Net}
use Rattle.net_engine.specs.Routed.{ends_in, rules_covering}

-- each router's rules at an address
abbrev pub owners_at : List (List Route) → ℕ → List (List Rule)
owners_at tables a = map (λ routes. rules_covering routes a) tables

-- the bounds of atoms, each with the targets that stand at its place
abbrev pub rows_with : List Span → List (List Target) → List ForwardingRow
rows_with [] targets = []
rows_with (row ∷ rows) targets =
    record { low = row.low; past = row.past; targets = slice_index_or targets 0 [] } ∷ rows_with rows (drop 1 targets)

-- a row with each router's rules there
abbrev pub owned : List (List Route) → ForwardingRow → Atom
owned tables row = record { row = row; owners = owners_at tables row.low }

-- the atoms in order
abbrev pub atoms_with : List Span → Labels → List (List Route) → List Atom
atoms_with rows labels tables = map (owned tables) (rows_with rows labels.rows)

abbrev pub net_of : ℕ → List Span → Labels → List (List Route) → Net
net_of routers rows labels tables = record { routers = routers; atoms = atoms_with rows labels tables }

-- what a router does with the addresses of a row
abbrev pub does_in : ℕ → Option ForwardingRow → Target
does_in r None = NoRoute
does_in r (Some row) = slice_index_or row.targets r NoRoute

-- and with an address
abbrev pub does_at : List Span → Labels → ℕ → ℕ → Target
does_at rows labels r a = does_in r (forwarding_at (rows_with rows labels.rows) a)

-- each atom has targets of all routers
pub record AreLabelled (rows : List Span) (labels : Labels) : Type 0 where
  pub atoms : AreSpans rows
  pub there : length labels.rows ≡ length rows
  pub wide : (place : ℕ) → place < length rows → length (targets_of labels place) ≡ labels.routers

-- one router's routes begin and end where atoms begin, and the router does what they say
pub record GoAlong (rows : List Span) (labels : Labels) (r : ℕ) (routes : List Route) : Type 0 where
  pub table : IsTable routes
  pub ends : (a : ℕ) → a < 2 ^ 32 → ends_in routes a ≡ true → is_boundary rows a ≡ true
  pub does : (a : ℕ) → a < 2 ^ 32 → does_at rows labels r a ≡ target_in [] routes a

-- so it is with so many routers
pub record ArePaired (routers : ℕ) (rows : List Span) (labels : Labels) (tables : List (List Route)) : Type 0 where
  pub labelled : AreLabelled rows labels
  pub same_routers : labels.routers ≡ routers
  pub each : length tables ≡ routers
  pub along : (r : ℕ) → r < routers → GoAlong rows labels r (slice_index_or tables r [])
