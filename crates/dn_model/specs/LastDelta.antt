-- What the last entry of a history changes.
use Rattle.std.specs.Prelude.{List, length, take, ◌-◌}
use Rattle.dn_model.specs.Table.{does_after}
use Rattle.base.specs.declared.change.Change.{Change}
use Rattle.dn_model.specs.declared.entry.Entry.{Entry}
use Rattle.dn_model.specs.declared.topology.Topology.{Topology}
use Rattle.base.specs.Delta.{IsDelta}

-- a history without its last entry
abbrev pub less_last : List Entry → List Entry
less_last history = take (length history - 1) history

-- the changes that the last entry of a history makes, which are none for the empty history
abbrev pub IsDeltaOf : Topology → List Entry → List Change → Type 0
IsDeltaOf t history changes = IsDelta (does_after t (less_last history)) (does_after t history) changes
