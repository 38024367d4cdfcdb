use Rattle.dn_model.specs.LastDelta.{less_last}
use Rattle.dn_model.specs.Table.{does_after}
use Rattle.base.proofs.DeltaOnce.{delta-once}
use Rattle.dn_model.proofs.laws.changes_are_unique.Goals as goal

pub returns : goal.returns
returns c = λ t history. delta-once (does_after t (less_last history)) (does_after t history)
