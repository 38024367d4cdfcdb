use Rattle.std.proofs.Common.{◌-◌, List, length, subst}
use Rattle.std.proofs.lemmas.List.Elements.{All-take}
use Rattle.std.proofs.lemmas.Result.{IfOk-weaker}
use Rattle.dn_model.specs.Entry.{IsEntryOf}
use Rattle.dn_model.specs.LastDelta.{less_last}
use Rattle.dn_model.specs.Network.{IsNetwork, does_in}
use Rattle.dn_model.specs.Table.{does_after}
use Rattle.dn_model.specs.declared.entry.Entry.{Entry}
use Rattle.dn_model.proofs.Moments.{network-after}
use Rattle.dn_model.proofs.SameAnswers.{delta-over}
use Rattle.dn_model.proofs.plain_delta.plain_delta.Goals as goal

pub returns : goal.returns
returns c =
    let t = c.args.t.now in
    let history = c.args.entries.now in
    let first : IsNetwork t (less_last history) _ c.in_ok-before.before = subst (λ (es : List Entry). IsNetwork t es _ c.in_ok-before.before) c.all_but_last.ensures c.in_ok-before.ensures in
    IfOk-weaker c.changes_between.result _ _ (λ changes is.
    delta-over (does_in c.in_ok-before.before) (does_in c.in_ok-after.after) (does_after t (less_last history)) (does_after t history) changes
    (λ r a. network-after t (less_last history) c.in_ok-before.before r a (All-take (IsEntryOf t) (length history - 1) history c.requires) first)
    (λ r a. network-after t history c.in_ok-after.after r a c.requires c.in_ok-after.ensures)
    is) c.changes_between.ensures
