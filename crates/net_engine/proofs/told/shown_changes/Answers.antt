use Rattle.std.proofs.Common.{rules}
use Rattle.std.proofs.lemmas.List.{get_or_default}
use Rattle.base.specs.Delta.{AreChanges}
use Rattle.net_engine.proofs.Telling.{shown-at, shown-same}
use Rattle.net_engine.proofs.told.shown_changes.Goals as goal

pub returns-then-is_empty-clause-changes : goal.returns-then-is_empty-clause-changes
returns-then-is_empty-clause-changes c =
    let form : AreChanges c.args.told = search rules in
    shown-same c.args.down.now c.args.told (search (rules, c.is_empty.ensures, c.if-is_empty.true)) form

pub loop-change-preserved : goal.loop-change-preserved
loop-change-preserved c = shown-at c.args.down.now c.changes-change-items.result.now c.loop-change.shown c.tell_shown.new.delta c.loop-change.change-index _ c.loop-change-test.true (get_or_default c.changes-change-items.result.now c.loop-change.change-index _ _ c.loop-change-test.true) c.loop-change.invariant c.in_ok-tell_shown.ensures
