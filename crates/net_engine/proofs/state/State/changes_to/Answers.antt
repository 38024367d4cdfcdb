use Rattle.std.proofs.Common.{Bool, List, subst, sym}
use Rattle.std.proofs.lemmas.Result.{IfOk-weaker}
use Rattle.net_engine.specs.LinkTurn.{AreMarked}
use Rattle.net_engine.proofs.RowsKept.{form-kept, marked-alike, told-kept}
use Rattle.net_engine.proofs.state.State.changes_to.Goals as goal

pub kept_rows-requires-clause-form : goal.kept_rows-requires-clause-form
kept_rows-requires-clause-form g c = form-kept c.args.self.now c.requires.sound

pub turn_changes-requires-clause-marked : goal.turn_changes-requires-clause-marked
turn_changes-requires-clause-marked g c = subst (λ (ms : List Bool). AreMarked c.args.self.now.down c.args.after.now c.in_ok-rows.rows.rows ms) (sym c.deref.ensures.value)
    (marked-alike c.args.self.now c.args.after.now c.args.link c.in_ok-rows.rows.rows c.in_ok-marks.marks.items c.requires.sound c.in_ok-rows.ensures.rows c.in_ok-marks.ensures c.requires.alike)

pub returns-clause-changes : goal.returns-clause-changes
returns-clause-changes g c = IfOk-weaker c.turn_changes.result _ _ (λ changes is. told-kept c.args.self.now c.args.after.now c.in_ok-rows.rows.rows changes c.in_ok-rows.ensures.rows is) c.turn_changes.ensures.changes
