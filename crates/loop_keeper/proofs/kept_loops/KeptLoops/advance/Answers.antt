use Rattle.std.proofs.Common.{◌≡◌, List, length, sym, subst, arith}
use Rattle.std.proofs.lemmas.List.{nil_from_length}
use Rattle.std.proofs.lemmas.Result.{on_ok_weaker}
use Rattle.base.specs.Forwarding.{does}
use Rattle.base.specs.declared.change.Change.{Change}
use Rattle.loop_keeper.specs.Edits.{AreEdited, AreTakenOut}
use Rattle.loop_keeper.specs.Finding.{AllTellAfter, FindTouched}
use Rattle.loop_keeper.specs.Kept.{AreKept, AreSegments, Kept}
use Rattle.loop_keeper.proofs.Advancing.{advanced, advanced-idle}
use Rattle.loop_keeper.proofs.Starting.{tell-after}
use Rattle.loop_keeper.proofs.kept_loops.KeptLoops.advance.Goals as goal

pub returns-then-not-are_met-clause-kept : goal.returns-then-not-are_met-clause-kept
returns-then-not-are_met-clause-kept g c = λ before kept delta.
    let A : List Change → Type 0 = λ v. AllTellAfter (does (g.V.LabelView.rows c.args.view.now)) v in
    let F : List Change → Type 0 = λ v. FindTouched (does (g.V.LabelView.rows c.args.view.now)) v c.in_ok-search.search.found.items in
    let T : List Change → Type 0 = λ v. AreTakenOut v c.args.self.now c.args.self.now in
    let O : List Kept → Type 0 = λ v. AreSegments v → AreTakenOut c.changes-changes.result.now v v in
    let tell : AllTellAfter (does (g.V.LabelView.rows c.args.view.now)) c.changes-changes.result.now = subst A (sym c.changes-changes.ensures.value) (tell-after before (does (g.V.LabelView.rows c.args.view.now)) c.args.delta.now delta) in
    let none : length c.in_ok-search.search.found.items ≡ 0 = grind (arith, c.is_empty.ensures, c.if-is_empty.true) in
    let K : List Kept → Type 0 = λ v. AreKept (does (g.V.LabelView.rows c.args.view.now)) v in
    subst K (sym c.self.view_is) (advanced-idle before (does (g.V.LabelView.rows c.args.view.now)) c.args.delta.now c.in_ok-search.search.found.items c.args.self.now kept delta
    (subst F c.changes-changes.ensures.value (c.in_ok-search.ensures.all tell)) (nil_from_length c.in_ok-search.search.found.items none)
    (subst T c.changes-changes.ensures.value (subst O c.self.view_is (λ form. c.are_met.ensures c.if-not-are_met.true form) kept.form)))

pub returns-clause-kept : goal.returns-clause-kept
returns-clause-kept g c = on_ok_weaker c.change.result (λ edited before kept delta.
    let A : List Change → Type 0 = λ v. AllTellAfter (does (g.V.LabelView.rows c.args.view.now)) v in
    let F : List Change → Type 0 = λ v. FindTouched (does (g.V.LabelView.rows c.args.view.now)) v c.in_ok-search.search.found.items in
    let O : List Kept → Type 0 = λ v. AreSegments v → AreEdited c.changes-changes.result.now c.in_ok-search.search.found.items v c.change.new.self in
    let E : List Change → Type 0 = λ v. AreEdited v c.in_ok-search.search.found.items c.args.self.now c.change.new.self in
    let tell : AllTellAfter (does (g.V.LabelView.rows c.args.view.now)) c.changes-changes.result.now = subst A (sym c.changes-changes.ensures.value) (tell-after before (does (g.V.LabelView.rows c.args.view.now)) c.args.delta.now delta) in
    advanced before (does (g.V.LabelView.rows c.args.view.now)) c.args.delta.now c.in_ok-search.search.found.items c.args.self.now c.change.new.self kept delta (c.in_ok-search.ensures.sound tell)
    (subst F c.changes-changes.ensures.value (c.in_ok-search.ensures.all tell)) (subst E c.changes-changes.ensures.value (subst O c.self.view_is edited kept.form)))
    c.change.ensures
