use Rattle.std.proofs.Common.{List, subst}
use Rattle.std.proofs.lemmas.Result.{on_ok_weaker}
use Rattle.loop_keeper.specs.Edits.{AreEdited}
use Rattle.loop_keeper.specs.Kept.{AreSegments, Kept}
use Rattle.loop_keeper.proofs.kept_loops.KeptLoops.change.Goals as goal

pub returns : goal.returns
returns c =
    let P : List Kept → Type 0 = λ v. AreSegments v → AreEdited c.args.changes.now c.args.found.items v c.put_all_in.new.segments in
    on_ok_weaker c.put_all_in.result (λ put. subst P c.self.view_is (λ form.
    let taken = c.in_ok-take_all_out.ensures form in
    record { out = c.take_all_out.new.segments; taken = taken; put = put taken.form })) c.put_all_in.ensures
