use Rattle.std.proofs.Common.{List, subst}
use Rattle.std.proofs.lemmas.Result.{on_ok_weaker}
use Rattle.base.specs.declared.ids.RouterId.{RouterId}
use Rattle.loop_keeper.specs.Edits.{AreChangedWithin}
use Rattle.loop_keeper.specs.declared.segment.Edit.TheVariants.{With}
use Rattle.loop_keeper.proofs.Putting.{put-within}
use Rattle.loop_keeper.proofs.editing.put_in.Goals as goal

pub returns : goal.returns
returns c = on_ok_weaker c.change_within.result (λ within form.
    let E : List RouterId → Type 0 = λ v. AreChangedWithin (With v) c.args.found.low c.args.found.past c.args.segments.now c.change_within.new.segments in
    put-within c.args.found c.args.segments.now c.change_within.new.segments (subst E c.in_ok-new.ensures (within form))) c.change_within.ensures
