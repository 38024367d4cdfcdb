use Rattle.std.proofs.Common.{◌∙◌, ap, sym}
use Rattle.loop_keeper.specs.Kept.{Kept}
use Rattle.loop_keeper.proofs.AnswerParts.{begin-in, cycles-in, piece-is}
use Rattle.loop_keeper.proofs.answer.told_at.Goals as goal

pub returns : goal.returns
returns c =
    let same = c.in-Some.ensures.element c.in-Some.segment.now in
    c.in_ok-told.ensures ∙ piece-is c.args.segments.now c.args.place c.low.result c.begin_of-past.result c.cycles.result.now
    (c.low.ensures ∙ ap (λ (k : Kept). k.low) same ∙ sym (begin-in c.args.segments.now c.args.place c.in-Some.segment.now c.requires))
    c.begin_of-past.ensures
    (c.cycles.ensures ∙ ap (λ (k : Kept). k.cycles) same ∙ sym (cycles-in c.args.segments.now c.args.place c.in-Some.segment.now c.requires))
