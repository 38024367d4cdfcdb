use Rattle.std.proofs.Common.{◌<◌, ◌≤◌, ◌∙◌, length, refl, ap, sym, ⊎_elim}
use Rattle.std.proofs.lemmas.Bool.{cases_lt, false≢true}
use Rattle.loop_keeper.specs.Kept.{Kept}
use Rattle.loop_keeper.proofs.AnswerParts.{begin-end, begin-in}
use Rattle.loop_keeper.proofs.answer.begin_of.Goals as goal

pub returns-in-Some : goal.returns-in-Some
returns-in-Some c =
    c.from.ensures ∙ c.low.ensures ∙ ap (λ (k : Kept). k.low) (c.in-Some.ensures.element c.in-Some.segment.now) ∙ sym (begin-in c.args.segments.now c.args.place c.in-Some.segment.now (c.in-Some.ensures.inside.0 refl))

pub returns-in-None : goal.returns-in-None
returns-in-None c =
    let behind : length c.args.segments.now ≤ c.args.place = ⊎_elim
    (λ (l : c.args.place < length c.args.segments.now). absurd (false≢true (c.in-None.ensures.inside.1 l)))
    (λ (l : length c.args.segments.now ≤ c.args.place). l)
    (cases_lt c.args.place (length c.args.segments.now)) in
    sym (begin-end c.args.segments.now c.args.place behind)
