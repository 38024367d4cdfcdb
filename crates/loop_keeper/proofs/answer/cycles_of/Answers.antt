use Rattle.std.proofs.Common.{List, sym, subst}
use Rattle.base.specs.declared.cycle.Cycle.{Cycle}
use Rattle.loop_check.specs.CyclesByRange.{AreCyclePieces}
use Rattle.loop_keeper.proofs.AnswerParts.{pieces-all}
use Rattle.loop_keeper.proofs.answer.cycles_of.Goals as goal

pub returns : goal.returns
returns c = λ does kept.
    let P : List (List Cycle) → Type 0 = λ v. AreCyclePieces does v in
    c.in_ok-cycles.ensures does (subst P (sym c.as_slice.ensures.value) (pieces-all does c.args.segments.now c.in_ok-pieces.pieces.items kept c.in_ok-pieces.ensures))
