-- What the intake found and what was handed out make the answer.
use Rattle.std.proofs.Common.{ℕ, List, sym, subst}
use Rattle.route_feed.specs.FrameStep.{HandsTo}
use Rattle.route_feed.specs.FeedReader.{Reader, IsAt}
use Rattle.route_feed.proofs.AnswerLemmas.{ended, handed, wanting}
use Rattle.route_feed.proofs.feed_reader.FeedReader.next_frame.Goals as goal

pub returns-in-Some-2-clause-outcome : goal.returns-in-Some-2-clause-outcome
returns-in-Some-2-clause-outcome g c = λ bytes steps at.
    ended c.args.topology.now c.self.inside.tables c.self.inside.intake c.fill.new.self c.self.inside.told c.end_with.new.told c.end_with.result c.in-Some-2.end c.in_ok-end.field-0
    (g.S.Source.left c.self.inside.intake.source) (g.S.Source.left c.fill.new.self.source) (g.S.Source.faults c.self.inside.intake.source) (g.S.Source.faults c.fill.new.self.source)
    c.fill.ensures.keeps c.in-Some-2.is c.in_ok-end.ensures.fills c.end_with.ensures.answer c.end_with.ensures.told bytes steps
    (subst (λ (r : Reader g.row.S.Denot). IsAt c.args.topology.now r (g.S.Source.left r.source) bytes steps) (sym c.self.view_is) at)

pub returns-in_ok-look_up-in-None-clause-outcome : goal.returns-in_ok-look_up-in-None-clause-outcome
returns-in_ok-look_up-in-None-clause-outcome g c = λ bytes steps at.
    handed c.args.topology.now c.self.inside.tables c.look_up.new.numbers c.self.inside.intake c.fill.new.self c.hand_out.new.intake c.self.inside.told c.hand_out.new.told g.S.Source.left c.hand_out.result c.in_ok-end.field-0
    (g.S.Source.faults c.self.inside.intake.source) (g.S.Source.faults c.fill.new.self.source)
    c.fill.ensures.keeps c.in-None.is c.in_ok-end.ensures.fills c.in_ok-look_up-in-None.ensures.known
    (subst (λ (tables : List ℕ). HandsTo tables c.args.topology.now c.hand_out.result c.fill.new.self c.hand_out.new.intake c.self.inside.told c.hand_out.new.told)
    c.as_slice.ensures.value c.hand_out.ensures.hands) bytes steps
    (subst (λ (r : Reader g.row.S.Denot). IsAt c.args.topology.now r (g.S.Source.left r.source) bytes steps) (sym c.self.view_is) at)

pub returns-in_err-look_up-in-None-clause-outcome : goal.returns-in_err-look_up-in-None-clause-outcome
returns-in_err-look_up-in-None-clause-outcome g c = λ bytes steps at.
    wanting c.args.topology.now c.self.inside.tables c.look_up.new.numbers c.self.inside.intake c.fill.new.self c.self.inside.told c.from_residual-in_err-look_up-in-None.result
    c.in_ok-end.field-0 (g.S.Source.left c.self.inside.intake.source) (g.S.Source.left c.fill.new.self.source) (g.S.Source.faults c.self.inside.intake.source) (g.S.Source.faults c.fill.new.self.source)
    c.fill.ensures.keeps c.in-None.is c.in_ok-end.ensures.fills c.in_err-look_up-in-None.ensures.same c.from_residual-in_err-look_up-in-None.ensures.0 bytes steps
    (subst (λ (r : Reader g.row.S.Denot). IsAt c.args.topology.now r (g.S.Source.left r.source) bytes steps) (sym c.self.view_is) at)
