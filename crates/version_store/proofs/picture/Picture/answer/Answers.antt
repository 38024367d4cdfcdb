use Rattle.std.proofs.lemmas.Result.{IfOk-weaker}
use Rattle.version_store.proofs.picture.Picture.answer.Goals as goal

pub returns-then-asks_for_loops-clause-answer : goal.returns-then-asks_for_loops-clause-answer
returns-then-asks_for_loops-clause-answer g c = IfOk-weaker c.kept_loops.result _ _
    (λ answer is h stands told. is c.args.topology.now h c.args.query.now (c.asks_for_loops.ensures.ask c.if-asks_for_loops.true) (c.asks_for_loops.ensures.none c.if-asks_for_loops.true) stands)
    c.kept_loops.ensures

pub returns-clause-answer : goal.returns-clause-answer
returns-clause-answer g c = IfOk-weaker c.answer.result _ _ (λ answer is h stands told. is h stands.stands told) c.answer.ensures.answer
