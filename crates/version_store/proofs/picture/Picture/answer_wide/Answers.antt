use denote.Param.Send.{sendable}
use Rattle.std.proofs.Crossing.{crosses}
use Rattle.std.proofs.lemmas.Result.{IfOk-weaker}
use Rattle.net_engine.proofs.Crossing.{Shown-sync}
use Rattle.version_store.proofs.picture.Picture.answer_wide.Goals as goal

pub returns-then-asks_for_loops : goal.returns-then-asks_for_loops
returns-then-asks_for_loops g c = IfOk-weaker c.kept_loops.result _ _
    (λ answer is h stands told. is c.args.topology.now h c.args.query.now (c.asks_for_loops.ensures.ask c.if-asks_for_loops.true) (c.asks_for_loops.ensures.none c.if-asks_for_loops.true) stands)
    c.kept_loops.ensures

pub returns : goal.returns
returns g c = IfOk-weaker c.answer_wide.result _ _ (λ answer is h stands told. is h stands.stands told) c.answer_wide.ensures.answer

-- threads can share what is shown
pub answer_wide-requires-sync-V : goal.answer_wide-requires-sync-V
answer_wide-requires-sync-V g c κs within = search (Shown-sync, sendable, crosses) depth 40
