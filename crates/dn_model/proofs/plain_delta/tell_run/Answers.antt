use Rattle.std.proofs.Common.{arith, ◌≤◌}
use Rattle.std.proofs.lemmas.Result.{on_ok_weaker}
use Rattle.base.proofs.DeltaParts.{part-none, part-put}
use Rattle.dn_model.proofs.plain_delta.tell_run.Goals as goal

pub returns-then-is_same : goal.returns-then-is_same
returns-then-is_same c = part-none _ _ _ _ _ _ (let up : c.args.run.lo ≤ c.args.run.hi = c.requires.order in omega arith) (c.is_same.ensures.yes c.if-is_same.true) c.requires.form c.requires.begin

pub returns : goal.returns
returns c = on_ok_weaker c.put_first.result (λ h. part-put _ _ _ (c.is_same.ensures.refused c.if-is_same.false) h) c.put_first.ensures
