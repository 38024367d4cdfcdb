use Rattle.std.proofs.Common.{rules}
use Rattle.target_rows.proofs.TurnLemmas.{changed-run-turned}
use Rattle.target_rows.proofs.chunk_rows.turn_some.Goals as goal

pub returns-clause-written : goal.returns-clause-written
returns-clause-written c = changed-run-turned _ _ _ _ c.args.place.chunk c.args.stride c.args.place.lane c.args.code (λ turned. turned.count) _ c.change_run.ensures.changed (λ x y turned. search rules)
