use Rattle.std.proofs.Common.{rules}
use Rattle.target_rows.proofs.RunLemmas.{changed-run-written}
use Rattle.target_rows.proofs.chunk_rows.write_some.Goals as goal

pub returns-clause-some : goal.returns-clause-some
returns-clause-some c = (changed-run-written _ _ _ _ c.args.place.chunk c.args.stride c.args.place.lane c.args.most c.args.code _ c.requires.some c.change_run.ensures.changed (λ x y n. search rules)).0

pub returns-clause-few : goal.returns-clause-few
returns-clause-few c = (changed-run-written _ _ _ _ c.args.place.chunk c.args.stride c.args.place.lane c.args.most c.args.code _ c.requires.some c.change_run.ensures.changed (λ x y n. search rules)).1

pub returns-clause-written : goal.returns-clause-written
returns-clause-written c = (changed-run-written _ _ _ _ c.args.place.chunk c.args.stride c.args.place.lane c.args.most c.args.code _ c.requires.some c.change_run.ensures.changed (λ x y n. search rules)).2
