use Rattle.std.proofs.Common.{rules}
use Rattle.target_rows.proofs.ChunkLemmas.{changed-written}
use Rattle.target_rows.proofs.chunk_rows.write.Goals as goal

pub returns-clause-ok : goal.returns-clause-ok
returns-clause-ok c = changed-written _ _ _ _ c.args.place.chunk c.args.place.lane c.args.code _ c.requires.chunk c.in_ok-change.ensures.changed (λ x y r. search rules)
