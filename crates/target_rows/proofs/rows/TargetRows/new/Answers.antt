use Rattle.target_rows.proofs.ChunkLemmas.{first-chunks, first-chunks-seen}
use Rattle.target_rows.proofs.rows.TargetRows.new.Goals as goal

pub invariant_of-result : goal.invariant_of-result
invariant_of-result c = first-chunks c.args.routers c.in_ok-codes.field-0.codes c.in_ok-chunks.chunks c.in_ok-codes.field-0.book c.in_ok-codes.ensures c.in_ok-chunks.ensures

pub returns : goal.returns
returns c = first-chunks-seen c.args.routers c.in_ok-codes.field-0.codes c.in_ok-chunks.chunks c.in_ok-codes.field-0.book c.in_ok-codes.ensures c.in_ok-chunks.ensures
