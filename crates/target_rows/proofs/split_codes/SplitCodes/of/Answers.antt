use Rattle.std.proofs.Common.{◌∙◌, arith}
use Rattle.target_rows.proofs.ChunkLemmas.{chunk-fits, laid-more, laid-none}
use Rattle.target_rows.proofs.split_codes.SplitCodes.of.Goals as goal

pub loop-r-init : goal.loop-r-init
loop-r-init c = laid-none c.args.codes.now c.in_ok-chunks.chunks c.args.count (c.in_ok-chunks.ensures ∙ c.stride.ensures)

pub loop-r-preserved : goal.loop-r-preserved
loop-r-preserved c = laid-more c.args.codes.now c.loop-r.chunks c.write.new.self c.args.count c.loop-r.r c.read.result c.loop-r.invariant c.in_ok-write.ensures (c.read.ensures 0)

pub write-requires-clause-chunk : goal.write-requires-clause-chunk
write-requires-clause-chunk c = omega (arith, c.loop-r.invariant.long, chunk-fits c.loop-r.r c.args.count (omega arith))
