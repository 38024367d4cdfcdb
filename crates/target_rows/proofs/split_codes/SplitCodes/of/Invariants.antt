use Rattle.target_rows.specs.ChunkRows.{AreLaid}
use Rattle.target_rows.proofs.split_codes.SplitCodes.of.Given as goal

abbrev pub invariant-loop-r : goal.invariant-loop-r
invariant-loop-r l = AreLaid l.codes l.chunks l.count l.r
