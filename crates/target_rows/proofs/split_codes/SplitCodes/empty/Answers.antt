use Rattle.std.proofs.Common.{length, ap, ◌∙◌}
use Rattle.std.proofs.lemmas.List.{length-replicate}
use Rattle.target_rows.specs.ChunkRows.{no_codes}
use Rattle.target_rows.proofs.SplitLemmas.{sides-long}
use Rattle.target_rows.proofs.split_codes.SplitCodes.empty.Goals as goal

pub returns : goal.returns
returns c = sides-long c.in_ok-low.low c.new.result ∙ ap length c.in_ok-low.ensures ∙ length-replicate c.args.count no_codes
