-- Fewer than four bytes with the right version are the front of a frame.
use Rattle.std.proofs.Common.{arith}
use Rattle.feed_model.proofs.FramesLemmas.{cut_header}
use Rattle.fpm_frame.proofs.cutter.headed.Goals as goal

pub returns-in_default : goal.returns-in_default
returns-in_default c = cut_header c.args.bytes.now (λ place. omega (arith, c.type_inv.bytes place)) (omega arith)
