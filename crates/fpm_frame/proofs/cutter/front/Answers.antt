-- Nothing is the front of a frame.
use Rattle.std.proofs.Common.{arith}
use Rattle.std.proofs.lemmas.List.{nil_from_length}
use Rattle.feed_model.proofs.FramesLemmas.{nothing-front}
use Rattle.fpm_frame.proofs.cutter.front.Goals as goal

pub returns-in-empty : goal.returns-in-empty
returns-in-empty c = rw (nil_from_length c.args.held.now (omega arith)) nothing-front
