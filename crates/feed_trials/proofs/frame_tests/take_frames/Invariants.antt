use Rattle.std.proofs.Common.{◌≡◌, ◌+◌, length}
use Rattle.feed_trials.proofs.frame_tests.take_frames.Given as goal

abbrev pub invariant-loop : goal.invariant-loop
invariant-loop l = l.cutter.offset + length l.cutter.held ≡ l.initial.cutter.offset + length l.initial.cutter.held
