use Rattle.std.proofs.Common.{◌≡◌, ◌+◌, length}
use Rattle.feed_trials.proofs.frame_tests.cut_bytes.Given as goal

abbrev pub invariant-loop-i : goal.invariant-loop-i
invariant-loop-i l = l.cutter.offset + length l.cutter.held ≡ l.i
