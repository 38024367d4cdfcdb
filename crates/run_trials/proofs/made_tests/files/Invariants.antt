use Rattle.std.proofs.Common.{◌≤◌, All}
use Rattle.run_trials.proofs.made_tests.files.Given as goal

-- each file so far gives some bytes at a time
abbrev pub invariant-loop-at : goal.invariant-loop-at
invariant-loop-at g l = All (λ file. 1 ≤ file.step) l.files.items
