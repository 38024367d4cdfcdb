use Rattle.std.proofs.Common.{◌≤◌, All}
use Rattle.run_trials.proofs.trial.files.Given as goal

-- each file so far gives some bytes at a time
abbrev pub invariant-loop-number : goal.invariant-loop-number
invariant-loop-number g l = All (λ file. 1 ≤ file.step) l.files.items

abbrev pub invariant-loop-feed : goal.invariant-loop-feed
invariant-loop-feed g l = All (λ file. 1 ≤ file.step) l.files.items
