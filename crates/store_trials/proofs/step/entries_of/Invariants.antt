use Rattle.store_trials.specs.Line.{AreOfLine}
use Rattle.store_trials.proofs.step.entries_of.Given as goal

-- what was made so far is of each of these networks
abbrev pub invariant-loop-step : goal.invariant-loop-step
invariant-loop-step g l = AreOfLine l.entries.items
