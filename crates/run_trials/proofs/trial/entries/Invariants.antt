use Rattle.std.proofs.Common.{All}
use Rattle.dn_model.specs.Entry.{IsEntryOf}
use Rattle.run_trials.proofs.trial.entries.Given as goal

-- what was made so far is the network's
abbrev pub invariant-loop-at : goal.invariant-loop-at
invariant-loop-at g l = All (IsEntryOf l.topology) l.made.items
