use Rattle.std.proofs.Common.{ℕ, ◌<◌, get_or}
use Rattle.dn_model.specs.Entry.{IsEntryOf}
use Rattle.dn_model.specs.declared.entry.Entry.{Entry}
use Rattle.model_trials.proofs.network.are_entries_of.Given as goal

abbrev pub invariant-loop-entry : goal.invariant-loop-entry
invariant-loop-entry l = (k : ℕ) (d : Entry) → k < l.entry-index → IsEntryOf l.t (get_or l.entries k d)
