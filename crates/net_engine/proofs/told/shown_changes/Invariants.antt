use Rattle.std.proofs.Common.{drop}
use Rattle.net_engine.proofs.Telling.{AreShownTo}
use Rattle.net_engine.proofs.told.shown_changes.Given as goal

-- what is shown of the changes so far
abbrev pub invariant-loop-change : goal.invariant-loop-change
invariant-loop-change l = AreShownTo l.down l.change-items (drop l.change-index l.change-items) l.shown
