use Rattle.std.proofs.Common.{◌≡◌, ◌<◌, length}
use Rattle.base.specs.declared.ids.RouterId.{RouterId}
use Rattle.loop_check.specs.FirstOrder.{AreSomeOf, TellPassed}
use Rattle.loop_check.specs.Following.{IsPassed, hops}
use Rattle.loop_check.proofs.row.row_cycles.Given as goal

-- the cycles that have a router which was passed, as each one before `start` was
abbrev pub invariant-loop-start : goal.invariant-loop-start
invariant-loop-start l = record {
  room : length l.passed ≡ length l.targets;
  form : AreSomeOf (hops l.targets) l.cycles.items;
  told : TellPassed (hops l.targets) l.passed l.cycles.items;
  passed : (r : RouterId) → r.0 < l.start → IsPassed l.passed r;
}
