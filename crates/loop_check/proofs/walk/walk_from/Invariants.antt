use Rattle.std.proofs.Common.{◌≡◌, ◌<◌, ◌⊎◌, List, None, Some, IsTrue, length, slice_index_or}
use Rattle.std.specs.List.{count_by}
use Rattle.std.specs.Option.{is_none}
use Rattle.base.specs.Cycles.{is_cycle}
use Rattle.base.specs.declared.ids.RouterId.{RouterId}
use Rattle.loop_check.specs.Following.{IsPassed, MeetsPassed, hops, is_among}
use Rattle.loop_check.proofs.walk.walk_from.Given as goal

-- what the walk passed is marked by it, and each cycle that has such a router has the one where the walk is
abbrev pub invariant-passing : goal.invariant-passing
invariant-passing l = record {
  inside : l.router.0 < length l.targets;
  room : length l.passed ≡ length l.targets;
  start : (l.router ≡ l.start) ⊎ IsPassed l.passed l.start;
  kept : (r : RouterId) → IsPassed l.initial.passed r → IsPassed l.passed r;
  before : (r by : RouterId) → slice_index_or l.passed r.0 None ≡ Some by → (by.0 ≡ l.start.0 → ⊥) → IsPassed l.initial.passed r;
  told : (routers : List RouterId) → IsTrue (is_cycle (hops l.targets) routers) → MeetsPassed l.passed routers
      → MeetsPassed l.initial.passed routers ⊎ IsTrue (is_among routers l.router);
}

abbrev pub decreases-passing : goal.decreases-passing
decreases-passing l = count_by is_none l.passed
