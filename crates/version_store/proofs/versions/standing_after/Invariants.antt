use Rattle.std.proofs.Common.{take}
use Rattle.std.specs.Arc.{arc_value}
use Rattle.dn_model.specs.Entry.{entries}
use Rattle.version_store.specs.Kept.{StandsWith}
use Rattle.version_store.proofs.versions.standing_after.Given as goal

-- what stands is after the entries so far
abbrev pub invariant-loop-i : goal.invariant-loop-i
invariant-loop-i l = StandsWith (arc_value l.topology) (entries (take l.i l.history)) l.version l.loops
