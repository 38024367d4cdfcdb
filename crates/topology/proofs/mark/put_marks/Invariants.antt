use Rattle.std.proofs.Common.{◌≡◌, fold, take}
use Rattle.dn_formats.specs.TopologyText.{marked}
use Rattle.topology.proofs.mark.put_marks.Given as goal

abbrev pub invariant-loop-mark : goal.invariant-loop-mark
invariant-loop-mark l = l.tables ≡ fold marked l.initial.tables (take l.mark-index l.marks)
