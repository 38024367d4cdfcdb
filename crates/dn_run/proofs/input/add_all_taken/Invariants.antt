use Rattle.std.proofs.Common.{take}
use Rattle.dn_run.proofs.TakenLemmas.{AddsTaken}
use Rattle.dn_run.proofs.input.add_all_taken.Given as goal

-- the routers of the lines so far were added
abbrev pub invariant-loop-line : goal.invariant-loop-line
invariant-loop-line l = AddsTaken l.fn.taken.items l.taken.items (take l.line-index l.lines)
