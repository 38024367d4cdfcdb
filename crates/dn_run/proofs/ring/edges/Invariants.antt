use Rattle.std.proofs.Common.{◌≡◌, map}
use Rattle.std.specs.List.{range_with_len}
use Rattle.dn_run.specs.Made.{made_end}
use Rattle.dn_run.proofs.ring.edges.Given as goal

abbrev pub invariant-loop-i : goal.invariant-loop-i
invariant-loop-i l = l.edges ≡ map (made_end 1) (range_with_len 0 l.i)
