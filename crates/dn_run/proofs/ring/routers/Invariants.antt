use Rattle.std.proofs.Common.{◌≡◌, map, codes}
use Rattle.std.specs.List.{range_with_len}
use Rattle.dn_run.specs.Made.{numbered}
use Rattle.dn_run.proofs.ring.routers.Given as goal

abbrev pub invariant-loop-i : goal.invariant-loop-i
invariant-loop-i l = l.names ≡ map (numbered (codes "m")) (range_with_len 0 l.i)
