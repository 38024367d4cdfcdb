use Rattle.std.proofs.Common.{◌≡◌, map}
use Rattle.std.specs.List.{range_with_len}
use Rattle.dn_run.specs.Made.{made_link}
use Rattle.dn_run.proofs.ring.links.Given as goal

abbrev pub invariant-loop-i : goal.invariant-loop-i
invariant-loop-i l = l.links ≡ map made_link (range_with_len 0 l.i)
