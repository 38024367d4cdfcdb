use Rattle.blackhole.specs.Gathering.{AreHolesOf}
use Rattle.blackhole.proofs.holes.holes_of.Given as goal

-- the holes are of the falls so far
abbrev pub invariant-loop-fall : goal.invariant-loop-fall
invariant-loop-fall l = AreHolesOf l.holes l.yielded
