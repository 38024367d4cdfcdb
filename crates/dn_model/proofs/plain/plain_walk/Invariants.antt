use Rattle.std.proofs.Common.{◌≡◌, ◌++◌, length}
use Rattle.base.specs.Walk.{at_address, walk, walk_end}
use Rattle.dn_model.specs.Next.{next}
use Rattle.dn_model.proofs.plain.plain_walk.Given as goal

-- what was walked, and the walk from here on, make the whole walk
abbrev pub invariant-loop-left : goal.invariant-loop-left
invariant-loop-left l =
    (l.routers.items ++ walk (at_address (next l.t l.entries l.down) l.a) l.left l.router ≡ walk (at_address (next l.t l.entries l.down) l.a) (length l.t.routers) l.fn.first)
    × (walk_end (at_address (next l.t l.entries l.down) l.a) l.left l.router ≡ walk_end (at_address (next l.t l.entries l.down) l.a) (length l.t.routers) l.fn.first)

abbrev pub decreases-loop-left : goal.decreases-loop-left
decreases-loop-left l = l.left
