use Rattle.std.proofs.Common.{◌<◌, ◌≤◌, length, get_or}
use Rattle.base.specs.Delta.{GoesBefore}
use Rattle.delta_graph.proofs.delta.Delta.place_of.Given as goal

-- the one at the place so far doesn't go before the change
abbrev pub invariant-loop-place : goal.invariant-loop-place
invariant-loop-place l = (l.place ≤ length l.self) × (l.place < length l.self → GoesBefore (get_or l.self l.place l.change) l.change → ⊥)

abbrev pub decreases-loop-place : goal.decreases-loop-place
decreases-loop-place l = l.place
