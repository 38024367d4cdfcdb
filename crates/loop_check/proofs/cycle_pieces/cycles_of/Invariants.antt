use Rattle.std.proofs.Common.{◌≡◌, ◌++◌, length, map}
use Rattle.loop_check.specs.Shares.{cycle_from}
use Rattle.loop_check.proofs.cycle_pieces.cycles_of.Given as goal

-- those so far and those that are left are all
abbrev pub invariant-cycles : goal.invariant-cycles
invariant-cycles l = l.cycles.items ++ map cycle_from l.left.entries ≡ map cycle_from l.fn.known.entries

abbrev pub decreases-cycles : goal.decreases-cycles
decreases-cycles l = length l.left.entries
