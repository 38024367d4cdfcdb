use Rattle.std.proofs.Common.{◌≡◌, length}
use Rattle.loop_check.proofs.AllCycles.{none-more}
use Rattle.loop_check.proofs.ShareParts.{known-cycles, none-left}
use Rattle.loop_check.proofs.cycle_pieces.cycles_of.Goals as goal

pub returns : goal.returns
returns c = λ does h.
    let none : length c.cycles.left.entries ≡ 0 = none-more (length c.cycles.left.entries) c.pop_first.result c.in_default.is c.pop_first.ensures.variant.1 in
    known-cycles does c.args.known.entries c.cycles.cycles.items c.len.ensures.ordered h (none-left c.cycles.cycles.items c.cycles.left.entries c.args.known.entries none c.cycles.invariant)
