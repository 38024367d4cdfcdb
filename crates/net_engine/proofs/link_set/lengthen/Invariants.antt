use Rattle.std.proofs.Common.{◌≡◌, ℕ, ◌-◌, false, length, get_or}
use Rattle.net_engine.proofs.link_set.lengthen.Given as goal

abbrev pub invariant-loop-flags : goal.invariant-loop-flags
invariant-loop-flags l = (k : ℕ) → get_or l.flags.items k false ≡ get_or l.initial.flags.items k false

abbrev pub decreases-loop-flags : goal.decreases-loop-flags
decreases-loop-flags l = l.count - length l.flags.items
