use Rattle.std.proofs.Common.{◌≡◌}
use Rattle.edge_labels.specs.Atoms.{numbers}
use Rattle.edge_labels.proofs.MemberLemmas.{members_below}
use Rattle.edge_labels.proofs.bits.list_bits.Given as goal

abbrev pub invariant-loop-i : goal.invariant-loop-i
invariant-loop-i l = numbers l.atoms.items ≡ members_below l.chunks l.i
