use Rattle.std.proofs.Common.{◌≡◌, ◌++◌}
use Rattle.made_input.specs.Network.{take_text, texts_below}
use Rattle.made_input.proofs.network.push_takes.Given as goal

abbrev pub invariant-loop-i : goal.invariant-loop-i
invariant-loop-i l = l.out.items ≡ l.fn.out.items ++ texts_below take_text l.i
