use Rattle.std.proofs.Common.{◌≡◌, ◌++◌, take}
use Rattle.std.specs.List.{flat_map}
use Rattle.query_lang.proofs.answer_lines.push_each.Given as goal

-- the texts of the items so far were added
abbrev pub invariant-loop-item : goal.invariant-loop-item
invariant-loop-item g l = l.out.items ≡ l.fn.out.items ++ flat_map (g.T.Printed.text l.t) (take l.item-index l.items)
