use Rattle.std.proofs.Common.{◌≡◌, None, drop, fold}
use Rattle.owner_tree.specs.First.{first_of}
use Rattle.owner_tree.proofs.owners.first_rule.Given as goal

-- the first so far, and the rules that are left, make the first of all
abbrev pub invariant-loop-rule : goal.invariant-loop-rule
invariant-loop-rule l = fold first_of l.first (drop l.rule-index l.rules) ≡ fold first_of None l.rules
