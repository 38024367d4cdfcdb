use Rattle.std.proofs.Common.{◌≡◌, ◌++◌, drop}
use Rattle.dn_model.specs.Answer.{links_of}
use Rattle.row_answers.proofs.named.links_named.Given as goal

-- what was found, and the links of the names that are left, are those of all
abbrev pub invariant-loop-name : goal.invariant-loop-name
invariant-loop-name l = l.links.items ++ links_of l.topology (drop l.name-index l.names) ≡ links_of l.topology l.names
