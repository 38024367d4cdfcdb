use Rattle.std.proofs.Common.{◌≡◌, ◌++◌, drop}
use Rattle.dn_model.specs.Answer.{links_of}
use Rattle.dn_model.proofs.plain.links_named.Given as goal

-- the links so far, and those of the names that are left, are those of all names
abbrev pub invariant-loop-name : goal.invariant-loop-name
invariant-loop-name l = l.links.items ++ links_of l.t (drop l.name-index l.names) ≡ links_of l.t l.names
