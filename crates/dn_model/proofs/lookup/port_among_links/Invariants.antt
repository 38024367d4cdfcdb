use Rattle.std.proofs.Common.{◌≡◌, drop}
use Rattle.std.specs.Map.{lookup}
use Rattle.dn_model.specs.Topology.{same_end}
use Rattle.dn_model.specs.Lookup.{ports_of_links}
use Rattle.dn_model.proofs.lookup.port_among_links.Given as goal

-- what the links so far put there is nothing: the answer is that of the links that are left
abbrev pub invariant-loop-i : goal.invariant-loop-i
invariant-loop-i l = lookup (same_end l.t.tables l.at) (ports_of_links 0 l.links) ≡ lookup (same_end l.t.tables l.at) (ports_of_links l.i (drop l.i l.links))
