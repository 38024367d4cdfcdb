use Rattle.std.proofs.Common.{◌≡◌, ◌+◌, drop}
use Rattle.dn_model.specs.Query.{first_unknown, link_names}
use Rattle.dn_model.proofs.unknown.unknown_link.Given as goal

-- the answer is among the names that are left
abbrev pub invariant-loop-name : goal.invariant-loop-name
invariant-loop-name l = record {
  place : l.place ≡ l.name-index + 1;
  rest : first_unknown l.topology l.place (link_names (drop l.name-index l.names)) ≡ first_unknown l.topology 1 (link_names l.names);
}
