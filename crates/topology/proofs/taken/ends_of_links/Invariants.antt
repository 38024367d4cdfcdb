use Rattle.std.proofs.Common.{◌≡◌, ◌++◌, drop}
use Rattle.dn_model.specs.Topology.{all_ends}
use Rattle.topology.proofs.taken.ends_of_links.Given as goal

abbrev pub invariant-loop-link : goal.invariant-loop-link
invariant-loop-link l = record {
  tables : l.taken.tables ≡ l.tables;
  ends : l.taken.ends ++ all_ends (drop l.link-index l.links) ≡ all_ends l.links;
}
