use Rattle.std.proofs.Common.{[]}
use Rattle.std.specs.Arc.{arc_value}
use Rattle.dn_model.specs.Table.{does_after}
use Rattle.version_store.proofs.Keeping.{none-goes}
use Rattle.version_store.proofs.standing.empty_standing.Goals as goal

pub returns : goal.returns
returns c = record {
  stands = record { topology = c.in_ok-version.ensures.topology; stands = c.in_ok-version.ensures.stands };
  kept = c.empty-2.ensures.kept (does_after (arc_value c.args.topology) []) (none-goes (arc_value c.args.topology));
}
