use Rattle.std.specs.Arc.{arc_value}
use Rattle.dn_model.specs.Entry.{entries}
use Rattle.version_store.proofs.GoingOn.{entry-of}
use Rattle.version_store.proofs.versions.next_version.Goals as goal

pub advance-requires : goal.advance-requires
advance-requires c = entry-of (arc_value c.args.topology.now) (entries c.args.history.now) c.in_ok-version.version c.args.entry.now c.in_ok-version.ensures.stands c.requires.entry

pub returns-clause-changes : goal.returns-clause-changes
returns-clause-changes c = c.in_ok-next.ensures.delta (arc_value c.args.topology.now) (entries c.args.history.now) c.in_ok-version.ensures

pub returns-clause-stands : goal.returns-clause-stands
returns-clause-stands c = c.in_ok-next.ensures.stands (arc_value c.args.topology.now) (entries c.args.history.now) c.in_ok-version.ensures
