use Rattle.net_engine.specs.Version.{forwarding_of}
use Rattle.net_engine.proofs.RowsRead.{column-of-one}
use Rattle.net_engine.proofs.version.VersionLabelView.column.Goals as goal

pub returns-clause-targets : goal.returns-clause-targets
returns-clause-targets c = column-of-one (forwarding_of c.args.self.now) c.args.out.now c.args.i c.args.r c.target.result c.requires.room c.target.ensures
