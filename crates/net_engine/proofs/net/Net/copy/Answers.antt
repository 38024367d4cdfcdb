use Rattle.net_engine.proofs.Standing.{paired-again}
use Rattle.net_engine.proofs.net.Net.copy.Goals as goal

pub returns-clause-paired : goal.returns-clause-paired
returns-clause-paired c = λ h.
    paired-again c.args.self.now.routers c.args.self.now.atoms c.in_ok-atoms.atoms c.args.self.now.labels c.in_ok-labels.labels c.args.self.now.tables c.in_ok-tables.tables
    h c.in_ok-atoms.ensures c.in_ok-labels.ensures c.in_ok-tables.ensures
