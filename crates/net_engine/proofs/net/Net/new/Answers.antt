use Rattle.net_engine.proofs.Standing.{first-atoms, first-paired}
use Rattle.net_engine.proofs.net.Net.new.Goals as goal

pub returns-clause-paired : goal.returns-clause-paired
returns-clause-paired c = first-paired c.args.routers c.in_ok-atoms.atoms c.in_ok-labels.labels c.in_ok-tables.tables c.in_ok-atoms.ensures c.in_ok-labels.ensures c.in_ok-tables.ensures

pub returns-clause-atoms : goal.returns-clause-atoms
returns-clause-atoms c = first-atoms c.args.routers c.in_ok-atoms.atoms c.in_ok-labels.labels c.in_ok-tables.tables c.in_ok-atoms.ensures c.in_ok-labels.ensures c.in_ok-tables.ensures
