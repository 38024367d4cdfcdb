use Rattle.std.proofs.Common.{◌<◌, ◌≤◌}
use Rattle.base.specs.declared.forwarding_row.ForwardingRow.{ForwardingRow}
use Rattle.net_engine.proofs.RowsKept.{place-within, row-kept}
use Rattle.net_engine.proofs.Standing.{some-row}
use Rattle.net_engine.proofs.kept_rows.KeptRowsLabelView.atom_of.Goals as goal

pub returns-clause-inside : goal.returns-clause-inside
returns-clause-inside c = place-within c.self.inside.routers c.self.inside.atoms c.self.inside.labels c.args.self.now c.place_of.result c.self.view_is c.place_of.ensures.inside

pub returns-clause-from : goal.returns-clause-from
returns-clause-from c d = row-kept (λ (row : ForwardingRow). row.low ≤ c.args.a) c.self.inside.routers c.self.inside.atoms c.self.inside.labels c.args.self.now c.place_of.result d c.self.view_is c.place_of.ensures.inside (c.place_of.ensures.from some-row)

pub returns-clause-to : goal.returns-clause-to
returns-clause-to c d = row-kept (λ (row : ForwardingRow). c.args.a < row.past) c.self.inside.routers c.self.inside.atoms c.self.inside.labels c.args.self.now c.place_of.result d c.self.view_is c.place_of.ensures.inside (c.place_of.ensures.to some-row)
