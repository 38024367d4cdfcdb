use Rattle.std.proofs.Common.{◌≡◌}
use Rattle.base.specs.declared.forwarding_row.ForwardingRow.{ForwardingRow}
use Rattle.net_engine.proofs.RowsKept.{place-kept, row-kept}
use Rattle.net_engine.proofs.Standing.{some-row}
use Rattle.net_engine.proofs.kept_rows.KeptRowsLabelView.bounds.Goals as goal

pub bounds-requires : goal.bounds-requires
bounds-requires c = place-kept c.self.inside.routers c.self.inside.atoms c.self.inside.labels c.args.self.now c.args.i c.self.view_is c.requires

pub returns-clause-low : goal.returns-clause-low
returns-clause-low c d = row-kept (λ (row : ForwardingRow). c.bounds.result.0 ≡ row.low) c.self.inside.routers c.self.inside.atoms c.self.inside.labels c.args.self.now c.args.i d c.self.view_is (place-kept c.self.inside.routers c.self.inside.atoms c.self.inside.labels c.args.self.now c.args.i c.self.view_is c.requires) (c.bounds.ensures.low some-row)

pub returns-clause-past : goal.returns-clause-past
returns-clause-past c d = row-kept (λ (row : ForwardingRow). c.bounds.result.1 ≡ row.past) c.self.inside.routers c.self.inside.atoms c.self.inside.labels c.args.self.now c.args.i d c.self.view_is (place-kept c.self.inside.routers c.self.inside.atoms c.self.inside.labels c.args.self.now c.args.i c.self.view_is c.requires) (c.bounds.ensures.past some-row)
