use Rattle.std.proofs.Common.{◌<◌, ◌≤◌, ap, ◌∙◌}
use Rattle.base.specs.declared.forwarding_row.ForwardingRow.{ForwardingRow}
use Rattle.net_engine.specs.Seen.{kept_in}
use Rattle.net_engine.proofs.RowsOfAtoms.{atom_with, row-at}
use Rattle.net_engine.proofs.version.VersionLabelView.atom_of.Goals as goal

pub returns-clause-from : goal.returns-clause-from
returns-clause-from c d = row-at (λ (row : ForwardingRow). row.low ≤ c.args.a) (kept_in c.deref.result.now) _ c.place_of.result d (ap kept_in c.deref.ensures ∙ c.self.view_is) c.place_of.ensures.inside (c.place_of.ensures.from (atom_with d))

pub returns-clause-to : goal.returns-clause-to
returns-clause-to c d = row-at (λ (row : ForwardingRow). c.args.a < row.past) (kept_in c.deref.result.now) _ c.place_of.result d (ap kept_in c.deref.ensures ∙ c.self.view_is) c.place_of.ensures.inside (c.place_of.ensures.to (atom_with d))
