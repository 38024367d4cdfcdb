use Rattle.std.proofs.Common.{◌≡◌, ap, ◌∙◌}
use Rattle.base.specs.declared.forwarding_row.ForwardingRow.{ForwardingRow}
use Rattle.net_engine.specs.Seen.{kept_in}
use Rattle.net_engine.proofs.RowsOfAtoms.{atom_with, place-in, row-at}
use Rattle.net_engine.proofs.version.VersionLabelView.bounds.Goals as goal

pub returns-clause-low : goal.returns-clause-low
returns-clause-low c d = row-at (λ (row : ForwardingRow). c.bounds.result.0 ≡ row.low) (kept_in c.deref.result.now) _ c.args.i d (ap kept_in c.deref.ensures ∙ c.self.view_is) (place-in _ _ c.args.i (ap kept_in c.deref.ensures ∙ c.self.view_is) c.requires) (c.bounds.ensures.low (atom_with d))

pub returns-clause-past : goal.returns-clause-past
returns-clause-past c d = row-at (λ (row : ForwardingRow). c.bounds.result.1 ≡ row.past) (kept_in c.deref.result.now) _ c.args.i d (ap kept_in c.deref.ensures ∙ c.self.view_is) (place-in _ _ c.args.i (ap kept_in c.deref.ensures ∙ c.self.view_is) c.requires) (c.bounds.ensures.past (atom_with d))
