use Rattle.std.proofs.Common.{◌≡◌, ◌+◌, ◌<◌, ◌≤◌, length, slice_index_or, subst, sym, ◌∙◌}
use Rattle.base.specs.Forwarding.{target_of}
use Rattle.base.specs.declared.forwarding_row.ForwardingRow.{ForwardingRow}
use Rattle.net_engine.proofs.RowsRead.{place-among}
use Rattle.net_engine.proofs.RowsKept.{count-kept, place-kept, row-kept}
use Rattle.net_engine.proofs.kept_rows.KeptRowsLabelView.column.Goals as goal

pub column-requires-clause-place : goal.column-requires-clause-place
column-requires-clause-place c = subst (λ n. c.args.i < n) (sym c.self.invariant.labelled.there) (place-kept c.self.inside.routers c.self.inside.atoms c.self.inside.labels c.args.self.now c.args.i c.self.view_is c.requires.place)

pub returns-clause-inside : goal.returns-clause-inside
returns-clause-inside c = subst (λ n. c.args.i + c.column.result ≤ n) (c.self.invariant.labelled.there ∙ count-kept c.self.inside.routers c.self.inside.atoms c.self.inside.labels c.args.self.now c.self.view_is) c.column.ensures.inside

pub returns-clause-targets : goal.returns-clause-targets
returns-clause-targets c = λ k d e l.
    row-kept (λ (row : ForwardingRow). slice_index_or c.column.new.out k e ≡ target_of row c.args.r) c.self.inside.routers c.self.inside.atoms c.self.inside.labels c.args.self.now (c.args.i + k) d c.self.view_is
    (place-among c.args.i k c.column.result (length c.self.inside.atoms) (subst (λ n. c.args.i + c.column.result ≤ n) c.self.invariant.labelled.there c.column.ensures.inside) l)
    (c.column.ensures.targets k e l)
