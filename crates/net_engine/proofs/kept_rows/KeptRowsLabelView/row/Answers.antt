use Rattle.std.proofs.Common.{◌≡◌, ◌<◌, ap, subst, sym, ◌∙◌}
use Rattle.base.specs.declared.forwarding_row.ForwardingRow.{ForwardingRow}
use Rattle.net_engine.specs.Shown.{View}
use Rattle.net_engine.proofs.RowsRead.{targets-read}
use Rattle.net_engine.proofs.RowsKept.{place-kept, row-kept}
use Rattle.net_engine.proofs.kept_rows.KeptRowsLabelView.row.Goals as goal

pub row-requires-clause-place : goal.row-requires-clause-place
row-requires-clause-place c = subst (λ n. c.args.i < n) (sym c.self.invariant.labelled.there) (place-kept c.self.inside.routers c.self.inside.atoms c.self.inside.labels c.args.self.now c.args.i c.self.view_is c.requires.place)

pub returns : goal.returns
returns c d =
    let place = place-kept c.self.inside.routers c.self.inside.atoms c.self.inside.labels c.args.self.now c.args.i c.self.view_is c.requires.place in
    row-kept (λ (row : ForwardingRow). c.row.new.out ≡ row.targets) c.self.inside.routers c.self.inside.atoms c.self.inside.labels c.args.self.now c.args.i d c.self.view_is place
    (targets-read c.self.inside.atoms c.self.inside.labels c.args.i c.row.new.out c.self.invariant.labelled place
    (c.row.ensures.room ∙ c.requires.wide ∙ sym (ap (λ (v : View). v.routers) c.self.view_is) ∙ sym c.self.invariant.same) c.row.ensures.targets)
