use Rattle.std.proofs.Common.{◌∙◌, ap, sym}
use Rattle.base.specs.declared.forwarding_row.ForwardingRow.{ForwardingRow}
use Rattle.label_view.proofs.Found.{row-whole}
use Rattle.label_view.proofs.list_view.ListViewLabelView.row.Goals as goal

pub copy_from_slice-requires : goal.copy_from_slice-requires
copy_from_slice-requires c = row-whole c.args.self.now c.self.inside.routers c.self.inside.rows c.as_slice.result.now c.args.i c.index-as_slice-i.result c.args.out.now c.as_slice-2.result.now c.self.view_is c.self.invariant.each c.as_slice.ensures.value c.requires.place c.requires.wide c.index-as_slice-i.is (c.as_slice-2.ensures.value ∙ sym (ap (λ (x : ForwardingRow). x.targets) c.index-as_slice-i.is))
