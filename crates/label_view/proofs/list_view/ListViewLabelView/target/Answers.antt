use Rattle.std.proofs.Common.{◌∙◌, ap, sym}
use Rattle.base.specs.declared.forwarding_row.ForwardingRow.{ForwardingRow}
use Rattle.label_view.proofs.Found.{target-inside}
use Rattle.label_view.proofs.list_view.ListViewLabelView.target.Goals as goal

pub bounds-as_slice-r : goal.bounds-as_slice-r
bounds-as_slice-r c = target-inside c.args.self.now c.self.inside.routers c.self.inside.rows c.as_slice.result.now c.args.i c.args.r.0 c.index-as_slice-i.result c.as_slice-2.result.now c.self.view_is c.self.invariant.each c.as_slice.ensures.value c.requires.place c.requires.router c.index-as_slice-i.is (c.as_slice-2.ensures.value ∙ sym (ap (λ (x : ForwardingRow). x.targets) c.index-as_slice-i.is))
