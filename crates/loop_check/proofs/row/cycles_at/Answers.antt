use Rattle.std.proofs.Common.{◌≡◌, ◌∙◌, List, length, slice_index_or, ap, sym, subst}
use Rattle.std.proofs.lemmas.List.{with_items_is}
use Rattle.std.proofs.lemmas.Result.{IfOk-weaker}
use Rattle.base.specs.Forwarding.{target_of}
use Rattle.base.specs.declared.forwarding_row.ForwardingRow.{ForwardingRow}
use Rattle.base.specs.declared.ids.RouterId.{RouterId}
use Rattle.base.specs.declared.target.Target.{Target}
use Rattle.label_view.proofs.InRow.{some_row}
use Rattle.loop_check.specs.Following.{LeadInside, hops}
use Rattle.loop_check.specs.RowCycles.{AreCyclesOf}
use Rattle.loop_check.proofs.Reading.{cycles-same, reads-inside}
use Rattle.loop_check.proofs.row.cycles_at.Goals as goal

pub row_cycles-requires-clause-within : goal.row_cycles-requires-clause-within
row_cycles-requires-clause-within g c =
    let P : List Target → Type 0 = λ ts. LeadInside ts in
    let room : length c.read_row.new.targets ≡ g.V.LabelView.width c.args.view.now = c.read_row.auto.targets ∙ c.as_mut_slice.ensures.len ∙ c.requires.targets in
    let same : c.as_slice.result.now ≡ c.read_row.new.targets = c.as_slice.ensures.value ∙ with_items_is c.args.work.now.targets c.read_row.new.targets (c.read_row.auto.targets ∙ c.as_mut_slice.ensures.len) in
    subst P (sym same) (reads-inside (g.V.LabelView.width c.args.view.now) (g.V.LabelView.rows c.args.view.now) c.args.i some_row c.read_row.new.targets c.requires.form c.requires.place room (c.read_row.ensures.row some_row))

pub returns-clause-cycles : goal.returns-clause-cycles
returns-clause-cycles g c =
    let same : c.as_slice.result.now ≡ c.read_row.new.targets = c.as_slice.ensures.value ∙ with_items_is c.args.work.now.targets c.read_row.new.targets (c.read_row.auto.targets ∙ c.as_mut_slice.ensures.len) in
    let is : (d : ForwardingRow) (r : RouterId) → hops c.as_slice.result.now r ≡ target_of (slice_index_or (g.V.LabelView.rows c.args.view.now) c.args.i d) r = λ d r. ap (λ (ts : List Target). hops ts r) same ∙ c.read_row.ensures.row d r in
    let P : List (List RouterId) → Type 0 = λ cs. AreCyclesOf (hops c.as_slice.result.now) cs in
    let Q : List (List RouterId) → Type 0 = λ cs. (d : ForwardingRow) → AreCyclesOf (target_of (slice_index_or (g.V.LabelView.rows c.args.view.now) c.args.i d)) cs in
    IfOk-weaker c.row_cycles.result P Q (λ cycles h d. cycles-same (hops c.as_slice.result.now) (target_of (slice_index_or (g.V.LabelView.rows c.args.view.now) c.args.i d)) cycles (is d) h) c.row_cycles.ensures
