use Rattle.std.proofs.Common.{◌≡◌, ℕ, ◌<◌, ◌≤◌, ◌+◌, ◌*◌, ◌∙◌, ◌^◌, ◌-◌, List, Vec, Global, length, ap, sym, subst, arith}
use Rattle.rayon.proofs.ToStd.{nat_range-All}
use Rattle.std.proofs.lemmas.Result.{IfOk-weaker}
use Rattle.std.specs.List.{range_with_len}
use Rattle.base.specs.Forwarding.{does, row_low, row_past}
use Rattle.base.specs.declared.memory.OutOfMemory.{OutOfMemory}
use Rattle.base.specs.declared.cycle.Cycle.{Cycle}
use Rattle.loop_check.specs.CyclesByRange.{AreCyclesWithin}
use Rattle.par_scan.specs.Ranges.{range_begin}
use Rattle.par_scan.proofs.RangeBounds.{each-range}
use Rattle.base.proofs.Covers.{few-rows}
use Rattle.par_scan.proofs.cycles.cycles_by_range.Goals as goal

pub count-requires : goal.count-requires
count-requires g c = omega (arith, c.requires, few-rows row_low row_past 0 (g.V.LabelView.rows c.args.view.now) c.atoms-form.ensures.form.cover)

pub collect-requires-clause-ready : goal.collect-requires-clause-ready
collect-requires-clause-ready g c κs =
    let inside = nat_range-All (λ i. (c.args.ranges.rows ≡ length (g.V.LabelView.rows c.args.view.now)) × (i < 2 ^ 63)) 0 c.count.result
    (λ i low high. (c.requires, omega (arith, high, c.count.ensures.few))) in
    rw (c.map.ensures.base, c.map.ensures.f, c.with_min_len.ensures.base, c.into_par_iter.ensures.0, c.into_par_iter.ensures.1) (λ lives k d lt. (inside k d lt, λ y p. tt))

pub returns-clause-all : goal.returns-clause-all
returns-clause-all g c =
    let rows = g.V.LabelView.rows c.args.view.now in
    let h = c.in_ok-collect.ensures in
    let chain = rw (c.map.ensures.base, c.map.ensures.f, c.with_min_len.ensures.base, c.into_par_iter.ensures.0, c.into_par_iter.ensures.1) at h.1 in
    let P : ℕ → List Cycle → Type 0 = λ k cycles. AreCyclesWithin (range_begin rows c.args.ranges.size k) (range_begin rows c.args.ranges.size (k + 1)) (does rows) cycles in
    let whole : c.count.result - 0 ≡ c.count.result = omega arith in
    IfOk-weaker c.in_ok-collect.field-0 _ _
    (λ pieces e. (let Q : ℕ → Type 0 = λ m. length rows ≤ c.args.ranges.size * m in subst Q (sym e.0) (omega (arith, c.count.ensures.all, c.requires))))
    (each-range (List Cycle) OutOfMemory (Vec (List Cycle) Global) (λ v. v.items) P c.in_ok-collect.field-0 h.0 chain.0 c.count.result h.2 (chain.1 ∙ ap (range_with_len 0) whole) chain.2)

pub returns-clause-each : goal.returns-clause-each
returns-clause-each g c =
    let rows = g.V.LabelView.rows c.args.view.now in
    let h = c.in_ok-collect.ensures in
    let chain = rw (c.map.ensures.base, c.map.ensures.f, c.with_min_len.ensures.base, c.into_par_iter.ensures.0, c.into_par_iter.ensures.1) at h.1 in
    let P : ℕ → List Cycle → Type 0 = λ k cycles. AreCyclesWithin (range_begin rows c.args.ranges.size k) (range_begin rows c.args.ranges.size (k + 1)) (does rows) cycles in
    let whole : c.count.result - 0 ≡ c.count.result = omega arith in
    IfOk-weaker c.in_ok-collect.field-0 _ _ (λ pieces e. record { each = e.1 })
    (each-range (List Cycle) OutOfMemory (Vec (List Cycle) Global) (λ v. v.items) P c.in_ok-collect.field-0 h.0 chain.0 c.count.result h.2 (chain.1 ∙ ap (range_with_len 0) whole) chain.2)
