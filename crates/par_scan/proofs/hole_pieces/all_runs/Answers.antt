use Rattle.std.proofs.Common.{◌≡◌, ◌∙◌, List, length, ap, sym, subst, arith}
use Rattle.base.specs.Holes.{falls}
use Rattle.base.specs.Runs.{AreRuns}
use Rattle.base.specs.declared.run.Run.{Run}
use Rattle.par_scan.proofs.HoleParts.{more-within}
use Rattle.loop_check.proofs.Joining.{all-within, no-runs}
use Rattle.par_scan.proofs.hole_pieces.all_runs.Goals as goal

pub loop-k-init : goal.loop-k-init
loop-k-init c = λ n does first h. no-runs h.at (falls n does first c.args.last c.args.cause) c.new-runs.result.items h.bounds c.new-runs.ensures.items

pub loop-k-preserved : goal.loop-k-preserved
loop-k-preserved c = λ n does first h. more-within n does first c.args.last c.args.cause c.args.pieces.now c.loop-k.k c.loop-k.runs.items c.add_runs.new.runs.items c.runs_at.result.now c.as_slice.result.now c.index-pieces-k.result h c.loop-k-test.true (c.as_slice.ensures.value ∙ c.index-pieces-k.is) c.runs_at.ensures (c.loop-k.invariant n does first h) c.in_ok-add_runs.ensures

pub returns : goal.returns
returns c = λ n does first h.
    let end : c.loop-k.k ≡ length c.args.pieces.now = omega arith in
    let P : List Run → Type 0 = λ rs. AreRuns rs (falls n does first c.args.last c.args.cause) in
    subst P (sym c.from_vec.ensures) (all-within (h.at c.loop-k.k) (falls n does first c.args.last c.args.cause) c.loop-k.runs.items (ap h.at end ∙ h.end) (c.loop-k.invariant n does first h))
