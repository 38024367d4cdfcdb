use Rattle.std.proofs.Common.{◌≡◌, ◌∙◌, ℕ, List, length, sym, subst, arith}
use Rattle.base.specs.Runs.{AreRuns}
use Rattle.base.specs.declared.run.Run.{Run}
use Rattle.loop_check.specs.Bounds.{only_within}
use Rattle.loop_check.proofs.Joining.{more-runs, no-runs}
use Rattle.par_scan.proofs.more_runs.join_runs.Goals as goal

pub loop-k-init : goal.loop-k-init
loop-k-init c = λ at test b h. no-runs at test c.new-runs.result.items b c.new-runs.ensures.items

pub loop-k-preserved : goal.loop-k-preserved
loop-k-preserved c = λ at test b h. more-runs at test c.args.pieces.now c.loop-k.k c.loop-k.runs.items c.add_runs.new.runs.items c.as_slice.result.now c.index-pieces-k.result b h c.loop-k-test.true (c.as_slice.ensures.value ∙ c.index-pieces-k.is) (c.loop-k.invariant at test b h) c.in_ok-add_runs.ensures

pub returns : goal.returns
returns c = λ at test b h.
    let end : c.loop-k.k ≡ length c.args.pieces.now = omega arith in
    let P : List Run → Type 0 = λ rs. AreRuns rs (only_within 0 (at (length c.args.pieces.now)) test) in
    let Q : ℕ → Type 0 = λ k. AreRuns c.loop-k.runs.items (only_within 0 (at k) test) in
    subst P (sym c.from_vec.ensures) (subst Q end (c.loop-k.invariant at test b h))
