use Rattle.std.proofs.Common.{◌+◌, ◌<◌, ◌∙◌, length, arith}
use Rattle.atom_map.proofs.SpanRuns.{runs-more}
use Rattle.atom_map.proofs.bounds.runs_in.Goals as goal

pub runs-init : goal.runs-init
runs-init c = record { few = omega arith; runs = λ k d e l. absurd (omega arith) }

pub runs-preserved : goal.runs-preserved
runs-preserved c =
    let few : c.runs.k < c.min-count.result = c.runs-test.true in
    let more : c.runs.k + 1 < length c.args.page.now = omega (arith, c.min-count.ensures, c.saturating_sub.ensures) in
    let room : c.runs.k < length c.runs.out = omega (arith, c.min-count.ensures, c.runs.auto.out) in
    record {
      few = omega arith;
      runs = runs-more c.args.page.now c.runs.k c.runs.out c.run_between.result room more c.runs.invariant.runs (c.run_between.ensures.lo ∙ c.from.ensures) (c.run_between.ensures.hi ∙ c.from-in-runs.ensures);
    }

pub returns-clause-runs : goal.returns-clause-runs
returns-clause-runs c = λ k d e l. c.runs.invariant.runs k d e (omega arith)
