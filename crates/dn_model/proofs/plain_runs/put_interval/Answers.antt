use Rattle.std.proofs.Common.{◌∙◌, ◌<◌, ◌-◌, List, sym, subst, arith}
use Rattle.base.specs.RunsFrom.{AreRunsFrom}
use Rattle.dn_model.specs.Test.{passes}
use Rattle.dn_model.specs.Network.{does_in, routers_in}
use Rattle.base.specs.declared.run.Run.{Run}
use Rattle.dn_model.proofs.Passes.{passes-alike}
use Rattle.base.proofs.RunsFrom.{put-passed, put-none}
use Rattle.dn_model.proofs.plain_runs.put_interval.Goals as goal

pub returns-in_ok-put_run-clause-told : goal.returns-in_ok-put_run-clause-told
returns-in_ok-put_run-clause-told c =
    let test = passes (routers_in c.args.net.now) (does_in c.args.net.now) c.args.test.now in
    let P : List Run → Type 0 = λ rs. AreRunsFrom c.interval_below-low.result test rs in
    let lower : c.interval_below-low.result < c.args.past = c.interval_below-low.ensures.lower in
    subst P (sym c.in_ok-put_run.ensures)
    (put-passed test (record { lo = c.interval_below-low.result; hi = c.args.past - 1 }) c.args.past c.args.runs.now.items (omega arith) (omega arith) c.requires.below c.requires.runs
    (λ a from to. passes-alike _ _ c.args.test.now c.interval_below-low.result c.args.past _ c.interval_below-low.ensures.alike c.in_ok-is_passed.ensures a from to ∙ c.if-branch.true))

pub returns-else-branch-clause-told : goal.returns-else-branch-clause-told
returns-else-branch-clause-told c =
    let lower : c.interval_below-low.result < c.args.past = c.interval_below-low.ensures.lower in
    put-none _ c.interval_below-low.result c.args.past c.args.runs.now.items (omega arith) c.requires.runs
    (λ a from to. passes-alike _ _ c.args.test.now c.interval_below-low.result c.args.past _ c.interval_below-low.ensures.alike c.in_ok-is_passed.ensures a from to ∙ c.if-branch.false)
