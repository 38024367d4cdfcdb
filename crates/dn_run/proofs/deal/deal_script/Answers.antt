use Rattle.std.proofs.Common.{◌∙◌}
use Rattle.std.proofs.lemmas.Result.{IfErr-weaker}
use Rattle.dn_run.proofs.DealSteps.{script-back}
use Rattle.dn_run.proofs.deal.deal_script.Goals as goal

pub returns-clause-jobs : goal.returns-clause-jobs
returns-clause-jobs g c = rw (c.part_readers-mine.ensures.mine, c.as_slice.ensures.value) at c.add_job.ensures.jobs

pub returns-clause-left : goal.returns-clause-left
returns-clause-left g c = rw (c.part_readers-mine.ensures.others, c.as_slice.ensures.value) at c.add_job.ensures.left

pub returns-clause-back : goal.returns-clause-back
returns-clause-back g c =
    IfErr-weaker c.add_job.result _ _
    (λ u b. script-back c.args.dealt.jobs.items u.jobs.items u.some.items u.others.items c.args.dealt.left.items c.args.script.lines b.0
    (b.1 ∙ (rw c.as_slice.ensures.value at c.part_readers-mine.ensures.mine)) (b.2 ∙ (rw c.as_slice.ensures.value at c.part_readers-mine.ensures.others)))
    c.add_job.ensures.back
