use Rattle.std.proofs.Common.{rules, ◌≡◌, ◌+◌, ◌++◌, ◌∷◌, [], All, take, take_all, arith, subst, sym}
use Rattle.std.proofs.lemmas.Grind.{common_steps}
use Rattle.std.proofs.lemmas.List.Elements.{All-append, All-cons, All-nil}
use Rattle.feed_threads.specs.Reads.{ReadsAlone}
use Rattle.feed_threads.proofs.one_writer.all_read_alone.Goals as goal

pub loop-job-preserved : goal.loop-job-preserved
loop-job-preserved g c =
    let more : take (c.loop-job.job-index + 1) c.args.jobs.now ≡ take c.loop-job.job-index c.args.jobs.now ++ c.job-item.result ∷ [] = first_of (search rules, grind (arith, common_steps)) in
    subst (All ReadsAlone) (sym more)
    (All-append ReadsAlone (take c.loop-job.job-index c.args.jobs.now) (c.job-item.result ∷ []) c.loop-job.invariant
    (All-cons ReadsAlone c.job-item.result [] (c.reads_alone.ensures c.if-not-reads_alone.false) (All-nil ReadsAlone)))

pub returns : goal.returns
returns g c = λ e. subst (All ReadsAlone) (take_all c.loop-job.job-index c.args.jobs.now c.loop-job-test.false) c.loop-job.invariant
