use Rattle.std.proofs.Common.{subst}
use Rattle.feed_threads.specs.Runs.{AllRun}
use Rattle.feed_threads.proofs.AllLemmas.{batch-ready}
use Rattle.feed_threads.proofs.all_jobs.run_jobs.Goals as goal

pub run_beside-requires-clause-batch : goal.run_beside-requires-clause-batch
run_beside-requires-clause-batch g c κs within =
    batch-ready c.args.site.now g.S.Source.faults c.args.seat (record { jobs = c.jobs.inside.jobs; room = c.jobs.inside.room }) c.args.jobs c.jobs.view_is c.requires.jobs c.jobs.invariant

pub returns-in-Some : goal.returns-in-Some
returns-in-Some g c =
    subst (λ tasks. AllRun c.args.site.now g.S.Source.left g.S.Source.faults g.S.Source.place c.args.seat tasks c.run_beside.result.0 c.run_beside.result.1.items) c.jobs.view_is c.run_beside.ensures

pub run_batch-requires-clause-batch : goal.run_batch-requires-clause-batch
run_batch-requires-clause-batch g c κs within =
    batch-ready c.args.site.now g.S.Source.faults c.args.seat (record { jobs = c.jobs.inside.jobs; room = c.jobs.inside.room }) c.args.jobs c.jobs.view_is c.requires.jobs c.jobs.invariant

pub returns-in-None : goal.returns-in-None
returns-in-None g c =
    subst (λ tasks. AllRun c.args.site.now g.S.Source.left g.S.Source.faults g.S.Source.place c.args.seat tasks c.run_batch.result.0 c.run_batch.result.1.items) c.jobs.view_is c.run_batch.ensures.all
