use Rattle.std.proofs.Common.{rules, ◌≡◌, ◌∷◌, ◌+◌, ◌++◌, ◌≤◌, length, map, ◌∙◌, arith, subst}
use Rattle.std.specs.Prelude.{List, vec_capacity}
use Rattle.feed_threads.specs.Jobs.{Task}
use Rattle.std.proofs.lemmas.List.{length-append}
use Rattle.dn_run.specs.Deal.{readers_of, unread_back}
use Rattle.dn_run.proofs.DealSteps.{job-fits, job-put}
use Rattle.dn_run.proofs.deal.append_jobs.Goals as goal

pub append-backs-requires-after_bounds : goal.append-backs-requires-after_bounds
append-backs-requires-after_bounds g c κs within =
    let split : c.loop-job.job-iterator.rest.items ≡ c.in-Some.job ∷ c.next.new.self.rest.items = search rules in
    let room = subst (λ (jobs : List (Task g.row.S.Denot)). length c.loop-job.backs.items + length (readers_of jobs) ≤ vec_capacity c.loop-job.backs) split c.loop-job.invariant.room in
    let fits = job-fits c.into_sources.result.items c.in-Some.job c.next.new.self.rest.items (length c.loop-job.backs.items) (vec_capacity c.loop-job.backs) c.into_sources.ensures room in
    omega (arith, fits)

pub loop-job-preserved : goal.loop-job-preserved
loop-job-preserved g c =
    let split : c.loop-job.job-iterator.rest.items ≡ c.in-Some.job ∷ c.next.new.self.rest.items = search rules in
    let room = subst (λ (jobs : List (Task g.row.S.Denot)). length c.loop-job.backs.items + length (readers_of jobs) ≤ vec_capacity c.loop-job.backs) split c.loop-job.invariant.room in
    let put = subst (λ (jobs : List (Task g.row.S.Denot)). c.loop-job.backs.items ++ map unread_back (readers_of jobs) ≡ c.args.backs.items ++ map unread_back (readers_of c.args.jobs.items)) split c.loop-job.invariant.put in
    let fits = job-fits c.into_sources.result.items c.in-Some.job c.next.new.self.rest.items (length c.loop-job.backs.items) (vec_capacity c.loop-job.backs) c.into_sources.ensures room in
    let len = length-append c.loop-job.backs.items c.into_sources.result.items in
    record {
      put = job-put c.loop-job.backs.items c.append-backs.result.items c.into_sources.result.items (c.args.backs.items ++ map unread_back (readers_of c.args.jobs.items)) c.in-Some.job c.next.new.self.rest.items
          c.append-backs.ensures.items c.into_sources.ensures put;
      room = rw (c.append-backs.ensures.items, c.append-backs.ensures.room, len) fits;
      same = c.append-backs.ensures.room ∙ c.loop-job.invariant.same;
    }
