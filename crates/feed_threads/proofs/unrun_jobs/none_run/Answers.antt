use Rattle.std.proofs.Common.{rules, suc, ◌≡◌, ◌+◌, ◌∷◌, ◌∙◌, [], length, ap, arith}
use Rattle.std.proofs.lemmas.List.{length-append}
use Rattle.feed_threads.proofs.BesideLemmas.{not-run-more}
use Rattle.feed_threads.proofs.unrun_jobs.none_run.Goals as goal

pub loop-job-preserved : goal.loop-job-preserved
loop-job-preserved g c =
    let split : c.loop-job.job-iterator.rest.items ≡ c.in-Some.job ∷ c.next.new.self.rest.items = search rules in
    let len : length c.push_reserved.new.self.items ≡ length c.loop-job.dones.items + 1 = ap length c.push_reserved.ensures.items ∙ length-append c.loop-job.dones.items (c.not_run.result ∷ []) in
    let rest : length c.loop-job.job-iterator.rest.items ≡ suc (length c.next.new.self.rest.items) = ap length split in
    let room = c.loop-job.invariant.room in let capacity = c.push_reserved.ensures.capacity in
    record {
      done = not-run-more _ _ _ _ _ _ _ split c.push_reserved.ensures.items c.not_run.ensures c.loop-job.invariant.done;
      room = omega (arith, len, rest, room, capacity);
      kept = capacity ∙ c.loop-job.invariant.kept;
    }
