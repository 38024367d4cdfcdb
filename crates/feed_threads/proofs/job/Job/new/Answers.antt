use Rattle.std.proofs.Common.{◌≡◌, ◌∙◌, length, ap, arith}
use Rattle.std.proofs.lemmas.List.{length-map}
use Rattle.feed_threads.specs.Jobs.{unread, lines_of}
use Rattle.feed_threads.proofs.JobLemmas.{readers-of, unread-all}
use Rattle.feed_threads.proofs.job.Job.new.Goals as goal

pub invariant_of-result : goal.invariant_of-result
invariant_of-result g c =
    let same : length c.unread_all.result.items ≡ length c.args.readers.items = ap length c.unread_all.ensures ∙ length-map c.args.readers.items unread in (
      unread-all c.unread_all.result.items c.args.readers.items c.unread_all.ensures,
      c.in-Ok-with_capacity.ensures.items,
      omega (arith, same, c.in-Ok-with_capacity.ensures.capacity, c.len-2.ensures),
    )

pub returns-clause-job : goal.returns-clause-job
returns-clause-job g c = ap (λ rs. record { number = c.args.number; lines = lines_of c.args.script; feeds = rs }) (readers-of c.unread_all.result.items c.args.readers.items c.unread_all.ensures)
