use Rattle.std.proofs.Common.{◌∙◌, ap}
use Rattle.feed_threads.proofs.JobLemmas.{unread-backs}
use Rattle.feed_threads.proofs.job.Job.into_sources.Goals as goal

pub returns : goal.returns
returns g c = c.give_back.ensures ∙ unread-backs c.self.inside.feeds.items c.args.self.feeds c.self.invariant.0 (ap (λ task. task.feeds) c.self.view_is)
