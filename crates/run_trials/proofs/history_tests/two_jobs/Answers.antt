use Rattle.std.proofs.Common.{◌≡◌, List, [], ◌∷◌, All, subst, sym, rules}
use Rattle.std.proofs.lemmas.List.Elements.{All-cons, All-nil}
use Rattle.dn_io.specs.contracts.mem_source.MemSourceSource.TheImpl.{faults-value}
use Rattle.feed_threads.specs.Jobs.{IsFresh, Task}
use Rattle.route_feed.specs.FeedReader.{Reader}
use Rattle.run_trials.proofs.history_tests.two_jobs.Goals as goal

-- what all of three readers are, the readers of a job of two and of a job of one are
of_both : {S : Type 0} (P : Reader S → Type 0) (jobs : List (Task S)) (a b : Task S) (x y z : Reader S)
    → jobs ≡ a ∷ b ∷ [] → a.feeds ≡ x ∷ y ∷ [] → b.feeds ≡ z ∷ [] → P x → P y → P z
    → All (λ (job : Task S). All P job.feeds) jobs
of_both {S = S} P jobs a b x y z two first second px py pz =
    let Q : Task S → Type 0 = λ (job : Task S). All P job.feeds in
    let qa : Q a = subst (λ (l : List (Reader S)). All P l) (sym first) (All-cons P x (y ∷ []) px (All-cons P y [] py (All-nil P))) in
    let qb : Q b = subst (λ (l : List (Reader S)). All P l) (sym second) (All-cons P z [] pz (All-nil P)) in
    subst (λ (l : List (Task S)). All Q l) (sym two) (All-cons Q a (b ∷ []) qa (All-cons Q b [] qb (All-nil Q)))

pub returns-clause-fresh : goal.returns-clause-fresh
returns-clause-fresh g c =
    let two : c.job_list.result ≡ c.job_of_two-taken.result ∷ c.job_of_one-alone.result ∷ [] = search rules in
    let first : c.job_of_two-taken.result.feeds ≡ c.reader-first.result ∷ c.reader-second.result ∷ [] = search rules in
    let second : c.job_of_one-alone.result.feeds ≡ c.reader-third.result ∷ [] = search rules in
    of_both (IsFresh c.args.topology.now faults-value.it) c.job_list.result c.job_of_two-taken.result c.job_of_one-alone.result
    c.reader-first.result c.reader-second.result c.reader-third.result two first second
    c.reader-first.ensures.fresh c.reader-second.ensures.fresh c.reader-third.ensures.fresh
