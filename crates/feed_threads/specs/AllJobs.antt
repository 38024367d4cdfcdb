-- What jobs that ran side by side came to.
use Rattle.std.specs.Prelude.{ℕ, ◌≡◌, ◌+◌, ◌<◌, ◌≤◌, ◌==◌, ◌⊎◌, IsTrue, Bool, false, List, [], ◌∷◌, All, Contains, map}
use Rattle.std.specs.Prelude.{Option}
use Rattle.std.specs.List.{AllZip, flat_map}
use mathlib.Core.List.{IsPrefix}
use Rattle.dn_formats.specs.Lawful.{IsLawful, Job}
use Rattle.feed_model.specs.Steps.{FeedRead}
use Rattle.dn_formats.specs.declared.told.JobTold.{JobTold}
use Rattle.dn_model.specs.Entry.{entries}
use Rattle.base.specs.Lists.{all_differ}
use Rattle.dn_model.specs.declared.entry.Posted.{Posted}
use Rattle.dn_model.specs.declared.topology.Topology.{Topology}
use Rattle.route_feed.specs.FeedReader.{Reader}
use Rattle.version_lock.specs.Callers.{Caller, HasNumber, IsSeatOf, Lock}
use Rattle.version_lock.specs.History.{posted_by}
use Rattle.feed_threads.specs.declared.job.JobDone.{JobDone}
use Rattle.feed_threads.specs.Jobs.{AreReadBy, Ends, IsBack, Task}
use Rattle.feed_threads.specs.Seats.{own_of}

-- a job that was run: under which of the lock's numbers, what it was to do, and what it came to
pub record Run (S : Type 0) : Type 0 where
  pub number : ℕ
  pub task : Task S
  pub done : JobDone S

-- ---- jobs with a seat

-- whether two numbers are the same
abbrev pub same_no : ℕ → ℕ → Bool
same_no m n = m == n

-- the numbers under which jobs were run
abbrev pub numbers_of_runs : {S : Type 0} → List (Run S) → List ℕ
numbers_of_runs runs = map (λ run. run.number) runs

module _ {S : Type 0} (t : Topology) (left : S → Option (List ℕ)) (faults place : S → ℕ) (limit : ℕ) where
  -- A job came to what was given back for it: its seat had seen the first of these before, and the second is seen now.
  pub record CameTo (before seen : List Posted) (run : Run S) : Type 0 where
    pub number : run.done.number ≡ run.task.number
    pub ends : Ends t left faults place limit run.number (own_of run.number before) seen run.task
        run.done.wanted_memory run.done.told run.done.feeds.items

  -- Jobs ran with a seat, each under a number of the seat's span that no other had, and the seat has then seen what
  -- they made. Of each other number that it uses the entries are those that it had seen.
  pub record AllEnd (lock : Lock) (old : Caller) (tasks : List (Task S)) (new : Caller)
      (dones : List (JobDone S)) : Type 0 where
    pub is_seat : IsSeatOf lock new
    pub keeps : (n : ℕ) → HasNumber old n → HasNumber new n
    pub seen : IsPrefix old.seen new.seen
    pub runs : List (Run S)
    pub tasks_are : tasks ≡ map (λ run. run.task) runs
    pub dones_are : dones ≡ map (λ run. run.done) runs
    pub each : All (CameTo old.seen new.seen) runs
    pub within : All (λ run. (old.number ≤ run.number) × (run.number < old.number + old.span)) runs
    pub differ : IsTrue (all_differ same_no (numbers_of_runs runs))
    pub uses : All (λ run. Contains new.used run.number) runs
    pub others : (n : ℕ) → Contains new.used n →
        Contains (numbers_of_runs runs) n ⊎ (posted_by n new.seen ≡ posted_by n old.seen)

-- ---- jobs over a history of their own

-- whether two feeds, or two jobs, have one number
abbrev pub same_feed : {S : Type 0} → Reader S → Reader S → Bool
same_feed q r = q.told.feed_no == r.told.feed_no

abbrev pub same_job : {S : Type 0} → Task S → Task S → Bool
same_job x y = x.number == y.number

-- no two of all jobs' feeds have one number, and no two of the jobs
pub record AreNumberedApart {S : Type 0} (tasks : List (Task S)) : Type 0 where
  pub feeds : IsTrue (all_differ same_feed (flat_map (λ task. task.feeds) tasks))
  pub jobs : IsTrue (all_differ same_job tasks)

-- the feeds of jobs, one job after another
abbrev pub feeds_of_jobs : List Job → List FeedRead
feeds_of_jobs jobs = flat_map (λ job. job.feeds) jobs

-- two lists have the same members
pub record HaveSame {X : Type 0} (xs ys : List X) : Type 0 where
  pub there : (x : X) → Contains xs x → Contains ys x
  pub here : (x : X) → Contains ys x → Contains xs x

-- what is told of a job
abbrev pub told_by : {S : Type 0} → JobDone S → JobTold
told_by done = record { number = done.number; told = done.told }

module _ {S : Type 0} (t : Topology) (left : S → Option (List ℕ)) (faults place : S → ℕ) (limit : ℕ) where
  -- A job of this number and of these lines was done, and its feeds were read so.
  pub record IsDoneAs (seen : List Posted) (task : Task S) (done : JobDone S) (job : Job) : Type 0 where
    pub number : job.number ≡ task.number
    pub lines : job.lines ≡ task.lines
    pub read : AreReadBy t left faults place limit seen task.feeds done.feeds.items job.feeds

  -- the same of all jobs, in order
  abbrev pub AreDoneAs : List Posted → List (Task S) → List (JobDone S) → List Job → Type 0
  AreDoneAs seen [] [] [] = Unit {0}
  AreDoneAs seen (task ∷ tasks) (done ∷ dones) (job ∷ jobs) =
      IsDoneAs seen task done job × AreDoneAs seen tasks dones jobs
  AreDoneAs seen tasks dones jobs = ⊥

  -- All jobs were done, and what they made and told is lawful, in whatever order all their feeds are written.
  pub record AreLawful (tasks : List (Task S)) (seen : List Posted) (dones : List (JobDone S)) : Type 0 where
    pub jobs : List Job
    pub read : AreDoneAs seen tasks dones jobs
    pub lawful : (feeds : List FeedRead) → HaveSame feeds (feeds_of_jobs jobs) →
        IsLawful t limit feeds jobs (entries seen) (map told_by dones)

  -- A job has its number, and its sources were given back.
  pub record IsBackFrom (task : Task S) (done : JobDone S) : Type 0 where
    pub number : done.number ≡ task.number
    pub back : AllZip (IsBack t left faults place limit) task.feeds done.feeds.items

  -- Each job came to what was given back for it, under a number that no other had, and each entry of the history bears
  -- one of these numbers.
  pub record AllCame (tasks : List (Task S)) (seen : List Posted) (dones : List (JobDone S)) : Type 0 where
    pub runs : List (Run S)
    pub tasks_are : tasks ≡ map (λ run. run.task) runs
    pub dones_are : dones ≡ map (λ run. run.done) runs
    pub each : All (CameTo t left faults place limit [] seen) runs
    pub differ : IsTrue (all_differ same_no (numbers_of_runs runs))
    pub only : All (λ posted. Contains (numbers_of_runs runs) posted.seat) seen

  -- Jobs ran over a history of their own, which is this at the end. Where none of them wanted memory all were done, and
  -- what they made and told is lawful.
  pub record AllRan (tasks : List (Task S)) (seen : List Posted) (dones : List (JobDone S)) : Type 0 where
    pub each : AllZip IsBackFrom tasks dones
    pub came : AllCame tasks seen dones
    pub lawful : All (λ done. done.wanted_memory ≡ false) dones → AreLawful tasks seen dones
