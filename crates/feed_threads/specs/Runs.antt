-- Jobs before they run, and what a run of one or of several gives back.
use Rattle.std.specs.Prelude.{ℕ, ◌≡◌, ◌≤◌, List, All, length, Option}
use Rattle.version_lock.specs.Callers.{Caller, IsSeatOf, Lock}
use Rattle.feed_threads.specs.AllJobs.{AllEnd}
use Rattle.feed_threads.specs.declared.all_jobs.Batch.{Batch}
use Rattle.feed_threads.specs.declared.job.JobDone.{JobDone}
use Rattle.feed_threads.specs.Jobs.{AreApart, Ends, IsFresh, Task}
use Rattle.feed_threads.specs.Room.{HasRoom}
use Rattle.feed_threads.specs.Seats.{own_of, SawMore}

-- A job may run over this lock: its feeds were not read yet, and no two of them are of one router.
pub record IsReady {S : Type 0} (lock : Lock) (faults : S → ℕ) (task : Task S) : Type 0 where
  pub fresh : All (IsFresh lock.setup.basis.topology faults) task.feeds
  pub apart : AreApart task.feeds

-- a job may run over this lock by this seat
abbrev pub MayRun : {S : Type 0} → Lock → (S → ℕ) → Caller → Task S → Type 0
MayRun lock faults seat task = IsSeatOf lock seat × IsReady lock faults task

-- A job ran by this seat, which saw more, and came to this.
pub record RanJob {S : Type 0} (lock : Lock) (left : S → Option (List ℕ)) (faults place : S → ℕ) (old new : Caller)
    (task : Task S) (done : JobDone S) : Type 0 where
  pub saw : SawMore old new
  pub number : done.number ≡ task.number
  pub ends : Ends lock.setup.basis.topology left faults place lock.setup.basis.limit old.number
      (own_of old.number old.seen) new.seen task done.wanted_memory done.told done.feeds.items

-- Jobs may run by this seat: each may, and the seat has a number for each.
pub record AreReady {S : Type 0} (lock : Lock) (faults : S → ℕ) (seat : Caller) (tasks : List (Task S)) : Type 0 where
  pub is_seat : IsSeatOf lock seat
  pub span : length tasks ≤ seat.span
  pub ready : All (IsReady lock faults) tasks

-- The jobs of a batch may run by this seat, and there is room for what they come to.
pub record IsReadyBatch {S : Type 0} (lock : Lock) (faults : S → ℕ) (seat : Caller) (batch : Batch S) : Type 0 where
  pub jobs : AreReady lock faults seat batch.jobs.items
  pub room : HasRoom (length batch.jobs.items) batch.room

-- Jobs ran by this seat, each under a number of its span that no other had.
abbrev pub AllRun : {S : Type 0} → Lock → (S → Option (List ℕ)) → (S → ℕ) → (S → ℕ) → Caller → List (Task S) →
    Caller → List (JobDone S) → Type 0
AllRun lock left faults place old tasks new dones =
    AllEnd lock.setup.basis.topology left faults place lock.setup.basis.limit lock old tasks new dones
