-- What a run's jobs are over, and the room for what comes back of them.
use Rattle.std.specs.Prelude.{ℕ, ◌≡◌, ◌≤◌, ◌++◌, List, [], vec_capacity}
use Rattle.std.specs.Arc.{arc_value}
use Rattle.base.specs.declared.ids.RouterId.{RouterId}
use Rattle.dn_run.specs.Feeds.{AreOpen}
use Rattle.dn_run.specs.Jobs.{AreFewJobs, AreFit, routers_of_readers, scripts_of}
use Rattle.dn_run.specs.declared.jobs.Rooms.{Rooms}
use Rattle.dn_run.specs.declared.jobs.Work.{Work}

-- The jobs may run once the feeds of these routers are open too: the others are open and unread, the scripts are such as a
-- run has, and there are no more jobs than may be.
pub record IsReady {S : Type 0} (faults : S → ℕ) (work : Work S) (routers : List RouterId) : Type 0 where
  pub are_open : AreOpen (arc_value work.topology.now) faults work.readers.items routers
  pub few_jobs : AreFewJobs (scripts_of work.scripts.items) (routers_of_readers work.readers.items ++ routers)
  pub fit_scripts : AreFit (scripts_of work.scripts.items)

-- empty, with room for n feeds, and for as many jobs as a run may have
pub record HaveRoom {S : Type 0} (n : ℕ) (rooms : Rooms S) : Type 0 where
  pub no_sources : rooms.sources.items ≡ []
  pub no_backs : rooms.backs.items ≡ []
  pub no_feeds : rooms.feeds.items ≡ []
  pub no_jobs : rooms.jobs.items ≡ []
  pub sources : n ≤ vec_capacity rooms.sources
  pub backs : n ≤ vec_capacity rooms.backs
  pub feeds : n ≤ vec_capacity rooms.feeds
  pub jobs : 64 ≤ vec_capacity rooms.jobs
