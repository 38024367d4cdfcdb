-- Jobs of queries alone that ran side by side, each with a reader of its own.
use Rattle.std.specs.Prelude.{◌≡◌, List, All, length, map}
use Rattle.dn_model.specs.declared.topology.Topology.{Topology}
use Rattle.fast_pins.specs.Known.{Known, published}
use Rattle.feed_threads.specs.declared.reader_job.Read.{Read}
use Rattle.feed_threads.specs.declared.reader_jobs.Readers.{Readers}
use Rattle.feed_threads.specs.Jobs.{Task}
use Rattle.feed_threads.specs.Reads.{PinsOn, ReadEnds, ReadsAlone}
use Rattle.feed_threads.specs.Room.{HasRoom}

-- a job that was run with a reader: what the reader knew, what the job was to do, and what both came to
pub record Reading (S : Type 0) : Type 0 where
  pub before : Known
  pub task : Task S
  pub read : Read S

-- A reader pinned what its job tells of.
pub record HasRead {S : Type 0} (t : Topology) (r : Reading S) : Type 0 where
  pub pins : PinsOn r.before r.read.reader
  pub number : r.read.done.number ≡ r.task.number
  pub ends : ReadEnds t (published r.before) (published r.read.reader) r.task r.read.done.wanted_memory
      r.read.done.told r.read.done.feeds.items

abbrev pub HasReadBy : {S : Type 0} → Topology → Known → Task S → Read S → Type 0
HasReadBy t before task read = HasRead t (record { before = before; task = task; read = read })

-- the same of all of these jobs, in order
pub record AllRead {S : Type 0} (t : Topology) (readers : List Known) (tasks : List (Task S))
    (reads : List (Read S)) : Type 0 where
  pub readings : List (Reading S)
  pub readers_are : readers ≡ map (λ r. r.before) readings
  pub tasks_are : tasks ≡ map (λ r. r.task) readings
  pub reads_are : reads ≡ map (λ r. r.read) readings
  pub each : All (HasRead t) readings

-- Jobs of queries alone may run: each has a reader of its own, of the network, and there is room for what they come to.
pub record MayRead {S : Type 0} (t : Topology) (batch : Readers S) : Type 0 where
  pub topology : All (λ r. r.topology ≡ t) batch.readers.items
  pub alone : All ReadsAlone batch.jobs.items
  pub count : length batch.readers.items ≡ length batch.jobs.items
  pub room : HasRoom (length batch.jobs.items) batch.room
