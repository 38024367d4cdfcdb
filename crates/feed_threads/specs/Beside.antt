-- What jobs of queries alone came to beside the one job that applies.
use Rattle.std.specs.Prelude.{ℕ, ◌≡◌, ◌<◌, ◌-◌, ◌++◌, true, All, List, [], Option, None, Some, IfSome}
use Rattle.std.specs.Prelude.{length, map, vec_capacity}
use Rattle.std.specs.Global.{Vec}
use Rattle.std.specs.List.{AllZip}
use mathlib.Core.List.{IsPrefix}
use Rattle.dn_model.specs.declared.entry.Posted.{Posted}
use Rattle.dn_model.specs.declared.topology.Topology.{Topology}
use Rattle.fast_pins.specs.Known.{Known, published}
use Rattle.version_lock.specs.Callers.{Caller, KeepsOwn, Lock, numbers, upper_seat}
use Rattle.version_lock.specs.History.{HasSameOf}
use Rattle.version_lock.specs.Rule.{longer}
use Rattle.feed_threads.specs.declared.job.JobDone.{JobDone}
use Rattle.feed_threads.specs.Jobs.{Task}
use Rattle.feed_threads.specs.declared.one_writer.Parted.{Parted}
use Rattle.feed_threads.specs.declared.one_writer.Writer.{Writer}
use Rattle.feed_threads.specs.declared.shown_readers.ShownReaders.{ShownReaders}
use Rattle.feed_threads.specs.Readers.{MayRead}
use Rattle.feed_threads.specs.Reads.{ReadEnds}
use Rattle.feed_threads.specs.Runs.{MayRun, RanJob}
use Rattle.feed_threads.specs.Shown.{IsShown, IsShownOf, ShowsOn}

-- the seat of the upper numbers of another's span, all but the first
abbrev pub others_of : Caller → Caller
others_of seat = upper_seat (seat.span - 1) seat

-- A seat uses every number of its span, and no entry bears one that it didn't use.
pub record UsesAll (old new : Caller) : Type 0 where
  pub both : new ≡ record old {
    span = old.span - (old.span - 1);
    used = old.used ++ numbers (others_of old);
    seen = longer old.seen old.seen;
  }
  pub seen : IsPrefix old.seen new.seen
  pub own : KeepsOwn old new
  pub brought : HasSameOf (numbers (others_of old)) old.seen new.seen

-- a job that isn't run for want of memory: its sources come back as they were, and nothing is told
pub record IsNotRun {S : Type 0} (task : Task S) (done : JobDone S) : Type 0 where
  pub number : done.number ≡ task.number
  pub wanted : done.wanted_memory ≡ true
  pub told : done.told ≡ []
  pub feeds : done.feeds.items ≡ map (λ r. (r.source, r.told)) task.feeds

-- A job of queries alone came to this, by snapshots of lists between what was seen before and what is seen now.
pub record CameByReading {S : Type 0} (t : Topology) (before seen : List Posted) (task : Task S)
    (done : JobDone S) : Type 0 where
  pub first : List Posted
  pub list : List Posted
  pub begins : IsPrefix before first
  pub within : IsPrefix list seen
  pub number : done.number ≡ task.number
  pub ends : ReadEnds t first list task done.wanted_memory done.told done.feeds.items

-- A publisher shows all that the seat has seen, and so many readers know what it has published.
pub record ShowsTo (lock : Lock) (seat : Caller) (count : ℕ) (shown : ShownReaders) : Type 0 where
  pub begins : IsShownOf lock.setup.basis.topology seat.seen shown.publisher
  pub all : published shown.publisher ≡ seat.seen
  pub readers : All (λ r. r ≡ shown.publisher) shown.readers.items
  pub many : length shown.readers.items ≡ count

-- The job that applies may run: its seat is the lock's, and what it shows is a beginning of what it has seen.
pub record MayWrite {S : Type 0} (lock : Lock) (faults : S → ℕ) (writer : Writer S) : Type 0 where
  pub may : MayRun lock faults writer.seat writer.job
  pub shown : IsShown lock.setup.basis.topology writer.seat.seen writer.shown

-- It ran, and shows a beginning of what its seat has seen then.
pub record HasWritten {S : Type 0} (lock : Lock) (left : S → Option (List ℕ)) (faults place : S → ℕ)
    (writer : Writer S) (came : Caller × Option Known × JobDone S) : Type 0 where
  pub ran : RanJob lock left faults place writer.seat came.0 writer.job came.2
  pub shows : ShowsOn lock.setup.basis.topology came.0.seen writer.shown came.1

-- The same of a job that stood to be taken: it was taken, and ran.
pub record HasWrittenTaken {S : Type 0} (lock : Lock) (left : S → Option (List ℕ)) (faults place : S → ℕ)
    (old new : Option (Writer S)) (came : Caller × Option Known × JobDone S) : Type 0 where
  pub wrote : IfSome old (λ writer. HasWritten lock left faults place writer came)
  pub none : new ≡ None

-- The job that applies and those that read may run: the readers know what the first shows, which is all that its seat
-- has seen, and there is room for what all come to.
pub record MayRunParted {S : Type 0} (lock : Lock) (faults : S → ℕ) (parted : Parted S) : Type 0 where
  pub writes : MayRun lock faults parted.writer.seat parted.writer.job
  pub known : Known
  pub shown_is : parted.writer.shown ≡ Some known
  pub shown : IsShownOf lock.setup.basis.topology parted.writer.seat.seen known
  pub all : published known ≡ parted.writer.seat.seen
  pub readers : All (λ r. r ≡ known) parted.reading.readers.items
  pub reads : MayRead lock.setup.basis.topology parted.reading
  pub empty : parted.room.items ≡ []
  pub room : length parted.reading.jobs.items < vec_capacity parted.room

-- The one job that applies and those that read came to this, where the first ran by this seat.
pub record RanBeside {S : Type 0} (lock : Lock) (left : S → Option (List ℕ)) (faults place : S → ℕ) (seat : Caller)
    (task : Task S) (reading : List (Task S)) (came : Caller × JobDone S × Vec (JobDone S)) : Type 0 where
  pub ran : RanJob lock left faults place seat came.0 task came.1
  pub reads : AllZip (CameByReading lock.setup.basis.topology seat.seen came.0.seen) reading came.2.items
