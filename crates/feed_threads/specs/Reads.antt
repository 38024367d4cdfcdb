-- What a job of queries alone tells, by the snapshots that its reader pins.
use Rattle.std.specs.Prelude.{ℕ, ◌≡◌, ◌≤◌, Bool, false, List, [], ◌++◌, length, All}
use mathlib.Core.List.{IsPrefix}
use Rattle.dn_formats.specs.Lawful.{Job}
use Rattle.dn_formats.specs.declared.script.Line.{Line}
use Rattle.dn_formats.specs.declared.script.Line.TheVariants.{Take, Ask, Link}
use Rattle.feed_model.specs.declared.feed_told.FeedTold.{FeedTold}
use Rattle.dn_formats.specs.declared.told.Told.{Told}
use Rattle.dn_model.specs.declared.entry.Posted.{Posted}
use Rattle.dn_model.specs.declared.topology.Topology.{Topology}
use Rattle.fast_pins.specs.Known.{Known, published}
use Rattle.version_lock.specs.History.{posted_by}
use Rattle.feed_threads.specs.Jobs.{Task}
use Rattle.feed_threads.specs.Seats.{own_of}
use Rattle.feed_threads.specs.Tells.{TellsOwn}
use Rattle.feed_threads.specs.Tracks.{last_position}

-- a line asks
abbrev pub IsAsk : Line → Type 0
IsAsk (Take l q count) = ⊥
IsAsk (Ask l query) = Unit {0}
IsAsk (Link l name down) = ⊥

-- a job that takes no feed: all its lines ask
pub record ReadsAlone {S : Type 0} (task : Task S) : Type 0 where
  pub asks : All IsAsk task.lines
  pub none : task.feeds ≡ []

-- A reader goes on: it is of the same publisher and network, and the list that it knows begins with what it knew
-- before.
pub record PinsOn (old new : Known) : Type 0 where
  pub origin : new.origin ≡ old.origin
  pub topology : new.topology ≡ old.topology
  pub mine : IsPrefix (published old) (published new)

-- What is told of lines that ask, from a first list to the list that was pinned last: over whatever begins with that,
-- for a number none of whose entries stands behind the first list, and a job without feeds.
pub record TellsRead (t : Topology) (first list : List Posted) (lines : List Line) (tolds : List Told) : Type 0 where
  pub asks : All IsAsk lines
  pub begins : IsPrefix first list
  pub pinned : last_position tolds ≤ length list
  pub tells : (limit k : ℕ) (job : Job) (more : List Posted) → job.feeds ≡ [] →
      posted_by k (list ++ more) ≡ posted_by k first →
      TellsOwn t limit (list ++ more) k (own_of k first) job [] 0 lines tolds

-- the same of a front of the lines
pub record TellsReadFront (t : Topology) (first list : List Posted) (lines : List Line)
    (tolds : List Told) : Type 0 where
  pub front : List Line
  pub back : List Line
  pub lines_are : lines ≡ front ++ back
  pub told : TellsRead t first list front tolds

-- What a job of queries alone came to: each of its queries is told, or, where it wanted memory, the first of them.
pub record ReadEnds {S : Type 0} (t : Topology) (first list : List Posted) (task : Task S) (wanted : Bool)
    (tolds : List Told) (backs : List (S × FeedTold)) : Type 0 where
  pub feeds : task.feeds ≡ []
  pub done : wanted ≡ false → TellsRead t first list task.lines tolds
  pub front : TellsReadFront t first list task.lines tolds
  pub none : backs ≡ []
