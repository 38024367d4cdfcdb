-- A job at work, and what a call of it does of the job's lines.
use Rattle.std.specs.Prelude.{ℕ, ◌≡◌, List, [], ◌++◌, Option, OnOk, OnErr, Result}
use Rattle.dn_formats.specs.declared.script.Line.{Line}
use Rattle.dn_formats.specs.declared.told.Told.{Told}
use Rattle.dn_model.specs.declared.entry.Entry.{Entry}
use Rattle.dn_model.specs.declared.entry.Posted.{Posted}
use Rattle.fast_pins.specs.Known.{Known}
use Rattle.route_feed.specs.FeedReader.{Reader}
use Rattle.version_lock.specs.Callers.{Caller, IsSeatOf, Lock}
use Rattle.feed_threads.specs.Feeds.{Feed}
use Rattle.feed_threads.specs.Places.{FailsFrom, HaveRouters, ReadOn, TakesFrom}
use Rattle.feed_threads.specs.Seats.{SawMore}
use Rattle.feed_threads.specs.Shown.{IsShown, ShowsOn}
use Rattle.feed_threads.specs.Tells.{TellsOwnFront}
use Rattle.feed_threads.specs.Tracks.{Begun, Tracks}

-- A job at work: its number, its seat, what it shows of what it applies, its feeds, and what is told so far.
pub record Work (S : Type 0) : Type 0 where
  pub number : ℕ
  pub seat : Caller
  pub shown : Option Known
  pub feeds : List (Feed S)
  pub told : List Told

-- A job works over this lock: its seat is the lock's, its feeds are of the network's routers, and what it shows is a
-- beginning of what it has seen.
pub record IsAtWork {S : Type 0} (lock : Lock) (work : Work S) : Type 0 where
  pub seat : IsSeatOf lock work.seat
  pub routers : HaveRouters lock.setup.basis.topology work.feeds
  pub shown : IsShown lock.setup.basis.topology work.seat.seen work.shown

module _ {S : Type 0} (lock : Lock) (left : S → Option (List ℕ)) (faults place : S → ℕ) where
  -- A job goes on: its seat sees more, it shows a beginning of that, and its feeds read on.
  pub record WorksOn (old new : Work S) : Type 0 where
    pub number : new.number ≡ old.number
    pub saw : SawMore old.seat new.seat
    pub shows : ShowsOn lock.setup.basis.topology new.seat.seen old.shown new.shown
    pub reads : ReadOn lock.setup.basis.topology left faults place old.feeds new.feeds

  -- A job of these readers, whose own entries were `start` before it, has done these lines and stands here. The numbers
  -- are those of its seat and its own.
  abbrev pub HasDone : ℕ → ℕ → List Entry → List (Reader S) → List Line → Work S → Type 0
  HasDone seat number start readers before work =
      Tracks lock.setup.basis.topology left faults place lock.setup.basis.limit seat number start readers work.feeds
      work.seat.seen before work.told

  -- memory was wanting within these lines
  abbrev pub HasBegun : ℕ → ℕ → List Entry → List (Reader S) → List Line → Work S → Type 0
  HasBegun seat number start readers lines work =
      Begun lock.setup.basis.topology left faults place lock.setup.basis.limit seat number start readers work.feeds
      work.seat.seen lines

  -- A call does these lines: a job that had done others before has then done these too.
  pub record Does (old new : Work S) (lines : List Line) : Type 0 where
    pub on : (start : List Entry) (readers : List (Reader S)) (before : List Line) →
        HasDone old.seat.number old.number start readers before old →
        HasDone old.seat.number old.number start readers (before ++ lines) new

  -- Memory was wanting in a call at these lines: a job that had done others before has then begun these.
  pub record Breaks (old new : Work S) (lines : List Line) : Type 0 where
    pub on : (start : List Entry) (readers : List (Reader S)) (before : List Line) →
        HasDone old.seat.number old.number start readers before old →
        HasBegun old.seat.number old.number start readers (before ++ lines) new

  -- What a call tells is that of a front of these lines, where none was done before, however the history goes on.
  pub record TellsFrontOf (old new : Work S) (lines : List Line) : Type 0 where
    pub on : (start : List Entry) (readers : List (Reader S)) (more : List Posted) →
        HasDone old.seat.number old.number start readers [] old →
        TellsOwnFront lock.setup.basis.topology lock.setup.basis.limit (new.seat.seen ++ more) old.seat.number start
        old.number lines new.told

  -- A job goes on by these lines: they are done, or memory was wanting within them.
  pub record Works {A E : Type 0} (result : Result A E) (old new : Work S) (lines : List Line) : Type 0 where
    pub on : WorksOn old new
    pub does : OnOk result (Does old new lines)
    pub breaks : OnErr result (Breaks old new lines)

  -- The same by a call that tells nothing.
  pub record WorksUntold {A E : Type 0} (result : Result A E) (old new : Work S) (lines : List Line) : Type 0 where
    pub works : Works result old new lines
    pub told : new.told ≡ old.told

  -- A call took frames of the feed at this place, or memory was wanting at one of them.
  pub record TookAt {A E : Type 0} (result : Result A E) (at : ℕ) (count : Option ℕ) (old new : Work S) : Type 0 where
    pub on : WorksOn old new
    pub took : OnOk result (TakesFrom lock.setup.basis.topology left faults place lock.setup.basis.limit
        old.seat.number at
        count old.feeds new.feeds old.seat.seen new.seat.seen)
    pub fails : OnErr result (FailsFrom lock.setup.basis.topology left faults place lock.setup.basis.limit
        old.seat.number at
        count old.feeds new.feeds old.seat.seen new.seat.seen)
    pub told : new.told ≡ old.told
