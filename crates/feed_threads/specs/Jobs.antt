-- Jobs: what each is to do, and what it came to.
use Rattle.std.specs.Prelude.{ℕ, ◌≡◌, ◌+◌, ◌<◌, ◌≤◌, ◌*◌, ◌==◌, Bool, IsTrue, true, false, List, [], ◌∷◌, ◌++◌, length}
use Rattle.std.specs.Prelude.{map, All, Option, None, Some}
use Rattle.std.specs.List.{AllZip}
use mathlib.Core.List.{IsPrefix}
use Rattle.dn_formats.specs.Lawful.{Job, entries_of_job, link_entries}
use Rattle.feed_model.specs.Steps.{FrameStep, FeedRead, updates, told_of}
use Rattle.base.specs.Lists.{all_differ}
use Rattle.dn_model.specs.declared.entry.Entry.{Entry}
use Rattle.dn_model.specs.declared.entry.Posted.{Posted}
use Rattle.base.specs.declared.ids.RouterId.{RouterId}
use Rattle.dn_model.specs.declared.topology.Topology.{Topology}
use Rattle.dn_formats.specs.declared.script.Line.{Line}
use Rattle.dn_formats.specs.declared.script.Script.{Script}
use Rattle.feed_model.specs.declared.feed_told.FeedTold.{FeedTold}
use Rattle.dn_formats.specs.declared.told.Told.{Told}
use Rattle.route_feed.specs.FeedReader.{KnowsTables, Reader, told_so_far}
use Rattle.feed_threads.specs.Feeds.{Feed, end_with, HandsOut, IsBroken, StandsFront, told_with}
use Rattle.feed_threads.specs.Seats.{own_of}
use Rattle.feed_threads.specs.Tells.{TellsOwn, TellsOwnFront}
use Rattle.feed_threads.specs.Tracks.{IsJobOn, Links, MayBecome, Strand, TookFirstLinks, TookLinks, taken_of_all}

-- a job: its number, its script's lines, none where it has no script, and the readers of the feeds that it alone takes
pub record Task (S : Type 0) : Type 0 where
  pub number : ℕ
  pub lines : List Line
  pub feeds : List (Reader S)

-- the lines of a script, if there is one
abbrev pub lines_of : Option Script → List Line
lines_of None = []
lines_of (Some script) = script.lines

-- a feed at the beginning of a job
abbrev pub unread : {S : Type 0} → Reader S → Feed S
unread reader = record { reader = reader; kept = None }

-- a reader that has read nothing yet, of a device's feed
pub record IsFresh {S : Type 0} (t : Topology) (faults : S → ℕ) (r : Reader S) : Type 0 where
  pub told : r.told ≡ told_so_far r.told.feed_no r.told.router []
  pub passed : r.passed ≡ 0
  pub held : r.held ≡ []
  pub router : r.told.router.0 < length t.routers
  pub faults_none : faults r.source ≡ 0
  pub knows : KnowsTables t r.told.router r.tables

-- no two of the feeds are of one router
abbrev pub same_router : RouterId → RouterId → Bool
same_router q r = q.0 == r.0

abbrev pub AreApart : {S : Type 0} → List (Reader S) → Type 0
AreApart readers = IsTrue (all_differ same_router (map (λ r. r.told.router) readers))

-- the source of a feed, and what is told of it
abbrev pub back_of : {S : Type 0} → Feed S → S × FeedTold
back_of feed = (feed.reader.source, told_with feed.kept feed.reader.told)

-- how many updates a history took of a feed: all, or, where it was full, the first so many
abbrev pub IsKeptSo : ℕ → List Posted → Option ℕ → FeedRead → Type 0
IsKeptSo limit seen None f = f.kept ≡ length (updates f.steps)
IsKeptSo limit seen (Some n) f = (f.kept ≡ n) × IsBroken limit seen f.steps n

-- a job as its history has it: its feeds as they were read, and how many entries of its link lines were taken
abbrev pub job_of : {S : Type 0} → Task S → List FeedRead → ℕ → Job
job_of task feeds kept = record { number = task.number; lines = task.lines; feeds = feeds; kept_links = kept }

module _ {S : Type 0} (t : Topology) (left : S → Option (List ℕ)) (faults place : S → ℕ) (limit : ℕ) where
  -- A feed was read to its end by a reader that began as `start`, and this was told of it when its source was given
  -- back: the frames are those that the reader handed out, with at least 28 bytes for each update, within the reader's
  -- limit. Where a full history broke the feed off its reader met no end of its own.
  pub record IsReadBy (seen : List Posted) (start : Reader S) (source : S) (told : FeedTold)
      (f : FeedRead) : Type 0 where
    pub reader : Reader S
    pub kept : Option ℕ
    pub source_is : reader.source ≡ source
    pub reads : HandsOut t left faults place start reader f.steps
    pub fits : 28 * length (updates f.steps) ≤ start.limit
    pub unended : (n : ℕ) → kept ≡ Some n → reader.told.end ≡ None
    pub end_is : end_with kept reader.told.end ≡ Some f.end
    pub kept_is : IsKeptSo limit seen kept f
    pub feed_no : f.feed_no ≡ start.told.feed_no
    pub router : f.router ≡ start.told.router
    pub told_is : told ≡ told_of f

  -- the same of all feeds, in order
  abbrev pub AreReadBy : List Posted → List (Reader S) → List (S × FeedTold) → List FeedRead → Type 0
  AreReadBy seen [] [] [] = Unit {0}
  AreReadBy seen (start ∷ starts) (back ∷ backs) (f ∷ fs) =
      IsReadBy seen start back.0 back.1 f × AreReadBy seen starts backs fs
  AreReadBy seen starts backs fs = ⊥

  -- A source was given back: what is left in it is what its reader didn't take.
  pub record IsBack (start : Reader S) (back : S × FeedTold) : Type 0 where
    pub reader : Reader S
    pub kept : Option ℕ
    pub steps : List FrameStep
    pub source_is : reader.source ≡ back.0
    pub reads : HandsOut t left faults place start reader steps
    pub told_is : back.1 ≡ told_with kept reader.told

  -- A job of these lines and feeds was done, by a seat of this number whose own entries were `start` before it: the
  -- feeds were read to their ends, the history took the entries of its link lines or was full at one, the seat's own
  -- entries are then those of the job, in order, and each query and link line is told.
  pub record HasRun (number : ℕ) (start : List Entry) (seen : List Posted) (task : Task S) (told : List Told)
      (backs : List (S × FeedTold)) : Type 0 where
    pub feeds : List FeedRead
    pub links : Links
    pub read : AreReadBy seen task.feeds backs feeds
    pub linked : TookLinks links.full limit seen (length (link_entries t task.number task.lines)) links.count
    pub order : own_of number seen ≡ start ++ entries_of_job t (job_of task feeds links.count)
    pub tells : TellsOwn t limit seen number start (job_of task feeds links.count) [] 0 task.lines told

  -- Memory was wanting before a job of these lines and feeds was done, by a seat of this number whose own entries were
  -- `start` before it. From where the feeds stood when they were given back: whatever the job may come to, `start` and
  -- then the entries of the job begin with the seat's own entries; these are as many as the history took of the feeds
  -- and link lines; and a feed is told as full only where a full history refused one of its updates, after as many as
  -- are told.
  pub record HasBegun (number : ℕ) (start : List Entry) (seen : List Posted) (task : Task S)
      (backs : List (S × FeedTold)) : Type 0 where
    pub strands : List (Strand S)
    pub links : Links
    pub starts : map (λ s. s.start) strands ≡ task.feeds
    pub backs_are : map (λ s. back_of s.now) strands ≡ backs
    pub each : All (λ s. StandsFront t left faults place limit seen s.start s.now s.steps s.ops) strands
    pub linked : TookFirstLinks links.full limit seen (length (link_entries t task.number task.lines)) links.count
    pub count : length (own_of number seen) ≡ length start + (taken_of_all strands + links.count)
    pub order : (job : Job) → IsJobOn MayBecome task.number strands links job → job.lines ≡ task.lines →
        IsPrefix (own_of number seen) (start ++ entries_of_job t job)

  -- what a job came to: it was done, or memory was wanting before
  abbrev pub HasRunUnless : Bool → ℕ → List Entry → List Posted → Task S → List Told → List (S × FeedTold) → Type 0
  HasRunUnless true number start seen task told backs = HasBegun number start seen task backs
  HasRunUnless false number start seen task told backs = HasRun number start seen task told backs

  -- What a job came to, in any case: every source was given back, and what is told is right and is that of a front of
  -- its lines. Where it wanted no memory it was done.
  pub record Ends (number : ℕ) (start : List Entry) (seen : List Posted) (task : Task S) (wanted : Bool)
      (told : List Told) (backs : List (S × FeedTold)) : Type 0 where
    pub done : HasRunUnless wanted number start seen task told backs
    pub front : TellsOwnFront t limit seen number start task.number task.lines told
    pub back : AllZip IsBack task.feeds backs
