-- What a job over several feeds has taken and told so far.
use Rattle.std.specs.Prelude.{ℕ, ◌≡◌, ◌+◌, ◌≤◌, ◌<◌, ◌==◌, Bool, true, false, List, [], ◌∷◌, ◌++◌, length, map, fold, All, Option, None}
use Rattle.std.specs.Prelude.{Some}
use Rattle.std.specs.List.{AllZip, flat_map}
use mathlib.Core.List.{IsPrefix}
use Rattle.dn_formats.specs.Lawful.{Job, asked, given_along, link_entries, position_after}
use Rattle.feed_model.specs.Steps.{FrameStep, FeedRead, kept_of}
use Rattle.dn_model.specs.declared.entry.Entry.{Entry}
use Rattle.dn_model.specs.declared.entry.Op.{Op}
use Rattle.dn_model.specs.declared.entry.Posted.{Posted}
use Rattle.base.specs.declared.ids.RouterId.{RouterId}
use Rattle.dn_model.specs.declared.topology.Topology.{Topology}
use Rattle.dn_formats.specs.declared.script.Line.{Line}
use Rattle.dn_formats.specs.declared.script.Line.TheVariants.{Take, Ask, Link}
use Rattle.dn_formats.specs.declared.told.Told.{Told}
use Rattle.route_feed.specs.FeedReader.{Reader}
use Rattle.feed_threads.specs.Feeds.{Feed, end_of_feed, Stands, StandsFront}
use Rattle.feed_threads.specs.Seats.{own_of}
use Rattle.feed_threads.specs.Takes.{IsLater, IsCount, Passes}
use Rattle.feed_threads.specs.Tells.{TellsOwn}

-- the rest of each feed is taken that a line names
abbrev pub rest_of : Line → List Line
rest_of (Take l q count) = Take l q None ∷ []
rest_of (Ask l query) = []
rest_of (Link l name down) = []

abbrev pub rests_of : List Line → List Line
rests_of lines = flat_map rest_of lines

-- the rest of each of some feeds is taken
abbrev pub rest_by : {S : Type 0} → Feed S → Line
rest_by feed = Take 0 feed.reader.told.router None

abbrev pub rests_by : {S : Type 0} → List (Feed S) → List Line
rests_by feeds = map rest_by feeds

-- a feed's reader as it was before the job, the feed as it is now, the frames that were handed out since, and which of
-- their updates the history took
pub record Strand (S : Type 0) : Type 0 where
  pub start : Reader S
  pub now : Feed S
  pub steps : List FrameStep
  pub ops : List (RouterId × Op)

-- a feed that has what a strand has, and further frames where that hasn't ended
pub record GoesOn {S : Type 0} (s : Strand S) (f : FeedRead) : Type 0 where
  pub feed_no : f.feed_no ≡ s.now.reader.told.feed_no
  pub router : f.router ≡ s.now.reader.told.router
  pub later : List FrameStep
  pub steps : f.steps ≡ s.steps ++ later
  pub kept : kept_of f s.steps ≡ s.ops
  pub none_after_end : IsLater (end_of_feed s.now) later

-- how many updates the history took of feeds in all
abbrev pub taken_of_all : {S : Type 0} → List (Strand S) → ℕ
taken_of_all [] = 0
taken_of_all (s ∷ ss) = length s.ops + taken_of_all ss

-- how many updates a history that took so many of a feed may take of it in the end: these or more, and where it broke
-- the feed off just these
abbrev pub MayKeep : Option ℕ → ℕ → ℕ → Type 0
MayKeep None so-far kept = so-far ≤ kept
MayKeep (Some n) so-far kept = kept ≡ so-far

-- What a strand's feed may come to: it has the strand's frames, and any others behind them where it hasn't ended.
pub record MayBecome {S : Type 0} (s : Strand S) (f : FeedRead) : Type 0 where
  pub feed_no : f.feed_no ≡ s.now.reader.told.feed_no
  pub router : f.router ≡ s.now.reader.told.router
  pub later : List FrameStep
  pub steps : f.steps ≡ s.steps ++ later
  pub kept : MayKeep s.now.kept (length s.ops) f.kept
  pub none_after_end : IsLater (end_of_feed s.now) later

-- two feeds are not of one router
pub record IsApartFrom {S : Type 0} (x y : Strand S) : Type 0 where
  pub router : (x.now.reader.told.router.0 == y.now.reader.told.router.0) ≡ false
  pub back : (y.now.reader.told.router.0 == x.now.reader.told.router.0) ≡ false

abbrev pub AllApart : {S : Type 0} → List (Strand S) → Type 0
AllApart [] = Unit {0}
AllApart (s ∷ ss) = All (IsApartFrom s) ss × AllApart ss

-- ---- link lines

-- The history took this many of so many link entries: all of them; or, where it was full at one, fewer, and it is as
-- long as its limit.
abbrev pub TookLinks : Bool → ℕ → List Posted → ℕ → ℕ → Type 0
TookLinks false limit seen all count = count ≡ all
TookLinks true limit seen all count = (count < all) × (limit ≤ length seen)

-- the same where memory may have been wanting: the first of them
abbrev pub TookFirstLinks : Bool → ℕ → List Posted → ℕ → ℕ → Type 0
TookFirstLinks false limit seen all count = count ≤ all
TookFirstLinks true limit seen all count = (count < all) × (limit ≤ length seen)

-- how many link entries a history that took so many may take in the end: these or more, and where it was full at one
-- just these
abbrev pub MayLink : Bool → ℕ → ℕ → Type 0
MayLink false so-far kept = so-far ≤ kept
MayLink true so-far kept = kept ≡ so-far

-- What of a job's link lines the history took: how many entries, and whether it was full at one.
pub record Links : Type 0 where
  pub count : ℕ
  pub full : Bool

-- a job of this number whose feeds go on from strands, and of whose link lines the history takes what it took, or more
pub record IsJobOn {S : Type 0} (Goes : Strand S → FeedRead → Type 0) (job_number : ℕ) (strands : List (Strand S))
    (links : Links) (job : Job) : Type 0 where
  pub number : job.number ≡ job_number
  pub feeds : AllZip Goes strands job.feeds
  pub kept : MayLink links.full links.count job.kept_links

-- ---- what is done

-- the last position of what was told: a pin, or that of a link line's entry
abbrev pub last_position : List Told → ℕ
last_position tolds = fold position_after 0 tolds

-- What these lines have given and told holds of whatever the job comes to: the own entries of the seat of this number
-- so far are those that it had before and then what the lines gave, line by line; and what is told is right, however
-- the history goes on.
pub record Whatever (t : Topology) (limit number : ℕ) (start : List Entry) (seen : List Posted) (before : List Line)
    (tolds : List Told) (job : Job) : Type 0 where
  pub order : own_of number seen ≡ start ++ given_along t job [] before
  pub tells : (more : List Posted) → TellsOwn t limit (seen ++ more) number start job [] 0 before tolds

module _ {S : Type 0} (t : Topology) (left : S → Option (List ℕ)) (faults place : S → ℕ) (limit : ℕ) where
  -- these strands lead from the readers before the job to the feeds as they are now
  pub record Woven (olds : List (Reader S)) (news : List (Feed S)) (seen : List Posted)
      (strands : List (Strand S)) : Type 0 where
    pub starts : map (λ s. s.start) strands ≡ olds
    pub nows : map (λ s. s.now) strands ≡ news
    pub each : All (λ s. Stands t left faults place limit seen s.start s.now s.steps s.ops) strands
    pub passes : All (λ s. Passes s.start s.now.reader s.steps) strands
    pub apart : AllApart strands

  -- After these lines of the job of a number, done by a seat of a number: each feed has given as many frames as they
  -- ask for, the history took their link entries or was full, and no position is past what was seen.
  pub record Tracks (number job_number : ℕ) (start : List Entry) (olds : List (Reader S)) (news : List (Feed S))
      (seen : List Posted) (before : List Line) (tolds : List Told) : Type 0 where
    pub strands : List (Strand S)
    pub links : Links
    pub woven : Woven olds news seen strands
    pub counted : All (λ s. IsCount (asked s.now.reader.told.router before) (length s.steps) (end_of_feed s.now))
        strands
    pub linked : TookLinks links.full limit seen (length (link_entries t job_number before)) links.count
    pub pinned : last_position tolds ≤ length seen
    pub count : length (own_of number seen) ≡ length start + (taken_of_all strands + links.count)
    pub whatever : (job : Job) → IsJobOn GoesOn job_number strands links job →
        Whatever t limit number start seen before tolds job

  -- Memory was wanting within these lines: what was there before the job and then what the lines give begins with the
  -- seat's own entries, whatever the job comes to. They are as many as the history took of the feeds and link lines.
  pub record Begun (number job_number : ℕ) (start : List Entry) (olds : List (Reader S)) (news : List (Feed S))
      (seen : List Posted) (lines : List Line) : Type 0 where
    pub strands : List (Strand S)
    pub links : Links
    pub starts : map (λ s. s.start) strands ≡ olds
    pub nows : map (λ s. s.now) strands ≡ news
    pub each : All (λ s. StandsFront t left faults place limit seen s.start s.now s.steps s.ops) strands
    pub apart : AllApart strands
    pub linked : TookFirstLinks links.full limit seen (length (link_entries t job_number lines)) links.count
    pub count : length (own_of number seen) ≡ length start + (taken_of_all strands + links.count)
    pub order : (job : Job) → IsJobOn MayBecome job_number strands links job → IsPrefix (own_of number seen)
        (start ++ given_along t job [] lines)
