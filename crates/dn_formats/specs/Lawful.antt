-- When a history and what is told of jobs are lawful: the history is a shuffle of what it took of the feeds and of the
-- jobs' link lines, each job's entries stand in the job's order, and each query's pin, and each link line's entry, has
-- before it exactly what its job's earlier lines gave.
use Rattle.std.specs.Prelude.{ℕ, Bool, false, List, [], ◌∷◌, ◌++◌, ◌≡◌, ◌<◌, ◌≤◌, ◌==◌, suc, not, All, length, map, filter, take, drop, fold, ◌+◌, ◌-◌, ◌&&◌, ◌||◌, Option, None, Some, if◌then◌else◌, IsTrue, IsSome, option_map}
use Rattle.std.specs.List.{AllZip, list_any, flat_map, filter_map}
use Rattle.dn_model.specs.Answer.{IsAnswer}
use Rattle.dn_model.specs.Entry.{is_of_feed}
use Rattle.dn_model.specs.Lookup.{link_of}
use Rattle.dn_model.specs.Query.{Question, unknown_of}
use Rattle.feed_model.specs.Steps.{FrameStep, updates, FeedRead, kept_of, entries_of}
use Rattle.base.specs.declared.ids.RouterId.{RouterId}
use Rattle.base.specs.declared.ids.LinkId.{LinkId}
use Rattle.dn_model.specs.declared.topology.Topology.{Topology}
use Rattle.dn_model.specs.declared.entry.Entry.{Entry}
use Rattle.dn_model.specs.declared.entry.Entry.TheVariants as entry
use Rattle.dn_model.specs.declared.entry.Op.{Op}
use Rattle.dn_formats.specs.declared.script.Line.{Line}
use Rattle.dn_formats.specs.declared.script.Line.TheVariants.{Take, Ask, Link}
use Rattle.feed_model.specs.declared.feed_told.FeedEnd.{FeedEnd}
use Rattle.feed_model.specs.declared.feed_told.FeedEnd.TheVariants as ends
use Rattle.dn_formats.specs.declared.told.Outcome.{Outcome}
use Rattle.dn_formats.specs.declared.told.Outcome.TheVariants.{Answered, Unknown}
use Rattle.dn_formats.specs.declared.told.LinkOutcome.{LinkOutcome}
use Rattle.dn_formats.specs.declared.told.LinkOutcome.TheVariants.{At, Full, UnknownLink}
use Rattle.dn_formats.specs.declared.told.Told.{Told}
use Rattle.dn_formats.specs.declared.told.Told.TheVariants.{Asked, Linked}
use Rattle.dn_formats.specs.declared.told.JobTold.{JobTold}

-- whether an entry came from a feed
abbrev pub is_from : FeedRead → Entry → Bool
is_from f e = is_of_feed f.feed_no e

-- whether an entry came from one of these feeds
abbrev pub is_from_some : List FeedRead → Entry → Bool
is_from_some feeds e = list_any (λ f. is_from f e) feeds

-- the history took all updates of a feed
abbrev pub IsWhole : FeedRead → Type 0
IsWhole f = f.kept ≡ length (updates f.steps)

-- A full history broke a feed off: it took the updates of the frames before the last, and not all of the last frame's;
-- and it has as many entries as its limit.
pub record IsBrokenOff (limit : ℕ) (history : List Entry) (f : FeedRead) : Type 0 where
  pub before : List FrameStep
  pub last : FrameStep
  pub steps : f.steps ≡ before ++ last ∷ []
  pub at_least : length (updates before) ≤ f.kept
  pub fewer : f.kept < length (updates f.steps)
  pub full : length history ≡ limit

-- how many updates a history of this limit took of a feed with this end: all, save where it was full
abbrev pub IsKeptAt : FeedEnd → ℕ → List Entry → FeedRead → Type 0
IsKeptAt ends.End limit history f = IsWhole f
IsKeptAt (ends.CutShort o) limit history f = IsWhole f
IsKeptAt (ends.Lost o cause) limit history f = IsWhole f
IsKeptAt ends.TooLong limit history f = IsWhole f
IsKeptAt ends.Full limit history f = IsBrokenOff limit history f
IsKeptAt ends.Faulted limit history f = IsWhole f

-- the same by the feed's own end
abbrev pub IsKept : ℕ → List Entry → FeedRead → Type 0
IsKept limit history f = IsKeptAt f.end limit history f

-- whether a line takes frames of this router's feed
abbrev pub takes : RouterId → Line → Bool
takes r (Take l q count) = q.0 == r.0
takes r (Ask l query) = false
takes r (Link l name down) = false

-- how many frames two lines ask for together, where None is all that are left
abbrev pub both_counts : Option ℕ → Option ℕ → Option ℕ
both_counts None n = None
both_counts (Some m) None = None
both_counts (Some m) (Some n) = Some (m + n)

-- how many frames of a router's feed a line asks for
abbrev pub asked_by : RouterId → Line → Option ℕ
asked_by r (Take l q count) = if q.0 == r.0 then count else Some 0
asked_by r (Ask l query) = Some 0
asked_by r (Link l name down) = Some 0

-- how many frames of a router's feed lines ask for
abbrev pub asked : RouterId → List Line → Option ℕ
asked r lines = fold both_counts (Some 0) (map (asked_by r) lines)

-- this many frames from the front, or all
abbrev pub front_of : Option ℕ → List FrameStep → List FrameStep
front_of None steps = steps
front_of (Some n) steps = take n steps

-- the frames of a feed that lines take
abbrev pub taken : List Line → FeedRead → List FrameStep
taken lines f = front_of (asked f.router lines) f.steps

-- the updates of the frames that lines take of a feed, as far as the history took them
abbrev pub kept_by : List Line → FeedRead → List (RouterId × Op)
kept_by lines f = kept_of f (taken lines f)

-- a script: its lines, and of how many of its link lines the history took the entry, which are the first so many
pub record ScriptRun : Type 0 where
  pub lines : List Line
  pub kept_links : ℕ

-- A job: its number, the lines of its script, none where it has no script, the feeds that it alone takes, and of how many
-- of its link lines the history took the entry.
pub record Job : Type 0 where
  pub number : ℕ
  pub lines : List Line
  pub feeds : List FeedRead
  pub kept_links : ℕ

-- whether a script takes a feed
abbrev pub takes_feed : List Line → FeedRead → Bool
takes_feed lines f = list_any (takes f.router) lines

-- the feeds that no script takes
abbrev pub untaken_feeds : List ScriptRun → List FeedRead → List FeedRead
untaken_feeds scripts feeds = filter (λ f. not (list_any (λ script. takes_feed script.lines f) scripts)) feeds

-- the jobs of scripts, the first with this number: each has the feeds that it takes
abbrev pub script_jobs : ℕ → List ScriptRun → List FeedRead → List Job
script_jobs number [] feeds = []
script_jobs number (script ∷ scripts) feeds = record {
  number = number;
  lines = script.lines;
  feeds = filter (takes_feed script.lines) feeds;
  kept_links = script.kept_links;
} ∷ script_jobs (suc number) scripts feeds

-- a job for each of these feeds, the first with this number
abbrev pub feed_jobs : ℕ → List FeedRead → List Job
feed_jobs number [] = []
feed_jobs number (f ∷ feeds) =
    record { number = number; lines = []; feeds = f ∷ []; kept_links = 0 } ∷ feed_jobs (suc number) feeds

-- a job for each script, and then one for each feed that no script takes, numbered from 1
abbrev pub jobs_of : List ScriptRun → List FeedRead → List Job
jobs_of scripts feeds = script_jobs 1 scripts feeds ++ feed_jobs (suc (length scripts)) (untaken_feeds scripts feeds)

-- ---- link lines

-- the entry that a line of this job makes of a link of the network: none where it takes frames or asks, or where the
-- network has no such link
abbrev pub link_entry : Topology → ℕ → Line → Option Entry
link_entry t number (Take l q count) = None
link_entry t number (Ask l query) = None
link_entry t number (Link l name down) = option_map (λ link. entry.Link number link down) (link_of t name)

-- the entries that lines make of links, in order
abbrev pub link_entries : Topology → ℕ → List Line → List Entry
link_entries t number lines = filter_map (link_entry t number) lines

-- the entries that lines of a job make of links, as far as the history took them
abbrev pub kept_of_links : Topology → Job → List Line → List Entry
kept_of_links t job lines = take job.kept_links (link_entries t job.number lines)

-- whether an entry came from a link line of the job of this number
abbrev pub is_by : ℕ → Entry → Bool
is_by number (entry.Route r feed_no op) = false
is_by number (entry.Link j link down) = j == number

-- whether an entry came from a link line of one of these jobs
abbrev pub is_by_some : List Job → Entry → Bool
is_by_some jobs e = list_any (λ job. is_by job.number e) jobs

-- A history of this limit took all link entries of a job, or fewer where it is full.
pub record AreLinksKept (t : Topology) (limit : ℕ) (history : List Entry) (job : Job) : Type 0 where
  pub at_most : job.kept_links ≤ length (link_entries t job.number job.lines)
  pub full : job.kept_links < length (link_entries t job.number job.lines) → length history ≡ limit

-- ---- the shuffle

-- A history of this limit is a shuffle of the feeds' updates and the jobs' link entries: those of each that it took are
-- there, in order, and no other entries, and there are no more of them than the limit says.
pub record IsShuffle (t : Topology) (limit : ℕ) (feeds : List FeedRead) (jobs : List Job)
    (history : List Entry) : Type 0 where
  pub within : length history ≤ limit
  pub kept : All (IsKept limit history) feeds
  pub links_kept : All (AreLinksKept t limit history) jobs
  pub each : All (λ f. filter (is_from f) history ≡ entries_of f (kept_of f f.steps)) feeds
  pub each_link : All (λ job. filter (is_by job.number) history ≡ kept_of_links t job job.lines) jobs
  pub only : All (λ e. IsTrue (is_from_some feeds e || is_by_some jobs e)) history

-- ---- what a position holds

-- The history up to a pin, or up to an entry of a link line, holds of the job exactly what the lines before gave, as far
-- as the history took it: of each of its feeds the updates that they took, and their link entries.
pub record HoldsWhatWasGiven (t : Topology) (job : Job) (before : List Line) (seen : List Entry) : Type 0 where
  pub taken : All (λ f. filter (is_from f) seen ≡ entries_of f (kept_by before f)) job.feeds
  pub links : filter (is_by job.number) seen ≡ kept_of_links t job before

-- What is told of a query of a job after some lines, where the last position was `last`: its first unknown name, or the
-- answer over the first entries of the history, up to its pin.
abbrev pub IsOutcome : Topology → List Entry → Job → List Line → ℕ → Question → Outcome → Type 0
IsOutcome t history job before last q (Unknown u) = unknown_of t q ≡ Some u
IsOutcome t history job before last q (Answered n answer) =
    (unknown_of t q ≡ None) × (last ≤ n) × (n ≤ length history)
    × HoldsWhatWasGiven t job before (take n history) × IsAnswer t (take n history) q answer

-- A link line's entry stands at a position past the last one, and before it the history holds what the lines before gave.
pub record IsLinkAt (t : Topology) (history : List Entry) (job : Job) (before : List Line) (last : ℕ)
    (name : List ℕ) (down : Bool) (p : ℕ) : Type 0 where
  pub link : LinkId
  pub named : link_of t name ≡ Some link
  pub later : last < p
  pub entry : take p history ≡ take (p - 1) history ++ entry.Link job.number link down ∷ []
  pub holds : HoldsWhatWasGiven t job before (take (p - 1) history)

-- What is told of a link line of a job after some lines, where the last position was `last`: that there is no such link,
-- or the position of its entry; or that the history was full and took no link entry of the job from here on.
abbrev pub IsLinkOutcome : Topology → ℕ → List Entry → Job → List Line → ℕ → List ℕ → Bool → LinkOutcome → Type 0
IsLinkOutcome t limit history job before last name down UnknownLink = link_of t name ≡ None
IsLinkOutcome t limit history job before last name down (At p) = IsLinkAt t history job before last name down p
IsLinkOutcome t limit history job before last name down Full =
    IsSome (link_of t name) × (job.kept_links ≤ length (link_entries t job.number before)) × (length history ≡ limit)

-- the last position after what was told of a line: a query's pin, or a link entry's position
abbrev pub pin_after : ℕ → Outcome → ℕ
pin_after last (Unknown u) = last
pin_after last (Answered n answer) = n

abbrev pub entry_after : ℕ → LinkOutcome → ℕ
entry_after last UnknownLink = last
entry_after last (At p) = p
entry_after last Full = last

abbrev pub position_after : ℕ → Told → ℕ
position_after last (Asked l query outcome) = pin_after last outcome
position_after last (Linked l name down outcome) = entry_after last outcome

-- ---- the order of what a job gives

-- the entries that a line gives of a feed, beyond those of the lines before it
abbrev pub taken_by : List Line → Line → FeedRead → List Entry
taken_by before l f = entries_of f (drop (length (kept_by before f)) (kept_by (before ++ l ∷ []) f))

-- the entry that a line gives of a link, if it gives one and the history took it
abbrev pub linked_by : Topology → Job → List Line → Line → List Entry
linked_by t job before l = drop (length (kept_of_links t job before)) (kept_of_links t job (before ++ l ∷ []))

-- the entries that lines of a job give, line by line
abbrev pub given_along : Topology → Job → List Line → List Line → List Entry
given_along t job before [] = []
given_along t job before (l ∷ lines) =
    flat_map (taken_by before l) job.feeds ++ linked_by t job before l ++ given_along t job (before ++ l ∷ []) lines

-- the feeds in the order in which lines first take them
abbrev pub first_taken : List FeedRead → List Line → List Line → List FeedRead
first_taken feeds before [] = []
first_taken feeds before (l ∷ lines) =
    filter (λ f. takes f.router l && not (takes_feed before f)) feeds ++ first_taken feeds (before ++ l ∷ []) lines

-- the entries that a feed gives beyond those of these lines
abbrev pub left_by : List Line → FeedRead → List Entry
left_by lines f = entries_of f (drop (length (kept_by lines f)) (kept_of f f.steps))

-- A job's own entries in order: those that its lines give, line by line; then those that they leave of its feeds, in the
-- order in which they first take them. The feed of a job without a script is taken by no line.
abbrev pub entries_of_job : Topology → Job → List Entry
entries_of_job t job =
    given_along t job [] job.lines
    ++ flat_map (left_by job.lines)
    (first_taken job.feeds [] job.lines ++ filter (λ f. not (takes_feed job.lines f)) job.feeds)

-- whether an entry is a job's own: from one of its feeds, or from one of its link lines
abbrev pub is_own : Job → Entry → Bool
is_own job e = is_from_some job.feeds e || is_by job.number e

-- in the history a job's own entries stand in this order
abbrev pub KeepsOrder : Topology → List Entry → Job → Type 0
KeepsOrder t history job = filter (is_own job) history ≡ entries_of_job t job

-- ---- what is told

-- What is told of the lines that are left: one outcome for each query and each link line, in order, each with its line.
abbrev pub Tells : Topology → ℕ → List Entry → Job → List Line → ℕ → List Line → List Told → Type 0
Tells t limit history job before last [] [] = Unit {0}
Tells t limit history job before last [] (told ∷ rest) = ⊥
Tells t limit history job before last (Take l q count ∷ lines) tolds =
    Tells t limit history job (before ++ Take l q count ∷ []) last lines tolds
Tells t limit history job before last (Ask l query ∷ lines) [] = ⊥
Tells t limit history job before last (Ask l query ∷ lines) (Linked m name down outcome ∷ rest) = ⊥
Tells t limit history job before last (Ask l query ∷ lines) (Asked m asked outcome ∷ rest) =
    (m ≡ l) × (asked ≡ query) × IsOutcome t history job before last query outcome
    × Tells t limit history job (before ++ Ask l query ∷ []) (pin_after last outcome) lines rest
Tells t limit history job before last (Link l name down ∷ lines) [] = ⊥
Tells t limit history job before last (Link l name down ∷ lines) (Asked m asked outcome ∷ rest) = ⊥
Tells t limit history job before last (Link l name down ∷ lines) (Linked m named is_down outcome ∷ rest) =
    (m ≡ l) × (named ≡ name) × (is_down ≡ down) × IsLinkOutcome t limit history job before last name down outcome
    × Tells t limit history job (before ++ Link l name down ∷ []) (entry_after last outcome) lines rest

-- what is told of a job
abbrev pub TellsJob : Topology → ℕ → List Entry → Job → JobTold → Type 0
TellsJob t limit history job told =
    (told.number ≡ job.number) × Tells t limit history job [] 0 job.lines told.told

-- what is told of each job, in order
abbrev pub TellsAll : Topology → ℕ → List Entry → List Job → List JobTold → Type 0
TellsAll t limit history jobs told = AllZip (TellsJob t limit history) jobs told

-- ---- the law

-- What these feeds and jobs made and told is lawful: their history, which may have as many entries as the limit says, is
-- a shuffle of what it took of the feeds and of the link lines, each job keeps its order there, and each job's queries and
-- link lines are told over it.
pub record IsLawful (t : Topology) (limit : ℕ) (feeds : List FeedRead) (jobs : List Job) (history : List Entry)
    (told : List JobTold) : Type 0 where
  pub shuffle : IsShuffle t limit feeds jobs history
  pub order : All (KeepsOrder t history) jobs
  pub tells : TellsAll t limit history jobs told
