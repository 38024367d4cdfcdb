-- What the jobs of a run came to.
use Rattle.std.specs.Prelude.{◌≡◌, ℕ, suc, ◌+◌, ◌<◌, ◌≤◌, ◌^◌, ◌==◌, Bool, true, false, IsTrue, map, List, [], ◌∷◌}
use Rattle.std.specs.Prelude.{length, All, Option, Some}
use Rattle.std.specs.List.{list_any}
use Rattle.feed_model.specs.Feed.{IsToTableOf}
use Rattle.feed_model.specs.Steps.{FeedRead, told_of, updates}
use Rattle.dn_model.specs.Entry.{entries}
use Rattle.dn_model.specs.declared.entry.Posted.{Posted}
use Rattle.base.specs.Lists.{all_differ}
use Rattle.base.specs.declared.ids.RouterId.{RouterId}
use Rattle.dn_formats.specs.declared.script.Script.{Script}
use Rattle.dn_model.specs.declared.topology.Topology.{Topology}
use Rattle.feed_model.specs.declared.feed_told.FeedTold.{FeedTold}
use Rattle.dn_formats.specs.declared.told.JobTold.{JobTold}
use Rattle.route_feed.specs.FeedReader.{KnowsTables, Reader, told_so_far}
use Rattle.feed_threads.specs.Feeds.{CountsBy, StandsBy}
use Rattle.dn_run.specs.Law.{IsLawfulRun}
use Rattle.dn_run.specs.Limits.{most_jobs, most_lines}
use Rattle.dn_run.specs.Run.{ScriptLines, takes_router, untaken}

-- the lines of scripts
abbrev pub scripts_of : List Script → ScriptLines
scripts_of scripts = map (λ script. script.lines) scripts

-- a reader that has read nothing yet, of a device's feed
pub record IsFresh {S : Type 0} (t : Topology) (faults : S → ℕ) (r : Reader S) : Type 0 where
  pub told : r.told ≡ told_so_far r.told.feed_no r.told.router []
  pub passed : r.passed ≡ 0
  pub held : r.held ≡ []
  pub limit : r.limit ≤ 2 ^ 30
  pub router : r.told.router.0 < length t.routers
  pub faults_none : faults r.source ≡ 0
  pub knows : KnowsTables t r.told.router r.tables

-- the feeds are numbered in order, from this number
abbrev pub AreNumbered : {S : Type 0} → ℕ → List (Reader S) → Type 0
AreNumbered number [] = Unit {0}
AreNumbered number (r ∷ rs) = (r.told.feed_no ≡ number) × AreNumbered (suc number) rs

-- no two of the feeds are of one router
abbrev pub same_router : RouterId → RouterId → Bool
same_router q r = q.0 == r.0

abbrev pub HaveRoutersApart : {S : Type 0} → List (Reader S) → Type 0
HaveRoutersApart readers = IsTrue (all_differ same_router (map (λ r. r.told.router) readers))

-- the routers of readers' feeds
abbrev pub routers_of_readers : {S : Type 0} → List (Reader S) → List RouterId
routers_of_readers readers = map (λ r. r.told.router) readers

-- no two scripts take from one router
abbrev pub TakeApart : ScriptLines → Type 0
TakeApart [] = Unit {0}
TakeApart (lines ∷ scripts) =
    ((r : RouterId) → takes_router r lines ≡ true → list_any (takes_router r) scripts ≡ false) × TakeApart scripts

-- Scripts as a run has them: no two take from one router, and none has more lines than a script may have.
pub record AreFit (scripts : ScriptLines) : Type 0 where
  pub apart : TakeApart scripts
  pub short : All (λ lines. length lines ≤ most_lines) scripts

-- scripts over feeds of these routers are no more jobs than a run has
abbrev pub AreFewJobs : ScriptLines → List RouterId → Type 0
AreFewJobs scripts routers = length scripts + length (untaken scripts routers) ≤ most_jobs

-- A feed was read to this end by a reader that began as `start`, and its source came back: its count of faults goes
-- with the end, this is told of the feed, and each update is to a table of its device. Where the source told its bytes,
-- these steps are what they come to.
pub record IsReadAs {S : Type 0} (t : Topology) (left : S → Option (List ℕ)) (faults : S → ℕ) (start : Reader S)
    (source : S) (told : FeedTold) (f : FeedRead) : Type 0 where
  pub reader : Reader S
  pub source_is : reader.source ≡ source
  pub reader_router : reader.told.router ≡ start.told.router
  pub limit : reader.limit ≡ start.limit
  pub feed_no : f.feed_no ≡ start.told.feed_no
  pub router : f.router ≡ start.told.router
  pub told_is : told ≡ told_of f
  pub counts : CountsBy (Some f.end) (faults source)
  pub own : All (IsToTableOf t f.router) (updates f.steps)
  pub stands : (bytes : List ℕ) → left start.source ≡ Some bytes →
      StandsBy (Some f.end) t reader (left source) bytes f.steps

-- the same of all feeds, in order
abbrev pub AreReadAs : {S : Type 0} → Topology → (S → Option (List ℕ)) → (S → ℕ) → List (Reader S) → List S →
    List FeedTold → List FeedRead → Type 0
AreReadAs t left faults [] [] [] [] = Unit {0}
AreReadAs t left faults (start ∷ starts) (source ∷ sources) (told ∷ tolds) (f ∷ fs) =
    IsReadAs t left faults start source told f × AreReadAs t left faults starts sources tolds fs
AreReadAs t left faults starts sources tolds fs = ⊥

-- The jobs were run, and the feeds read to their ends: the history is a lawful one of what these and the scripts' link
-- lines gave, and so is what is told of each job.
pub record HasRun {S : Type 0} (t : Topology) (left : S → Option (List ℕ)) (faults : S → ℕ) (starts : List (Reader S))
    (sources : List S) (tolds : List FeedTold) (history : List Posted) (scripts : ScriptLines)
    (jobs : List JobTold) : Type 0 where
  pub feeds : List FeedRead
  pub read : AreReadAs t left faults starts sources tolds feeds
  pub lawful : IsLawfulRun t feeds scripts (entries history) jobs
