-- What ends a run before its jobs, and how far its steps came.
use Rattle.std.specs.Prelude.{◌≡◌, ◌<◌, ◌≤◌, ◌==◌, ℕ, true, false, List, [], ◌∷◌, ◌++◌, length, map, All, IsTrue}
use Rattle.std.specs.Prelude.{Option}
use Rattle.std.specs.List.{list_any}
use Rattle.std.specs.Arc.{arc_value}
use Rattle.dn_io.specs.Calls.{Call}
use Rattle.dn_io.specs.Files.{Files}
use Rattle.dn_formats.specs.declared.error_line.ErrorLine.{ErrorLine}
use Rattle.dn_formats.specs.declared.script.Line.{Line as script_line}
use Rattle.base.specs.Lists.{all_differ}
use Rattle.base.specs.declared.ids.RouterId.{RouterId}
use Rattle.dn_model.specs.declared.topology.Topology.{Topology}
use Rattle.dn_run.specs.CommandLine.{RunWords}
use Rattle.dn_run.specs.Ending.{Ending, Stopped}
use Rattle.dn_run.specs.Jobs.{scripts_of, same_router, AreFewJobs, AreFit}
use Rattle.dn_run.specs.Limits.{most_lines}
use Rattle.dn_run.specs.PartsRead.{feed_texts}
use Rattle.dn_run.specs.Run.{FeedParts, Follows, FromFeeds, FromWords, IsLine, ScriptLines, ScriptParts, count_jobs}
use Rattle.dn_run.specs.Run.{feed_files, names_of_run, read_scripts, script_files, steps_of, taken_by_scripts}
use Rattle.dn_run.specs.Run.{takes_router}
use Rattle.dn_run.specs.Stage.{Stage}
use Rattle.dn_run.specs.declared.input.Input.{Input}
use Rattle.dn_run.specs.declared.load.Loaded.{Loaded}
use Rattle.dn_run.specs.declared.load.Loaded.TheVariants.{Read, Refused, Failed}
use Rattle.dn_run.specs.declared.parts.PartsRefused.{PartsRefused}
use Rattle.dn_run.specs.declared.parts.PartsRefused.TheVariants as parts_refused
use Rattle.dn_run.specs.declared.routers.RoutersRefused.{RoutersRefused}
use Rattle.dn_run.specs.declared.routers.RoutersRefused.TheVariants as routers_refused
use Rattle.dn_run.specs.declared.status.Verdict.{Verdict}
use Rattle.dn_run.specs.declared.status.Verdict.TheVariants.{BadWords, ReadFault}
use Rattle.dn_run.specs.declared.stop.Stop.{Stop}
use Rattle.dn_run.specs.declared.stop.Stop.TheVariants.{Line, OutOfMemory}

-- what the refusal of parts or of routers ends a run with
abbrev pub stop_of_parts : PartsRefused → Stop
stop_of_parts (parts_refused.Line line) = Line BadWords line
stop_of_parts parts_refused.OutOfMemory = OutOfMemory

abbrev pub stop_of_routers : RoutersRefused → Stop
stop_of_routers (routers_refused.Line line) = Line BadWords line
stop_of_routers routers_refused.OutOfMemory = OutOfMemory

-- what may still be due of a run after some calls, by how it ends
abbrev pub Due : Type 1
Due = Ending → List Call → Type 0

-- A step made these calls: whatever comes of what is due after it, over further names, comes of what was due before it.
abbrev pub GoesOn : List Call → List (List ℕ) → Due → List Call → List (List ℕ) → Due → Type 0
GoesOn old names due new rest after =
    (ending : Ending) (last : List Call) → Stage new last rest ending (after ending) →
    Stage old last names ending (due ending)

-- a step made these calls, and the run ends there
abbrev pub EndsWith : List Call → List (List ℕ) → Due → List Call → Stop → Type 0
EndsWith old names due new (Line verdict error) =
    (ending : Ending) → IsLine ending verdict error → Stage old new names ending (due ending)
EndsWith old names due new OutOfMemory = Stage old new names Stopped (due Stopped)

-- what is due of a run
abbrev pub from_run : RunWords → Option Files → Due
from_run words files ending calls = Follows files (steps_of words) calls ending

-- a run came as far as these calls, and this is due then
abbrev pub Reaches : RunWords → Option Files → List Call → List (List ℕ) → Due → Type 0
Reaches words files calls rest after = GoesOn [] (names_of_run words) (from_run words files) calls rest after

-- a run ends before its jobs
abbrev pub Stops : RunWords → Option Files → List Call → Stop → Type 0
Stops words files calls stop = EndsWith [] (names_of_run words) (from_run words files) calls stop

-- what is due of these words
abbrev pub from_words : List (List ℕ) → Option Files → Due
from_words words files ending calls = FromWords words files calls ending

-- what is due once the topology, the routers of the feeds and the scripts were read, and there are no more jobs than
-- may be
abbrev pub from_feeds : Option Files → Topology → List RouterId → ScriptLines → FeedParts → Due
from_feeds files t routers scripts feeds ending calls = FromFeeds files t routers scripts [] feeds calls ending

-- what is due before these scripts are read, after those
abbrev pub from_scripts : Option Files → Topology → List RouterId → ScriptLines → ScriptParts → FeedParts → Due
from_scripts files t routers read scripts feeds ending calls =
    Follows files (read_scripts t routers read scripts feeds) calls ending

-- the names of these scripts' and these feeds' files
abbrev pub names_left : ScriptParts → FeedParts → List (List ℕ)
names_left scripts feeds = script_files scripts ++ feed_files feeds

-- these routers are those from which scripts take, in any order
abbrev pub AreTaken : List RouterId → ScriptLines → Type 0
AreTaken taken scripts =
    (r : RouterId) → list_any (λ q. q.0 == r.0) taken ≡ list_any (λ q. q.0 == r.0) (taken_by_scripts scripts)

-- These lines may follow scripts that take from these routers: they take from none of them, and there are no more of them
-- than a script may have.
pub record MayFollow (taken : List RouterId) (lines : List script_line) : Type 0 where
  pub clear : (r : RouterId) → takes_router r lines ≡ true → list_any (λ q. q.0 == r.0) taken ≡ false
  pub short : length lines ≤ most_lines

-- the script of this part was read, after scripts that take from these routers
abbrev pub ScriptGoesOn : Option Files → Topology → List RouterId → List RouterId → List Call → ℕ × List ℕ →
    List Call → List script_line → Type 0
ScriptGoesOn files t routers taken old part new lines =
    (read : ScriptLines) (scripts : ScriptParts) (feeds : FeedParts) → AreTaken taken read →
    GoesOn old (part.1 ∷ names_left scripts feeds) (from_scripts files t routers read (part ∷ scripts) feeds)
    new (names_left scripts feeds) (from_scripts files t routers (read ++ lines ∷ []) scripts feeds)

-- the run ends with the script of this part, after scripts that take from these routers
abbrev pub ScriptEnds : Option Files → Topology → List RouterId → List RouterId → List Call → ℕ × List ℕ →
    List Call → Stop → Type 0
ScriptEnds files t routers taken old part new stop =
    (read : ScriptLines) (scripts : ScriptParts) (feeds : FeedParts) → AreTaken taken read →
    EndsWith old (part.1 ∷ names_left scripts feeds) (from_scripts files t routers read (part ∷ scripts) feeds) new stop

-- these scripts were read, and then whatever comes of the rest of all comes of all
abbrev pub ScriptsGoOn : Option Files → Topology → List RouterId → List Call → ScriptParts → List Call →
    ScriptLines → ScriptParts → Type 0
ScriptsGoOn files t routers old all new read rest =
    (feeds : FeedParts) → GoesOn old (names_left all feeds) (from_scripts files t routers [] all feeds)
    new (names_left rest feeds) (from_scripts files t routers read rest feeds)

-- the run ends with one of these scripts
abbrev pub ScriptsEnd : Option Files → Topology → List RouterId → List Call → ScriptParts → List Call → Stop → Type 0
ScriptsEnd files t routers old all new stop =
    (feeds : FeedParts) →
    EndsWith old (names_left all feeds) (from_scripts files t routers [] all feeds) new stop

-- what is due once all were
abbrev pub from_jobs : Option Files → Topology → List RouterId → ScriptLines → FeedParts → Due
from_jobs files t routers scripts feeds ending calls =
    Follows files (count_jobs (record { t = t; routers = routers; scripts = scripts; feeds = feeds })) calls ending

-- The input of a run that came as far as these calls: its feeds, its scripts, its jobs, no more than may be, and the
-- routers of the feeds, which the topology has and which differ.
pub record Starts (words : RunWords) (files : Option Files) (calls : List Call) (input : Input) : Type 0 where
  pub reaches : Reaches words files calls (feed_files (map feed_texts input.feeds.items))
      (from_feeds files (arc_value input.topology) input.routers.items (scripts_of input.scripts.items)
      (map feed_texts input.feeds.items))
  pub as_many : length input.routers.items ≡ length input.feeds.items
  pub few : length input.feeds.items ≤ 64
  pub few_jobs : AreFewJobs (scripts_of input.scripts.items) input.routers.items
  pub fit_scripts : AreFit (scripts_of input.scripts.items)
  pub known : All (λ r. r.0 < length (arc_value input.topology).routers) input.routers.items
  pub apart : IsTrue (all_differ same_router input.routers.items)
  pub room : length calls ≤ 65

-- what became of a file ends a run with this verdict, where its text is refused, or with this line, where it failed
abbrev pub StopsAs : {T : Type 0} → Verdict → ErrorLine → Loaded T → Stop → Type 0
StopsAs bad fault (Read x) stop = ⊥
StopsAs bad fault (Refused line) stop = stop ≡ Line bad line
StopsAs bad fault Failed stop = stop ≡ Line ReadFault fault
