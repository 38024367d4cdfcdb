-- What a run comes to: its steps in order, of which the first that fails ends it.
use Rattle.std.specs.Prelude.{ℕ, suc, Bool, true, false, List, [], ◌∷◌, ◌++◌, ◌≡◌, ◌≤◌, ◌+◌, ◌==◌, ◌&&◌, nat_lt, not}
use Rattle.std.specs.Prelude.{All, length, map, filter, Option, None, Some, MatchOption, Result, Ok, Err}
use Rattle.std.specs.Prelude.{if◌then◌else◌, option_and_then}
use Rattle.std.specs.List.{list_all, list_any, filter_map, flat_map}
use Rattle.std.specs.Option.{option_to_list}
use Rattle.dn_io.specs.Told.{with_end, NothingLeft}
use Rattle.dn_io.specs.Files.{Files}
use Rattle.dn_io.specs.Calls.{Call, CallState, Out, Refused, Back, state_failed}
use Rattle.dn_formats.specs.Words.{FeedWords, PartsSaid, parts_of, unless_faulty}
use Rattle.dn_formats.specs.TopologyText.{topology_of}
use Rattle.dn_model.specs.Tables.{device_of, parts}
use Rattle.dn_model.specs.Topology.{Parts}
use Rattle.dn_model.specs.Lookup.{router_of}
use Rattle.dn_formats.specs.ScriptText.{script_of}
use Rattle.feed_model.specs.Feed.{IsReading, IsFaultedReading, IsToTableOf}
use Rattle.feed_model.specs.Steps.{FeedRead, told_of, updates}
use Rattle.dn_formats.specs.Lawful.{takes}
use Rattle.dn_formats.specs.Report.{report, error_text}
use Rattle.base.specs.declared.ids.RouterId.{RouterId}
use Rattle.dn_model.specs.declared.topology.Topology.{Topology}
use Rattle.dn_model.specs.declared.entry.Entry.{Entry}
use Rattle.dn_formats.specs.declared.script.Line.{Line}
use Rattle.dn_formats.specs.declared.script.Line.TheVariants.{Take, Ask, Link}
use Rattle.feed_model.specs.declared.feed_told.FeedEnd.{FeedEnd}
use Rattle.feed_model.specs.declared.feed_told.FeedEnd.TheVariants as ends
use Rattle.feed_model.specs.declared.feed_told.FeedTold.{FeedTold}
use Rattle.dn_formats.specs.declared.told.JobTold.{JobTold}
use Rattle.dn_formats.specs.declared.error_line.ErrorLine.{ErrorLine}
use Rattle.dn_formats.specs.declared.error_line.ErrorLine.TheVariants as errors
use Rattle.dn_run.specs.CommandLine.{CommandWords, Run, Make, RunWords, command_of}
use Rattle.dn_run.specs.Ending.{Ending, Ruled, Stopped, IfRuled, OrStops}
use Rattle.dn_run.specs.Exit.{Exit, ByVerdict, ByWriteFault, ByMemory}
use Rattle.dn_run.specs.Law.{IsLawfulRun}
use Rattle.dn_run.specs.Limits.{feed_limit, most_jobs}
use Rattle.dn_run.specs.Made.{IsMade}
use Rattle.dn_run.specs.Opened.{text_limit, IsReadFront, OnBytes, WithBytes, FailsWhereTold}
use Rattle.dn_run.specs.declared.status.Verdict.{Verdict}
use Rattle.dn_run.specs.declared.status.Verdict.TheVariants.{Done, Refusals, BadWords, BadTopology, BadScript}
use Rattle.dn_run.specs.declared.status.Verdict.TheVariants.{ReadFault}

-- the lines of scripts, one list for each
abbrev pub ScriptLines : Type 0
ScriptLines = List (List Line)

-- scripts, by their files, and feeds, by their routers and files, each with the number of its part
abbrev pub ScriptParts : Type 0
ScriptParts = List (ℕ × List ℕ)

abbrev pub FeedParts : Type 0
FeedParts = List (ℕ × FeedWords)

-- this verdict, with this error line
abbrev pub IsLine : Ending → Verdict → ErrorLine → Type 0
IsLine ending due error = IfRuled ending (λ verdict text. (verdict ≡ due) × (text ≡ error_text error))

-- an error line instead of a report, with no further name asked for
abbrev pub IsErrorLine : Ending → List Call → Verdict → ErrorLine → Type 0
IsErrorLine ending calls due error = (calls ≡ []) × IsLine ending due error

-- ---- how a run ends

-- whether a feed ended well, at its own end
abbrev pub ended_well : Option FeedEnd → Bool
ended_well (Some ends.End) = true
ended_well _ = false

-- whether reading a feed failed
abbrev pub is_faulted : Option FeedEnd → Bool
is_faulted (Some ends.Faulted) = true
is_faulted _ = false

-- whether reading some feed failed
abbrev pub some_faulted : List FeedTold → Bool
some_faulted tolds = list_any (λ told. is_faulted told.end) tolds

-- whether every feed ended well, with no frame refused
abbrev pub all_well : List FeedTold → Bool
all_well tolds = list_all (λ told. ended_well told.end && (length told.refused == 0)) tolds

-- what a run comes to whose feeds told this: a read fault, or done where every feed ended well with no frame refused
abbrev pub verdict_of : List FeedTold → Verdict
verdict_of tolds = if some_faulted tolds then ReadFault else (if all_well tolds then Done else Refusals)

-- ---- the report

-- The report of a run, which tells this of the feeds: one lawful history, a shuffle of what the feeds gave and of the
-- scripts' link lines, in which each job's own entries stand in the order of its lines; and each query's answer over its
-- pin, and each link line's position.
pub record IsReported (t : Topology) (scripts : ScriptLines) (feeds : List FeedRead) (tolds : List FeedTold)
    (text : List ℕ) : Type 0 where
  pub history : List Entry
  pub told : List JobTold
  pub lawful : IsLawfulRun t feeds scripts history told
  pub text_is : text ≡ report t tolds history told

-- of a feed that ended of itself, or inside a frame, nothing is left
abbrev pub IsReadToEnd : FeedEnd → Option (List ℕ) → Type 0
IsReadToEnd ends.End left = NothingLeft left
IsReadToEnd (ends.CutShort o) left = NothingLeft left
IsReadToEnd _ left = Unit {0}

-- What was read of a feed whose file has these bytes: all of it up to the limit, or where reading failed what came
-- before the bytes that are left. No byte past one beyond the limit is read.
abbrev pub IsReadOfBytes : Topology → List ℕ → CallState → FeedRead → Type 0
IsReadOfBytes t bytes (Back false left) f =
    IsReading t f.router bytes feed_limit f.steps f.end
    × IsReadFront bytes (feed_limit + 1) left × IsReadToEnd f.end left
IsReadOfBytes t bytes (Back true (Some left)) f =
    (read : List ℕ) × (bytes ≡ read ++ left) × (length read ≤ feed_limit)
    × IsFaultedReading t f.router read f.steps × (f.end ≡ ends.Faulted)
IsReadOfBytes t bytes _ f = ⊥

-- Of a feed whose bytes aren't told: its end tells a fault exactly where reading it failed, and never a full history;
-- and each update is to a table of its device.
abbrev pub IsReadOf : Topology → Option (List ℕ) → CallState → FeedRead → Type 0
IsReadOf t None state f =
    (is_faulted (Some f.end) ≡ state_failed state) × (f.end ≡ ends.Full → ⊥)
    × All (IsToTableOf t f.router) (updates f.steps)
IsReadOf t (Some bytes) state f = IsReadOfBytes t bytes state f

-- What the report tells of a feed: what was read of it, with its counts; where its bytes aren't told, its number,
-- router and end.
abbrev pub IsToldOf : Option (List ℕ) → FeedRead → FeedTold → Type 0
IsToldOf None f told = (told.feed_no ≡ f.feed_no) × (told.router ≡ f.router) × (told.end ≡ Some f.end)
IsToldOf (Some bytes) f told = told ≡ told_of f

-- a feed that was opened: the bytes of its file, where the world tells them, and what became of the call that asked for
-- it
pub record OpenedFeed : Type 0 where
  pub bytes : Option (List ℕ)
  pub state : CallState

-- what was read and is told of the opened feeds, which are of these routers, the first with this number
abbrev pub AreReadOf : Topology → ℕ → List RouterId → List OpenedFeed → List FeedRead → List FeedTold → Type 0
AreReadOf t n [] [] [] [] = Unit {0}
AreReadOf t n (r ∷ rs) (o ∷ os) (f ∷ fs) (told ∷ tolds) =
    (f.feed_no ≡ n) × (f.router ≡ r) × IsReadOf t o.bytes o.state f × IsToldOf o.bytes f told
    × AreReadOf t (suc n) rs os fs tolds
AreReadOf t n _ _ _ _ = ⊥

-- the feeds, whose files were handed out and given back, are read, and the report is printed
pub record IsRunOf (t : Topology) (routers : List RouterId) (scripts : ScriptLines) (opened : List OpenedFeed)
    (verdict : Verdict) (text : List ℕ) : Type 0 where
  pub feeds : List FeedRead
  pub tolds : List FeedTold
  pub read : AreReadOf t 1 routers opened feeds tolds
  pub reported : IsReported t scripts feeds tolds text
  pub verdict_is : verdict ≡ verdict_of tolds

-- ---- the steps

-- A name was asked for first, and its state and the further calls are these. Where memory is wanted the run stops after
-- it, or goes on like any other.
abbrev pub Asks : Ending → List Call → List ℕ → (CallState → List Call → Type 0) → Type 0
Asks ending [] name next = ⊥
Asks ending (call ∷ more) name next = (call.name ≡ name) × OrStops ending more (next call.state more)

-- what follows where a file is read whole, but no further than one byte past the limit: a fault where it failed, and
-- else what is made of its bytes
abbrev pub OnFile : Option Files → List ℕ → CallState → Type 0 → (List ℕ → Type 0) → Type 0
OnFile files name Out fault good = ⊥
OnFile files name Refused fault good = fault
OnFile files name (Back true left) fault good = fault × FailsWhereTold files name text_limit (Back true left)
OnFile files name (Back false left) fault good = OnBytes files name left good

-- a feed that was opened and given back, of which nothing was read, as far as its bytes are told
abbrev pub IsUnread : Option (List ℕ) → CallState → Type 0
IsUnread None state = state_failed state ≡ false
IsUnread (Some bytes) state = state ≡ Back false (Some bytes)

abbrev pub IsUntouched : OpenedFeed → Type 0
IsUntouched o = IsUnread o.bytes o.state

-- What follows where a feed is opened. Where it can't be, the run ends, and no byte of the feeds before it was read.
abbrev pub OnFeed : Option Files → ℕ → List ℕ → List OpenedFeed → CallState → List Call → Ending →
    (List OpenedFeed → Type 0) → Type 0
OnFeed files part name opened Out more ending next = ⊥
OnFeed files part name opened Refused more ending next =
    All IsUntouched opened × IsErrorLine ending more ReadFault (errors.ReadPart part)
OnFeed files part name opened (Back failed left) more ending next =
    WithBytes files name (λ bytes. next (opened ++ record { bytes = bytes; state = Back failed left } ∷ []))

-- the feeds are opened in order, and then the jobs run
abbrev pub FromFeeds : Option Files → Topology → List RouterId → ScriptLines → List OpenedFeed → FeedParts →
    List Call → Ending → Type 0
FromFeeds files t routers scripts opened [] calls ending =
    (calls ≡ []) × IfRuled ending (IsRunOf t routers scripts opened)
FromFeeds files t routers scripts opened (feed ∷ feeds) calls ending =
    Asks ending calls feed.1.file (λ state more. OnFeed files feed.0 feed.1.file opened state more ending
    (λ opened. FromFeeds files t routers scripts opened feeds more ending))

-- whether a script takes the feed of this router
abbrev pub takes_router : RouterId → List Line → Bool
takes_router r lines = list_any (takes r) lines

-- the feeds' routers that no script takes
abbrev pub untaken : ScriptLines → List RouterId → List RouterId
untaken scripts routers = filter (λ r. not (list_any (takes_router r) scripts)) routers

-- the routers whose feeds a line takes
abbrev pub taken_by_line : Line → List RouterId
taken_by_line (Take l r count) = r ∷ []
taken_by_line (Ask l q) = []
taken_by_line (Link l name down) = []

-- the routers whose feeds scripts take
abbrev pub taken_by_scripts : ScriptLines → List RouterId
taken_by_scripts scripts = flat_map (flat_map taken_by_line) scripts

-- the router of a name, if it is a device: a VRF has no feed
abbrev pub device_named : Topology → List ℕ → Option RouterId
device_named t name =
    option_and_then (λ r. if (device_of t r).0 == r.0 then Some r else None) (router_of t name)

-- the faults of a feed's device, which these devices of feeds stand before: the topology doesn't have it, or it is one
-- of them
abbrev pub router_faults : List RouterId → ℕ → Option RouterId → List ErrorLine
router_faults before part None = errors.UnknownRouter part ∷ []
router_faults before part (Some r) = if list_any (λ q. q.0 == r.0) before then errors.RouterTwice part ∷ [] else []

-- the devices of feeds that the topology has
abbrev pub routers_said : Topology → FeedParts → List RouterId
routers_said t feeds = filter_map (λ feed. device_named t feed.1.router) feeds

-- the faults of the routers of feeds in order, which these routers stand before
abbrev pub routers_faults : Topology → List RouterId → FeedParts → List ErrorLine
routers_faults t before [] = []
routers_faults t before (feed ∷ feeds) =
    router_faults before feed.0 (device_named t feed.1.router)
    ++ routers_faults t (before ++ option_to_list (device_named t feed.1.router)) feeds

-- the routers of feeds, or the first fault of one
abbrev pub routers_of : Topology → FeedParts → Result (List RouterId) ErrorLine
routers_of t feeds = unless_faulty (routers_faults t [] feeds) (routers_said t feeds)

-- ---- the steps before the feeds

-- what the jobs of a run are over: a network, the routers of its feeds, the lines of its scripts, and the feeds
pub record RunInput : Type 0 where
  pub t : Topology
  pub routers : List RouterId
  pub scripts : ScriptLines
  pub feeds : FeedParts

-- The steps of a run before its feeds are opened: it fails with an error line; it reads a file and goes on by its
-- bytes, or fails with this line of the fault; it knows the parts of its network and goes on with that; or it runs over
-- its input.
pub data Steps : Type 0 where
  Fails : (verdict : Verdict) (error : ErrorLine) → Steps
  Reads : (name : List ℕ) (fault : ErrorLine) (next : List ℕ → Steps) → Steps
  Knows : (network : Parts) (next : Topology → Steps) → Steps
  Runs : (input : RunInput) → Steps

-- a run goes on with what was said, or fails with the line of its fault
abbrev pub or_fails : {A E : Type 0} → Result A E → Verdict → (E → ErrorLine) → (A → Steps) → Steps
or_fails (Ok said) verdict line next = next said
or_fails (Err fault) verdict line next = Fails verdict (line fault)

-- each script is a job, and so is each feed that no script takes; the jobs must not be too many
abbrev pub count_jobs : RunInput → Steps
count_jobs input =
    if nat_lt most_jobs (length input.scripts + length (untaken input.scripts input.routers))
    then Fails BadWords errors.TooManyJobs else Runs input

-- these scripts are read in order, behind those that were read
abbrev pub read_scripts : Topology → List RouterId → ScriptLines → ScriptParts → FeedParts → Steps
read_scripts t routers read [] feeds =
    count_jobs (record { t = t; routers = routers; scripts = read; feeds = feeds })
read_scripts t routers read (script ∷ scripts) feeds =
    Reads script.1 (errors.ReadPart script.0) (λ bytes.
    or_fails (script_of t.routers routers (taken_by_scripts read) bytes)
    BadScript (λ fault. errors.Script script.0 fault.line fault.cause) (λ lines.
    read_scripts t routers (read ++ lines ∷ []) scripts feeds))

-- all steps: the parts, the topology, the feeds' routers, the scripts, and the number of jobs
abbrev pub steps_of : RunWords → Steps
steps_of command =
    or_fails (parts_of command.parts) BadWords (λ error. error) (λ said.
    Reads command.topology errors.ReadTopology (λ bytes.
    or_fails (topology_of bytes) BadTopology errors.Topology (λ network.
    Knows network (λ t.
    or_fails (routers_of t said.feeds) BadWords (λ error. error) (λ routers.
    read_scripts t routers [] said.scripts said.feeds)))))

-- What follows by steps. Where one fails no further name is asked for; the files are asked for in the order of the
-- steps, and then the feeds.
abbrev pub Follows : Option Files → Steps → List Call → Ending → Type 0
Follows files (Fails verdict error) calls ending = IsErrorLine ending calls verdict error
Follows files (Reads name fault next) calls ending =
    Asks ending calls name (λ state more.
    OnFile files name state (IsErrorLine ending more ReadFault fault) (λ bytes. Follows files (next bytes) more ending))
Follows files (Knows network next) calls ending =
    (t : Topology) × (parts t ≡ network) × Follows files (next t) calls ending
Follows files (Runs input) calls ending =
    FromFeeds files input.t input.routers input.scripts [] input.feeds calls ending

-- the input of so many updates is made and run over: no name is asked for
abbrev pub FromMade : ℕ → List Call → Ending → Type 0
FromMade n calls ending = (calls ≡ []) × IfRuled ending (λ verdict text. (verdict ≡ Done) × IsMade n text)

-- one of the commands
abbrev pub FromCommand : CommandWords → Option Files → List Call → Ending → Type 0
FromCommand (Run command) files calls ending = Follows files (steps_of command) calls ending
FromCommand (Make n) files calls ending = FromMade n calls ending

-- the words are read
abbrev pub FromWords : List (List ℕ) → Option Files → List Call → Ending → Type 0
FromWords words files calls ending =
    MatchOption (command_of words)
    (IsErrorLine ending calls BadWords errors.Words)
    (λ command. FromCommand command files calls ending)

-- What the words, the files and the states of the calls make of a run. Where memory is wanted, its calls are the first
-- of a run that goes on like this.
abbrev pub IsDue : List (List ℕ) → Option Files → List Call → Ending → Type 0
IsDue words files calls ending = OrStops ending calls (FromWords words files calls ending)

-- ---- what is written

-- What was written: all of the text that was due by a verdict, a front of it where writing failed, or nothing.
abbrev pub IsWritten : (Ending → Type 0) → Exit → Option (List ℕ) → Option (List ℕ) → Type 0
IsWritten due (ByVerdict verdict) old new = (text : List ℕ) × due (Ruled verdict text) × (new ≡ with_end old text)
IsWritten due ByWriteFault old new =
    (verdict : Verdict) × (front back : List ℕ) × due (Ruled verdict (front ++ back)) × (new ≡ with_end old front)
IsWritten due ByMemory old new = due Stopped × (new ≡ old)

-- the text of a verdict was written whole, or a front of it, where writing failed
abbrev pub IsFinished : Verdict → List ℕ → Exit → Option (List ℕ) → Option (List ℕ) → Type 0
IsFinished verdict text (ByVerdict due) old new = (verdict ≡ due) × (new ≡ with_end old text)
IsFinished verdict text ByWriteFault old new =
    (front back : List ℕ) × (text ≡ front ++ back) × (new ≡ with_end old front)
IsFinished verdict text ByMemory old new = ⊥

-- ---- the names that are asked for

-- the files of feeds, and of scripts
abbrev pub feed_files : FeedParts → List (List ℕ)
feed_files feeds = map (λ feed. feed.1.file) feeds

abbrev pub script_files : ScriptParts → List (List ℕ)
script_files scripts = map (λ script. script.1) scripts

-- the names that a run's files have, in the order in which they are opened: topology, scripts, feeds
abbrev pub names_due : List ℕ → PartsSaid → List (List ℕ)
names_due topology said = topology ∷ (script_files said.scripts ++ feed_files said.feeds)

-- those of a run's parts; none where they are refused
abbrev pub names_of_parts : List ℕ → Result PartsSaid ErrorLine → List (List ℕ)
names_of_parts topology (Ok said) = names_due topology said
names_of_parts topology (Err error) = []

-- those of a run
abbrev pub names_of_run : RunWords → List (List ℕ)
names_of_run command = names_of_parts command.topology (parts_of command.parts)

-- those of a command: of `make` none
abbrev pub names_of_command : Option CommandWords → List (List ℕ)
names_of_command None = []
names_of_command (Some (Run command)) = names_of_run command
names_of_command (Some (Make n)) = []

-- those of a command line; none where the words are refused
abbrev pub names_of_words : List (List ℕ) → List (List ℕ)
names_of_words words = names_of_command (command_of words)
