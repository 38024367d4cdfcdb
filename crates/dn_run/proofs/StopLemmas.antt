-- How the steps before the jobs follow one another, and how one of them ends the run.
use Rattle.std.proofs.lemmas.Bool.Decides.{nat_tests}
use Rattle.std.proofs.Common.{◌≡◌, ℕ, ◌+◌, arith, true, false, nat_lt, Result, Ok, Err, IfOk, IfErr, List, [], ◌∷◌, ◌++◌, length, Option, refl, sym, inl, inr, subst}
use Rattle.std.specs.Result.{IsErrAnd}
use Rattle.dn_io.specs.Calls.{Call, Back}
use Rattle.dn_io.specs.Files.{Files}
use Rattle.dn_formats.specs.ScriptText.{script_of}
use Rattle.dn_formats.specs.Words.{FeedWords, PartsSaid, parts_of}
use Rattle.base.specs.declared.ids.RouterId.{RouterId}
use Rattle.dn_model.specs.declared.topology.Topology.{Topology}
use Rattle.dn_formats.specs.declared.script.Line.{Line as script_line}
use Rattle.dn_formats.specs.declared.script.Script.{Script}
use Rattle.dn_formats.specs.declared.error_line.ErrorLine.{ErrorLine}
use Rattle.dn_formats.specs.declared.error_line.ErrorLine.TheVariants as errors
use Rattle.dn_run.specs.CommandLine.{RunWords}
use Rattle.dn_run.specs.Ending.{Ending, Stopped}
use Rattle.dn_run.specs.Jobs.{AreFewJobs}
use Rattle.dn_run.specs.Loaded.{LoadsTopology, LoadsScript}
use Rattle.dn_run.specs.Opened.{MayCallOne}
use Rattle.dn_run.specs.PartsRead.{ArePartsRefused}
use Rattle.dn_run.specs.RoutersFound.{AreRoutersRefused}
use Rattle.dn_run.specs.Limits.{most_jobs}
use Rattle.dn_run.specs.Run.{Follows, IsLine, Reads, Steps, feed_files, or_fails, read_scripts, names_due, names_of_parts, names_of_run, untaken, routers_of, script_files}
use Rattle.dn_run.specs.Stage.{Stage, is_fault, may_end_early}
use Rattle.dn_run.specs.Stops.{AreTaken, Due, EndsWith, GoesOn, MayFollow, Reaches, ScriptEnds, ScriptGoesOn, ScriptsEnd, ScriptsGoOn, Stops, StopsAs, names_left, from_feeds, from_jobs, from_run, from_scripts, stop_of_parts, stop_of_routers}
use Rattle.dn_run.specs.declared.load.Loaded.{Loaded}
use Rattle.dn_run.specs.declared.load.Loaded.TheVariants.{Read, Refused, Failed}
use Rattle.dn_run.specs.declared.parts.PartsRefused.{PartsRefused}
use Rattle.dn_run.specs.declared.parts.PartsRefused.TheVariants as parts_refused
use Rattle.dn_run.specs.declared.routers.RoutersRefused.{RoutersRefused}
use Rattle.dn_run.specs.declared.routers.RoutersRefused.TheVariants as routers_refused
use Rattle.dn_run.specs.declared.status.Verdict.{Verdict}
use Rattle.dn_run.specs.declared.status.Verdict.TheVariants.{BadWords, BadTopology, BadScript, ReadFault}
use Rattle.dn_run.specs.declared.stop.Stop.{Stop}
use Rattle.dn_run.specs.declared.stop.Stop.TheVariants.{Line, OutOfMemory}
use Rattle.dn_run.proofs.ApartLemmas.{clear, short}
use Rattle.dn_run.proofs.ProgramLemmas.{on-bytes-out, or-map, stage-line, stage-may, stage-none, stage-read, stage-stops}
use Rattle.dn_run.proofs.StepLemmas.{from_routers, from_topology, not-too-many, read_network, routers-refused, script-failed, script-read, script-refused, too-many, topology-failed, topology-read, topology-refused}

-- ---- steps

-- the exit of a `?`
pub at-exit : {A : Type 0} (P Q : Stop → Type 0) (result : Result A Stop) → IsErrAnd result Q → ((e : Stop) → Q e → P e) → IfErr result P
at-exit P Q (Ok x) is step = absurd is
at-exit P Q (Err e) is step = step e is

pub goes : (old mid new : List Call) (names rest last : List (List ℕ)) (due between after : Due) →
    GoesOn old names due mid rest between → GoesOn mid rest between new last after → GoesOn old names due new last after
goes old mid new names rest last due between after f g = λ ending end stage. f ending end (g ending end stage)

pub ends : (stop : Stop) (old mid new : List Call) (names rest : List (List ℕ)) (due between : Due) →
    GoesOn old names due mid rest between → EndsWith mid rest between new stop → EndsWith old names due new stop
ends (Line verdict error) old mid new names rest due between f g = λ ending line. f ending new (g ending line)
ends OutOfMemory old mid new names rest due between f g = f Stopped new g

-- a step that asks for no file and is refused
ends-line : (calls : List Call) (names : List (List ℕ)) (due : Due) (verdict : Verdict) (error : ErrorLine) → false ≡ is_fault verdict → may_end_early verdict ≡ true →
    ((ending : Ending) → IsLine ending verdict error → due ending []) → EndsWith calls names due calls (Line verdict error)
ends-line calls names due verdict error fine early step = λ ending line. stage-none ending verdict error (due ending) calls names fine early line (step ending line)

pub ends-memory : (calls : List Call) (names : List (List ℕ)) (due : Due) → EndsWith calls names due calls OutOfMemory
ends-memory calls names due = stage-stops (due Stopped) calls names

-- what is due of a stage follows from what was shown
stage-due : (ending : Ending) (old new : List Call) (names : List (List ℕ)) (inner due : List Call → Type 0) → ((calls : List Call) → inner calls → due calls) →
    Stage old new names ending inner → Stage old new names ending due
stage-due ending old new names inner due step stage = record {
  more = stage.more;
  appended = stage.appended;
  asked = stage.asked;
  given_back = stage.given_back;
  failed = stage.failed;
  due_is = or-map ending stage.more (inner stage.more) (due stage.more) (step stage.more) stage.due_is;
}

-- ---- the parts

abbrev after_parts : RunWords → Result PartsSaid ErrorLine → Steps
after_parts command said = or_fails said BadWords (λ error. error) (λ parts. Reads command.topology errors.ReadTopology (read_network parts))

parts-read : (command : RunWords) (files : Option Files) (calls : List Call) (said : PartsSaid) → parts_of command.parts ≡ Ok said →
    GoesOn calls (names_of_parts command.topology (parts_of command.parts)) (from_run command files) calls (names_due command.topology said) (from_topology command.topology said files)
parts-read command files calls said is = λ ending last stage.
    subst (λ (r : Result PartsSaid ErrorLine). Stage calls last (names_of_parts command.topology r) ending
    (λ calls. Follows files (after_parts command r) calls ending)) (sym is) stage

parts-stop : (command : RunWords) (files : Option Files) (calls : List Call) (e : PartsRefused) → ArePartsRefused e (parts_of command.parts) →
    EndsWith calls (names_of_parts command.topology (parts_of command.parts)) (from_run command files) calls (stop_of_parts e)
parts-stop command files calls (parts_refused.Line error) is =
    ends-line calls (names_of_parts command.topology (parts_of command.parts)) (from_run command files) BadWords error refl refl
    (λ ending line. subst (λ (r : Result PartsSaid ErrorLine). Follows files (after_parts command r) [] ending) (sym is) (refl, line))
parts-stop command files calls parts_refused.OutOfMemory is =
    ends-memory calls (names_of_parts command.topology (parts_of command.parts)) (from_run command files)

reaches-topology : (files : Option Files) (command : RunWords) (said : PartsSaid) → parts_of command.parts ≡ Ok said →
    Reaches command files [] (names_due command.topology said) (from_topology command.topology said files)
reaches-topology files command said are = parts-read command files [] said are

pub stops-parts : (files : Option Files) (command : RunWords) (e : PartsRefused) → ArePartsRefused e (parts_of command.parts) → Stops command files [] (stop_of_parts e)
stops-parts files command e refused = parts-stop command files [] e refused

-- ---- the topology

pub topology-read-on : (files : Option Files) (old new : List Call) (name : List ℕ) (names : List (List ℕ)) (said : PartsSaid) (t : Topology) → LoadsTopology files old name new (Read t) →
    GoesOn old (name ∷ names) (from_topology name said files) new names (from_routers said files t)
topology-read-on files old new name names said t loads = λ ending last stage.
    stage-read ending (from_routers said files t ending) (from_topology name said files ending) old new last name names loads.0 loads.1
    (λ more. topology-read files name said t loads.0 more ending loads.2) stage

topology-stop : (files : Option Files) (old new : List Call) (name : List ℕ) (names : List (List ℕ)) (said : PartsSaid) (x : Loaded Topology) (stop : Stop) →
    LoadsTopology files old name new x → StopsAs BadTopology errors.ReadTopology x stop → EndsWith old (name ∷ names) (from_topology name said files) new stop
topology-stop files old new name names said (Read t) stop loads same = absurd same
topology-stop files old new name names said (Refused error) stop loads same =
    subst (λ (s : Stop). EndsWith old (name ∷ names) (from_topology name said files) new s) (sym same)
    (λ ending line. stage-line ending BadTopology error (from_topology name said files ending) old new name names (Back false loads.0) loads.1 refl refl refl line
    (topology-refused files name said error loads.0 ending loads.2 line))
topology-stop files old new name names said Failed stop loads same =
    subst (λ (s : Stop). EndsWith old (name ∷ names) (from_topology name said files) new s) (sym same)
    (λ ending line. stage-line ending ReadFault errors.ReadTopology (from_topology name said files ending) old new name names loads.0 loads.1 loads.3 loads.2 refl line
    (topology-failed files name said loads.0 ending loads.2 loads.4 line))

topology-memory : (files : Option Files) (old new : List Call) (name : List ℕ) (names : List (List ℕ)) (said : PartsSaid) → MayCallOne old name new →
    EndsWith old (name ∷ names) (from_topology name said files) new OutOfMemory
topology-memory files old new name names said may = stage-may (from_topology name said files Stopped) old new name names may (λ state. (refl, inl refl))

pub loaded-one : (files : Option Files) (old new : List Call) (name : List ℕ) (t : Topology) → LoadsTopology files old name new (Read t) → MayCallOne old name new
loaded-one files old new name t loads = inr (Back false loads.0, loads.1, refl)

abbrev names-after : PartsSaid → List (List ℕ)
names-after said = script_files said.scripts ++ feed_files said.feeds

pub stops-topology : (files : Option Files) (command : RunWords) (said : PartsSaid) → parts_of command.parts ≡ Ok said →
    (new : List Call) (x : Loaded Topology) (stop : Stop) → LoadsTopology files [] command.topology new x → StopsAs BadTopology errors.ReadTopology x stop → Stops command files new stop
stops-topology files command said are new x stop loads same =
    ends stop [] [] new (names_of_run command) (names_due command.topology said) (from_run command files) (from_topology command.topology said files)
    (reaches-topology files command said are) (topology-stop files [] new command.topology (names-after said) said x stop loads same)

pub stops-topology-memory : (files : Option Files) (command : RunWords) (said : PartsSaid) → parts_of command.parts ≡ Ok said →
    (new : List Call) → MayCallOne [] command.topology new → Stops command files new OutOfMemory
stops-topology-memory files command said are new may =
    ends OutOfMemory [] [] new (names_of_run command) (names_due command.topology said) (from_run command files) (from_topology command.topology said files)
    (reaches-topology files command said are) (topology-memory files [] new command.topology (names-after said) said may)

pub reaches-routers : (files : Option Files) (command : RunWords) (said : PartsSaid) → parts_of command.parts ≡ Ok said →
    (new : List Call) (t : Topology) → LoadsTopology files [] command.topology new (Read t) → Reaches command files new (script_files said.scripts ++ feed_files said.feeds) (from_routers said files t)
reaches-routers files command said are new t loads =
    goes [] [] new (names_of_run command) (names_due command.topology said) (names-after said) (from_run command files) (from_topology command.topology said files) (from_routers said files t)
    (reaches-topology files command said are) (topology-read-on files [] new command.topology (names-after said) said t loads)

-- ---- the routers

routers-read : (files : Option Files) (calls : List Call) (names : List (List ℕ)) (said : PartsSaid) (t : Topology) (routers : List RouterId) → routers_of t said.feeds ≡ Ok routers →
    GoesOn calls names (from_routers said files t) calls names (from_scripts files t routers [] said.scripts said.feeds)
routers-read files calls names said t routers is = λ ending last stage.
    subst (λ (r : Result (List RouterId) ErrorLine). Stage calls last names ending
    (λ calls. Follows files (or_fails r BadWords (λ error. error) (λ routers. read_scripts t routers [] said.scripts said.feeds)) calls ending)) (sym is) stage

routers-stop : (files : Option Files) (calls : List Call) (names : List (List ℕ)) (said : PartsSaid) (t : Topology) (e : RoutersRefused) → AreRoutersRefused e (routers_of t said.feeds) →
    EndsWith calls names (from_routers said files t) calls (stop_of_routers e)
routers-stop files calls names said t (routers_refused.Line error) is =
    ends-line calls names (from_routers said files t) BadWords error refl refl (λ ending line. routers-refused files t said error ending is line)
routers-stop files calls names said t routers_refused.OutOfMemory is = ends-memory calls names (from_routers said files t)

pub stops-routers : (words : RunWords) (files : Option Files) (new : List Call) (names : List (List ℕ)) (said : PartsSaid) (t : Topology) (e : RoutersRefused) →
    Reaches words files new names (from_routers said files t) → AreRoutersRefused e (routers_of t said.feeds) → Stops words files new (stop_of_routers e)
stops-routers words files new names said t e reaches refused =
    ends (stop_of_routers e) [] new new (names_of_run words) names (from_run words files) (from_routers said files t) reaches (routers-stop files new names said t e refused)

pub reaches-scripts : (words : RunWords) (files : Option Files) (new : List Call) (names : List (List ℕ)) (said : PartsSaid) (t : Topology) (routers : List RouterId) →
    Reaches words files new names (from_routers said files t) → routers_of t said.feeds ≡ Ok routers → Reaches words files new names (from_scripts files t routers [] said.scripts said.feeds)
reaches-scripts words files new names said t routers reaches is =
    goes [] new new (names_of_run words) names names (from_run words files) (from_routers said files t) (from_scripts files t routers [] said.scripts said.feeds)
    reaches (routers-read files new names said t routers is)

-- ---- a script

abbrev Before : Option Files → Topology → List RouterId → List (List script_line) → ℕ → List ℕ → List (ℕ × List ℕ) → List (ℕ × FeedWords) → Due
Before files t routers read part file scripts feeds = from_scripts files t routers read ((part, file) ∷ scripts) feeds

pub script-read-on : (files : Option Files) (t : Topology) (routers taken : List RouterId) (part : ℕ) (file : List ℕ) (old new : List Call) (script : Script) →
    LoadsScript t routers taken part files old file new (Read script) → ScriptGoesOn files t routers taken old (part, file) new script.lines
script-read-on files t routers taken part file old new script loads = λ read scripts feeds are ending last stage.
    stage-read ending (from_scripts files t routers (read ++ script.lines ∷ []) scripts feeds ending) (Before files t routers read part file scripts feeds ending) old new last file (names_left scripts feeds) loads.0 loads.1
    (λ more. script-read files t routers taken read part file scripts feeds script loads.0 more ending are loads.2) stage

pub script-stop : (files : Option Files) (t : Topology) (routers taken : List RouterId) (part : ℕ) (file : List ℕ) (old new : List Call) (x : Loaded Script) (stop : Stop) →
    LoadsScript t routers taken part files old file new x → StopsAs BadScript (errors.ReadPart part) x stop → ScriptEnds files t routers taken old (part, file) new stop
script-stop files t routers taken part file old new (Read script) stop loads same = absurd same
script-stop files t routers taken part file old new (Refused error) stop loads same =
    subst (λ (s : Stop). ScriptEnds files t routers taken old (part, file) new s) (sym same)
    (λ read scripts feeds are ending line. stage-line ending BadScript error (Before files t routers read part file scripts feeds ending) old new file (names_left scripts feeds) (Back false loads.0) loads.1 refl refl refl line
    (script-refused files t routers taken read part file scripts feeds error loads.0 ending are loads.2 line))
script-stop files t routers taken part file old new Failed stop loads same =
    subst (λ (s : Stop). ScriptEnds files t routers taken old (part, file) new s) (sym same)
    (λ read scripts feeds are ending line. stage-line ending ReadFault (errors.ReadPart part) (Before files t routers read part file scripts feeds ending) old new file (names_left scripts feeds) loads.0 loads.1 loads.3 loads.2 refl line
    (script-failed files t routers read part file scripts feeds loads.0 ending loads.2 loads.4 line))

pub script-memory : (files : Option Files) (t : Topology) (routers taken : List RouterId) (part : ℕ) (file : List ℕ) (old new : List Call) → MayCallOne old file new →
    ScriptEnds files t routers taken old (part, file) new OutOfMemory
script-memory files t routers taken part file old new may = λ read scripts feeds are.
    stage-may (Before files t routers read part file scripts feeds Stopped) old new file (names_left scripts feeds) may (λ state. (refl, inl refl))

pub part-reads : {E : Type 0} (result : Result Script E) (files : Option Files) (t : Topology) (routers taken : List RouterId) (part : ℕ) (file : List ℕ) (old new : List Call) (x : Loaded Script) →
    LoadsScript t routers taken part files old file new x → IfOk result (λ script. x ≡ Read script) →
    IfOk result (λ script. ScriptGoesOn files t routers taken old (part, file) new script.lines)
part-reads (Err e) files t routers taken part file old new x loads is = tt
part-reads (Ok script) files t routers taken part file old new x loads is =
    script-read-on files t routers taken part file old new script (subst (λ (y : Loaded Script). LoadsScript t routers taken part files old file new y) is loads)

pub part-stops : {A : Type 0} (result : Result A Stop) (files : Option Files) (t : Topology) (routers taken : List RouterId) (part : ℕ) (file : List ℕ) (old new : List Call) (x : Loaded Script) →
    LoadsScript t routers taken part files old file new x → IfErr result (StopsAs BadScript (errors.ReadPart part) x) →
    IfErr result (ScriptEnds files t routers taken old (part, file) new)
part-stops (Ok x) files t routers taken part file old new loaded loads is = tt
part-stops (Err stop) files t routers taken part file old new loaded loads is = script-stop files t routers taken part file old new loaded stop loads is

-- a script that was read may follow the scripts before it
pub loads-follows : (files : Option Files) (t : Topology) (routers taken : List RouterId) (part : ℕ) (file : List ℕ) (old new : List Call) (script : Script) →
    LoadsScript t routers taken part files old file new (Read script) → MayFollow taken script.lines
loads-follows files t routers taken part file old new script loads =
    on-bytes-out files file loads.0 (λ bytes. script_of t.routers routers taken bytes ≡ Ok script.lines) (MayFollow taken script.lines)
    (λ bytes is. record { clear = clear t.routers routers taken bytes script.lines is; short = short t.routers routers taken bytes script.lines is }) loads.2

pub part-follows : {E : Type 0} (result : Result Script E) (files : Option Files) (t : Topology) (routers taken : List RouterId) (part : ℕ) (file : List ℕ) (old new : List Call) (x : Loaded Script) →
    LoadsScript t routers taken part files old file new x → IfOk result (λ script. x ≡ Read script) → IfOk result (λ script. MayFollow taken script.lines)
part-follows (Err e) files t routers taken part file old new x loads is = tt
part-follows (Ok script) files t routers taken part file old new x loads is =
    loads-follows files t routers taken part file old new script (subst (λ (y : Loaded Script). LoadsScript t routers taken part files old file new y) is loads)

-- ---- the scripts

pub scripts-on : (files : Option Files) (t : Topology) (routers taken : List RouterId) (old mid new : List Call) (all rest : List (ℕ × List ℕ)) (part : ℕ × List ℕ) (read : List (List script_line)) (lines : List script_line) →
    ScriptsGoOn files t routers old all mid read (part ∷ rest) → AreTaken taken read → ScriptGoesOn files t routers taken mid part new lines →
    ScriptsGoOn files t routers old all new (read ++ lines ∷ []) rest
scripts-on files t routers taken old mid new all rest part read lines so are on = λ feeds.
    goes old mid new (names_left all feeds) (names_left (part ∷ rest) feeds) (names_left rest feeds) (from_scripts files t routers [] all feeds)
    (from_scripts files t routers read (part ∷ rest) feeds) (from_scripts files t routers (read ++ lines ∷ []) rest feeds) (so feeds) (on read rest feeds are)

pub scripts-end : (files : Option Files) (t : Topology) (routers taken : List RouterId) (old mid new : List Call) (all rest : List (ℕ × List ℕ)) (part : ℕ × List ℕ) (read : List (List script_line)) (stop : Stop) →
    ScriptsGoOn files t routers old all mid read (part ∷ rest) → AreTaken taken read → ScriptEnds files t routers taken mid part new stop →
    ScriptsEnd files t routers old all new stop
scripts-end files t routers taken old mid new all rest part read stop so are on = λ feeds.
    ends stop old mid new (names_left all feeds) (names_left (part ∷ rest) feeds) (from_scripts files t routers [] all feeds)
    (from_scripts files t routers read (part ∷ rest) feeds) (so feeds) (on read rest feeds are)

-- memory was wanted after a script was read
pub scripts-memory : (files : Option Files) (t : Topology) (routers : List RouterId) (old new : List Call) (all rest : List (ℕ × List ℕ)) (read : List (List script_line)) →
    ScriptsGoOn files t routers old all new read rest → ScriptsEnd files t routers old all new OutOfMemory
scripts-memory files t routers old new all rest read so = λ feeds.
    ends OutOfMemory old new new (names_left all feeds) (names_left rest feeds) (from_scripts files t routers [] all feeds)
    (from_scripts files t routers read rest feeds) (so feeds) (ends-memory new (names_left rest feeds) (from_scripts files t routers read rest feeds))

pub scripts-start : (files : Option Files) (t : Topology) (routers : List RouterId) (old : List Call) (all : List (ℕ × List ℕ)) → ScriptsGoOn files t routers old all old [] all
scripts-start files t routers old all = λ feeds ending last stage. stage

-- ---- the jobs

pub few-jobs : (scripts : List (List script_line)) (routers : List RouterId) → nat_lt most_jobs (length scripts + length (untaken scripts routers)) ≡ false → AreFewJobs scripts routers
few-jobs scripts routers few = grind (arith, nat_tests, few)

jobs-few : (files : Option Files) (t : Topology) (routers : List RouterId) (scripts : List (List script_line)) (feeds : List (ℕ × FeedWords)) (calls : List Call) →
    nat_lt most_jobs (length scripts + length (untaken scripts routers)) ≡ false →
    GoesOn calls (feed_files feeds) (from_jobs files t routers scripts feeds) calls (feed_files feeds) (from_feeds files t routers scripts feeds)
jobs-few files t routers scripts feeds calls few = λ ending last stage.
    stage-due ending calls last (feed_files feeds) (from_feeds files t routers scripts feeds ending) (from_jobs files t routers scripts feeds ending)
    (λ more due. not-too-many files t routers scripts feeds more ending few due) stage

jobs-many : (files : Option Files) (t : Topology) (routers : List RouterId) (scripts : List (List script_line)) (feeds : List (ℕ × FeedWords)) (calls : List Call) →
    nat_lt most_jobs (length scripts + length (untaken scripts routers)) ≡ true →
    EndsWith calls (feed_files feeds) (from_jobs files t routers scripts feeds) calls (Line BadWords errors.TooManyJobs)
jobs-many files t routers scripts feeds calls many =
    ends-line calls (feed_files feeds) (from_jobs files t routers scripts feeds) BadWords errors.TooManyJobs refl refl
    (λ ending line. too-many files t routers scripts feeds ending many line)

reaches-jobs : (words : RunWords) (files : Option Files) (mid new : List Call) (t : Topology) (routers : List RouterId) (said : PartsSaid) (scripts : List (List script_line)) →
    Reaches words files mid (script_files said.scripts ++ feed_files said.feeds) (from_scripts files t routers [] said.scripts said.feeds) →
    GoesOn mid (script_files said.scripts ++ feed_files said.feeds) (from_scripts files t routers [] said.scripts said.feeds) new (feed_files said.feeds) (from_jobs files t routers scripts said.feeds) →
    Reaches words files new (feed_files said.feeds) (from_jobs files t routers scripts said.feeds)
reaches-jobs words files mid new t routers said scripts reaches on =
    goes [] mid new (names_of_run words) (script_files said.scripts ++ feed_files said.feeds) (feed_files said.feeds) (from_run words files)
    (from_scripts files t routers [] said.scripts said.feeds) (from_jobs files t routers scripts said.feeds) reaches on

pub reaches-feeds : (words : RunWords) (files : Option Files) (mid new : List Call) (t : Topology) (routers : List RouterId) (said : PartsSaid) (scripts : List (List script_line)) →
    Reaches words files mid (script_files said.scripts ++ feed_files said.feeds) (from_scripts files t routers [] said.scripts said.feeds) →
    GoesOn mid (script_files said.scripts ++ feed_files said.feeds) (from_scripts files t routers [] said.scripts said.feeds) new (feed_files said.feeds) (from_jobs files t routers scripts said.feeds) →
    nat_lt most_jobs (length scripts + length (untaken scripts routers)) ≡ false → Reaches words files new (feed_files said.feeds) (from_feeds files t routers scripts said.feeds)
reaches-feeds words files mid new t routers said scripts reaches on few =
    goes [] new new (names_of_run words) (feed_files said.feeds) (feed_files said.feeds) (from_run words files)
    (from_jobs files t routers scripts said.feeds) (from_feeds files t routers scripts said.feeds)
    (reaches-jobs words files mid new t routers said scripts reaches on) (jobs-few files t routers scripts said.feeds new few)

pub stops-jobs : (words : RunWords) (files : Option Files) (mid new : List Call) (t : Topology) (routers : List RouterId) (said : PartsSaid) (scripts : List (List script_line)) →
    Reaches words files mid (script_files said.scripts ++ feed_files said.feeds) (from_scripts files t routers [] said.scripts said.feeds) →
    GoesOn mid (script_files said.scripts ++ feed_files said.feeds) (from_scripts files t routers [] said.scripts said.feeds) new (feed_files said.feeds) (from_jobs files t routers scripts said.feeds) →
    nat_lt most_jobs (length scripts + length (untaken scripts routers)) ≡ true → Stops words files new (Line BadWords errors.TooManyJobs)
stops-jobs words files mid new t routers said scripts reaches on many =
    ends (Line BadWords errors.TooManyJobs) [] new new (names_of_run words) (feed_files said.feeds) (from_run words files)
    (from_jobs files t routers scripts said.feeds) (reaches-jobs words files mid new t routers said scripts reaches on) (jobs-many files t routers scripts said.feeds new many)

pub stops-scripts : (words : RunWords) (files : Option Files) (mid new : List Call) (t : Topology) (routers : List RouterId) (said : PartsSaid) (stop : Stop) →
    Reaches words files mid (script_files said.scripts ++ feed_files said.feeds) (from_scripts files t routers [] said.scripts said.feeds) →
    EndsWith mid (script_files said.scripts ++ feed_files said.feeds) (from_scripts files t routers [] said.scripts said.feeds) new stop → Stops words files new stop
stops-scripts words files mid new t routers said stop reaches ending =
    ends stop [] mid new (names_of_run words) (script_files said.scripts ++ feed_files said.feeds) (from_run words files) (from_scripts files t routers [] said.scripts said.feeds) reaches ending
