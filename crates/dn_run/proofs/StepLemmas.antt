-- What each step of a run is due by, once its file was read, refused or failed.
use Rattle.std.proofs.Common.{◌≡◌, ℕ, ◌+◌, true, false, nat_lt, Result, Err, List, [], ◌∷◌, ◌++◌, length, map, Option, refl, ap, sym, ◌∙◌, subst, if◌then◌else◌}
use Rattle.dn_io.specs.Calls.{Call, CallState, Back, call_of, state_failed}
use Rattle.dn_io.specs.Files.{Files}
use Rattle.dn_formats.specs.ScriptText.{ScriptFault, script_of}
use Rattle.dn_formats.specs.TopologyText.{topology_of}
use Rattle.dn_model.specs.Topology.{Parts}
use Rattle.dn_model.specs.Tables.{parts}
use Rattle.dn_formats.specs.Words.{FeedWords, PartsSaid}
use Rattle.base.specs.declared.ids.RouterId.{RouterId}
use Rattle.dn_formats.specs.declared.script.Line.{Line}
use Rattle.dn_formats.specs.declared.script.Script.{Script}
use Rattle.dn_model.specs.declared.topology.Topology.{Topology}
use Rattle.dn_formats.specs.declared.topology_fault.TopoFault.{TopoFault}
use Rattle.dn_formats.specs.declared.error_line.ErrorLine.{ErrorLine}
use Rattle.dn_formats.specs.declared.error_line.ErrorLine.TheVariants as errors
use Rattle.dn_run.specs.Ending.{Ending, OrStops}
use Rattle.dn_run.specs.Feeds.{Opens}
use Rattle.dn_run.specs.Loaded.{SaysTopology, SaysScript}
use Rattle.dn_run.specs.Opened.{text_limit, FailsWhereTold, OnBytes}
use Rattle.dn_run.specs.Limits.{most_jobs}
use Rattle.dn_run.specs.Run.{Fails, Follows, IsLine, Knows, Reads, Runs, Steps, feed_files, or_fails, read_scripts, routers_of, taken_by_scripts, untaken}
use Rattle.dn_run.specs.Stage.{Stage}
use Rattle.dn_run.specs.Stops.{AreTaken, Due, from_feeds, from_jobs, from_scripts}
use Rattle.dn_run.specs.declared.load.Loaded.TheVariants as loaded
use Rattle.dn_run.specs.declared.status.Verdict.{Verdict}
use Rattle.dn_run.specs.declared.status.Verdict.TheVariants.{BadWords, BadTopology, BadScript, ReadFault}
use Rattle.route_feed.specs.FeedReader.{Reader}
use Rattle.dn_run.proofs.ProgramLemmas.{or-go, or-map, on-bytes-map, on-fault}
use Rattle.dn_run.proofs.TakenLemmas.{script_of-same}

-- ---- the steps from the routers and from the topology on

abbrev pub find_routers : PartsSaid → Topology → Steps
find_routers said t = or_fails (routers_of t said.feeds) BadWords (λ error. error) (λ routers. read_scripts t routers [] said.scripts said.feeds)

abbrev pub read_network : PartsSaid → List ℕ → Steps
read_network said bytes = or_fails (topology_of bytes) BadTopology errors.Topology (λ network. Knows network (find_routers said))

-- ---- a file that is read

-- and the run goes on by its bytes
pub read-on : (files : Option Files) (name : List ℕ) (fault : ErrorLine) (next : List ℕ → Steps) (after : Steps) (left : Option (List ℕ)) (more : List Call) (ending : Ending) →
    OnBytes files name left (λ bytes. next bytes ≡ after) → OrStops ending more (Follows files after more ending) →
    Follows files (Reads name fault next) (call_of name (Back false left) ∷ more) ending
read-on files name fault next after left more ending says due = (
  refl,
  or-map ending more (Follows files after more ending) _
      (λ here. on-bytes-map files name left (λ bytes. next bytes ≡ after) (λ bytes. Follows files (next bytes) more ending) (λ bytes is. subst (λ (s : Steps). Follows files s more ending) (sym is) here) says) due,
)

-- it is refused
read-refused : (files : Option Files) (name : List ℕ) (fault : ErrorLine) (next : List ℕ → Steps) (verdict : Verdict) (error : ErrorLine) (left : Option (List ℕ)) (ending : Ending) →
    OnBytes files name left (λ bytes. next bytes ≡ Fails verdict error) → IsLine ending verdict error →
    Follows files (Reads name fault next) (call_of name (Back false left) ∷ []) ending
read-refused files name fault next verdict error left ending says line =
    read-on files name fault next (Fails verdict error) left [] ending says (or-go ending [] _ (refl, line))

-- it failed
read-failed : (files : Option Files) (name : List ℕ) (fault : ErrorLine) (next : List ℕ → Steps) (state : CallState) (ending : Ending) →
    state_failed state ≡ true → FailsWhereTold files name text_limit state → IsLine ending ReadFault fault →
    Follows files (Reads name fault next) (call_of name state ∷ []) ending
read-failed files name fault next state ending failed fails line = (refl, or-go ending [] _ (on-fault files name state _ _ failed fails (refl, line)))

-- ---- the jobs

pub too-many : (files : Option Files) (t : Topology) (routers : List RouterId) (scripts : List (List Line)) (feeds : List (ℕ × FeedWords)) (ending : Ending) →
    nat_lt most_jobs (length scripts + length (untaken scripts routers)) ≡ true → IsLine ending BadWords errors.TooManyJobs →
    from_jobs files t routers scripts feeds ending []
too-many files t routers scripts feeds ending many line =
    subst (λ b. Follows files (if b then Fails BadWords errors.TooManyJobs else Runs (record { t = t; routers = routers; scripts = scripts; feeds = feeds })) [] ending) (sym many) (refl, line)

pub not-too-many : (files : Option Files) (t : Topology) (routers : List RouterId) (scripts : List (List Line)) (feeds : List (ℕ × FeedWords)) (calls : List Call) (ending : Ending) →
    nat_lt most_jobs (length scripts + length (untaken scripts routers)) ≡ false → from_feeds files t routers scripts feeds ending calls →
    from_jobs files t routers scripts feeds ending calls
not-too-many files t routers scripts feeds calls ending few due =
    subst (λ b. Follows files (if b then Fails BadWords errors.TooManyJobs else Runs (record { t = t; routers = routers; scripts = scripts; feeds = feeds })) calls ending) (sym few) due

module _ {S : Type 0} where
  opens-first : (ending : Ending) (t : Topology) (faults : S → ℕ) (left : S → Option (List ℕ)) (files : Option Files) (routers : List RouterId) (scripts : List (List Line))
      (feeds : List (ℕ × FeedWords)) (old new : List Call) → Opens t faults left files routers scripts [] [] feeds old new ending →
      Stage old new (feed_files feeds) ending (from_feeds files t routers scripts feeds ending)
  opens-first ending t faults left files routers scripts feeds old new opens = record {
    more = opens.more;
    appended = opens.appended;
    asked = opens.asked;
    given_back = opens.given_back;
    failed = opens.failed;
    due_is = opens.due_is [] tt;
  }

  no-sources : (place : S → ℕ) (sources : List S) → map place sources ≡ map (λ (r : Reader S). place r.source) [] → sources ≡ []
  no-sources place [] same = refl
  no-sources place (s ∷ ss) same = absurd (cc)

  pub stage-opens : (ending : Ending) (t : Topology) (place faults : S → ℕ) (left : S → Option (List ℕ)) (files : Option Files)
      (routers : List RouterId) (scripts : List (List Line)) (readers : List (Reader S)) (sources : List S) (feeds : List (ℕ × FeedWords)) (old new : List Call) →
      readers ≡ [] → map place sources ≡ map (λ r. place r.source) readers → Opens t faults left files routers scripts readers sources feeds old new ending →
      Stage old new (feed_files feeds) ending (from_feeds files t routers scripts feeds ending)
  stage-opens ending t place faults left files routers scripts readers sources feeds old new none same opens =
      let gone : sources ≡ [] = no-sources place sources (same ∙ ap (map (λ (r : Reader S). place r.source)) none) in
      opens-first ending t faults left files routers scripts feeds old new
      (subst (λ (ss : List S). Opens t faults left files routers scripts [] ss feeds old new ending) gone
      (subst (λ (rs : List (Reader S)). Opens t faults left files routers scripts rs sources feeds old new ending) none opens))

-- ---- a script

-- what a script's bytes are made of, behind those that were read
abbrev after_script : Topology → List RouterId → List (List Line) → ℕ → List (ℕ × List ℕ) → List (ℕ × FeedWords) → Result (List Line) ScriptFault → Steps
after_script t routers read part scripts feeds said =
    or_fails said BadScript (λ fault. errors.Script part fault.line fault.cause) (λ lines. read_scripts t routers (read ++ lines ∷ []) scripts feeds)

pub script-read : (files : Option Files) (t : Topology) (routers taken : List RouterId) (read : List (List Line)) (part : ℕ) (file : List ℕ) (scripts : List (ℕ × List ℕ)) (feeds : List (ℕ × FeedWords)) (script : Script) (left : Option (List ℕ)) (more : List Call) (ending : Ending) →
    AreTaken taken read → OnBytes files file left (λ bytes. SaysScript t routers taken part bytes (loaded.Read script)) →
    OrStops ending more (from_scripts files t routers (read ++ script.lines ∷ []) scripts feeds ending more) →
    from_scripts files t routers read ((part, file) ∷ scripts) feeds ending (call_of file (Back false left) ∷ more)
script-read files t routers taken read part file scripts feeds script left more ending are says after =
    read-on files file (errors.ReadPart part) (λ bytes. after_script t routers read part scripts feeds (script_of t.routers routers (taken_by_scripts read) bytes))
    (read_scripts t routers (read ++ script.lines ∷ []) scripts feeds) left more ending
    (on-bytes-map files file left (λ bytes. SaysScript t routers taken part bytes (loaded.Read script))
    (λ bytes. after_script t routers read part scripts feeds (script_of t.routers routers (taken_by_scripts read) bytes) ≡ read_scripts t routers (read ++ script.lines ∷ []) scripts feeds)
    (λ bytes is. ap (after_script t routers read part scripts feeds) (script_of-same t.routers routers taken (taken_by_scripts read) bytes are ∙ is)) says) after

pub script-refused : (files : Option Files) (t : Topology) (routers taken : List RouterId) (read : List (List Line)) (part : ℕ) (file : List ℕ) (scripts : List (ℕ × List ℕ)) (feeds : List (ℕ × FeedWords)) (line : ErrorLine) (left : Option (List ℕ)) (ending : Ending) →
    AreTaken taken read → OnBytes files file left (λ bytes. SaysScript t routers taken part bytes (loaded.Refused line)) → IsLine ending BadScript line →
    from_scripts files t routers read ((part, file) ∷ scripts) feeds ending (call_of file (Back false left) ∷ [])
script-refused files t routers taken read part file scripts feeds line left ending are says prints =
    read-refused files file (errors.ReadPart part) (λ bytes. after_script t routers read part scripts feeds (script_of t.routers routers (taken_by_scripts read) bytes))
    BadScript line left ending
    (on-bytes-map files file left (λ bytes. SaysScript t routers taken part bytes (loaded.Refused line))
    (λ bytes. after_script t routers read part scripts feeds (script_of t.routers routers (taken_by_scripts read) bytes) ≡ Fails BadScript line)
    (λ bytes p. ap (after_script t routers read part scripts feeds) (script_of-same t.routers routers taken (taken_by_scripts read) bytes are ∙ p.1) ∙ ap (Fails BadScript) (sym p.2)) says) prints

pub script-failed : (files : Option Files) (t : Topology) (routers : List RouterId) (read : List (List Line)) (part : ℕ) (file : List ℕ) (scripts : List (ℕ × List ℕ)) (feeds : List (ℕ × FeedWords)) (state : CallState) (ending : Ending) →
    state_failed state ≡ true → FailsWhereTold files file text_limit state → IsLine ending ReadFault (errors.ReadPart part) →
    from_scripts files t routers read ((part, file) ∷ scripts) feeds ending (call_of file state ∷ [])
script-failed files t routers read part file scripts feeds state ending failed fails line =
    read-failed files file (errors.ReadPart part) (λ bytes. after_script t routers read part scripts feeds (script_of t.routers routers (taken_by_scripts read) bytes)) state ending failed fails line

-- ---- the topology

abbrev pub from_topology : List ℕ → PartsSaid → Option Files → Due
from_topology topology said files ending calls = Follows files (Reads topology errors.ReadTopology (read_network said)) calls ending

abbrev pub from_routers : PartsSaid → Option Files → Topology → Due
from_routers said files t ending calls = Follows files (find_routers said t) calls ending

abbrev after_topology : PartsSaid → Result Parts TopoFault → Steps
after_topology said made = or_fails made BadTopology errors.Topology (λ network. Knows network (find_routers said))

pub topology-read : (files : Option Files) (file : List ℕ) (said : PartsSaid) (t : Topology) (left : Option (List ℕ)) (more : List Call) (ending : Ending) →
    OnBytes files file left (λ bytes. SaysTopology bytes (loaded.Read t)) → OrStops ending more (from_routers said files t ending more) →
    from_topology file said files ending (call_of file (Back false left) ∷ more)
topology-read files file said t left more ending says after =
    read-on files file errors.ReadTopology (read_network said) (Knows (parts t) (find_routers said)) left more ending
    (on-bytes-map files file left (λ bytes. SaysTopology bytes (loaded.Read t)) (λ bytes. read_network said bytes ≡ Knows (parts t) (find_routers said))
    (λ bytes is. ap (after_topology said) is) says)
    (or-map ending more (from_routers said files t ending more) (Follows files (Knows (parts t) (find_routers said)) more ending) (λ due. (t, refl, due)) after)

pub topology-refused : (files : Option Files) (file : List ℕ) (said : PartsSaid) (line : ErrorLine) (left : Option (List ℕ)) (ending : Ending) →
    OnBytes files file left (λ bytes. SaysTopology bytes (loaded.Refused line)) → IsLine ending BadTopology line → from_topology file said files ending (call_of file (Back false left) ∷ [])
topology-refused files file said line left ending says prints =
    read-refused files file errors.ReadTopology (read_network said) BadTopology line left ending
    (on-bytes-map files file left (λ bytes. SaysTopology bytes (loaded.Refused line)) (λ bytes. read_network said bytes ≡ Fails BadTopology line)
    (λ bytes p. ap (after_topology said) p.1 ∙ ap (Fails BadTopology) (sym p.2)) says) prints

pub topology-failed : (files : Option Files) (file : List ℕ) (said : PartsSaid) (state : CallState) (ending : Ending) →
    state_failed state ≡ true → FailsWhereTold files file text_limit state → IsLine ending ReadFault errors.ReadTopology → from_topology file said files ending (call_of file state ∷ [])
topology-failed files file said state ending failed fails line = read-failed files file errors.ReadTopology (read_network said) state ending failed fails line

-- ---- the routers

pub routers-refused : (files : Option Files) (t : Topology) (said : PartsSaid) (line : ErrorLine) (ending : Ending) →
    routers_of t said.feeds ≡ Err line → IsLine ending BadWords line → from_routers said files t ending []
routers-refused files t said line ending refused prints =
    subst (λ (r : Result (List RouterId) ErrorLine). Follows files (or_fails r BadWords (λ error. error) (λ routers. read_scripts t routers [] said.scripts said.feeds)) [] ending)
    (sym refused) (refl, prints)
