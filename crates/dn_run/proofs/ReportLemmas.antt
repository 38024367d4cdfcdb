-- A report that was written whole tells of the files, and of one history that is lawful over them.
use Rattle.std.proofs.Common.{◌≡◌, ℕ, suc, ◌+◌, ◌≤◌, Bool, true, false, ◌||◌, nat_lt, Result, Ok, Err, IsSomeAnd, MatchOption, List, [], ◌∷◌, ◌++◌, length, map, Option, None, Some, refl, ap, ap₂, sym, ◌∙◌, subst, append_assoc, arith, if◌then◌else◌}
use Rattle.std.proofs.lemmas.List.{append-nil}
use Rattle.dn_io.specs.Calls.{Call, CallState, Out, Refused, Back}
use Rattle.dn_io.specs.Files.{Files, bytes_of}
use Rattle.dn_io.specs.Told.{with_end}
use Rattle.feed_model.specs.Feed.{IsReading}
use Rattle.dn_formats.specs.Report.{report}
use Rattle.dn_formats.specs.ScriptText.{script_of}
use Rattle.feed_model.specs.Steps.{FeedRead, told_of}
use Rattle.dn_formats.specs.TopologyText.{topology_of}
use Rattle.dn_formats.specs.Words.{FeedWords, PartsSaid, parts_of}
use Rattle.dn_formats.specs.declared.error_line.ErrorLine.{ErrorLine}
use Rattle.dn_formats.specs.declared.error_line.ErrorLine.TheVariants as errors
use Rattle.dn_formats.specs.declared.script.Line.{Line}
use Rattle.feed_model.specs.declared.feed_told.FeedTold.{FeedTold}
use Rattle.base.specs.declared.ids.RouterId.{RouterId}
use Rattle.dn_model.specs.declared.topology.Topology.{Topology}
use Rattle.dn_run.specs.CommandLine.{Run, RunWords, command_of}
use Rattle.dn_run.specs.Ending.{Ruled}
use Rattle.dn_run.specs.Exit.{exit_number, exit_of}
use Rattle.dn_run.specs.Limits.{feed_limit, most_jobs}
use Rattle.dn_run.specs.Run.{AreReadOf, Fails, Follows, FromCommand, FromFeeds, FromWords, IsDue, IsErrorLine, IsReadOf, IsReadOfBytes, IsRunOf, IsToldOf, IsWritten, Knows, OnFeed, OnFile, OpenedFeed, Reads, RunInput, Runs, Steps, all_well, is_faulted, or_fails, read_scripts, routers_of, some_faulted, steps_of, taken_by_scripts, untaken}
use Rattle.dn_run.specs.RunReport.{AreFeedsOf, Gives, IsReportOf}
use Rattle.dn_run.specs.Stage.{may_end_early}
use Rattle.dn_run.specs.declared.status.Status.{Status}
use Rattle.dn_run.specs.declared.status.Status.TheVariants as statuses
use Rattle.dn_run.specs.declared.status.Verdict.{Verdict}
use Rattle.dn_run.specs.declared.status.Verdict.TheVariants.{Done, Refusals, BadWords, BadTopology, BadScript, ReadFault}
use Rattle.dn_run.proofs.StepLemmas.{find_routers, read_network}

-- ---- the ways that are left where no line ends the run

no-line : (v due : Verdict) (x : List ℕ) (calls : List Call) (error : ErrorLine) → may_end_early v ≡ false → may_end_early due ≡ true → IsErrorLine (Ruled v x) calls due error → ⊥
no-line v due x calls error runs early line = let both : true ≡ false = sym early ∙ ap may_end_early (sym line.1.0) ∙ runs in absurd (cc)

some-of : {A R : Type 0} (o : Option A) (P : A → Type 0) → ((a : A) → o ≡ Some a → P a → R) → IsSomeAnd o P → R
some-of None P f p = absurd p
some-of (Some a) P f p = f a refl p

some-is : {A : Type 0} (o : Option A) (P : A → Type 0) (a : A) → o ≡ Some a → P a → IsSomeAnd o P
some-is o P a is p = subst (λ x. IsSomeAnd x P) (sym is) p

file-of : {R : Type 0} (fs : Files) (name : List ℕ) (state : CallState) (F : Type 0) (P : List ℕ → Type 0) → (F → ⊥) → ((bytes : List ℕ) → bytes_of fs name ≡ Some bytes → P bytes → R) →
    OnFile (Some fs) name state F P → R
file-of fs name Out F P never f p = absurd p
file-of fs name Refused F P never f p = absurd (never p)
file-of fs name (Back true left) F P never f p = absurd (never p.0)
file-of fs name (Back false left) F P never f p = some-of (bytes_of fs name) _ (λ bytes is a. f bytes is a.1) p

-- ---- the feeds

-- the opened feeds have the bytes of these files
abbrev AreOf : Files → List (ℕ × FeedWords) → List OpenedFeed → Type 0
AreOf fs [] [] = Unit {0}
AreOf fs (feed ∷ feeds) (o ∷ os) = ((bytes : List ℕ) × (o.bytes ≡ Some bytes) × (bytes_of fs feed.1.file ≡ Some bytes)) × AreOf fs feeds os
AreOf fs _ _ = ⊥

of-push : (fs : Files) (past : List (ℕ × FeedWords)) (os : List OpenedFeed) (feed : ℕ × FeedWords) (bytes : List ℕ) (state : CallState) → AreOf fs past os → bytes_of fs feed.1.file ≡ Some bytes →
    AreOf fs (past ++ feed ∷ []) (os ++ record { bytes = Some bytes; state = state } ∷ [])
of-push fs [] [] feed bytes state are is = ((bytes, refl, is), tt)
of-push fs [] (o ∷ os) feed bytes state are is = absurd are
of-push fs (p ∷ past) [] feed bytes state are is = absurd are
of-push fs (p ∷ past) (o ∷ os) feed bytes state are is = (are.0, of-push fs past os feed bytes state are.1 is)

record Feeds (fs : Files) (t : Topology) (routers : List RouterId) (scripts : List (List Line)) (feeds : List (ℕ × FeedWords)) (v : Verdict) (x : List ℕ) : Type 0 where
  pub opened : List OpenedFeed
  pub are : AreOf fs feeds opened
  pub run : IsRunOf t routers scripts opened v x

module _ (fs : Files) (t : Topology) (routers : List RouterId) (scripts : List (List Line)) (v : Verdict) (x : List ℕ) (runs : may_end_early v ≡ false) where
  opened-of : {R : Type 0} (part : ℕ) (name : List ℕ) (opened : List OpenedFeed) (state : CallState) (more : List Call) (next : List OpenedFeed → Type 0) →
      ((bytes : List ℕ) (back : CallState) → bytes_of fs name ≡ Some bytes → next (opened ++ record { bytes = Some bytes; state = back } ∷ []) → R) →
      OnFeed (Some fs) part name opened state more (Ruled v x) next → R
  opened-of part name opened Out more next f p = absurd p
  opened-of part name opened Refused more next f p = absurd (no-line v ReadFault x more (errors.ReadPart part) runs refl p.1)
  opened-of part name opened (Back failed left) more next f p = some-of (bytes_of fs name) _ (λ bytes is a. f bytes (Back failed left) is a) p

  feeds-of : (past : List (ℕ × FeedWords)) (opened : List OpenedFeed) (feeds : List (ℕ × FeedWords)) (calls : List Call) → AreOf fs past opened →
      FromFeeds (Some fs) t routers scripts opened feeds calls (Ruled v x) → Feeds fs t routers scripts (past ++ feeds) v x
  feeds-of past opened [] calls are p = record { opened = opened; are = subst (λ ps. AreOf fs ps opened) (sym (append-nil past)) are; run = p.1 }
  feeds-of past opened (feed ∷ feeds) [] are p = absurd p
  feeds-of past opened (feed ∷ feeds) (call ∷ more) are p =
      subst (λ ps. Feeds fs t routers scripts ps v x) (append_assoc past (feed ∷ []) feeds)
      (opened-of feed.0 feed.1.file opened call.state more (λ later. FromFeeds (Some fs) t routers scripts later feeds more (Ruled v x))
      (λ bytes back is next. feeds-of (past ++ feed ∷ []) (opened ++ record { bytes = Some bytes; state = back } ∷ []) feeds more (of-push fs past opened feed bytes back are is) next) p.1)

-- ---- no feed failed

either-false : (a b : Bool) → (a || b) ≡ false → (a ≡ false) × (b ≡ false)
either-false true b is = absurd (cc)
either-false false b is = (refl, is)

record Told (t : Topology) (bytes : List ℕ) (f : FeedRead) (told : FeedTold) : Type 0 where
  pub reading : IsReading t f.router bytes feed_limit f.steps f.end
  pub told_is : told ≡ told_of f

one-bytes : (t : Topology) (bytes : List ℕ) (state : CallState) (f : FeedRead) → is_faulted (Some f.end) ≡ false → IsReadOfBytes t bytes state f → IsReading t f.router bytes feed_limit f.steps f.end
one-bytes t bytes Out f well p = absurd p
one-bytes t bytes Refused f well p = absurd p
one-bytes t bytes (Back false left) f well p = p.0
one-bytes t bytes (Back true None) f well p = absurd p
one-bytes t bytes (Back true (Some left)) f well p = let both : true ≡ false = ap (λ e. is_faulted (Some e)) (sym p.4) ∙ well in absurd (cc)

one-of : (t : Topology) (file : Option (List ℕ)) (bytes : List ℕ) (state : CallState) (f : FeedRead) (told : FeedTold) → file ≡ Some bytes → is_faulted told.end ≡ false →
    IsReadOf t file state f → IsToldOf file f told → Told t bytes f told
one-of t None bytes state f told is well p u = absurd (cc)
one-of t (Some all) bytes state f told is well p u =
    let same : all ≡ bytes = cc in
    record {
      reading = subst (λ b. IsReading t f.router b feed_limit f.steps f.end) same (one-bytes t all state f (ap (λ (x : FeedTold). is_faulted x.end) (sym u) ∙ well) p);
      told_is = u;
    }

record Readings (fs : Files) (t : Topology) (n : ℕ) (routers : List RouterId) (feeds : List (ℕ × FeedWords)) (read : List FeedRead) (tolds : List FeedTold) : Type 0 where
  pub are : AreFeedsOf fs t n routers feeds read
  pub tolds_are : tolds ≡ map told_of read

readings : (fs : Files) (t : Topology) (n : ℕ) (rs : List RouterId) (feeds : List (ℕ × FeedWords)) (os : List OpenedFeed) (gs : List FeedRead) (us : List FeedTold) → AreOf fs feeds os →
    AreReadOf t n rs os gs us → some_faulted us ≡ false → Readings fs t n rs feeds gs us
readings fs t n [] [] [] [] [] are read well = record { are = tt; tolds_are = refl }
readings fs t n [] [] [] [] (u ∷ us) are read well = absurd read
readings fs t n [] [] [] (g ∷ gs) [] are read well = absurd read
readings fs t n [] [] [] (g ∷ gs) (u ∷ us) are read well = absurd read
readings fs t n (r ∷ rs) [] [] gs us are read well = absurd read
readings fs t n rs [] (o ∷ os) gs us are read well = absurd are
readings fs t n rs (feed ∷ feeds) [] gs us are read well = absurd are
readings fs t n [] (feed ∷ feeds) (o ∷ os) gs us are read well = absurd read
readings fs t n (r ∷ rs) (feed ∷ feeds) (o ∷ os) [] [] are read well = absurd read
readings fs t n (r ∷ rs) (feed ∷ feeds) (o ∷ os) [] (u ∷ us) are read well = absurd read
readings fs t n (r ∷ rs) (feed ∷ feeds) (o ∷ os) (g ∷ gs) [] are read well = absurd read
readings fs t n (r ∷ rs) (feed ∷ feeds) (o ∷ os) (g ∷ gs) (u ∷ us) are read well =
    let both = either-false (is_faulted u.end) (some_faulted us) well in
    let one = one-of t o.bytes are.0.0 o.state g u are.0.1 both.0 read.2 read.3 in
    let more = readings fs t (suc n) rs feeds os gs us are.1 read.4 both.1 in
    record {
      are = (read.0, read.1, some-is (bytes_of fs feed.1.file) _ are.0.0 are.0.2 one.reading, more.are);
      tolds_are = ap₂ (λ a b. a ∷ b) one.told_is more.tolds_are;
    }

no-fault-by : (a b : Bool) (v : Verdict) → v ≡ (if a then ReadFault else (if b then Done else Refusals)) → may_end_early v ≡ false → a ≡ false
no-fault-by true b v is runs = let both : true ≡ false = ap may_end_early (sym is) ∙ runs in absurd (cc)
no-fault-by false b v is runs = refl

-- ---- the steps before the feeds

-- each line that ends the steps has a verdict that may end a run early
abbrev IsEarly : Steps → Type 0
IsEarly (Fails verdict error) = may_end_early verdict ≡ true
IsEarly (Reads name fault next) = (bytes : List ℕ) → IsEarly (next bytes)
IsEarly (Knows network next) = (t : Topology) → IsEarly (next t)
IsEarly (Runs input) = Unit {0}

or-early : {A E : Type 0} (r : Result A E) (verdict : Verdict) (line : E → ErrorLine) (next : A → Steps) → may_end_early verdict ≡ true → ((a : A) → IsEarly (next a)) → IsEarly (or_fails r verdict line next)
or-early (Ok a) verdict line next early all = all a
or-early (Err e) verdict line next early all = early

jobs-early : (many : Bool) (input : RunInput) → IsEarly (if many then Fails BadWords errors.TooManyJobs else Runs input)
jobs-early true input = refl
jobs-early false input = tt

scripts-early : (t : Topology) (routers : List RouterId) (read : List (List Line)) (scripts : List (ℕ × List ℕ)) (feeds : List (ℕ × FeedWords)) → IsEarly (read_scripts t routers read scripts feeds)
scripts-early t routers read [] feeds =
    jobs-early (nat_lt most_jobs (length read + length (untaken read routers))) (record { t = t; routers = routers; scripts = read; feeds = feeds })
scripts-early t routers read (script ∷ scripts) feeds = λ bytes.
    or-early (script_of t.routers routers (taken_by_scripts read) bytes) BadScript (λ fault. errors.Script script.0 fault.line fault.cause)
    (λ lines. read_scripts t routers (read ++ lines ∷ []) scripts feeds) refl (λ lines. scripts-early t routers (read ++ lines ∷ []) scripts feeds)

routers-early : (said : PartsSaid) (t : Topology) → IsEarly (find_routers said t)
routers-early said t =
    or-early (routers_of t said.feeds) BadWords (λ error. error) (λ routers. read_scripts t routers [] said.scripts said.feeds) refl (λ routers. scripts-early t routers [] said.scripts said.feeds)

network-early : (said : PartsSaid) (bytes : List ℕ) → IsEarly (read_network said bytes)
network-early said bytes = or-early (topology_of bytes) BadTopology errors.Topology (λ network. Knows network (find_routers said)) refl (λ network t. routers-early said t)

steps-early : (command : RunWords) → IsEarly (steps_of command)
steps-early command =
    or-early (parts_of command.parts) BadWords (λ error. error) (λ said. Reads command.topology errors.ReadTopology (read_network said)) refl (λ said bytes. network-early said bytes)

record Given (fs : Files) (steps : Steps) (v : Verdict) (x : List ℕ) : Type 0 where
  pub input : RunInput
  pub given : Gives fs steps input
  pub feeds : Feeds fs input.t input.routers input.scripts input.feeds v x

module _ (fs : Files) (v : Verdict) (x : List ℕ) (runs : may_end_early v ≡ false) where
  read-given : (name : List ℕ) (fault : ErrorLine) (next : List ℕ → Steps) (bytes : List ℕ) → bytes_of fs name ≡ Some bytes → Given fs (next bytes) v x → Given fs (Reads name fault next) v x
  read-given name fault next bytes is after = record {
    input = after.input;
    given = some-is (bytes_of fs name) (λ bytes. Gives fs (next bytes) after.input) bytes is after.given;
    feeds = after.feeds;
  }

  steps-given : (steps : Steps) (calls : List Call) → IsEarly steps → Follows (Some fs) steps calls (Ruled v x) → Given fs steps v x
  steps-given (Fails verdict error) calls early p = absurd (no-line v verdict x calls error runs early p)
  steps-given (Reads name fault next) [] early p = absurd p
  steps-given (Reads name fault next) (call ∷ more) early p =
      file-of fs name call.state _ _ (no-line v ReadFault x more fault runs refl)
      (λ bytes is a. read-given name fault next bytes is (steps-given (next bytes) more (early bytes) a)) p.1
  steps-given (Knows network next) calls early p =
      let after = steps-given (next p.0) calls (early p.0) p.2 in
      record { input = after.input; given = (p.0, p.1, after.given); feeds = after.feeds }
  steps-given (Runs input) calls early p =
      record { input = input; given = refl; feeds = feeds-of fs input.t input.routers input.scripts v x runs [] [] input.feeds calls tt p }

  report-by : (command : RunWords) → Given fs (steps_of command) v x → IsReportOf fs command x
  report-by command by =
      let run = by.feeds.run in
      let well : some_faulted run.tolds ≡ false = no-fault-by (some_faulted run.tolds) (all_well run.tolds) v run.verdict_is runs in
      let read = readings fs by.input.t 1 by.input.routers by.input.feeds by.feeds.opened run.feeds run.tolds by.feeds.are run.read well in
      record {
        input = by.input;
        input_is = by.given;
        feeds = run.feeds;
        feeds_are = read.are;
        history = run.reported.history;
        told = run.reported.told;
        lawful = run.reported.lawful;
        text_is = run.reported.text_is ∙ ap (λ us. report by.input.t us run.reported.history run.reported.told) read.tolds_are;
      }

  pub report-of : (words : List (List ℕ)) (command : RunWords) (calls : List Call) → command_of words ≡ Some (Run command) → FromWords words (Some fs) calls (Ruled v x) → IsReportOf fs command x
  report-of words command calls is p =
      let here = subst (λ c. MatchOption c (IsErrorLine (Ruled v x) calls BadWords errors.Words) (λ command. FromCommand command (Some fs) calls (Ruled v x))) is p in
      report-by command (steps-given (steps_of command) calls (steps-early command) here)

-- what is written of a run at the statuses 0 and 1
abbrev pub WritesReport : Files → RunWords → Option (List ℕ) → Option (List ℕ) → Type 0
WritesReport fs command old new = (text : List ℕ) × (new ≡ with_end old text) × IsReportOf fs command text

pub reports : (words : List (List ℕ)) (fs : Files) (calls : List Call) (command : RunWords) (status : Status) (old new : Option (List ℕ)) → command_of words ≡ Some (Run command) → exit_number status ≤ 1 →
    IsWritten (IsDue words (Some fs) calls) (exit_of status) old new → WritesReport fs command old new
reports words fs calls command statuses.Done old new is low w = (w.0, w.2, report-of fs Done w.0 refl words command calls is w.1)
reports words fs calls command statuses.Refusals old new is low w = (w.0, w.2, report-of fs Refusals w.0 refl words command calls is w.1)
reports words fs calls command statuses.BadWords old new is low w = absurd (omega (arith, low))
reports words fs calls command statuses.BadTopology old new is low w = absurd (omega (arith, low))
reports words fs calls command statuses.BadScript old new is low w = absurd (omega (arith, low))
reports words fs calls command statuses.ReadFault old new is low w = absurd (omega (arith, low))
reports words fs calls command statuses.WriteFault old new is low w = absurd (omega (arith, low))
reports words fs calls command statuses.OutOfMemory old new is low w = absurd (omega (arith, low))
