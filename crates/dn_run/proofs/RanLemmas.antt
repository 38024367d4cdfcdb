-- What the jobs of a run came to, as the run's report has it.
use Rattle.std.proofs.Common.{◌≡◌, ℕ, suc, ◌+◌, ◌<◌, ◌≤◌, Bool, true, false, ◌==◌, not, Result, Ok, Err, IfOk, IsErr, IfSome, MatchResult, List, [], ◌∷◌, length, All, Option, None, Some, refl, ap, sym, ◌∙◌, arith, subst, if◌then◌else◌}
use Rattle.std.proofs.lemmas.Bool.Decides.{nat_tests}
use Rattle.std.proofs.lemmas.List.Elements.{All-head, All-tail}
use Rattle.dn_io.specs.Calls.{Back, back_with}
use Rattle.dn_io.specs.Told.{with_front}
use Rattle.feed_model.specs.Feed.{IsReading, IsFaultedReading}
use Rattle.dn_model.specs.Entry.{entries}
use Rattle.dn_formats.specs.Report.{report}
use Rattle.feed_model.specs.Steps.{FeedRead}
use Rattle.dn_formats.specs.declared.script.Line.{Line}
use Rattle.dn_model.specs.declared.topology.Topology.{Topology}
use Rattle.feed_model.specs.declared.feed_told.FeedEnd.{FeedEnd}
use Rattle.feed_model.specs.declared.feed_told.FeedEnd.TheVariants as ends
use Rattle.feed_model.specs.declared.feed_told.FeedTold.{FeedTold}
use Rattle.dn_run.specs.Feeds.{opened, AreLeft, some_rose}
use Rattle.dn_run.specs.Jobs.{AreNumbered, IsReadAs, AreReadAs, HasRun, routers_of_readers}
use Rattle.feed_threads.specs.Feeds.{CountsBy, StandsBy}
use Rattle.dn_run.specs.Limits.{feed_limit}
use Rattle.dn_run.specs.Run.{IsReadOf, IsReadOfBytes, IsToldOf, AreReadOf, IsReadToEnd, IsRunOf, verdict_of, is_faulted, some_faulted, all_well}
use Rattle.dn_run.specs.Stage.{is_fault}
use Rattle.base.specs.declared.memory.OutOfMemory.{OutOfMemory}
use Rattle.dn_run.specs.declared.jobs.JobsDone.{JobsDone}
use Rattle.dn_run.specs.declared.ruling.Ruling.{Ruling}
use Rattle.dn_run.specs.declared.status.Verdict.TheVariants.{Done, Refusals, ReadFault}
use Rattle.route_feed.specs.FeedReader.{Reader, HasEnded, HasFaulted}

-- ---- verdicts and faults

fault-by : (a b : Bool) → is_fault (if a then ReadFault else (if b then Done else Refusals)) ≡ a
fault-by true b = refl
fault-by false true = refl
fault-by false false = refl

fault-of : (tolds : List FeedTold) → is_fault (verdict_of tolds) ≡ some_faulted tolds
fault-of tolds = fault-by (some_faulted tolds) (all_well tolds)

zero-none : (n : ℕ) → n ≡ 0 → false ≡ not (n == 0)
zero-none n e = rw e refl

some-rise : (n : ℕ) → 0 < n → true ≡ not (n == 0)
some-rise n lt = grind (arith, nat_tests, lt)

fault-counts : (end : Option FeedEnd) (n : ℕ) → CountsBy end n → is_faulted end ≡ not (n == 0)
fault-counts None n is = zero-none n is
fault-counts (Some ends.End) n is = zero-none n is
fault-counts (Some (ends.CutShort o)) n is = zero-none n is
fault-counts (Some (ends.Lost o cause)) n is = zero-none n is
fault-counts (Some ends.TooLong) n is = zero-none n is
fault-counts (Some ends.Full) n is = absurd is
fault-counts (Some ends.Faulted) n is = some-rise n is

-- each feed's end goes with its source's count of faults
some-rose : {S : Type 0} (t : Topology) (left : S → Option (List ℕ)) (faults : S → ℕ) (starts : List (Reader S)) (sources : List S) (tolds : List FeedTold) (fs : List FeedRead) →
    AreReadAs t left faults starts sources tolds fs → some_faulted tolds ≡ some_rose faults sources
some-rose t left faults [] [] [] [] by = refl
some-rose t left faults [] [] [] (f ∷ fs) by = absurd by
some-rose t left faults [] [] (told ∷ tolds) fs by = absurd by
some-rose t left faults [] (source ∷ sources) tolds fs by = absurd by
some-rose t left faults (start ∷ starts) [] tolds fs by = absurd by
some-rose t left faults (start ∷ starts) (source ∷ sources) [] fs by = absurd by
some-rose t left faults (start ∷ starts) (source ∷ sources) (told ∷ tolds) [] by = absurd by
some-rose t left faults (start ∷ starts) (source ∷ sources) (told ∷ tolds) (f ∷ fs) by =
    let here : is_faulted told.end ≡ not (faults source == 0) = ap (λ (x : FeedTold). is_faulted x.end) by.0.told_is ∙ fault-counts (Some f.end) (faults source) by.0.counts in
    rw (here, some-rose t left faults starts sources tolds fs by.1) refl

-- what was read and is told of a feed, whose bytes may not be told
record ReadTold (t : Topology) (file : Option (List ℕ)) (source-faults : ℕ) (source-left : Option (List ℕ)) (told : FeedTold) (f : FeedRead) : Type 0 where
  pub read : IsReadOf t file (back_with source-faults source-left) f
  pub told_is : IsToldOf file f told

-- the report of what the jobs came to
abbrev IsReportOf : Topology → JobsDone → Ruling → Type 0
IsReportOf t jobs ruling = (ruling.verdict ≡ verdict_of jobs.feeds.items) × (ruling.text ≡ report t jobs.feeds.items (entries jobs.history) jobs.jobs.items)

module _ {S : Type 0} where
  -- ---- one feed

  read-as : (t : Topology) (reader : Reader S) (bytes : List ℕ) (left : Option (List ℕ)) (f : FeedRead) (end : FeedEnd) →
      f.router ≡ reader.told.router → reader.limit ≡ feed_limit → f.end ≡ end → HasEnded t reader left bytes f.steps end → IsReadToEnd end left → IsReadOfBytes t bytes (Back false left) f
  read-as t reader bytes left f end router limit is has all = (
    subst (λ e. IsReading t f.router bytes feed_limit f.steps e) (sym is) (subst (λ r. IsReading t r bytes feed_limit f.steps end) (sym router)
        (subst (λ l. IsReading t reader.told.router bytes l f.steps end) limit has.reading)),
    (has.read.0, subst (λ l. length has.read.0 ≤ l + 1) limit has.read.1, has.read.2),
    subst (λ e. IsReadToEnd e left) (sym is) all,
  )

  ended : (t : Topology) (reader : Reader S) (bytes : List ℕ) (faults : ℕ) (left : Option (List ℕ)) (f : FeedRead) (end : FeedEnd) →
      f.router ≡ reader.told.router → reader.limit ≡ feed_limit → f.end ≡ end → HasEnded t reader left bytes f.steps end → IsReadToEnd end left → faults ≡ 0 →
      IsReadOfBytes t bytes (back_with faults left) f
  ended t reader bytes faults left f end router limit is has all none = rw none (read-as t reader bytes left f end router limit is has all)

  faulted-read : (t : Topology) (reader : Reader S) (bytes front : List ℕ) (left : Option (List ℕ)) (f : FeedRead) → f.router ≡ reader.told.router → f.end ≡ ends.Faulted →
      IsFaultedReading t reader.told.router front f.steps → length front ≤ feed_limit → Some bytes ≡ with_front front left → IsReadOfBytes t bytes (Back true left) f
  faulted-read t reader bytes front None f router is reading within whole = absurd (cc)
  faulted-read t reader bytes front (Some rest) f router is reading within whole =
      (front, cc, within, subst (λ r. IsFaultedReading t r front f.steps) (sym router) reading, is)

  faulted : (t : Topology) (reader : Reader S) (bytes : List ℕ) (faults : ℕ) (left : Option (List ℕ)) (f : FeedRead) →
      f.router ≡ reader.told.router → reader.limit ≡ feed_limit → f.end ≡ ends.Faulted → HasFaulted t reader left bytes f.steps → 0 < faults → IsReadOfBytes t bytes (back_with faults left) f
  faulted t reader bytes faults left f router limit is has some =
      subst (λ b. IsReadOfBytes t bytes (Back b left) f) (some-rise faults some)
      (faulted-read t reader bytes has.front left f router is has.reading (subst (λ l. length has.front ≤ l) limit has.within) has.whole)

  by-end : (t : Topology) (reader : Reader S) (bytes : List ℕ) (faults : ℕ) (left : Option (List ℕ)) (f : FeedRead) (end : FeedEnd) →
      f.router ≡ reader.told.router → reader.limit ≡ feed_limit → f.end ≡ end → StandsBy (Some end) t reader left bytes f.steps → CountsBy (Some end) faults → IsReadOfBytes t bytes (back_with faults left) f
  by-end t reader bytes faults left f ends.End router limit is has counts = ended t reader bytes faults left f ends.End router limit is has.0 has.1 counts
  by-end t reader bytes faults left f (ends.CutShort o) router limit is has counts = ended t reader bytes faults left f (ends.CutShort o) router limit is has.0 has.1 counts
  by-end t reader bytes faults left f (ends.Lost o cause) router limit is has counts = ended t reader bytes faults left f (ends.Lost o cause) router limit is has tt counts
  by-end t reader bytes faults left f ends.TooLong router limit is has counts = ended t reader bytes faults left f ends.TooLong router limit is has tt counts
  by-end t reader bytes faults left f ends.Full router limit is has counts = absurd has
  by-end t reader bytes faults left f ends.Faulted router limit is has counts = faulted t reader bytes faults left f router limit is has counts

  one-told : (t : Topology) (faults : S → ℕ) (left : S → Option (List ℕ)) (start : Reader S) (source : S) (told : FeedTold) (f : FeedRead) (file : Option (List ℕ)) →
      IsReadAs t left faults start source told f → start.limit ≡ feed_limit → IfSome file (λ bytes. left start.source ≡ Some bytes) →
      ReadTold t file (faults source) (left source) told f
  one-told t faults left start source told f None by limit is = record {
    read = (fault-counts (Some f.end) (faults source) by.counts, (λ full. subst (λ e. CountsBy (Some e) (faults source)) full by.counts), by.own);
    told_is = (ap (λ (x : FeedTold). x.feed_no) by.told_is, ap (λ (x : FeedTold). x.router) by.told_is, ap (λ (x : FeedTold). x.end) by.told_is);
  }
  one-told t faults left start source told f (Some bytes) by limit is = record {
    read = by-end t by.reader bytes (faults source) (left source) f f.end (by.router ∙ sym by.reader_router) (by.limit ∙ limit) refl (by.stands bytes is) by.counts;
    told_is = by.told_is;
  }

  -- ---- all feeds

  all-read : (t : Topology) (faults : S → ℕ) (left : S → Option (List ℕ)) (n : ℕ) (starts : List (Reader S)) (sources : List S) (tolds : List FeedTold) (files : List (Option (List ℕ))) (feeds : List FeedRead) →
      AreNumbered n starts → All (λ r. r.limit ≡ feed_limit) starts → AreReadAs t left faults starts sources tolds feeds → AreLeft left starts files →
      AreReadOf t n (routers_of_readers starts) (opened faults left files sources) feeds tolds
  all-read t faults left n [] [] [] [] [] numbered limits by are = tt
  all-read t faults left n [] [] [] (file ∷ files) [] numbered limits by are = absurd are
  all-read t faults left n [] [] [] files (f ∷ feeds) numbered limits by are = absurd by
  all-read t faults left n [] [] (told ∷ tolds) files feeds numbered limits by are = absurd by
  all-read t faults left n [] (source ∷ sources) tolds files feeds numbered limits by are = absurd by
  all-read t faults left n (start ∷ starts) [] tolds files feeds numbered limits by are = absurd by
  all-read t faults left n (start ∷ starts) (source ∷ sources) [] files feeds numbered limits by are = absurd by
  all-read t faults left n (start ∷ starts) (source ∷ sources) (told ∷ tolds) files [] numbered limits by are = absurd by
  all-read t faults left n (start ∷ starts) (source ∷ sources) (told ∷ tolds) [] (f ∷ feeds) numbered limits by are = absurd are
  all-read t faults left n (start ∷ starts) (source ∷ sources) (told ∷ tolds) (file ∷ files) (f ∷ feeds) numbered limits by are =
      let limit : start.limit ≡ feed_limit = All-head (λ r. r.limit ≡ feed_limit) start starts limits in
      let one = one-told t faults left start source told f file by.0 limit are.0 in
      let more = all-read t faults left (suc n) starts sources tolds files feeds numbered.1 (All-tail (λ r. r.limit ≡ feed_limit) start starts limits) by.1 are.1 in
      (by.0.feed_no ∙ numbered.0, by.0.router, one.read, one.told_is, more)

  -- ---- what the jobs came to, and its report

  pub ran : (done : Result JobsDone OutOfMemory) (result : Result Ruling OutOfMemory) (t : Topology) (faults : S → ℕ) (left : S → Option (List ℕ)) (starts : List (Reader S)) (sources : List S) (scripts : List (List Line)) →
      AreNumbered 1 starts → All (λ r. r.limit ≡ feed_limit) starts →
      IfOk done (λ jobs. HasRun t left faults starts sources jobs.feeds.items jobs.history scripts jobs.jobs.items) →
      MatchResult done (λ jobs. IfOk result (IsReportOf t jobs)) (λ e. IsErr result) →
      IfOk result (λ x. (files : List (Option (List ℕ))) → AreLeft left starts files → IsRunOf t (routers_of_readers starts) scripts (opened faults left files sources) x.verdict x.text)
  ran done (Err e) t faults left starts sources scripts numbered limits has says = tt
  ran (Err e) (Ok x) t faults left starts sources scripts numbered limits has says = let none : false ≡ true = says in absurd (cc)
  ran (Ok jobs) (Ok x) t faults left starts sources scripts numbered limits has says = λ files lefts. record {
    feeds = has.feeds;
    tolds = jobs.feeds.items;
    read = all-read t faults left 1 starts sources jobs.feeds.items files has.feeds numbered limits has.read lefts;
    reported = record {
      history = entries jobs.history;
      told = jobs.jobs.items;
      lawful = has.lawful;
      text_is = says.1;
    };
    verdict_is = says.0;
  }

  pub rose : (done : Result JobsDone OutOfMemory) (result : Result Ruling OutOfMemory) (t : Topology) (faults : S → ℕ) (left : S → Option (List ℕ)) (starts : List (Reader S)) (sources : List S) (scripts : List (List Line)) →
      IfOk done (λ jobs. HasRun t left faults starts sources jobs.feeds.items jobs.history scripts jobs.jobs.items) →
      MatchResult done (λ jobs. IfOk result (IsReportOf t jobs)) (λ e. IsErr result) →
      IfOk result (λ x. some_rose faults sources ≡ is_fault x.verdict)
  rose done (Err e) t faults left starts sources scripts has says = tt
  rose (Err e) (Ok x) t faults left starts sources scripts has says = let none : false ≡ true = says in absurd (cc)
  rose (Ok jobs) (Ok x) t faults left starts sources scripts has says =
      sym (ap is_fault says.0 ∙ fault-of jobs.feeds.items ∙ some-rose t left faults starts sources jobs.feeds.items has.feeds has.read)
