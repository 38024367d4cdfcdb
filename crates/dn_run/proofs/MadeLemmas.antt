-- The run over the generated input: its readers, what its one job tells, and that it tells one thing alone.
use Rattle.std.proofs.Common.{◌≡◌, ℕ, ◌+◌, ◌<◌, ◌≤◌, Bool, true, List, [], ◌∷◌, All, length, map, filter, take, Option, Some, refl, ap, ap₂, sym, ◌∙◌, subst, arith}
use Rattle.std.specs.List.{AllZip}
use Rattle.std.proofs.lemmas.Grind.{common_steps}
use Rattle.std.proofs.lemmas.List.Elements.{All-cons, All-head, All-nil, All-tail}
use Rattle.feed_model.specs.Feed.{IsReading}
use Rattle.dn_formats.specs.Lawful.{IsLawful, IsOutcome, Job, ScriptRun, Tells, TellsAll, feed_jobs, jobs_of, takes_feed, untaken_feeds}
use Rattle.feed_model.specs.Steps.{FeedRead}
use Rattle.dn_model.specs.Tables.{parts}
use Rattle.dn_formats.specs.declared.script.Line.{Line}
use Rattle.dn_formats.specs.declared.script.Line.TheVariants.{Ask}
use Rattle.feed_model.specs.declared.feed_told.FeedEnd.{FeedEnd}
use Rattle.feed_model.specs.declared.feed_told.FeedEnd.TheVariants as ends
use Rattle.feed_model.specs.declared.feed_told.FeedTold.{FeedTold}
use Rattle.dn_formats.specs.declared.told.JobTold.{JobTold}
use Rattle.dn_formats.specs.declared.told.Outcome.{Outcome}
use Rattle.dn_formats.specs.declared.told.Outcome.TheVariants.{Answered, Unknown}
use Rattle.dn_formats.specs.declared.told.Told.{Told}
use Rattle.dn_formats.specs.declared.told.Told.TheVariants.{Asked, Linked}
use Rattle.dn_io.specs.Memory.{SureSourceView}
use Rattle.dn_model.specs.Answer.{IsLoopsAnswer}
use Rattle.dn_model.specs.Entry.{entries}
use Rattle.dn_model.specs.Next.{next}
use Rattle.dn_model.specs.declared.answer.Answer.{Answer}
use Rattle.dn_model.specs.declared.answer.Answer.TheVariants as answers
use Rattle.base.specs.declared.cycle.Cycle.{Cycle}
use Rattle.dn_model.specs.declared.entry.Entry.{Entry}
use Rattle.dn_model.specs.declared.entry.Posted.{Posted}
use Rattle.base.specs.declared.ids.RouterId.{RouterId}
use Rattle.base.specs.declared.target.Target.{Target}
use Rattle.dn_model.specs.declared.topology.Topology.{Topology}
use Rattle.feed_threads.specs.Feeds.{CountsBy, StandsBy}
use Rattle.made_input.specs.Network.{made_routers}
use Rattle.made_input.specs.Updates.{feeds_below, made_feed}
use Rattle.route_feed.specs.FeedReader.{HasEnded, Reader}
use Rattle.dn_run.specs.Jobs.{AreFewJobs, AreFit, AreNumbered, AreReadAs, HasRun, HaveRoutersApart, IsFresh, IsReadAs, routers_of_readers}
use Rattle.dn_run.specs.Law.{whole_scripts}
use Rattle.dn_run.specs.Limits.{feed_limit, history_limit, most_lines}
use Rattle.dn_run.specs.Made.{IsMadeFeed, IsMadeRun, TellsCycles, loops_question, made_job, made_lines, made_network, made_router, made_take, router_numbers, told_cycles}
use Rattle.dn_run.specs.Run.{takes_router}
use Rattle.dn_run.specs.MadeReaders.{made_reader, made_readers, reader_of}

-- ---- the readers

-- what a source in memory has left, and its faults
abbrev sure_left : SureSourceView → Option (List ℕ)
sure_left s = Some s.left

abbrev sure_faults : SureSourceView → ℕ
sure_faults s = 0

-- those of feeds, of which the first is of this router
abbrev pub readers_from : ℕ → List (List ℕ) → List (Reader SureSourceView)
readers_from i [] = []
readers_from i (bytes ∷ more) = reader_of i bytes ∷ readers_from (i + 1) more

pub from_feeds : (n : ℕ) → readers_from 0 (feeds_below made_routers n) ≡ made_readers n
unfolding feeds_below
from_feeds n = refl

pub feeds_count : (n : ℕ) → length (feeds_below made_routers n) ≡ 8
unfolding feeds_below
feeds_count n = refl

pub ruleset of_feeds = (common_steps, from_feeds, feeds_count)

fresh-each : (t : Topology) (n : ℕ) (is : List ℕ) → All (λ i. i < length t.routers) is → All (IsFresh t sure_faults) (map (made_reader n) is)
fresh-each t n [] all = All-nil (IsFresh t sure_faults)
fresh-each t n (i ∷ is) all =
    All-cons (IsFresh t sure_faults) (made_reader n i) (map (made_reader n) is)
    (record { told = refl; passed = refl; held = refl; limit = omega arith; router = All-head (λ i. i < length t.routers) i is all; faults_none = refl; knows = λ some. absurd (some refl) })
    (fresh-each t n is (All-tail (λ i. i < length t.routers) i is all))

below-each : (m : ℕ) → m ≡ 8 → All (λ i. i < m) router_numbers
below-each m is = rw is (λ k d less. search arith)

routers-are : (t : Topology) → parts t ≡ made_network → length t.routers ≡ 8
routers-are t is = ap (λ p. length p.routers) is

pub made-fresh : (t : Topology) (n : ℕ) → parts t ≡ made_network → All (IsFresh t sure_faults) (made_readers n)
made-fresh t n is = fresh-each t n router_numbers (below-each (length t.routers) (routers-are t is))

pub made-numbered : (n : ℕ) → AreNumbered 1 (made_readers n)
made-numbered n = (refl, (refl, (refl, (refl, (refl, (refl, (refl, (refl, tt))))))))

pub made-apart : (n : ℕ) → HaveRoutersApart (made_readers n)
made-apart n = refl

pub made-few : (n : ℕ) → AreFewJobs (made_lines ∷ []) (routers_of_readers (made_readers n))
made-few n = omega arith

pub made-fit : AreFit (made_lines ∷ [])
made-fit = record {
  apart = (λ r is. refl, tt);
  short = All-cons (λ lines. length lines ≤ most_lines) made_lines [] (let few : length made_lines ≡ 9 = refl in omega (arith, few)) (All-nil (λ lines. length lines ≤ most_lines));
}

-- ---- what reading them comes to

reading : (t : Topology) (reader : Reader SureSourceView) (left : Option (List ℕ)) (bytes : List ℕ) (f : FeedRead) (end : FeedEnd) → f.end ≡ end →
    f.router ≡ reader.told.router → reader.limit ≡ feed_limit → StandsBy (Some end) t reader left bytes f.steps → CountsBy (Some end) 0 → IsReading t f.router bytes feed_limit f.steps f.end
reading t reader left bytes f end is router limit stands counts = ended end is stands counts
  where
    of : (e : FeedEnd) → f.end ≡ e → HasEnded t reader left bytes f.steps e → IsReading t f.router bytes feed_limit f.steps f.end
    of e same has =
        subst (λ x. IsReading t f.router bytes feed_limit f.steps x) (sym same) (subst (λ r. IsReading t r bytes feed_limit f.steps e) (sym router)
        (subst (λ l. IsReading t reader.told.router bytes l f.steps e) limit has.reading))

    ended : (e : FeedEnd) → f.end ≡ e → StandsBy (Some e) t reader left bytes f.steps → CountsBy (Some e) 0 → IsReading t f.router bytes feed_limit f.steps f.end
    ended ends.End same has none = of ends.End same has.0
    ended (ends.CutShort o) same has none = of (ends.CutShort o) same has.0
    ended (ends.Lost o cause) same has none = of (ends.Lost o cause) same has
    ended ends.TooLong same has none = of ends.TooLong same has
    ended ends.Full same has none = absurd has
    ended ends.Faulted same has none = absurd (omega (arith, none))

one-read : (t : Topology) (n i : ℕ) (source : SureSourceView) (told : FeedTold) (f : FeedRead) → IsReadAs t sure_left sure_faults (made_reader n i) source told f → IsMadeFeed t n i f
one-read t n i source told f by = record {
  feed_no = by.feed_no;
  router_is = by.router;
  reading = reading t by.reader (sure_left source) (made_feed i n) f f.end refl (by.router ∙ sym by.reader_router) by.limit (by.stands (made_feed i n) refl) by.counts;
}

made-read : (t : Topology) (n : ℕ) (is : List ℕ) (sources : List SureSourceView) (tolds : List FeedTold) (fs : List FeedRead) →
    AreReadAs t sure_left sure_faults (map (made_reader n) is) sources tolds fs → AllZip (IsMadeFeed t n) is fs
made-read t n [] [] [] [] by = tt
made-read t n [] [] [] (f ∷ fs) by = absurd by
made-read t n [] [] (told ∷ tolds) fs by = absurd by
made-read t n [] (source ∷ sources) tolds fs by = absurd by
made-read t n (i ∷ is) [] tolds fs by = absurd by
made-read t n (i ∷ is) (source ∷ sources) [] fs by = absurd by
made-read t n (i ∷ is) (source ∷ sources) (told ∷ tolds) [] by = absurd by
made-read t n (i ∷ is) (source ∷ sources) (told ∷ tolds) (f ∷ fs) by = (one-read t n i source told f by.0, made-read t n is sources tolds fs by.1)

-- ---- there is one job

pub all-pass : {X : Type 0} (p : X → Bool) (xs : List X) → All (λ x. p x ≡ true) xs → filter p xs ≡ xs
all-pass p [] all = refl
all-pass p (x ∷ xs) all =
    let here : p x ≡ true = All-head (λ x. p x ≡ true) x xs all in
    let rest = all-pass p xs (All-tail (λ x. p x ≡ true) x xs all) in
    rw here (ap (λ ys. x ∷ ys) rest)

-- the script takes the feeds of these routers
abbrev AreTaken : List ℕ → Type 0
AreTaken [] = Unit {0}
AreTaken (i ∷ is) = (takes_router (made_router i) made_lines ≡ true) × AreTaken is

are-taken : AreTaken router_numbers
are-taken = (refl, (refl, (refl, (refl, (refl, (refl, (refl, (refl, tt))))))))

each-taken : (t : Topology) (n : ℕ) (is : List ℕ) (fs : List FeedRead) → AllZip (IsMadeFeed t n) is fs → AreTaken is → All (λ f. takes_feed made_lines f ≡ true) fs
each-taken t n [] [] are taken = All-nil (λ f. takes_feed made_lines f ≡ true)
each-taken t n [] (f ∷ fs) are taken = absurd are
each-taken t n (i ∷ is) [] are taken = absurd are
each-taken t n (i ∷ is) (f ∷ fs) are taken =
    All-cons (λ f. takes_feed made_lines f ≡ true) f fs (ap (λ r. takes_router r made_lines) are.0.router_is ∙ taken.0) (each-taken t n is fs are.1 taken.1)

-- the script has no link line
abbrev run : ScriptRun
run = record { lines = made_lines; kept_links = 0 }

none-untaken : (fs : List FeedRead) → All (λ f. takes_feed made_lines f ≡ true) fs → untaken_feeds (run ∷ []) fs ≡ []
none-untaken [] all = refl
none-untaken (f ∷ fs) all =
    rw (All-head (λ f. takes_feed made_lines f ≡ true) f fs all) (none-untaken fs (All-tail (λ f. takes_feed made_lines f ≡ true) f fs all))

one-job : (t : Topology) (n : ℕ) (fs : List FeedRead) → AllZip (IsMadeFeed t n) router_numbers fs → jobs_of (whole_scripts t 1 (made_lines ∷ [])) fs ≡ made_job fs ∷ []
one-job t n fs are =
    let all = each-taken t n router_numbers fs are are-taken in
    ap₂ (λ mine others. record { number = 1; lines = made_lines; feeds = mine; kept_links = 0 } ∷ feed_jobs 2 others) (all-pass (takes_feed made_lines) fs all) (none-untaken fs all)

-- what a run's jobs came to is what the run over the generated input comes to
pub made-run : (t : Topology) (n : ℕ) (sources : List SureSourceView) (tolds : List FeedTold) (history : List Posted) (told : List JobTold) → parts t ≡ made_network →
    HasRun t sure_left sure_faults (made_readers n) sources tolds history (made_lines ∷ []) told → IsMadeRun n told
made-run t n sources tolds history told is has =
    let read = made-read t n router_numbers sources tolds has.feeds has.read in
    record {
      t = t;
      feeds = has.feeds;
      history = entries history;
      network = is;
      read = read;
      lawful = subst (λ (jobs : List Job). IsLawful t history_limit has.feeds jobs (entries history) told) (one-job t n has.feeds read) has.lawful;
    }

-- ---- its job tells cycles

answer-cycles : (does : RouterId → ℕ → Target) (answer : Answer) → IsLoopsAnswer does answer → (cycles : List Cycle) × (answer ≡ answers.Loops cycles)
answer-cycles does (answers.Loops cycles) is = (cycles, refl)
answer-cycles does (answers.Path hops end) is = absurd is
answer-cycles does (answers.Runs runs) is = absurd is
answer-cycles does (answers.Uses first second) is = absurd is
answer-cycles does (answers.Holes holes) is = absurd is
answer-cycles does (answers.Delta changes) is = absurd is

outcome-cycles : (t : Topology) (h : List Entry) (job : Job) (before : List Line) (last : ℕ) (outcome : Outcome) → IsOutcome t h job before last loops_question outcome →
    (pin : ℕ) × (cycles : List Cycle) × (outcome ≡ Answered pin (answers.Loops cycles))
outcome-cycles t h job before last (Unknown u) is = absurd (cc)
outcome-cycles t h job before last (Answered pin answer) is =
    let made = answer-cycles (next t (take pin h) []) answer is.4 in (pin, made.0, ap (λ a. Answered pin a) made.1)

query-told : (t : Topology) (limit : ℕ) (h : List Entry) (job : Job) (before : List Line) (tolds : List Told) → Tells t limit h job before 0 (Ask 9 loops_question ∷ []) tolds →
    (pin : ℕ) × (cycles : List Cycle) × (tolds ≡ (told_cycles pin cycles).told)
query-told t limit h job before [] tells = absurd tells
query-told t limit h job before (Linked l name down outcome ∷ rest) tells = absurd tells
query-told t limit h job before (Asked l q outcome ∷ []) tells =
    let out = outcome-cycles t h job before 0 outcome tells.2 in
    (out.0, out.1, ap₂ (λ m x. Asked m x outcome ∷ []) tells.0 tells.1 ∙ ap (λ o. Asked 9 loops_question o ∷ []) out.2)
query-told t limit h job before (Asked l q outcome ∷ more ∷ rest) tells = absurd tells.3

same-job-told : (told : JobTold) (number : ℕ) (tolds : List Told) → told.number ≡ number → told.told ≡ tolds → told ≡ record { number = number; told = tolds }
same-job-told told number tolds a b = ap₂ (λ n ts. record { number = n; told = ts }) a b

job-told : (t : Topology) (limit : ℕ) (h : List Entry) (feeds : List FeedRead) (told : List JobTold) → TellsAll t limit h (made_job feeds ∷ []) told → TellsCycles told
job-told t limit h feeds [] tells = absurd tells
job-told t limit h feeds (told ∷ []) tells =
    let query = query-told t limit h (made_job feeds) (map made_take router_numbers) told.told tells.0.1 in
    (query.0, query.1, ap (λ x. x ∷ []) (same-job-told told 1 (told_cycles query.0 query.1).told tells.0.0 query.2))
job-told t limit h feeds (told ∷ more ∷ rest) tells = absurd tells.1

pub tells-cycles : (n : ℕ) (told : List JobTold) → IsMadeRun n told → TellsCycles told
tells-cycles n told run = job-told run.t history_limit run.history run.feeds told run.lawful.tells
