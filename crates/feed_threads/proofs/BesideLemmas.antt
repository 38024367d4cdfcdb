-- One job that applies, and jobs of queries alone beside it, came to what all of them came to.
use Rattle.std.proofs.Common.{◌≡◌, ◌≢◌, ℕ, zero, suc, ◌+◌, ◌-◌, ◌<◌, ◌≤◌, ◌⊎◌, inl, inr, ⊎_elim, Bool, true, false, not, ◌&&◌, ◌||◌, ◌==◌, List, [], ◌∷◌, ◌++◌, length, map, get_or, All, refl, ap, ap₂, sym, ◌∙◌, arith, subst}
use Rattle.std.specs.Global.{Vec}
use Rattle.std.specs.List.{AllZip, Contains, list_any, flat_map, insert, remove}
use Rattle.std.specs.Prelude.{nat_lt, Option, None}
use Rattle.std.proofs.lemmas.Bool.Decides.{nat_tests}
use Rattle.std.proofs.lemmas.List.{append-nil, append_assoc}
use Rattle.std.proofs.lemmas.List.Folds.{list_any_none}
use Rattle.std.proofs.lemmas.List.Elements.{All-nil, All-cons, All-head, All-tail, All-map, Contains-append_left, Contains-append_right, Contains-append_cases}
use mathlib.Core.List.{IsPrefix}
use Rattle.dn_formats.specs.Lawful.{Job, entries_of_job, first_taken, left_by, link_entries}
use Rattle.dn_formats.specs.declared.script.Line.{Line}
use Rattle.dn_formats.specs.declared.script.Line.TheVariants as line
use Rattle.feed_model.specs.declared.feed_told.FeedTold.{FeedTold}
use Rattle.dn_formats.specs.declared.told.Told.{Told}
use Rattle.dn_model.specs.Entry.{entries}
use Rattle.base.specs.Lists.{all_differ}
use Rattle.dn_model.specs.declared.entry.Entry.{Entry}
use Rattle.dn_model.specs.declared.entry.Posted.{Posted}
use Rattle.dn_model.specs.declared.topology.Topology.{Topology}
use Rattle.route_feed.specs.FeedReader.{Reader}
use Rattle.version_lock.proofs.Histories.{prefix_self, prefix_trans, same_between}
use Rattle.version_lock.specs.Callers.{Caller, HasNumber, IsSeatOf, Lock, numbers}
use Rattle.version_lock.specs.History.{posted_by}
use Rattle.version_lock.specs.Rule.{numbers_from}
use Rattle.feed_threads.specs.declared.job.JobDone.{JobDone}
use Rattle.feed_threads.specs.AllJobs.{AllEnd, CameTo, Run, numbers_of_runs, same_no}
use Rattle.feed_threads.specs.Beside.{CameByReading, IsNotRun, RanBeside, UsesAll, others_of}
use Rattle.fast_pins.specs.Known.{Known, published}
use Rattle.feed_threads.specs.declared.reader_job.Read.{Read}
use Rattle.feed_threads.specs.Jobs.{AreReadBy, Ends, HasBegun, HasRunUnless, IsBack, IsFresh, Task}
use Rattle.feed_threads.specs.Readers.{AllRead, HasRead, Reading}
use Rattle.feed_threads.specs.Reads.{IsAsk, ReadsAlone, TellsRead, TellsReadFront}
use Rattle.feed_threads.specs.Runs.{IsReady, RanJob}
use Rattle.feed_threads.specs.Seats.{own_of, LooksOn, SawMore}
use Rattle.feed_threads.specs.Tells.{TellsOwn, TellsOwnFront}
use Rattle.feed_threads.specs.Feeds.{StandsFront}
use Rattle.feed_threads.specs.Tracks.{Strand}
use Rattle.feed_threads.proofs.EndLemmas.{fresh-begun, hands-none}
use Rattle.feed_threads.proofs.LawLemmas.{all-unmap, map-map}
use Rattle.feed_threads.proofs.ReadLemmas.{given-none, read-none}
use Rattle.feed_threads.proofs.SeatLemmas.{saw-more, saw-number, saw-seat}

-- ---- one more at a place

abbrev pub put : {X : Type 0} → ℕ → X → List X → List X
put zero x xs = x ∷ xs
put (suc i) x [] = x ∷ []
put (suc i) x (y ∷ ys) = y ∷ put i x ys

put-insert : {X : Type 0} (i : ℕ) (x : X) (xs : List X) → put i x xs ≡ insert xs i x
put-insert zero x xs = refl
put-insert (suc i) x [] = refl
put-insert (suc i) x (y ∷ ys) = ap (λ zs. y ∷ zs) (put-insert i x ys)

put-removed : {X : Type 0} (i : ℕ) (x : X) (xs : List X) → i < length xs → x ≡ get_or xs i x → put i x (remove xs i) ≡ xs
put-removed i x [] less is = absurd (omega (arith, less))
put-removed zero x (y ∷ ys) less is = ap (λ z. z ∷ ys) is
put-removed (suc i) x (y ∷ ys) less is = ap (λ zs. y ∷ zs) (put-removed i x ys (omega (arith, less)) is)

put-map : {X Y : Type 0} (f : X → Y) (i : ℕ) (x : X) (xs : List X) → map f (put i x xs) ≡ put i (f x) (map f xs)
put-map f zero x xs = refl
put-map f (suc i) x [] = refl
put-map f (suc i) x (y ∷ ys) = ap (λ zs. f y ∷ zs) (put-map f i x ys)

put-all : {X : Type 0} (P : X → Type 0) (i : ℕ) (x : X) (xs : List X) → P x → All P xs → All P (put i x xs)
put-all P zero x xs p ps = All-cons P x xs p ps
put-all P (suc i) x [] p ps = All-cons P x [] p (All-nil P)
put-all P (suc i) x (y ∷ ys) p ps = All-cons P y (put i x ys) (All-head P y ys ps) (put-all P i x ys p (All-tail P y ys ps))

there : {X : Type 0} (y x : X) (xs : List X) → Contains xs x → Contains (y ∷ xs) x
there y x xs c = (suc c.0, omega (arith, c.1), c.2)

put-here : {X : Type 0} (i : ℕ) (x : X) (xs : List X) → Contains (put i x xs) x
put-here zero x xs = (0, omega arith, refl)
put-here (suc i) x [] = (0, omega arith, refl)
put-here (suc i) x (y ∷ ys) = there y x (put i x ys) (put-here i x ys)

put-none : {X : Type 0} (p : X → Bool) (i : ℕ) (x : X) (xs : List X) → p x ≡ false → list_any p xs ≡ false → list_any p (put i x xs) ≡ false
put-none p zero x xs e es = cc
put-none p (suc i) x [] e es = cc
put-none p (suc i) x (y ∷ ys) e es =
    let parts : (p y ≡ false) × (list_any p ys ≡ false) = none-both (p y) (list_any p ys) es in
    let rest : list_any p (put i x ys) ≡ false = put-none p i x ys e parts.1 in let first : p y ≡ false = parts.0 in cc
  where
    none-both : (a b : Bool) → (a || b) ≡ false → (a ≡ false) × (b ≡ false)
    none-both true b h = absurd (cc (h))
    none-both false b h = (refl, h)

differ-parts : (a b : Bool) → (not a && b) ≡ true → (a ≡ false) × (b ≡ true)
differ-parts true b h = absurd (cc (h))
differ-parts false b h = (refl, h)

differ-both : (a b : Bool) → a ≡ false → b ≡ true → (not a && b) ≡ true
differ-both a b x y = cc

put-differ : (i n : ℕ) (ms : List ℕ) → all_differ same_no ms ≡ true → All (λ m. n < m) ms → all_differ same_no (put i n ms) ≡ true
put-differ zero n ms differ more =
    differ-both (list_any (same_no n) ms) (all_differ same_no ms) (list_any_none (same_no n) ms (λ k d less. let h : n < get_or ms k d = more k d less in (grind (arith, nat_tests, h)))) differ
put-differ (suc i) n [] differ more = refl
put-differ (suc i) n (m ∷ ms) differ more =
    let parts : (list_any (same_no m) ms ≡ false) × (all_differ same_no ms ≡ true) = differ-parts (list_any (same_no m) ms) (all_differ same_no ms) differ in
    let h : n < m = All-head (λ m. n < m) m ms more in
    differ-both (list_any (same_no m) (put i n ms)) (all_differ same_no (put i n ms))
    (put-none (same_no m) i n ms (grind (arith, nat_tests, h)) parts.0)
    (put-differ i n ms parts.1 (All-tail (λ m. n < m) m ms more))

-- ---- numbers in a row

from-above : (n k : ℕ) → All (λ m. n ≤ m) (numbers_from n k)
from-above n zero = All-nil (λ m. n ≤ m)
from-above n (suc k) = All-cons (λ m. n ≤ m) n (numbers_from (suc n) k) (omega arith) (λ j d less. let h = from-above (suc n) k j d less in omega (arith, h))

from-differ : (n k : ℕ) → all_differ same_no (numbers_from n k) ≡ true
from-differ n zero = refl
from-differ n (suc k) =
    differ-both (list_any (same_no n) (numbers_from (suc n) k)) (all_differ same_no (numbers_from (suc n) k))
    (list_any_none (same_no n) (numbers_from (suc n) k) (λ j d less. let h : suc n ≤ get_or (numbers_from (suc n) k) j d = from-above (suc n) k j d less in (grind (arith, nat_tests, h))))
    (from-differ (suc n) k)

from-by : (n k m : ℕ) → n ≤ m → m < n + suc k → (b : Bool) → nat_lt n m ≡ b → (suc n ≤ m → m < suc n + k → Contains (numbers_from (suc n) k) m) → Contains (n ∷ numbers_from (suc n) k) m
from-by n k m least below true e later = let h : n < m = (grind (arith, nat_tests, e)) in there n m (numbers_from (suc n) k) (later (omega (arith, h)) (omega (arith, below)))
from-by n k m least below false e later = let h : m ≤ n = (grind (arith, nat_tests, e)) in (0, omega arith, (let same : n ≡ m = omega (arith, h, least) in same))

from-has : (n k m : ℕ) → n ≤ m → m < n + k → Contains (numbers_from n k) m
from-has n zero m least below = absurd (omega (arith, least, below))
from-has n (suc k) m least below = from-by n k m least below (nat_lt n m) refl (from-has (suc n) k m)

-- ---- the runs of jobs under numbers in a row

abbrev pub runs-from : {S : Type 0} → ℕ → List (Task S) → List (JobDone S) → List (Run S)
runs-from n [] dones = []
runs-from n (task ∷ tasks) [] = []
runs-from n (task ∷ tasks) (done ∷ dones) = record { number = n; task = task; done = done } ∷ runs-from (suc n) tasks dones

module _ {S : Type 0} (P : Task S → JobDone S → Type 0) where
  tasks-from : (n : ℕ) (tasks : List (Task S)) (dones : List (JobDone S)) → AllZip P tasks dones → map (λ (run : Run S). run.task) (runs-from n tasks dones) ≡ tasks
  tasks-from n [] [] ps = refl
  tasks-from n [] (d ∷ ds) ps = absurd ps
  tasks-from n (t ∷ ts) [] ps = absurd ps
  tasks-from n (t ∷ ts) (d ∷ ds) ps = ap (λ xs. t ∷ xs) (tasks-from (suc n) ts ds ps.1)

  dones-from : (n : ℕ) (tasks : List (Task S)) (dones : List (JobDone S)) → AllZip P tasks dones → map (λ (run : Run S). run.done) (runs-from n tasks dones) ≡ dones
  dones-from n [] [] ps = refl
  dones-from n [] (d ∷ ds) ps = absurd ps
  dones-from n (t ∷ ts) [] ps = absurd ps
  dones-from n (t ∷ ts) (d ∷ ds) ps = ap (λ xs. d ∷ xs) (dones-from (suc n) ts ds ps.1)

  numbers-from : (n : ℕ) (tasks : List (Task S)) (dones : List (JobDone S)) → AllZip P tasks dones → numbers_of_runs (runs-from n tasks dones) ≡ numbers_from n (length tasks)
  numbers-from n [] [] ps = refl
  numbers-from n [] (d ∷ ds) ps = absurd ps
  numbers-from n (t ∷ ts) [] ps = absurd ps
  numbers-from n (t ∷ ts) (d ∷ ds) ps = ap (λ xs. n ∷ xs) (numbers-from (suc n) ts ds ps.1)

  -- what holds of each job under each number of a span holds of the runs
  each-from : (low high : ℕ) (Q : Run S → Type 0) → ((m : ℕ) (task : Task S) (done : JobDone S) → low ≤ m → m < high → P task done → Q (record { number = m; task = task; done = done })) →
      (n : ℕ) (tasks : List (Task S)) (dones : List (JobDone S)) → low ≤ n → n + length tasks ≤ high → AllZip P tasks dones → All Q (runs-from n tasks dones)
  each-from low high Q q n [] [] least within ps = All-nil Q
  each-from low high Q q n [] (d ∷ ds) least within ps = absurd ps
  each-from low high Q q n (t ∷ ts) [] least within ps = absurd ps
  each-from low high Q q n (t ∷ ts) (d ∷ ds) least within ps =
      All-cons Q (record { number = n; task = t; done = d }) (runs-from (suc n) ts ds) (q n t d least (omega (arith, within)) ps.0)
      (each-from low high Q q (suc n) ts ds (omega (arith, least)) (omega (arith, within)) ps.1)

-- ---- a job of queries alone

first-none : (before lines : List Line) → first_taken [] before lines ≡ []
first-none before [] = refl
first-none before (l ∷ lines) = first-none (before ++ l ∷ []) lines

job-none : (t : Topology) (task_number : ℕ) (lines : List Line) → All IsAsk lines → entries_of_job t (record { number = task_number; lines = lines; feeds = []; kept_links = 0 }) ≡ []
job-none t number lines asks =
    ap₂ (λ xs ys. xs ++ flat_map (left_by lines) (ys ++ [])) (given-none t (record { number = number; lines = lines; feeds = []; kept_links = 0 }) [] lines refl asks) (first-none [] lines)

-- a job of this number and lines that has no feeds and no link entries
abbrev asking : ℕ → List Line → Job
asking number lines = record { number = number; lines = lines; feeds = []; kept_links = 0 }

-- lines that ask make no link entry
asks-link : (t : Topology) (number : ℕ) (lines : List Line) → All IsAsk lines → link_entries t number lines ≡ []
asks-link t number [] asks = refl
asks-link t number (line.Ask l q ∷ lines) asks = asks-link t number lines (All-tail IsAsk (line.Ask l q) lines asks)
asks-link t number (line.Take l r c ∷ lines) asks = absurd (All-head IsAsk (line.Take l r c) lines asks)
asks-link t number (line.Link l n d ∷ lines) asks = absurd (All-head IsAsk (line.Link l n d) lines asks)

module _ {S : Type 0} (t : Topology) (left : S → Option (List ℕ)) (faults place : S → ℕ) (limit : ℕ) where
  no-feeds : (seen : List Posted) (readers : List (Reader S)) (backs : List (S × FeedTold)) → readers ≡ [] → backs ≡ [] → AreReadBy t left faults place limit seen readers backs []
  no-feeds seen readers backs rs bs =
      subst (λ (xs : List (Reader S)). AreReadBy t left faults place limit seen xs backs []) (sym rs) (subst (λ (ys : List (S × FeedTold)). AreReadBy t left faults place limit seen [] ys []) (sym bs) tt)

  no-backs : (readers : List (Reader S)) (backs : List (S × FeedTold)) → readers ≡ [] → backs ≡ [] → AllZip (IsBack t left faults place limit) readers backs
  no-backs readers backs rs bs =
      subst (λ (xs : List (Reader S)). AllZip (IsBack t left faults place limit) xs backs) (sym rs) (subst (λ (ys : List (S × FeedTold)). AllZip (IsBack t left faults place limit) [] ys) (sym bs) tt)

  -- what is told by snapshots is told by the history that begins with them, under a number of which it has nothing more
  tells-now : (m : ℕ) (before seen : List Posted) (task : Task S) (done : JobDone S) (r : CameByReading t before seen task done) → posted_by m seen ≡ posted_by m before →
      (lines : List Line) (tolds : List Told) (job : Job) → job.feeds ≡ [] → TellsRead t r.first r.list lines tolds → TellsOwn t limit seen m (own_of m before) job [] 0 lines tolds
  tells-now m before seen task done r same lines tolds job none told =
      let whole : IsPrefix r.first seen = prefix_trans r.first r.list seen told.begins r.within in
      let first : posted_by m r.first ≡ posted_by m before = same_between m before r.first seen r.begins whole (sym same) in
      let tells : TellsOwn t limit (r.list ++ r.within.0) m (own_of m r.first) job [] 0 lines tolds = told.tells limit m job r.within.0 none (ap (posted_by m) r.within.1 ∙ same ∙ sym first) in
      subst (λ (ps : List Posted). TellsOwn t limit ps m (own_of m before) job [] 0 lines tolds) r.within.1
      (subst (λ (es : List Entry). TellsOwn t limit (r.list ++ r.within.0) m es job [] 0 lines tolds) (ap entries first) tells)

  run-unless : (wanted : Bool) (m : ℕ) (before seen : List Posted) (task : Task S) (done : JobDone S) → done.wanted_memory ≡ wanted → CameByReading t before seen task done → posted_by m seen ≡ posted_by m before →
      HasRunUnless t left faults place limit wanted m (own_of m before) seen task done.told done.feeds.items
  run-unless true m before seen task done is r same = record {
    strands = [];
    links = record { count = 0; full = false };
    starts = sym r.ends.feeds;
    backs_are = sym r.ends.none;
    each = All-nil (λ (s : Strand S). StandsFront t left faults place limit seen s.start s.now s.steps s.ops);
    linked = omega arith;
    count = (let e : length (own_of m seen) ≡ length (own_of m before) = ap length (ap entries same) in omega (arith, e));
    order = λ job on lines-are. let es : List Entry = entries_of_job t job in (es, ap (λ (xs : List Entry). xs ++ es) (ap entries same));
  }
  run-unless false m before seen task done is r same = record {
    feeds = [];
    links = record { count = 0; full = false };
    linked = ap length (sym (asks-link t task.number task.lines (r.ends.done is).asks));
    read = no-feeds seen task.feeds done.feeds.items r.ends.feeds r.ends.none;
    order = ap entries same ∙ sym (ap (λ es. own_of m before ++ es) (job-none t task.number task.lines (r.ends.done is).asks) ∙ append-nil (own_of m before));
    tells = tells-now m before seen task done r same task.lines done.told (asking task.number task.lines) refl (r.ends.done is);
  }

  reading-ends : (m : ℕ) (before seen : List Posted) (task : Task S) (done : JobDone S) → CameByReading t before seen task done → posted_by m seen ≡ posted_by m before →
      Ends t left faults place limit m (own_of m before) seen task done.wanted_memory done.told done.feeds.items
  reading-ends m before seen task done r same =
      let f = r.ends.front in
      record {
        done = run-unless done.wanted_memory m before seen task done refl r same;
        front = record {
          front = f.front;
          back = f.back;
          lines_are = f.lines_are;
          job = asking task.number task.lines;
          number_is = refl;
          tells = tells-now m before seen task done r same f.front done.told (asking task.number task.lines) refl f.told;
        };
        back = no-backs task.feeds done.feeds.items r.ends.feeds r.ends.none;
      }

-- ---- jobs that aren't run

-- the first of these jobs aren't run, and the rest is left
pub record NotRunSoFar {S : Type 0} (tasks rest : List (Task S)) (dones : List (JobDone S)) : Type 0 where
  pub front : List (Task S)
  pub parts : front ++ rest ≡ tasks
  pub done : AllZip IsNotRun front dones

zip-push : {A B : Type 0} (R : A → B → Type 0) (xs : List A) (ys : List B) (x : A) (y : B) → AllZip R xs ys → R x y → AllZip R (xs ++ x ∷ []) (ys ++ y ∷ [])
zip-push R [] [] x y rs r = (r, tt)
zip-push R [] (z ∷ zs) x y rs r = absurd rs
zip-push R (w ∷ ws) [] x y rs r = absurd rs
zip-push R (w ∷ ws) (z ∷ zs) x y rs r = (rs.0, zip-push R ws zs x y rs.1 r)

pub not-run-more : {S : Type 0} (tasks rest rest' : List (Task S)) (task : Task S) (dones dones' : List (JobDone S)) (done : JobDone S) → rest ≡ task ∷ rest' → dones' ≡ dones ++ done ∷ [] →
    IsNotRun task done → NotRunSoFar tasks rest dones → NotRunSoFar tasks rest' dones'
not-run-more {S = S} tasks rest rest' task dones dones' done is adds one so = record {
  front = so.front ++ task ∷ [];
  parts = append_assoc so.front (task ∷ []) rest' ∙ ap (λ ts. so.front ++ ts) (sym is) ∙ so.parts;
  done = subst (λ (ds : List (JobDone S)). AllZip IsNotRun (so.front ++ task ∷ []) ds) (sym adds) (zip-push IsNotRun so.front dones task done so.done one);
}

-- ---- what jobs that aren't run came to

module _ {S : Type 0} (t : Topology) (left : S → Option (List ℕ)) (faults place : S → ℕ) (limit : ℕ) where
  fresh-backs : (readers : List (Reader S)) → All (IsFresh t faults) readers → AllZip (IsBack t left faults place limit) readers (map (λ r. (r.source, r.told)) readers)
  fresh-backs [] fresh = tt
  fresh-backs (r ∷ rs) fresh = (
    record {
      reader = r;
      kept = None;
      steps = [];
      source_is = refl;
      reads = hands-none t left faults place limit r (All-head (IsFresh t faults) r rs fresh);
      told_is = refl;
    },
    fresh-backs rs (All-tail (IsFresh t faults) r rs fresh),
  )

  wants : (wanted : Bool) (n : ℕ) (start : List Entry) (seen : List Posted) (task : Task S) (told : List Told) (backs : List (S × FeedTold)) → wanted ≡ true →
      HasBegun t left faults place limit n start seen task backs → HasRunUnless t left faults place limit wanted n start seen task told backs
  wants true n start seen task told backs e begun = begun
  wants false n start seen task told backs e begun = absurd (cc (e))

  -- the job that applies
  pub not-run-ends : (n : ℕ) (start : List Entry) (seen : List Posted) (task : Task S) (done : JobDone S) → All (IsFresh t faults) task.feeds → own_of n seen ≡ start → IsNotRun task done →
      Ends t left faults place limit n start seen task done.wanted_memory done.told done.feeds.items
  not-run-ends n start seen task done fresh same is = record {
    done = wants done.wanted_memory n start seen task done.told done.feeds.items is.wanted
        (subst (λ (bs : List (S × FeedTold)). HasBegun t left faults place limit n start seen task bs) (sym is.feeds) (fresh-begun t left faults place limit n start seen task fresh same));
    front = subst (λ (ts : List Told). TellsOwnFront t limit seen n start task.number task.lines ts) (sym is.told)
        (record { front = []; back = task.lines; lines_are = refl; job = asking task.number task.lines; number_is = refl; tells = tt });
    back = subst (λ (bs : List (S × FeedTold)). AllZip (IsBack t left faults place limit) task.feeds bs) (sym is.feeds) (fresh-backs task.feeds fresh);
  }

-- a job of queries alone
not-run-reads : {S : Type 0} (t : Topology) (before seen : List Posted) (task : Task S) (done : JobDone S) → IsPrefix before seen → ReadsAlone task → IsNotRun task done → CameByReading t before seen task done
not-run-reads {S = S} t before seen task done p alone is = record {
  first = before;
  list = before;
  begins = prefix_self before;
  within = p;
  number = is.number;
  ends = record {
    feeds = alone.none;
    done = λ e. let w : done.wanted_memory ≡ true = is.wanted in absurd (cc (e, w));
    front = subst (λ (ts : List Told). TellsReadFront t before before task.lines ts) (sym is.told) (record { front = []; back = task.lines; lines_are = refl; told = read-none t before });
    none = is.feeds ∙ ap (map (λ r. (r.source, r.told))) alone.none;
  };
}

pub none-reads : {S : Type 0} (t : Topology) (before seen : List Posted) (tasks : List (Task S)) (dones : List (JobDone S)) → IsPrefix before seen → All ReadsAlone tasks → AllZip IsNotRun tasks dones →
    AllZip (CameByReading t before seen) tasks dones
none-reads t before seen [] [] p alone is = tt
none-reads t before seen [] (d ∷ ds) p alone is = absurd is
none-reads t before seen (k ∷ ks) [] p alone is = absurd is
none-reads t before seen (k ∷ ks) (d ∷ ds) p alone is =
    (not-run-reads t before seen k d p (All-head ReadsAlone k ks alone) is.0, none-reads t before seen ks ds p (All-tail ReadsAlone k ks alone) is.1)

pub came-length : {S : Type 0} (t : Topology) (before seen : List Posted) (tasks : List (Task S)) (dones : List (JobDone S)) → AllZip (CameByReading t before seen) tasks dones → length dones ≡ length tasks
came-length t before seen [] [] came = refl
came-length t before seen [] (d ∷ ds) came = absurd came
came-length t before seen (k ∷ ks) [] came = absurd came
came-length t before seen (k ∷ ks) (d ∷ ds) came = ap suc (came-length t before seen ks ds came.1)

-- what came after more was seen before came after less
pub reads-earlier : {S : Type 0} (t : Topology) (old before seen : List Posted) (tasks : List (Task S)) (dones : List (JobDone S)) → IsPrefix old before → AllZip (CameByReading t before seen) tasks dones →
    AllZip (CameByReading t old seen) tasks dones
reads-earlier t old before seen [] [] p came = tt
reads-earlier t old before seen [] (d ∷ ds) p came = absurd came
reads-earlier t old before seen (k ∷ ks) [] p came = absurd came
reads-earlier t old before seen (k ∷ ks) (d ∷ ds) p came =
    let r : CameByReading t before seen k d = came.0 in (
      record { first = r.first; list = r.list; begins = prefix_trans old before r.first p r.begins; within = r.within; number = r.number; ends = r.ends },
      reads-earlier t old before seen ks ds p came.1,
    )

-- a job that wasn't run, by a seat that saw more
pub not-run : {S : Type 0} (lock : Lock) (left : S → Option (List ℕ)) (faults place : S → ℕ) (old new : Caller) (task : Task S) (done : JobDone S) → LooksOn old new → IsReady lock faults task → IsNotRun task done → RanJob lock left faults place old new task done
not-run lock left faults place old new task done looks ready is = record {
  saw = looks.saw;
  number = is.number;
  ends = not-run-ends lock.setup.basis.topology left faults place lock.setup.basis.limit old.number (own_of old.number old.seen) new.seen task done ready.fresh looks.own is;
}

-- jobs that ran after the seat had seen more
pub beside-later : {S : Type 0} (lock : Lock) (left : S → Option (List ℕ)) (faults place : S → ℕ) (old mid : Caller) (task : Task S) (reading : List (Task S)) (came : Caller × JobDone S × Vec (JobDone S)) → LooksOn old mid →
    RanBeside lock left faults place mid task reading came → RanBeside lock left faults place old task reading came
beside-later {S = S} lock left faults place old mid task reading came looks beside =
    let t : Topology = lock.setup.basis.topology in
    let limit : ℕ = lock.setup.basis.limit in
    let n : mid.number ≡ old.number = saw-number old mid looks.saw in
    let moved : Ends t left faults place limit old.number (own_of old.number mid.seen) came.0.seen task came.1.wanted_memory came.1.told came.1.feeds.items =
    subst (λ (k : ℕ). Ends t left faults place limit k (own_of k mid.seen) came.0.seen task came.1.wanted_memory came.1.told came.1.feeds.items) n beside.ran.ends in
    record {
      ran = record {
        saw = saw-more old mid came.0 looks.saw beside.ran.saw;
        number = beside.ran.number;
        ends = subst (λ (es : List Entry). Ends t left faults place limit old.number es came.0.seen task came.1.wanted_memory came.1.told came.1.feeds.items) looks.own moved;
      };
      reads = reads-earlier t old.seen mid.seen came.0.seen reading came.2.items looks.saw.seen beside.reads;
    }

-- ---- what jobs came to with readers

-- readers that knew one publication are of its publisher
pub read-origins : {S : Type 0} (t : Topology) (known : Known) (readers : List Known) (tasks : List (Task S)) (reads : List (Read S)) → All (λ r. r ≡ known) readers → AllRead t readers tasks reads →
    All (λ r. r.reader.origin ≡ known.origin) reads
read-origins {S = S} t known readers tasks reads same all =
    subst (λ (rs : List (Read S)). All (λ r. r.reader.origin ≡ known.origin) rs) (sym all.reads_are)
    (All-map (λ (r : Read S). r.reader.origin ≡ known.origin) (λ (x : Reading S). x.read) all.readings
    (λ k d less. (all.each k d less).pins.origin ∙ ap (λ (x : Known). x.origin) (all-unmap (λ (r : Known). r ≡ known) (λ (x : Reading S). x.before) all.readings (subst (All (λ r. r ≡ known)) all.readers_are same) k d less)))

readings-came : {S : Type 0} (t : Topology) (known : Known) (before list seen : List Posted) (xs : List (Reading S)) → published known ≡ before → IsPrefix list seen →
    All (λ (x : Reading S). x.before ≡ known) xs → All (λ (x : Reading S). IsPrefix (published x.read.reader) list) xs → All (HasRead t) xs →
    AllZip (CameByReading t before seen) (map (λ (x : Reading S). x.task) xs) (map (λ (x : Reading S). x.read.done) xs)
readings-came t known before list seen [] is p same begins each = tt
readings-came {S = S} t known before list seen (x ∷ xs) is p same begins each =
    let here : HasRead t x = All-head (HasRead t) x xs each in
    let first : published x.before ≡ before = ap published (All-head (λ (x : Reading S). x.before ≡ known) x xs same) ∙ is in (
      record {
        first = published x.before;
        list = published x.read.reader;
        begins = subst (λ (l : List Posted). IsPrefix before l) (sym first) (prefix_self before);
        within = prefix_trans (published x.read.reader) list seen (All-head (λ (x : Reading S). IsPrefix (published x.read.reader) list) x xs begins) p;
        number = here.number;
        ends = here.ends;
      },
      readings-came t known before list seen xs is p (All-tail (λ (x : Reading S). x.before ≡ known) x xs same) (All-tail (λ (x : Reading S). IsPrefix (published x.read.reader) list) x xs begins) (All-tail (HasRead t) x xs each),
    )

pub reads-came : {S : Type 0} (t : Topology) (known : Known) (before list seen : List Posted) (readers : List Known) (tasks : List (Task S)) (reads : List (Read S)) (dones : List (JobDone S)) → published known ≡ before → IsPrefix list seen →
    All (λ r. r ≡ known) readers → All (λ r. IsPrefix (published r.reader) list) reads → AllRead t readers tasks reads → dones ≡ map (λ r. r.done) reads → AllZip (CameByReading t before seen) tasks dones
reads-came {S = S} t known before list seen readers tasks reads dones is p same begins all dones-are =
    let ds : dones ≡ map (λ (x : Reading S). x.read.done) all.readings = dones-are ∙ ap (map (λ (r : Read S). r.done)) all.reads_are ∙ map-map (λ (r : Read S). r.done) (λ (x : Reading S). x.read) all.readings in
    subst (λ (ts : List (Task S)). AllZip (CameByReading t before seen) ts dones) (sym all.tasks_are)
    (subst (λ (es : List (JobDone S)). AllZip (CameByReading t before seen) (map (λ (x : Reading S). x.task) all.readings) es) (sym ds)
    (readings-came t known before list seen all.readings is p
    (all-unmap (λ (r : Known). r ≡ known) (λ (x : Reading S). x.before) all.readings (subst (All (λ r. r ≡ known)) all.readers_are same))
    (all-unmap (λ (r : Read S). IsPrefix (published r.reader) list) (λ (x : Reading S). x.read) all.readings (subst (All (λ r. IsPrefix (published r.reader) list)) all.reads_are begins))
    all.each))

-- ---- the numbers of a seat that uses all of its span

others-are : (old : Caller) → 0 < old.span → (m : ℕ) → old.number < m → m < old.number + old.span → Contains (numbers (others_of old)) m
others-are old some m above below =
    let first : ℕ = old.number + (old.span - (old.span - 1)) in
    let one : old.span - (old.span - 1) ≡ 1 = omega (arith, some) in
    Contains-append_right (first ∷ []) (numbers_from first (old.span - 1)) m (from-has first (old.span - 1) m (omega (arith, one, above)) (omega (arith, one, below, some)))

mid-number : (old mid : Caller) → UsesAll old mid → mid.number ≡ old.number
mid-number old mid uses = ap (λ (s : Caller). s.number) uses.both

mid-uses-own : (old mid : Caller) (m : ℕ) → UsesAll old mid → Contains old.used m → Contains mid.used m
mid-uses-own old mid m uses has = subst (λ (s : Caller). Contains s.used m) (sym uses.both) (Contains-append_left old.used (numbers (others_of old)) m has)

mid-uses : (old mid : Caller) (m : ℕ) → UsesAll old mid → Contains (numbers (others_of old)) m → Contains mid.used m
mid-uses old mid m uses has = subst (λ (s : Caller). Contains s.used m) (sym uses.both) (Contains-append_right old.used (numbers (others_of old)) m has)

mid-same : (old mid : Caller) (m : ℕ) → UsesAll old mid → Contains mid.used m → posted_by m mid.seen ≡ posted_by m old.seen
mid-same old mid m uses has =
    ⊎_elim (λ (mine : Contains old.used m). uses.own m mine) (λ (other : Contains (numbers (others_of old)) m). uses.brought m other)
    (Contains-append_cases old.used (numbers (others_of old)) m (subst (λ (s : Caller). Contains s.used m) uses.both has))

mid-seat : (lock : Lock) (old mid : Caller) → UsesAll old mid → IsSeatOf lock old → IsSeatOf lock mid
mid-seat lock old mid uses is = subst (λ (s : Caller). IsSeatOf lock s) (sym uses.both) is

new-uses : (mid new : Caller) (m : ℕ) → SawMore mid new → Contains mid.used m → Contains new.used m
new-uses mid new m saw has = subst (λ (s : Caller). Contains s.used m) (sym saw.same) has

-- ---- all of them

module _ {S : Type 0} (t : Topology) (left : S → Option (List ℕ)) (faults place : S → ℕ) (limit : ℕ) (lock : Lock) (old mid new : Caller) (uses : UsesAll old mid) (saw : SawMore mid new) (used : Contains old.used old.number) (some : 0 < old.span) where
  keeps-numbers : (n : ℕ) → HasNumber old n → HasNumber new n
  keeps-numbers n (inl mine) = inl (new-uses mid new n saw (mid-uses-own old mid n uses mine))
  keeps-numbers n (inr span) = by (nat_lt old.number n) refl
    where
      by : (b : Bool) → nat_lt old.number n ≡ b → HasNumber new n
      by true e = let h : old.number < n = (grind (arith, nat_tests, e)) in inl (new-uses mid new n saw (mid-uses old mid n uses (others-are old some n h span.1)))
      by false e =
          let h : n ≤ old.number = (grind (arith, nat_tests, e)) in let least : old.number ≤ n = span.0 in let same : old.number ≡ n = omega (arith, h, least) in
          inl (new-uses mid new n saw (mid-uses-own old mid n uses (subst (λ (k : ℕ). Contains old.used k) same used)))

  -- of each number but the seat's own the entries stay
  rest-same : (n : ℕ) → Contains mid.used n → n ≢ old.number → posted_by n new.seen ≡ posted_by n old.seen
  rest-same n has other = saw.others n has (λ e. other (e ∙ mid-number old mid uses)) ∙ mid-same old mid n uses has

  read-run : (m : ℕ) (task : Task S) (done : JobDone S) → suc old.number ≤ m → m < old.number + old.span → CameByReading t mid.seen new.seen task done →
      CameTo t left faults place limit old.seen new.seen (record { number = m; task = task; done = done })
  read-run m task done least below r =
      let has : Contains mid.used m = mid-uses old mid m uses (others-are old some m (omega (arith, least)) below) in
      let stays : posted_by m mid.seen ≡ posted_by m old.seen = mid-same old mid m uses has in
      let same : posted_by m new.seen ≡ posted_by m mid.seen = saw.others m has (λ e. let h : m ≡ old.number = e ∙ mid-number old mid uses in absurd (omega (arith, h, least))) in
      record {
        number = r.number;
        ends = subst (λ (es : List Entry). Ends t left faults place limit m es new.seen task done.wanted_memory done.told done.feeds.items) (ap entries stays)
            (reading-ends t left faults place limit m mid.seen new.seen task done r same);
      }

  applying-run : (task : Task S) (done : JobDone S) → done.number ≡ task.number →
      Ends t left faults place limit mid.number (own_of mid.number mid.seen) new.seen task done.wanted_memory done.told done.feeds.items →
      CameTo t left faults place limit old.seen new.seen (record { number = old.number; task = task; done = done })
  applying-run task done number ends = record {
    number = number;
    ends = subst (λ (es : List Entry). Ends t left faults place limit old.number es new.seen task done.wanted_memory done.told done.feeds.items)
        (ap entries (mid-same old mid old.number uses (mid-uses-own old mid old.number uses used)))
        (subst (λ (k : ℕ). Ends t left faults place limit k (own_of k mid.seen) new.seen task done.wanted_memory done.told done.feeds.items) (mid-number old mid uses) ends);
  }

  pub beside-ends : (at : ℕ) (tasks others : List (Task S)) (task : Task S) (dones rest : List (JobDone S)) (done : JobDone S) → IsSeatOf lock old → at < length tasks → length tasks ≤ old.span →
      task ≡ get_or tasks at task → others ≡ remove tasks at → length others + 1 ≡ length tasks → dones ≡ insert rest at done → done.number ≡ task.number →
      Ends t left faults place limit mid.number (own_of mid.number mid.seen) new.seen task done.wanted_memory done.told done.feeds.items →
      AllZip (CameByReading t mid.seen new.seen) others rest → AllEnd t left faults place limit lock old tasks new dones
  beside-ends at tasks others task dones rest done is less few task-is others-are-is fewer dones-is number ends reads =
      let P : Task S → JobDone S → Type 0 = CameByReading t mid.seen new.seen in
      let n : ℕ = old.number in
      let run : Run S = record { number = n; task = task; done = done } in
      let runs : List (Run S) = runs-from (suc n) others rest in
      let high : suc n + length others ≤ n + old.span = omega (arith, few, fewer) in
      let all : List (Run S) = put at run runs in
      let numbers-are : numbers_of_runs runs ≡ numbers_from (suc n) (length others) = numbers-from P (suc n) others rest reads in
      let W : Run S → Type 0 = λ run. (old.number ≤ run.number) × (run.number < old.number + old.span) in
      let U : Run S → Type 0 = λ run. Contains new.used run.number in
      record {
        is_seat = saw-seat lock mid new saw (mid-seat lock old mid uses is);
        keeps = keeps-numbers;
        seen = prefix_trans old.seen mid.seen new.seen uses.seen saw.seen;
        runs = all;
        tasks_are = sym (put-map (λ (run : Run S). run.task) at run runs ∙ ap (put at task) (tasks-from P (suc n) others rest reads ∙ others-are-is) ∙ put-removed at task tasks less task-is);
        dones_are = dones-is ∙ sym (put-map (λ (run : Run S). run.done) at run runs ∙ ap (put at done) (dones-from P (suc n) others rest reads) ∙ put-insert at done rest);
        each = put-all (CameTo t left faults place limit old.seen new.seen) at run runs (applying-run task done number ends)
            (each-from P (suc n) (n + old.span) (CameTo t left faults place limit old.seen new.seen) read-run (suc n) others rest (omega arith) high reads);
        within = put-all W at run runs (omega arith, omega (arith, some))
            (each-from P (suc n) (n + old.span) W (λ m task done least below p. (omega (arith, least), below)) (suc n) others rest (omega arith) high reads);
        differ = ap (all_differ same_no) (put-map (λ (run : Run S). run.number) at run runs ∙ ap (put at n) numbers-are)
            ∙ put-differ at n (numbers_from (suc n) (length others)) (from-differ (suc n) (length others))
            (λ k d less. let h : suc n ≤ get_or (numbers_from (suc n) (length others)) k d = from-above (suc n) (length others) k d less in omega (arith, h));
        uses = put-all U at run runs (new-uses mid new n saw (mid-uses-own old mid n uses used))
            (each-from P (suc n) (n + old.span) U (λ m task done least below p. new-uses mid new m saw (mid-uses old mid m uses (others-are old some m (omega (arith, least)) below))) (suc n) others rest (omega arith) high reads);
        others = λ m has. by-number m (m == n) refl (subst (λ (s : Caller). Contains s.used m) saw.same has) all
            (subst (λ (ms : List ℕ). Contains ms n) (sym (put-map (λ (run : Run S). run.number) at run runs)) (put-here at n (numbers_of_runs runs)));
      }
    where
      by-number : (m : ℕ) (b : Bool) → (m == old.number) ≡ b → Contains mid.used m → (all : List (Run S)) → Contains (numbers_of_runs all) old.number →
          Contains (numbers_of_runs all) m ⊎ (posted_by m new.seen ≡ posted_by m old.seen)
      by-number m true e has all here = inl (let same : m ≡ old.number = (grind (arith, nat_tests, e)) in subst (λ (k : ℕ). Contains (numbers_of_runs all) k) (sym same) here)
      by-number m false e has all here = inr (rest-same m has (λ same. let x : (m == old.number) ≡ true = (grind (arith, nat_tests, same)) in cc))
