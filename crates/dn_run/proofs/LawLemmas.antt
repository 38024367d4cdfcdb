-- What jobs came to, as what a run's jobs came to: no history is full, and all feeds stand in their own order.
use Rattle.std.proofs.Common.{nat_lt, Bool, true, false, ◌≡◌, ℕ, suc, ◌+◌, ◌*◌, ◌<◌, ◌≤◌, ◌^◌, List, [], ◌∷◌, ◌++◌, length, get_or, map, filter, All, Option, None, Some, refl, ap, ap₂, sym, ◌∙◌, subst, arith}
use Rattle.std.specs.List.{flat_map}
use Rattle.std.specs.List.Sorted.{IsPermutation}
use Rattle.std.proofs.lemmas.Bool.Decides.{nat_tests}
use Rattle.std.proofs.lemmas.List.{length-map}
use Rattle.std.proofs.lemmas.List.Elements.{All-cons, All-head, All-map, All-nil, All-tail}
use Rattle.std.proofs.lemmas.List.Sorted.{Contains-permutation, IsPermutation-map, IsPermutation-sym}
use Rattle.dn_formats.specs.Lawful.{AreLinksKept, IsLawful, Job, ScriptRun, jobs_of, link_entries}
use Rattle.feed_model.specs.Feed.{IsToTableOf}
use Rattle.feed_model.specs.Steps.{FeedRead, updates}
use Rattle.dn_formats.specs.declared.script.Line.{Line}
use Rattle.feed_model.specs.declared.feed_told.FeedEnd.TheVariants as ends
use Rattle.feed_model.specs.declared.feed_told.FeedTold.{FeedTold}
use Rattle.dn_formats.specs.declared.told.JobTold.{JobTold}
use Rattle.dn_model.specs.Entry.{entries}
use Rattle.dn_model.specs.declared.entry.Posted.{Posted}
use Rattle.dn_model.specs.declared.topology.Topology.{Topology}
use Rattle.route_feed.specs.FeedReader.{Reader}
use Rattle.feed_threads.specs.AllJobs.{AreDoneAs, AreLawful, HaveSame, feeds_of_jobs, told_by}
use Rattle.dn_run.specs.Deal.{left_by_lines, left_over, own_tasks, script_tasks, takes_reader, tasks_of}
use Rattle.feed_threads.specs.Jobs.{AreReadBy, IsKeptSo, IsReadBy, Task}
use Rattle.feed_threads.specs.declared.job.JobDone.{JobDone}
use Rattle.feed_threads.specs.Feeds.{CountsBy, StandsBy, end_with}
use Rattle.dn_run.specs.Jobs.{AreFit, AreNumbered, IsReadAs, TakeApart}
use Rattle.dn_run.specs.Ran.{RanAs}
use Rattle.dn_run.specs.Law.{whole_scripts}
use Rattle.dn_run.specs.Limits.{history_limit, most_lines}
use Rattle.feed_threads.proofs.FullLemmas.{room-left}
use Rattle.dn_run.proofs.DealLemmas.{jobs-are, kept_of_runs, lines_of_runs, no_links, readers-dealt, task_jobs}
use Rattle.dn_run.proofs.InOrder.{IsFrom}
use Rattle.dn_run.proofs.MatchLemmas.{AllPieces, AllZip3, matches}

-- ---- what was read

module _ {S : Type 0} (t : Topology) (left : S → Option (List ℕ)) (faults place : S → ℕ) (limit : ℕ) (seen : List Posted) where
  abbrev Reads : Reader S → S × FeedTold → FeedRead → Type 0
  Reads r b f = IsReadBy t left faults place limit seen r b.0 b.1 f

  back-no : (r : Reader S) (b : S × FeedTold) (f : FeedRead) → Reads r b f → b.1.feed_no ≡ r.told.feed_no
  back-no r b f reads = ap (λ (x : FeedTold). x.feed_no) reads.told_is ∙ reads.feed_no

  feed-no : (r : Reader S) (b : S × FeedTold) (f : FeedRead) → Reads r b f → f.feed_no ≡ r.told.feed_no
  feed-no r b f reads = reads.feed_no

  zip-of : (rs : List (Reader S)) (bs : List (S × FeedTold)) (fs : List FeedRead) → AreReadBy t left faults place limit seen rs bs fs → AllZip3 Reads rs bs fs
  zip-of [] [] [] all = tt
  zip-of [] [] (f ∷ fs) all = absurd all
  zip-of [] (b ∷ bs) fs all = absurd all
  zip-of (r ∷ rs) [] fs all = absurd all
  zip-of (r ∷ rs) (b ∷ bs) [] all = absurd all
  zip-of (r ∷ rs) (b ∷ bs) (f ∷ fs) all = (all.0, zip-of rs bs fs all.1)

  pieces-of : (tasks : List (Task S)) (dones : List (JobDone S)) (jobs : List Job) → AreDoneAs t left faults place limit seen tasks dones jobs →
      AllPieces Reads (map (λ task. task.feeds) tasks) (map (λ done. done.feeds.items) dones) (map (λ job. job.feeds) jobs)
  pieces-of [] [] [] all = tt
  pieces-of [] [] (j ∷ js) all = absurd all
  pieces-of [] (d ∷ ds) js all = absurd all
  pieces-of (x ∷ xs) [] js all = absurd all
  pieces-of (x ∷ xs) (d ∷ ds) [] all = absurd all
  pieces-of (x ∷ xs) (d ∷ ds) (j ∷ js) all = (zip-of x.feeds d.feeds.items j.feeds all.0.read, pieces-of xs ds js all.1)

  -- the jobs are the tasks with what was read of their feeds
  jobs-of-tasks : (feed : Reader S → FeedRead) (tasks : List (Task S)) (dones : List (JobDone S)) (jobs : List Job) → AreDoneAs t left faults place limit seen tasks dones jobs →
      map (map feed) (map (λ task. task.feeds) tasks) ≡ map (λ job. job.feeds) jobs → jobs ≡ task_jobs feed tasks (map (λ job. job.kept_links) jobs)
  jobs-of-tasks feed [] [] [] all same = refl
  jobs-of-tasks feed [] [] (j ∷ js) all same = absurd all
  jobs-of-tasks feed [] (d ∷ ds) js all same = absurd all
  jobs-of-tasks feed (x ∷ xs) [] js all same = absurd all
  jobs-of-tasks feed (x ∷ xs) (d ∷ ds) [] all same = absurd all
  jobs-of-tasks feed (x ∷ xs) (d ∷ ds) (j ∷ js) all same =
      let number : j.number ≡ x.number = all.0.number in
      let lines : j.lines ≡ x.lines = all.0.lines in
      let feeds : j.feeds ≡ map feed x.feeds = cc in
      let rest : map (map feed) (map (λ task. task.feeds) xs) ≡ map (λ job. job.feeds) js = cc in
      ap₂ (λ j js. j ∷ js) (ap₂ (λ n fs. record { number = n; lines = j.lines; feeds = fs; kept_links = j.kept_links }) number feeds ∙ ap (λ ls. record { number = x.number; lines = ls; feeds = map feed x.feeds; kept_links = j.kept_links }) lines)
      (jobs-of-tasks feed xs ds js all.1 rest)

row-map : {X Y : Type 0} (h : X → List Y) (xs : List X) → flat_map (λ ys. ys) (map h xs) ≡ flat_map h xs
row-map h [] = refl
row-map h (x ∷ xs) = ap (λ ys. h x ++ ys) (row-map h xs)

numbered-from : {S : Type 0} (n : ℕ) (rs : List (Reader S)) → AreNumbered n rs → IsFrom (λ r. r.told.feed_no) n rs
numbered-from n [] are = tt
numbered-from n (r ∷ rs) are = (are.0, numbered-from (suc n) rs are.1)

entries-length : (h : List Posted) → length (entries h) ≡ length h
entries-length h = length-map h (λ (p : Posted). p.entry)

-- ---- the jobs' lines

-- the tasks have the lines of scripts, or none
tasks-short : {S : Type 0} (n : ℕ) (scripts : List (List Line)) (rest : List (Reader S)) (owns : List (Task S)) → All (λ lines. length lines ≤ most_lines) scripts → All (λ task. length task.lines ≤ most_lines) owns →
    All (λ task. length task.lines ≤ most_lines) (script_tasks n scripts rest ++ owns)
tasks-short n [] rest owns few mine = mine
tasks-short {S = S} n (lines ∷ scripts) rest owns few mine =
    let P : List Line → Type 0 = λ ls. length ls ≤ most_lines in
    All-cons (λ (task : Task S). length task.lines ≤ most_lines) (record { number = n; lines = lines; feeds = filter (takes_reader lines) rest }) (script_tasks (suc n) scripts (left_by_lines lines rest) ++ owns)
    (All-head P lines scripts few) (tasks-short (suc n) scripts (left_by_lines lines rest) owns (All-tail P lines scripts few) mine)

owns-short : {S : Type 0} (n : ℕ) (rs : List (Reader S)) → All (λ task. length task.lines ≤ most_lines) (own_tasks n rs)
owns-short {S = S} n [] = All-nil (λ (task : Task S). length task.lines ≤ most_lines)
owns-short {S = S} n (r ∷ rs) =
    All-cons (λ (task : Task S). length task.lines ≤ most_lines) (record { number = n; lines = []; feeds = r ∷ [] }) (own_tasks (suc n) rs) (omega arith) (owns-short (suc n) rs)

whole-lines : (t : Topology) (n : ℕ) (scripts : List (List Line)) → lines_of_runs (whole_scripts t n scripts) ≡ scripts
whole-lines t n [] = refl
whole-lines t n (lines ∷ scripts) = ap (λ rest. lines ∷ rest) (whole-lines t (suc n) scripts)

module _ {S : Type 0} (t : Topology) (left : S → Option (List ℕ)) (faults place : S → ℕ) (limit : ℕ) (seen : List Posted) where
  abbrev HaveTheirLinks : List Job → Type 0
  HaveTheirLinks jobs = All (AreLinksKept t limit (entries seen)) jobs

  -- as many jobs as tasks, with the lines of these
  done-count : (tasks : List (Task S)) (dones : List (JobDone S)) (jobs : List Job) → AreDoneAs t left faults place limit seen tasks dones jobs → length jobs ≡ length tasks
  done-count [] [] [] all = refl
  done-count [] [] (j ∷ js) all = absurd all
  done-count [] (d ∷ ds) js all = absurd all
  done-count (x ∷ xs) [] js all = absurd all
  done-count (x ∷ xs) (d ∷ ds) [] all = absurd all
  done-count (x ∷ xs) (d ∷ ds) (j ∷ js) all = ap suc (done-count xs ds js all.1)

  done-short : (tasks : List (Task S)) (dones : List (JobDone S)) (jobs : List Job) → AreDoneAs t left faults place limit seen tasks dones jobs → All (λ task. length task.lines ≤ most_lines) tasks →
      All (λ job. length job.lines ≤ most_lines) jobs
  done-short [] [] [] all few = All-nil (λ (job : Job). length job.lines ≤ most_lines)
  done-short [] [] (j ∷ js) all few = absurd all
  done-short [] (d ∷ ds) js all few = absurd all
  done-short (x ∷ xs) [] js all few = absurd all
  done-short (x ∷ xs) (d ∷ ds) [] all few = absurd all
  done-short (x ∷ xs) (d ∷ ds) (j ∷ js) all few =
      let P : Task S → Type 0 = λ task. length task.lines ≤ most_lines in
      All-cons (λ (job : Job). length job.lines ≤ most_lines) j js (subst (λ (ls : List Line). length ls ≤ most_lines) (sym all.0.lines) (All-head P x xs few)) (done-short xs ds js all.1 (All-tail P x xs few))

  -- a feed's own job has no link line
  own-links : (n : ℕ) (rs : List (Reader S)) (dones : List (JobDone S)) (jobs : List Job) → AreDoneAs t left faults place limit seen (own_tasks n rs) dones jobs → HaveTheirLinks jobs →
      map (λ job. job.kept_links) jobs ≡ no_links rs
  own-links n [] [] [] all kept = refl
  own-links n [] [] (j ∷ js) all kept = absurd all
  own-links n [] (d ∷ ds) js all kept = absurd all
  own-links n (r ∷ rs) [] js all kept = absurd all
  own-links n (r ∷ rs) (d ∷ ds) [] all kept = absurd all
  own-links n (r ∷ rs) (d ∷ ds) (j ∷ js) all kept =
      let most = (All-head (AreLinksKept t limit (entries seen)) j js kept).at_most in
      let none : length (link_entries t j.number j.lines) ≡ 0 = ap (λ (ls : List Line). length (link_entries t j.number ls)) all.0.lines in
      let zero-kept : j.kept_links ≡ 0 = omega (arith, most, none) in
      ap₂ (λ k ks. k ∷ ks) zero-kept (own-links (suc n) rs ds js all.1 (All-tail (AreLinksKept t limit (entries seen)) j js kept))

  -- where the history isn't full all link entries of a job are there
  whole-links : (job : Job) → length (entries seen) < limit → AreLinksKept t limit (entries seen) job → job.kept_links ≡ length (link_entries t job.number job.lines)
  whole-links job less kept = by-few (nat_lt job.kept_links (length (link_entries t job.number job.lines))) refl
    where
      by-few : (b : Bool) → nat_lt job.kept_links (length (link_entries t job.number job.lines)) ≡ b → job.kept_links ≡ length (link_entries t job.number job.lines)
      by-few true few =
          let fewer : job.kept_links < length (link_entries t job.number job.lines) = grind (arith, nat_tests, few) in
          let full = kept.full fewer in
          absurd (omega (arith, full, less))
      by-few false few =
          let most = kept.at_most in
          let least : length (link_entries t job.number job.lines) ≤ job.kept_links = grind (arith, nat_tests, few) in
          omega (arith, most, least)

  -- what was kept of all jobs' link lines is all that the scripts' give
  kept-links : (n m : ℕ) (scripts : List (List Line)) (rest left-over : List (Reader S)) (dones : List (JobDone S)) (jobs : List Job) → length (entries seen) < limit →
      AreDoneAs t left faults place limit seen (script_tasks n scripts rest ++ own_tasks m left-over) dones jobs → HaveTheirLinks jobs →
      map (λ job. job.kept_links) jobs ≡ kept_of_runs (whole_scripts t n scripts) ++ no_links left-over
  kept-links n m [] rest left-over dones jobs less all kept = own-links m left-over dones jobs all kept
  kept-links n m (lines ∷ scripts) rest left-over [] jobs less all kept = absurd all
  kept-links n m (lines ∷ scripts) rest left-over (d ∷ ds) [] less all kept = absurd all
  kept-links n m (lines ∷ scripts) rest left-over (d ∷ ds) (j ∷ js) less all kept =
      let here : j.kept_links ≡ length (link_entries t n lines) =
      whole-links j less (All-head (AreLinksKept t limit (entries seen)) j js kept)
      ∙ ap₂ (λ (k : ℕ) (ls : List Line). length (link_entries t k ls)) all.0.number all.0.lines in
      ap₂ (λ k ks. k ∷ ks) here (kept-links (suc n) m scripts (left_by_lines lines rest) left-over ds js less all.1 (All-tail (AreLinksKept t limit (entries seen)) j js kept))

-- ---- no history is full

module _ {S : Type 0} (t : Topology) (left : S → Option (List ℕ)) (faults place : S → ℕ) (seen : List Posted) where
  -- the history of feeds and scripts that are no longer than they may be is shorter than a history may be
  short : (feed : Reader S → FeedRead) (readers : List (Reader S)) (jobs : List Job) (told : List JobTold) → length readers ≤ 64 → length jobs ≤ 64 →
      All (λ r. 28 * length (updates (feed r).steps) ≤ 1073741824) readers → All (λ job. length job.lines ≤ most_lines) jobs → IsLawful t history_limit (map feed readers) jobs (entries seen) told → length seen < history_limit
  short feed readers jobs told few few-jobs fits lines lawful =
      let many : length (map feed readers) ≡ length readers = length-map readers feed in
      let less : length (entries seen) < history_limit =
      room-left t history_limit 1073741824 65536 (map feed readers) jobs (entries seen) told lawful
      (All-map (λ (f : FeedRead). 28 * length (updates f.steps) ≤ 1073741824) feed readers fits) lines (omega (arith, many, few, few-jobs)) in
      let same = entries-length seen in
      omega (arith, less, same)

  -- what a feed's reader met, where no history was full
  read-as : (r : Reader S) (b : S × FeedTold) (f : FeedRead) → length seen < history_limit → IsReadBy t left faults place history_limit seen r b.0 b.1 f → IsReadAs t left faults r b.0 b.1 f
  read-as r b f less reads = by-kept reads.kept refl
    where
      by-kept : (k : Option ℕ) → reads.kept ≡ k → IsReadAs t left faults r b.0 b.1 f
      by-kept (Some n) is =
          let broken = subst (λ k. IsKeptSo history_limit seen k f) is reads.kept_is in
          let full = broken.1.full in
          absurd (omega (arith, less, full))
      by-kept None is =
          let end : reads.reader.told.end ≡ Some f.end = subst (λ k. end_with k reads.reader.told.end ≡ Some f.end) is reads.end_is in
          record {
            reader = reads.reader;
            source_is = reads.source_is;
            reader_router = reads.reads.router;
            limit = reads.reads.limit;
            feed_no = reads.feed_no;
            router = reads.router;
            told_is = reads.told_is;
            own = subst (λ router. All (IsToTableOf t router) (updates f.steps)) (reads.reads.router ∙ sym reads.router) reads.reads.own;
            counts = subst (λ s. CountsBy (Some f.end) (faults s)) reads.source_is (subst (λ e. CountsBy e (faults reads.reader.source)) end reads.reads.counts);
            stands = λ bytes has. subst (λ s. StandsBy (Some f.end) t reads.reader (left s) bytes f.steps) reads.source_is
                (subst (λ e. StandsBy e t reads.reader (left reads.reader.source) bytes f.steps) end (reads.reads.stands bytes has));
          }

  -- ---- the law

  same-members : {X : Type 0} (xs ys : List X) → IsPermutation xs ys → HaveSame xs ys
  same-members xs ys moves = record {
    there = λ x is. Contains-permutation xs ys x moves is;
    here = λ x is. Contains-permutation ys xs x (IsPermutation-sym xs ys moves) is;
  }

  -- what jobs that were dealt the readers of a run came to is what the run's jobs came to
  pub ran-as : (scripts : List (List Line)) (readers : List (Reader S)) (dones : List (JobDone S)) → AreNumbered 1 readers → AreFit scripts → length readers ≤ 64 →
      length (tasks_of scripts readers) ≤ 64 → All (λ r. r.limit ≤ 2 ^ 30) readers → ((r : Reader S) → S × FeedTold) → AreLawful t left faults place history_limit (tasks_of scripts readers) seen dones →
      RanAs t left faults readers (flat_map (λ done. done.feeds.items) dones) seen scripts (map told_by dones)
  ran-as scripts readers dones numbered fit few few-tasks limits default are =
      let tasks : List (Task S) = tasks_of scripts readers in
      let xss : List (List (Reader S)) = map (λ task. task.feeds) tasks in
      let bss : List (List (S × FeedTold)) = map (λ done. done.feeds.items) dones in
      let fss : List (List FeedRead) = map (λ job. job.feeds) are.jobs in
      let dealt : IsPermutation readers (flat_map (λ xs. xs) xss) = subst (λ xs. IsPermutation readers xs) (sym (row-map (λ task. task.feeds) tasks)) (readers-dealt scripts readers) in
      let none : Reader S → FeedRead = λ r. record { feed_no = 0; router = r.told.router; steps = []; kept = 0; end = ends.End } in
      let m = matches (Reads t left faults place history_limit seen) (λ r. r.told.feed_no) (λ b. b.1.feed_no) (λ f. f.feed_no)
      (back-no t left faults place history_limit seen) (feed-no t left faults place history_limit seen) 1 default none readers xss bss fss
      (numbered-from 1 readers numbered) dealt (pieces-of t left faults place history_limit seen tasks dones are.jobs are.read) in
      let routers : All (λ r. (m.feed r).router ≡ r.told.router) readers = λ k d less. (m.each k d less).router in
      let row-is : flat_map (λ fs. fs) fss ≡ feeds_of_jobs are.jobs = row-map (λ job. job.feeds) are.jobs in
      let moves : IsPermutation (map m.feed readers) (feeds_of_jobs are.jobs) =
      subst (λ fs. IsPermutation (map m.feed readers) fs) (m.feeds_row ∙ row-is) (IsPermutation-map m.feed readers (flat_map (λ xs. xs) xss) dealt) in
      let lawful = are.lawful (map m.feed readers) (same-members (map m.feed readers) (feeds_of_jobs are.jobs) moves) in
      let fits : All (λ r. 28 * length (updates (m.feed r).steps) ≤ 1073741824) readers = λ k d less. let f = (m.each k d less).fits in let l = limits k d less in omega (arith, f, l) in
      let many = done-count t left faults place history_limit seen tasks dones are.jobs are.read in
      let lines = done-short t left faults place history_limit seen tasks dones are.jobs are.read
      (tasks-short 1 scripts readers (own_tasks (suc (length scripts)) (left_over scripts readers)) fit.short (owns-short (suc (length scripts)) (left_over scripts readers))) in
      let less = short m.feed readers are.jobs (map told_by dones) few (omega (arith, many, few-tasks)) fits lines lawful in
      let runs : List ScriptRun = whole_scripts t 1 scripts in
      let short-list : length (entries seen) < history_limit = (let same = entries-length seen in omega (arith, less, same)) in
      let kept = kept-links t left faults place history_limit seen 1 (suc (length scripts)) scripts readers (left_over scripts readers) dones are.jobs short-list are.read lawful.shuffle.links_kept in
      let dealt-jobs : jobs_of runs (map m.feed readers) ≡ task_jobs m.feed tasks (kept_of_runs runs ++ no_links (left_over scripts readers)) =
      subst (λ (ss : List (List Line)). TakeApart ss → jobs_of runs (map m.feed readers) ≡ task_jobs m.feed (tasks_of ss readers) (kept_of_runs runs ++ no_links (left_over ss readers))) (whole-lines t 1 scripts)
      (jobs-are m.feed runs readers routers) fit.apart in
      let jobs : are.jobs ≡ jobs_of runs (map m.feed readers) =
      jobs-of-tasks t left faults place history_limit seen m.feed tasks dones are.jobs are.read m.feeds_are ∙ ap (task_jobs m.feed tasks) kept ∙ sym dealt-jobs in
      record {
        back = m.back;
        feed = m.feed;
        backs_are = subst (λ bs. IsPermutation (map m.back readers) bs) (row-map (λ done. done.feeds.items) dones) m.backs_are;
        each = λ k d low. read-as (get_or readers k d) (m.back (get_or readers k d)) (m.feed (get_or readers k d)) less (m.each k d low);
        lawful = subst (λ js. IsLawful t history_limit (map m.feed readers) js (entries seen) (map told_by dones)) jobs lawful;
      }
