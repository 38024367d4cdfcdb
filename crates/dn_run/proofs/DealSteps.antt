-- One more reader, or the readers of one more script, dealt to a job.
use Rattle.std.proofs.Common.{◌≡◌, ℕ, suc, ◌+◌, ◌<◌, ◌≤◌, Bool, true, false, not, List, [], ◌∷◌, ◌++◌, length, get_or, take, drop, map, filter, refl, ap, ap₂, sym, ◌∙◌, subst, arith, append_assoc}
use Rattle.std.specs.List.Sorted.{IsPermutation}
use Rattle.std.specs.Prelude.{IfOk, Result, Ok, Err}
use Rattle.std.proofs.lemmas.List.{append-nil, length-append, length-map, map-append}
use Rattle.std.proofs.lemmas.Grind.{flat_map-append}
use Rattle.std.proofs.lemmas.List.Sorted.{IsPermutation-append_right, IsPermutation-filter_both, IsPermutation-trans}
use Rattle.dn_formats.specs.declared.script.Line.{Line}
use Rattle.feed_model.specs.declared.feed_told.FeedTold.{FeedTold}
use Rattle.route_feed.specs.FeedReader.{Reader}
use Rattle.feed_threads.specs.Jobs.{Task}
use Rattle.dn_run.specs.Deal.{left_by_lines, left_over, own_tasks, readers_of, script_tasks, takes_reader, tasks_of, unread_back}
use Rattle.dn_run.proofs.DealLemmas.{readers-dealt, script-readers}

-- what follows of a value from two facts of it
pub ok-both : {T E : Type 0} (r : Result T E) (P Q R : T → Type 0) → ((x : T) → P x → Q x → R x) → IfOk r P → IfOk r Q → IfOk r R
ok-both (Ok x) P Q R f p q = f x p q
ok-both (Err e) P Q R f p q = tt

module _ {S : Type 0} where
  one-longer : (jobs : List (Task S)) (task : Task S) → length (jobs ++ task ∷ []) + 1 ≡ suc (length jobs + 1)
  one-longer jobs task = let sum = length-append jobs (task ∷ []) in omega (arith, sum)

  pub one-more : (jobs jobs' : List (Task S)) (task : Task S) → jobs' ≡ jobs ++ task ∷ [] → length jobs' ≡ length jobs + 1
  one-more jobs jobs' task is = ap length is ∙ length-append jobs (task ∷ [])

  -- the job of the first of the scripts that are left
  pub script-next : (jobs : List (Task S)) (lines : List Line) (scripts : List (List Line)) (left : List (Reader S)) →
      (jobs ++ record { number = length jobs + 1; lines = lines; feeds = filter (takes_reader lines) left } ∷ [])
      ++ script_tasks (length (jobs ++ record { number = length jobs + 1; lines = lines; feeds = filter (takes_reader lines) left } ∷ []) + 1) scripts (left_by_lines lines left)
      ≡ jobs ++ script_tasks (length jobs + 1) (lines ∷ scripts) left
  script-next jobs lines scripts left =
      let task : Task S = record { number = length jobs + 1; lines = lines; feeds = filter (takes_reader lines) left } in
      ap (λ n. (jobs ++ task ∷ []) ++ script_tasks n scripts (left_by_lines lines left)) (one-longer jobs task)
      ∙ append_assoc jobs (task ∷ []) (script_tasks (suc (length jobs + 1)) scripts (left_by_lines lines left))

  -- the job of the first of the readers that are left
  pub own-next : (jobs : List (Task S)) (r : Reader S) (left : List (Reader S)) →
      (jobs ++ record { number = length jobs + 1; lines = []; feeds = r ∷ [] } ∷ []) ++ own_tasks (length (jobs ++ record { number = length jobs + 1; lines = []; feeds = r ∷ [] } ∷ []) + 1) left
      ≡ jobs ++ own_tasks (length jobs + 1) (r ∷ left)
  own-next jobs r left =
      let task : Task S = record { number = length jobs + 1; lines = []; feeds = r ∷ [] } in
      ap (λ n. (jobs ++ task ∷ []) ++ own_tasks n left) (one-longer jobs task) ∙ append_assoc jobs (task ∷ []) (own_tasks (suc (length jobs + 1)) left)

  -- the readers of jobs and of one more
  readers-more : (jobs : List (Task S)) (task : Task S) → readers_of (jobs ++ task ∷ []) ≡ readers_of jobs ++ task.feeds
  readers-more jobs task = flat_map-append (λ task. task.feeds) jobs (task ∷ []) ∙ ap (λ rs. readers_of jobs ++ rs) (append-nil task.feeds)

  pub own-readers-next : (jobs : List (Task S)) (task : Task S) (r : Reader S) (left : List (Reader S)) → task.feeds ≡ r ∷ [] →
      readers_of (jobs ++ task ∷ []) ++ left ≡ readers_of jobs ++ r ∷ left
  own-readers-next jobs task r left is =
      ap (λ rs. rs ++ left) (readers-more jobs task ∙ ap (λ rs. readers_of jobs ++ rs) is) ∙ append_assoc (readers_of jobs) (r ∷ []) left

  -- what lines take and what they leave is what was left before
  pub parted : (before : List (Reader S)) (lines : List Line) (left : List (Reader S)) →
      IsPermutation (before ++ left) (before ++ (filter (takes_reader lines) left ++ left_by_lines lines left))
  parted before lines left =
      IsPermutation-append_right before left (filter (takes_reader lines) left ++ left_by_lines lines left)
      (IsPermutation-filter_both (takes_reader lines) (λ r. not (takes_reader lines r)) (λ r. refl) left)

  pub script-readers-next : (all : List (Reader S)) (jobs : List (Task S)) (task : Task S) (lines : List Line) (left : List (Reader S)) → task.feeds ≡ filter (takes_reader lines) left →
      IsPermutation all (readers_of jobs ++ left) → IsPermutation all (readers_of (jobs ++ task ∷ []) ++ left_by_lines lines left)
  script-readers-next all jobs task lines left is moves =
      let whole : readers_of (jobs ++ task ∷ []) ++ left_by_lines lines left ≡ readers_of jobs ++ (filter (takes_reader lines) left ++ left_by_lines lines left) =
      ap (λ rs. rs ++ left_by_lines lines left) (readers-more jobs task ∙ ap (λ rs. readers_of jobs ++ rs) is) ∙ append_assoc (readers_of jobs) (filter (takes_reader lines) left) (left_by_lines lines left) in
      subst (λ rs. IsPermutation all rs) (sym whole)
      (IsPermutation-trans all (readers_of jobs ++ left) (readers_of jobs ++ (filter (takes_reader lines) left ++ left_by_lines lines left)) moves (parted (readers_of jobs) lines left))

  -- the sources of the readers of jobs, of some and of others
  pub three-back : (jobs : List (Reader S)) (some others : List (Reader S)) →
      (map unread_back jobs ++ map unread_back some) ++ map unread_back others ≡ map unread_back (jobs ++ (some ++ others))
  three-back jobs some others =
      append_assoc (map unread_back jobs) (map unread_back some) (map unread_back others)
      ∙ ap (λ bs. map unread_back jobs ++ bs) (sym (map-append unread_back some others))
      ∙ sym (map-append unread_back jobs (some ++ others))

  -- ---- the steps of dealing

  -- the job of a script
  abbrev pub job_of_script : List (Task S) → List Line → List (Reader S) → Task S
  job_of_script jobs lines left = record { number = length jobs + 1; lines = lines; feeds = filter (takes_reader lines) left }

  -- the job of a reader that no script takes
  abbrev pub job_of_reader : List (Task S) → Reader S → Task S
  job_of_reader jobs r = record { number = length jobs + 1; lines = []; feeds = r ∷ [] }

  pub script-step : (jobs jobs' all : List (Task S)) (lines : List Line) (scripts : List (List Line)) (left left' : List (Reader S)) → jobs' ≡ jobs ++ job_of_script jobs lines left ∷ [] →
      left' ≡ left_by_lines lines left → jobs ++ script_tasks (length jobs + 1) (lines ∷ scripts) left ≡ all → jobs' ++ script_tasks (length jobs' + 1) scripts left' ≡ all
  script-step jobs jobs' all lines scripts left left' jobs_are left_are before =
      ap₂ (λ js ls. js ++ script_tasks (length js + 1) scripts ls) jobs_are left_are ∙ script-next jobs lines scripts left ∙ before

  pub script-moves : (all left left' : List (Reader S)) (jobs jobs' : List (Task S)) (lines : List Line) → jobs' ≡ jobs ++ job_of_script jobs lines left ∷ [] → left' ≡ left_by_lines lines left →
      IsPermutation all (readers_of jobs ++ left) → IsPermutation all (readers_of jobs' ++ left')
  script-moves all left left' jobs jobs' lines jobs_are left_are moves =
      subst (λ rs. IsPermutation all rs) (sym (ap₂ (λ js ls. readers_of js ++ ls) jobs_are left_are)) (script-readers-next all jobs (job_of_script jobs lines left) lines left refl moves)

  -- the first of some readers was taken out
  pub first-out : (left left' : List (Reader S)) (r : Reader S) → 0 < length left → r ≡ get_or left 0 r → left' ≡ take 0 left ++ drop 1 left → left ≡ r ∷ left'
  first-out [] left' r less is rest = absurd (omega (arith, less))
  first-out (x ∷ xs) left' r less is rest = ap₂ (λ y ys. y ∷ ys) (sym is) (sym rest)

  pub own-step : (jobs jobs' : List (Task S)) (left left' : List (Reader S)) (r : Reader S) → left ≡ r ∷ left' → jobs' ≡ jobs ++ job_of_reader jobs r ∷ [] →
      jobs' ++ own_tasks (length jobs' + 1) left' ≡ jobs ++ own_tasks (length jobs + 1) left
  own-step jobs jobs' left left' r out jobs_are =
      ap (λ js. js ++ own_tasks (length js + 1) left') jobs_are ∙ own-next jobs r left' ∙ ap (λ ls. jobs ++ own_tasks (length jobs + 1) ls) (sym out)

  pub own-moves : (jobs jobs' : List (Task S)) (left left' : List (Reader S)) (r : Reader S) → left ≡ r ∷ left' → jobs' ≡ jobs ++ job_of_reader jobs r ∷ [] → readers_of jobs' ++ left' ≡ readers_of jobs ++ left
  own-moves jobs jobs' left left' r out jobs_are =
      ap (λ js. readers_of js ++ left') jobs_are ∙ own-readers-next jobs (job_of_reader jobs r) r left' refl ∙ ap (λ ls. readers_of jobs ++ ls) (sym out)

  -- ---- the jobs of a run

  pub script-count : (n : ℕ) (scripts : List (List Line)) (rs : List (Reader S)) → length (script_tasks n scripts rs) ≡ length scripts
  script-count n [] rs = refl
  script-count n (lines ∷ scripts) rs = ap suc (script-count (suc n) scripts (left_by_lines lines rs))

  pub tasks-are : (scripts : List (List Line)) (readers left : List (Reader S)) (jobs all : List (Task S)) → jobs ≡ script_tasks 1 scripts readers → left ≡ left_over scripts readers →
      all ≡ jobs ++ own_tasks (length jobs + 1) left → all ≡ tasks_of scripts readers
  tasks-are scripts readers left jobs all jobs_are left_are is =
      let count = script-count 1 scripts readers in
      let next : length (script_tasks 1 scripts readers) + 1 ≡ suc (length scripts) = omega (arith, count) in
      is ∙ ap₂ (λ js ls. js ++ own_tasks (length js + 1) ls) jobs_are left_are ∙ ap (λ n. script_tasks 1 scripts readers ++ own_tasks n (left_over scripts readers)) next

  -- how many jobs there will be
  pub dealt-count : (scripts : List (List Line)) (readers left : List (Reader S)) (jobs : List (Task S)) → jobs ≡ script_tasks 1 scripts readers → left ≡ left_over scripts readers →
      length jobs + length left ≡ length scripts + length (left_over scripts readers)
  dealt-count scripts readers left jobs jobs_are left_are =
      ap₂ (λ js ls. length js + length ls) jobs_are left_are ∙ ap (λ n. n + length (left_over scripts readers)) (script-count 1 scripts readers)

  -- the readers are those of the jobs of scripts and those that are left
  pub half-dealt : (scripts : List (List Line)) (readers left given : List (Reader S)) (jobs : List (Task S)) → jobs ≡ script_tasks 1 scripts readers → left ≡ left_over scripts readers →
      given ≡ readers_of jobs ++ left → IsPermutation readers given
  half-dealt scripts readers left given jobs jobs_are left_are is =
      subst (λ rs. IsPermutation readers rs) (sym (is ∙ ap₂ (λ js ls. readers_of js ++ ls) jobs_are left_are)) (script-readers 1 scripts readers)

  -- the readers are those of all jobs
  pub all-dealt : (scripts : List (List Line)) (readers : List (Reader S)) (jobs : List (Task S)) → jobs ≡ tasks_of scripts readers → IsPermutation readers (readers_of jobs ++ [])
  all-dealt scripts readers jobs jobs_are =
      subst (λ rs. IsPermutation readers rs) (sym (append-nil (readers_of jobs) ∙ ap readers_of jobs_are)) (readers-dealt scripts readers)

  -- ---- the readers that lines take, and the others

  -- one more that passes a test
  pub passes : (p : Reader S → Bool) (before after all : List (Reader S)) (r : Reader S) (rest from : List (Reader S)) → from ≡ r ∷ rest → p r ≡ true → after ≡ before ++ r ∷ [] →
      before ++ filter p from ≡ all → after ++ filter p rest ≡ all
  passes p before after all r rest from split is put was =
      let first : filter p (r ∷ rest) ≡ r ∷ filter p rest = rw is refl in
      ap (λ rs. rs ++ filter p rest) put ∙ append_assoc before (r ∷ []) (filter p rest) ∙ ap (λ rs. before ++ rs) (sym first) ∙ ap (λ rs. before ++ filter p rs) (sym split) ∙ was

  -- one more that fails it
  pub fails : (p : Reader S → Bool) (before all : List (Reader S)) (r : Reader S) (rest from : List (Reader S)) → from ≡ r ∷ rest → p r ≡ false → before ++ filter p from ≡ all → before ++ filter p rest ≡ all
  fails p before all r rest from split isnt was =
      let first : filter p (r ∷ rest) ≡ filter p rest = rw isnt refl in
      ap (λ rs. before ++ rs) (sym first) ∙ ap (λ rs. before ++ filter p rs) (sym split) ∙ was

  -- no more
  pub tested : (p : Reader S → Bool) (before all from : List (Reader S)) → from ≡ [] → before ++ filter p from ≡ all → before ≡ all
  tested p before all from none was = sym (append-nil before) ∙ ap (λ rs. before ++ filter p rs) (sym none) ∙ was

  -- ---- the readers where memory was wanting

  -- a script's job was not made
  pub script-back : (before jobs : List (Task S)) (some others left : List (Reader S)) (lines : List Line) → jobs ≡ before → some ≡ filter (takes_reader lines) left → others ≡ left_by_lines lines left →
      IsPermutation (readers_of before ++ left) (readers_of jobs ++ (some ++ others))
  script-back before jobs some others left lines jobs_are some_are others_are =
      subst (λ rs. IsPermutation (readers_of before ++ left) rs)
      (sym (ap₂ (λ js rs. readers_of js ++ rs) jobs_are (ap₂ (λ xs ys. xs ++ ys) some_are others_are))) (parted (readers_of before) lines left)

  -- a reader's own job was not made
  pub own-back : (before jobs : List (Task S)) (some others mine left : List (Reader S)) (r : Reader S) (left' : List (Reader S)) → left ≡ r ∷ left' → mine ≡ r ∷ [] →
      jobs ≡ before → some ≡ mine → others ≡ left' → readers_of jobs ++ (some ++ others) ≡ readers_of before ++ left
  own-back before jobs some others mine left r left' out mine_is jobs_are some_are others_are =
      ap₂ (λ js rs. readers_of js ++ rs) jobs_are (ap₂ (λ xs ys. xs ++ ys) (some_are ∙ mine_is) others_are ∙ sym out)

  -- the job of a reader that it alone has
  pub own-given : (jobs jobs' : List (Task S)) (mine : List (Reader S)) (r : Reader S) → mine ≡ r ∷ [] →
      jobs' ≡ jobs ++ record { number = length jobs + 1; lines = []; feeds = mine } ∷ [] → jobs' ≡ jobs ++ job_of_reader jobs r ∷ []
  own-given jobs jobs' mine r mine_is is =
      let job : List (Reader S) → Task S = λ fs. record { number = length jobs + 1; lines = []; feeds = fs } in
      is ∙ ap (λ fs. jobs ++ job fs ∷ []) mine_is

  -- ---- the sources of jobs that aren't run

  -- the sources of one more job
  pub job-put : (before backs more all : List (S × FeedTold)) (job : Task S) (jobs : List (Task S)) → backs ≡ before ++ more → more ≡ map unread_back job.feeds →
      before ++ map unread_back (readers_of (job ∷ jobs)) ≡ all → backs ++ map unread_back (readers_of jobs) ≡ all
  job-put before backs more all job jobs put is was =
      ap (λ bs. bs ++ map unread_back (readers_of jobs)) (put ∙ ap (λ bs. before ++ bs) is)
      ∙ append_assoc before (map unread_back job.feeds) (map unread_back (readers_of jobs))
      ∙ ap (λ bs. before ++ bs) (sym (map-append unread_back job.feeds (readers_of jobs))) ∙ was

  -- they have their room
  pub job-fits : (more : List (S × FeedTold)) (job : Task S) (jobs : List (Task S)) (n room : ℕ) → more ≡ map unread_back job.feeds → n + length (readers_of (job ∷ jobs)) ≤ room →
      (n + length more) + length (readers_of jobs) ≤ room
  job-fits more job jobs n room is fits =
      let sum : length (readers_of (job ∷ jobs)) ≡ length job.feeds + length (readers_of jobs) = length-append job.feeds (readers_of jobs) in
      let len : length more ≡ length job.feeds = ap length is ∙ length-map job.feeds unread_back in
      omega (arith, sum, len, fits)

  -- the readers of jobs, of some and of others have their room
  pub three-fit : (jobs some others : List (Reader S)) (room : ℕ) → length (jobs ++ (some ++ others)) ≤ room → length jobs + (length some + length others) ≤ room
  three-fit jobs some others room fits =
      let all = length-append jobs (some ++ others) in
      let rest = length-append some others in
      omega (arith, all, rest, fits)
