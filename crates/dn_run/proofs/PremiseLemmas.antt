-- The jobs that a run's readers are dealt to are such as may be run.
use Rattle.std.proofs.Common.{◌≡◌, ℕ, suc, ◌+◌, ◌==◌, ◌≤◌, Bool, true, false, IsTrue, not, ◌&&◌, ◌||◌, cond, List, [], ◌∷◌, ◌++◌, length, get_or, map, filter, All, refl, ap, ap₂, ◌∙◌, subst, arith}
use Rattle.std.specs.List.{list_any}
use Rattle.std.proofs.lemmas.List.{append-nil, length-append, map-append}
use Rattle.std.proofs.lemmas.List.Elements.{All-cons, All-head, All-tail, All-nil}
use Rattle.std.proofs.lemmas.List.Sorted.{All-permutation, IsPermutation-map, IsPermutation-refl, length_permutation}
use Rattle.dn_formats.specs.declared.script.Line.{Line}
use Rattle.base.specs.Lists.{all_differ}
use Rattle.base.specs.declared.ids.RouterId.{RouterId}
use Rattle.dn_model.specs.declared.topology.Topology.{Topology}
use Rattle.route_feed.specs.FeedReader.{Reader}
use Rattle.feed_threads.specs.AllJobs.{AreNumberedApart}
use Rattle.feed_threads.specs.Jobs.{AreApart, IsFresh as IsUnread, Task}
use Rattle.dn_run.specs.Deal.{left_by_lines, left_over, own_tasks, readers_of, script_tasks, tasks_of}
use Rattle.dn_run.specs.Jobs.{AreFewJobs, AreNumbered, HaveRoutersApart, IsFresh, routers_of_readers, same_router, scripts_of}
use Rattle.dn_run.specs.Run.{untaken}
use Rattle.dn_run.specs.Work.{IsReady}
use Rattle.dn_run.specs.declared.jobs.Work.{Work}
use Rattle.dn_run.proofs.DealLemmas.{Differ, is_left, left-is, readers-dealt}
use Rattle.dn_run.proofs.DealSteps.{script-count}
use Rattle.dn_run.proofs.InOrder.{IsFrom}
use Rattle.dn_run.proofs.MatchLemmas.{differ-moves, differs}

-- ---- what holds of all readers holds of each job's

all-parts : {X : Type 0} (P : X → Type 0) (xs ys : List X) → All P (xs ++ ys) → All P xs × All P ys
all-parts P [] ys all = (All-nil P, all)
all-parts P (x ∷ xs) ys all =
    let both = all-parts P xs ys (All-tail P x (xs ++ ys) all) in (All-cons P x xs (All-head P x (xs ++ ys) all) both.0, both.1)

each-task : {S : Type 0} (P : Reader S → Type 0) (tasks : List (Task S)) → All P (readers_of tasks) → All (λ task. All P task.feeds) tasks
each-task P [] all = All-nil (λ task. All P task.feeds)
each-task P (task ∷ tasks) all =
    let both = all-parts P task.feeds (readers_of tasks) all in All-cons (λ task. All P task.feeds) task tasks both.0 (each-task P tasks both.1)

unread-as : {S : Type 0} (t : Topology) (faults : S → ℕ) (r : Reader S) → IsFresh t faults r → IsUnread t faults r
unread-as t faults r fresh = record { told = fresh.told; passed = fresh.passed; held = fresh.held; router = fresh.router; faults_none = fresh.faults_none; knows = fresh.knows }

pub tasks-fresh : {S : Type 0} (t : Topology) (faults : S → ℕ) (scripts : List (List Line)) (readers : List (Reader S)) → All (IsFresh t faults) readers →
    All (λ task. All (IsUnread t faults) task.feeds) (tasks_of scripts readers)
tasks-fresh t faults scripts readers fresh =
    each-task (IsUnread t faults) (tasks_of scripts readers)
    (All-permutation (IsUnread t faults) readers (readers_of (tasks_of scripts readers)) (readers-dealt scripts readers) (λ k d less. unread-as t faults (get_or readers k d) (fresh k d less)))

-- ---- no number comes twice, said in two ways

none-any : {X : Type 0} (p : X → Bool) (xs : List X) → All (λ z. p z ≡ false) xs → list_any p xs ≡ false
none-any p [] all = refl
none-any p (x ∷ xs) all = ap₂ (λ a b. a || b) (All-head (λ z. p z ≡ false) x xs all) (none-any p xs (All-tail (λ z. p z ≡ false) x xs all))

either-false : (a b : Bool) → (a || b) ≡ false → (a ≡ false) × (b ≡ false)
either-false true b is = absurd (cc)
either-false false b is = (refl, is)

both-true : (a b : Bool) → (not a && b) ≡ true → (a ≡ false) × (b ≡ true)
both-true true b is = absurd (cc)
both-true false b is = (refl, is)

pub any-none : {X : Type 0} (p : X → Bool) (xs : List X) → list_any p xs ≡ false → All (λ z. p z ≡ false) xs
any-none p [] is = All-nil (λ z. p z ≡ false)
any-none p (x ∷ xs) is = let both = either-false (p x) (list_any p xs) is in All-cons (λ z. p z ≡ false) x xs both.0 (any-none p xs both.1)

module _ {X : Type 0} (of : X → ℕ) where
  abbrev same : X → X → Bool
  same x y = of x == of y

  differ-all : (xs : List X) → Differ of xs → all_differ same xs ≡ true
  differ-all [] differ = refl
  differ-all (x ∷ xs) differ = ap₂ (λ a b. not a && b) (none-any (same x) xs differ.0) (differ-all xs differ.1)

  all-differ : (xs : List X) → all_differ same xs ≡ true → Differ of xs
  all-differ [] is = tt
  all-differ (x ∷ xs) is = let both = both-true (list_any (same x) xs) (all_differ same xs) is in (any-none (same x) xs both.0, all-differ xs both.1)

  differ-parts : (xs ys : List X) → Differ of (xs ++ ys) → Differ of xs × Differ of ys
  differ-parts [] ys differ = (tt, differ)
  differ-parts (x ∷ xs) ys differ =
      let both = differ-parts xs ys differ.1 in ((((all-parts (λ z. (of x == of z) ≡ false) xs ys differ.0).0), both.0), both.1)

-- ---- the readers of jobs

abbrev num : RouterId → ℕ
num r = r.0

module _ {S : Type 0} where
  abbrev router : Reader S → RouterId
  router r = r.told.router

  each-apart : (tasks : List (Task S)) → Differ num (map router (readers_of tasks)) → All (λ task. AreApart task.feeds) tasks
  each-apart [] differ = All-nil (λ task. AreApart task.feeds)
  each-apart (task ∷ tasks) differ =
      let both = differ-parts num (map router task.feeds) (map router (readers_of tasks)) (subst (λ rs. Differ num rs) (map-append router task.feeds (readers_of tasks)) differ) in
      All-cons (λ task. AreApart task.feeds) task tasks (differ-all num (map router task.feeds) both.0) (each-apart tasks both.1)

  pub tasks-apart : (scripts : List (List Line)) (readers : List (Reader S)) → HaveRoutersApart readers → All (λ task. AreApart task.feeds) (tasks_of scripts readers)
  tasks-apart scripts readers apart =
      each-apart (tasks_of scripts readers)
      (differ-moves num (map router readers) (map router (readers_of (tasks_of scripts readers))) (all-differ num (map router readers) apart)
      (IsPermutation-map router readers (readers_of (tasks_of scripts readers)) (readers-dealt scripts readers)))

  from-numbered : (n : ℕ) (rs : List (Reader S)) → AreNumbered n rs → IsFrom (λ (r : Reader S). r.told.feed_no) n rs
  from-numbered n [] are = tt
  from-numbered n (r ∷ rs) are = (are.0, from-numbered (suc n) rs are.1)

  -- the tasks of a run are numbered in order
  own-from : (n : ℕ) (rs : List (Reader S)) → IsFrom (λ (task : Task S). task.number) n (own_tasks n rs)
  own-from n [] = tt
  own-from n (r ∷ rs) = (refl, own-from (suc n) rs)

  scripts-from : (n m : ℕ) (scripts : List (List Line)) (readers : List (Reader S)) (own : List (Task S)) → m ≡ n + length scripts → IsFrom (λ (task : Task S). task.number) m own →
      IsFrom (λ (task : Task S). task.number) n (script_tasks n scripts readers ++ own)
  scripts-from n m [] readers own is from = subst (λ (k : ℕ). IsFrom (λ (task : Task S). task.number) k own) (let e : m ≡ n = omega (arith, is) in e) from
  scripts-from n m (lines ∷ scripts) readers own is from = (refl, scripts-from (suc n) m scripts (left_by_lines lines readers) own (omega (arith, is)) from)

  tasks-from : (scripts : List (List Line)) (readers : List (Reader S)) → IsFrom (λ (task : Task S). task.number) 1 (tasks_of scripts readers)
  tasks-from scripts readers =
      scripts-from 1 (suc (length scripts)) scripts readers (own_tasks (suc (length scripts)) (left_over scripts readers)) (omega arith) (own-from (suc (length scripts)) (left_over scripts readers))

  pub tasks-numbered : (scripts : List (List Line)) (readers : List (Reader S)) → AreNumbered 1 readers → AreNumberedApart (tasks_of scripts readers)
  tasks-numbered scripts readers numbered = record {
    feeds = differ-all (λ (r : Reader S). r.told.feed_no) (readers_of (tasks_of scripts readers))
        (differs (λ (r : Reader S). r.told.feed_no) 1 readers (readers_of (tasks_of scripts readers)) (from-numbered 1 readers numbered) (readers-dealt scripts readers));
    jobs = differ-all (λ (task : Task S). task.number) (tasks_of scripts readers)
        (differs (λ (task : Task S). task.number) 1 (tasks_of scripts readers) (tasks_of scripts readers) (tasks-from scripts readers) (IsPermutation-refl (tasks_of scripts readers)));
  }

  -- ---- how many jobs there are

  own-count : (n : ℕ) (rs : List (Reader S)) → length (own_tasks n rs) ≡ length rs
  own-count n [] = refl
  own-count n (r ∷ rs) = ap suc (own-count (suc n) rs)

  same-count : (scripts : List (List Line)) (rs : List (Reader S)) → length (filter (is_left scripts) rs) ≡ length (untaken scripts (map router rs))
  same-count scripts [] = refl
  same-count scripts (r ∷ rs) = by-test (is_left scripts r) (same-count scripts rs)
    where
      by-test : (b : Bool) → length (filter (is_left scripts) rs) ≡ length (untaken scripts (map router rs)) →
          length (cond b (r ∷ filter (is_left scripts) rs) (filter (is_left scripts) rs)) ≡ length (cond b (router r ∷ untaken scripts (map router rs)) (untaken scripts (map router rs)))
      by-test true rest = ap suc rest
      by-test false rest = rest

  -- scripts, and the readers that they leave, are no more than a run has jobs
  pub few-left : (scripts : List (List Line)) (readers : List (Reader S)) → AreFewJobs scripts (routers_of_readers readers) → length scripts + length (left_over scripts readers) ≤ 64
  few-left scripts readers few =
      let count : length (left_over scripts readers) ≡ length (untaken scripts (routers_of_readers readers)) = ap length (left-is scripts readers) ∙ same-count scripts readers in
      omega (arith, count, few)

  pub few-tasks : (scripts : List (List Line)) (readers : List (Reader S)) → AreFewJobs scripts (routers_of_readers readers) → length (tasks_of scripts readers) ≤ 64
  few-tasks scripts readers few =
      let sum = length-append (script_tasks 1 scripts readers) (own_tasks (suc (length scripts)) (left_over scripts readers)) in
      let a = script-count 1 scripts readers in
      let b = own-count (suc (length scripts)) (left_over scripts readers) in
      let c = few-left scripts readers few in
      omega (arith, sum, a, b, c)

  -- every reader has one job
  pub readers-count : (scripts : List (List Line)) (readers : List (Reader S)) → length (readers_of (tasks_of scripts readers)) ≡ length readers
  readers-count scripts readers = length_permutation readers (readers_of (tasks_of scripts readers)) (readers-dealt scripts readers)

-- ---- once all feeds are open

module _ {S : Type 0} (faults : S → ℕ) (work : Work S) (ready : IsReady faults work []) where
  pub all-few-jobs : AreFewJobs (scripts_of work.scripts.items) (routers_of_readers work.readers.items)
  all-few-jobs = subst (λ rs. AreFewJobs (scripts_of work.scripts.items) rs) (append-nil (routers_of_readers work.readers.items)) ready.few_jobs

  pub all-apart : HaveRoutersApart work.readers.items
  all-apart = subst (λ rs. IsTrue (all_differ same_router rs)) (append-nil (routers_of_readers work.readers.items)) ready.are_open.apart

  pub all-few : length work.readers.items ≤ 64
  all-few = let few = ready.are_open.few in omega (arith, few)
