-- The readers of a run as its jobs take them, against its feeds as its jobs are defined by.
use Rattle.std.proofs.Common.{◌≡◌, ℕ, suc, ◌==◌, Bool, true, false, not, ◌&&◌, ◌||◌, cond, List, [], ◌∷◌, ◌++◌, length, get_or, map, filter, All, unwrap_or, refl, ap, ap₂, sym, ◌∙◌, subst, arith}
use Rattle.std.specs.List.{AllZip, find, flat_map, list_any}
use Rattle.std.specs.List.Sorted.{IsPermutation}
use Rattle.std.proofs.lemmas.List.{length-map, map-append}
use Rattle.std.proofs.lemmas.Bool.Decides.{nat_tests}
use Rattle.std.proofs.lemmas.Grind.{flat_map-append}
use Rattle.std.proofs.lemmas.List.Elements.{All-cons, All-head, All-tail, All-nil}
use Rattle.std.proofs.lemmas.List.Sorted.{IsPermutation-append_right, IsPermutation-filter_both, IsPermutation-refl, IsPermutation-trans}
use Rattle.dn_formats.specs.Lawful.{Job, ScriptRun, feed_jobs, jobs_of, script_jobs, takes, takes_feed, untaken_feeds}
use Rattle.feed_model.specs.Steps.{FeedRead}
use Rattle.dn_formats.specs.declared.script.Line.{Line}
use Rattle.base.specs.declared.ids.RouterId.{RouterId}
use Rattle.route_feed.specs.FeedReader.{Reader}
use Rattle.feed_threads.specs.Jobs.{Task}
use Rattle.dn_run.specs.Deal.{left_by_lines, left_over, own_tasks, readers_of, script_tasks, takes_reader, tasks_of}
use Rattle.dn_run.specs.Jobs.{TakeApart}
use Rattle.dn_run.specs.Run.{takes_router}

none-of : (r : RouterId) (others : List Line) (scripts : List (List Line)) → list_any (takes_router r) (others ∷ scripts) ≡ false → (takes_router r others ≡ false) × (list_any (takes_router r) scripts ≡ false)
none-of r others scripts none = by-here (takes_router r others) none
  where
    by-here : (b : Bool) → (b || list_any (takes_router r) scripts) ≡ false → (b ≡ false) × (list_any (takes_router r) scripts ≡ false)
    by-here true is = absurd (cc)
    by-here false is = (refl, is)

not-or : (a b : Bool) → (not a && not b) ≡ not (a || b)
not-or true b = refl
not-or false b = refl

-- ---- what has a number

-- the item of this number among some, if there is one
abbrev pub pick : {Y : Type 0} → (Y → ℕ) → List Y → Y → ℕ → Y
pick num ys d k = unwrap_or (find (λ y. num y == k) ys) d

pub same-num : (a b : ℕ) → a ≡ b → (a == b) ≡ true
same-num a b is = grind (arith, nat_tests, is)

pub other-num : (a b : ℕ) → (a == b) ≡ false → (b == a) ≡ false
other-num a b is = grind (arith, nat_tests, is)

-- no number comes twice
abbrev pub Differ : {X : Type 0} → (X → ℕ) → List X → Type 0
Differ of [] = Unit {0}
Differ of (x ∷ xs) = All (λ z. (of x == of z) ≡ false) xs × Differ of xs

module _ {X Y : Type 0} (of : X → ℕ) (num : Y → ℕ) (d : X → Y) where
  -- the item that has the number of another, among some
  abbrev pub matched : List Y → X → Y
  matched ys x = pick num ys (d x) (of x)

  -- of items that are numbered as others each is the one that has its number
  pick-later : (y : Y) (ys : List Y) (xs : List X) → All (λ x. (num y == of x) ≡ false) xs → map (matched (y ∷ ys)) xs ≡ map (matched ys) xs
  pick-later y ys [] apart = refl
  pick-later y ys (x ∷ xs) apart =
      let here : (num y == of x) ≡ false = All-head (λ x. (num y == of x) ≡ false) x xs apart in
      let rest = pick-later y ys xs (All-tail (λ x. (num y == of x) ≡ false) x xs apart) in
      let first : matched (y ∷ ys) x ≡ matched ys x = rw here refl in
      ap₂ (λ a rest-of. a ∷ rest-of) first rest

  pub picks : (xs : List X) (ys : List Y) → AllZip (λ x y. num y ≡ of x) xs ys → Differ of xs → map (matched ys) xs ≡ ys
  picks [] [] zip differ = refl
  picks [] (y ∷ ys) zip differ = absurd zip
  picks (x ∷ xs) [] zip differ = absurd zip
  picks (x ∷ xs) (y ∷ ys) zip differ =
      let here : matched (y ∷ ys) x ≡ y = rw (same-num (num y) (of x) zip.0) refl in
      let apart : All (λ z. (num y == of z) ≡ false) xs = λ k e less. subst (λ n. (n == of (get_or xs k e)) ≡ false) (sym zip.0) (differ.0 k e less) in
      ap₂ (λ a rest-of. a ∷ rest-of) here (pick-later y ys xs apart ∙ picks xs ys zip.1 differ.1)

-- the lines of scripts, and of how many of their link lines the entry was taken
abbrev pub lines_of_runs : List ScriptRun → List (List Line)
lines_of_runs runs = map (λ run. run.lines) runs

abbrev pub kept_of_runs : List ScriptRun → List ℕ
kept_of_runs runs = map (λ run. run.kept_links) runs

module _ {S : Type 0} where
  -- ---- what is left by some lines is taken by others as it was

  -- whether lines take a reader's feed, as for the definition of jobs
  abbrev pub task_job : (Reader S → FeedRead) → Task S → ℕ → Job
  task_job g task kept = record { number = task.number; lines = task.lines; feeds = map g task.feeds; kept_links = kept }

  -- the same of tasks, by how many of each one's link lines the entry was taken
  abbrev pub task_jobs : (Reader S → FeedRead) → List (Task S) → List ℕ → List Job
  task_jobs g [] kept = []
  task_jobs g (task ∷ tasks) [] = []
  task_jobs g (task ∷ tasks) (k ∷ kept) = task_job g task k ∷ task_jobs g tasks kept

  task-jobs-append : (g : Reader S → FeedRead) (xs ys : List (Task S)) (ks js : List ℕ) → length ks ≡ length xs → task_jobs g (xs ++ ys) (ks ++ js) ≡ task_jobs g xs ks ++ task_jobs g ys js
  task-jobs-append g [] ys [] js same = refl
  task-jobs-append g [] ys (k ∷ ks) js same = cc
  task-jobs-append g (x ∷ xs) ys [] js same = cc
  task-jobs-append g (x ∷ xs) ys (k ∷ ks) js same =
      let less : length ks ≡ length xs = omega (arith, same) in
      ap (λ rest. task_job g x k ∷ rest) (task-jobs-append g xs ys ks js less)

  keeps : (lines others : List Line) (rs : List (Reader S)) → ((r : RouterId) → takes_router r lines ≡ true → takes_router r others ≡ false) →
      filter (takes_reader others) (left_by_lines lines rs) ≡ filter (takes_reader others) rs
  keeps lines others [] apart = refl
  keeps lines others (r ∷ rs) apart = by-taken (takes_reader lines r) refl (keeps lines others rs apart)
    where
      by-taken : (b : Bool) → takes_reader lines r ≡ b → filter (takes_reader others) (left_by_lines lines rs) ≡ filter (takes_reader others) rs →
          filter (takes_reader others) (left_by_lines lines (r ∷ rs)) ≡ filter (takes_reader others) (r ∷ rs)
      by-taken true is rest = rw (is, apart r.told.router is) rest
      by-taken false is rest = rw is (ap (λ xs. cond (takes_reader others r) (r ∷ xs) xs) rest)

  abbrev AreLeft : List (List Line) → List (Reader S) → List (Reader S) → Type 0
  AreLeft scripts rest readers = All (λ lines. filter (takes_reader lines) rest ≡ filter (takes_reader lines) readers) scripts

  are-left : (lines : List Line) (scripts : List (List Line)) (rest readers : List (Reader S)) → ((r : RouterId) → takes_router r lines ≡ true → list_any (takes_router r) scripts ≡ false) →
      AreLeft scripts rest readers → AreLeft scripts (left_by_lines lines rest) readers
  are-left lines [] rest readers apart are = All-nil (λ lines'. filter (takes_reader lines') (left_by_lines lines rest) ≡ filter (takes_reader lines') readers)
  are-left lines (others ∷ scripts) rest readers apart are =
      All-cons (λ lines'. filter (takes_reader lines') (left_by_lines lines rest) ≡ filter (takes_reader lines') readers) others scripts
      (keeps lines others rest (λ r is. (none-of r others scripts (apart r is)).0) ∙ All-head (λ lines'. filter (takes_reader lines') rest ≡ filter (takes_reader lines') readers) others scripts are)
      (are-left lines scripts rest readers (λ r is. (none-of r others scripts (apart r is)).1) (All-tail (λ lines'. filter (takes_reader lines') rest ≡ filter (takes_reader lines') readers) others scripts are))

  all-left : (scripts : List (List Line)) (readers : List (Reader S)) → AreLeft scripts readers readers
  all-left [] readers = All-nil (λ lines. filter (takes_reader lines) readers ≡ filter (takes_reader lines) readers)
  all-left (lines ∷ scripts) readers = All-cons (λ lines'. filter (takes_reader lines') readers ≡ filter (takes_reader lines') readers) lines scripts refl (all-left scripts readers)

  -- ---- the jobs of scripts

  abbrev HasRouters : (Reader S → FeedRead) → List (Reader S) → Type 0
  HasRouters g rs = All (λ r. (g r).router ≡ r.told.router) rs

  filter-map : (p : FeedRead → Bool) (q : Reader S → Bool) (g : Reader S → FeedRead) (rs : List (Reader S)) → All (λ r. p (g r) ≡ q r) rs → filter p (map g rs) ≡ map g (filter q rs)
  filter-map p q g [] same = refl
  filter-map p q g (r ∷ rs) same =
      let here : p (g r) ≡ q r = All-head (λ r. p (g r) ≡ q r) r rs same in
      let rest : filter p (map g rs) ≡ map g (filter q rs) = filter-map p q g rs (All-tail (λ r. p (g r) ≡ q r) r rs same) in
      ap₂ (λ b xs. cond b (g r ∷ xs) xs) here rest ∙ by-test (q r)
    where
      by-test : (b : Bool) → cond b (g r ∷ map g (filter q rs)) (map g (filter q rs)) ≡ map g (cond b (r ∷ filter q rs) (filter q rs))
      by-test true = refl
      by-test false = refl

  same-takes : (lines : List Line) (g : Reader S → FeedRead) (rs : List (Reader S)) → HasRouters g rs → All (λ r. takes_feed lines (g r) ≡ takes_reader lines r) rs
  same-takes lines g rs has = λ k d less. ap (λ router. list_any (takes router) lines) (has k d less)

  scripts-jobs : (g : Reader S → FeedRead) (n : ℕ) (runs : List ScriptRun) (rest readers : List (Reader S)) → HasRouters g readers → TakeApart (lines_of_runs runs) → AreLeft (lines_of_runs runs) rest readers →
      script_jobs n runs (map g readers) ≡ task_jobs g (script_tasks n (lines_of_runs runs) rest) (kept_of_runs runs)
  scripts-jobs g n [] rest readers has apart are = refl
  scripts-jobs g n (run ∷ runs) rest readers has apart are =
      let lines : List Line = run.lines in
      let scripts : List (List Line) = lines_of_runs runs in
      let mine : filter (takes_feed lines) (map g readers) ≡ map g (filter (takes_reader lines) rest) =
      filter-map (takes_feed lines) (takes_reader lines) g readers (same-takes lines g readers has)
      ∙ ap (map g) (sym (All-head (λ lines'. filter (takes_reader lines') rest ≡ filter (takes_reader lines') readers) lines scripts are)) in
      let later : AreLeft scripts (left_by_lines lines rest) readers =
      are-left lines scripts rest readers apart.0 (All-tail (λ lines'. filter (takes_reader lines') rest ≡ filter (takes_reader lines') readers) lines scripts are) in
      ap₂ (λ fs js. record { number = n; lines = lines; feeds = fs; kept_links = run.kept_links } ∷ js) mine (scripts-jobs g (suc n) runs (left_by_lines lines rest) readers has apart.1 later)

  -- ---- the jobs of feeds that no script takes

  abbrev pub is_left : List (List Line) → Reader S → Bool
  is_left scripts r = not (list_any (λ lines. takes_reader lines r) scripts)

  filter-two : (p q : Reader S → Bool) (rs : List (Reader S)) → filter q (filter (λ r. not (p r)) rs) ≡ filter (λ r. not (p r) && q r) rs
  filter-two p q [] = refl
  filter-two p q (r ∷ rs) = by-test (p r) (filter-two p q rs)
    where
      by-test : (b : Bool) → filter q (filter (λ r. not (p r)) rs) ≡ filter (λ r. not (p r) && q r) rs →
          filter q (cond (not b) (r ∷ filter (λ r. not (p r)) rs) (filter (λ r. not (p r)) rs)) ≡ cond (not b && q r) (r ∷ filter (λ r. not (p r) && q r) rs) (filter (λ r. not (p r) && q r) rs)
      by-test true rest = rest
      by-test false rest = ap (λ xs. cond (q r) (r ∷ xs) xs) rest

  filter-same : (p q : Reader S → Bool) (rs : List (Reader S)) → ((r : Reader S) → p r ≡ q r) → filter p rs ≡ filter q rs
  filter-same p q [] same = refl
  filter-same p q (r ∷ rs) same = ap₂ (λ b xs. cond b (r ∷ xs) xs) (same r) (filter-same p q rs same)

  filter-all : (rs : List (Reader S)) → filter (λ r. true) rs ≡ rs
  filter-all [] = refl
  filter-all (r ∷ rs) = ap (λ xs. r ∷ xs) (filter-all rs)

  pub left-is : (scripts : List (List Line)) (rs : List (Reader S)) → left_over scripts rs ≡ filter (is_left scripts) rs
  left-is [] rs = sym (filter-all rs)
  left-is (lines ∷ scripts) rs =
      left-is scripts (left_by_lines lines rs) ∙ filter-two (takes_reader lines) (is_left scripts) rs
      ∙ filter-same (λ r. not (takes_reader lines r) && is_left scripts r) (is_left (lines ∷ scripts)) rs (λ r. not-or (takes_reader lines r) (list_any (λ lines'. takes_reader lines' r) scripts))

  any-same : (runs : List ScriptRun) (f : FeedRead) (r : Reader S) → f.router ≡ r.told.router → list_any (λ run. takes_feed run.lines f) runs ≡ list_any (λ lines. takes_reader lines r) (lines_of_runs runs)
  any-same [] f r is = refl
  any-same (run ∷ runs) f r is = ap₂ (λ b c. b || c) (ap (λ router. list_any (takes router) run.lines) is) (any-same runs f r is)

  untaken-is : (g : Reader S → FeedRead) (runs : List ScriptRun) (rs : List (Reader S)) → HasRouters g rs → untaken_feeds runs (map g rs) ≡ map g (left_over (lines_of_runs runs) rs)
  untaken-is g runs rs has =
      filter-map (λ f. not (list_any (λ run. takes_feed run.lines f) runs)) (is_left (lines_of_runs runs)) g rs (λ k d less. ap not (any-same runs (g (get_or rs k d)) (get_or rs k d) (has k d less)))
      ∙ ap (map g) (sym (left-is (lines_of_runs runs) rs))

  -- no link entries of feeds' own jobs
  abbrev pub no_links : List (Reader S) → List ℕ
  no_links rs = map (λ r. 0) rs

  owns-jobs : (g : Reader S → FeedRead) (n : ℕ) (rs : List (Reader S)) → feed_jobs n (map g rs) ≡ task_jobs g (own_tasks n rs) (no_links rs)
  owns-jobs g n [] = refl
  owns-jobs g n (r ∷ rs) = ap (λ js. record { number = n; lines = []; feeds = g r ∷ []; kept_links = 0 } ∷ js) (owns-jobs g (suc n) rs)

  tasks-many : (n : ℕ) (runs : List ScriptRun) (rest : List (Reader S)) → length (kept_of_runs runs) ≡ length (script_tasks n (lines_of_runs runs) rest)
  tasks-many n [] rest = refl
  tasks-many n (run ∷ runs) rest = ap suc (tasks-many (suc n) runs (left_by_lines run.lines rest))

  -- the jobs of a run are those that its readers were dealt to
  pub jobs-are : (g : Reader S → FeedRead) (runs : List ScriptRun) (readers : List (Reader S)) → HasRouters g readers → TakeApart (lines_of_runs runs) →
      jobs_of runs (map g readers) ≡ task_jobs g (tasks_of (lines_of_runs runs) readers) (kept_of_runs runs ++ no_links (left_over (lines_of_runs runs) readers))
  jobs-are g runs readers has apart =
      let scripts : List (List Line) = lines_of_runs runs in
      let left : List (Reader S) = left_over scripts readers in
      let many : length scripts ≡ length runs = length-map runs (λ (run : ScriptRun). run.lines) in
      ap₂ (λ xs ys. xs ++ ys) (scripts-jobs g 1 runs readers readers has apart (all-left scripts readers))
      (ap (feed_jobs (suc (length runs))) (untaken-is g runs readers has) ∙ ap (λ n. feed_jobs (suc n) (map g left)) (sym many) ∙ owns-jobs g (suc (length scripts)) left)
      ∙ sym (task-jobs-append g (script_tasks 1 scripts readers) (own_tasks (suc (length scripts)) left) (kept_of_runs runs) (no_links left) (tasks-many 1 runs readers))

  -- ---- every reader has one job

  own-readers : (n : ℕ) (rs : List (Reader S)) → readers_of (own_tasks n rs) ≡ rs
  own-readers n [] = refl
  own-readers n (r ∷ rs) = ap (λ xs. r ∷ xs) (own-readers (suc n) rs)

  pub script-readers : (n : ℕ) (scripts : List (List Line)) (rs : List (Reader S)) → IsPermutation rs (readers_of (script_tasks n scripts rs) ++ left_over scripts rs)
  script-readers n [] rs = IsPermutation-refl rs
  script-readers n (lines ∷ scripts) rs =
      IsPermutation-trans rs (filter (takes_reader lines) rs ++ left_by_lines lines rs) _
      (IsPermutation-filter_both (takes_reader lines) (λ r. not (takes_reader lines r)) (λ r. refl) rs)
      (subst (λ xs. IsPermutation (filter (takes_reader lines) rs ++ left_by_lines lines rs) xs)
      (sym (assoc (filter (takes_reader lines) rs) (readers_of (script_tasks (suc n) scripts (left_by_lines lines rs))) (left_over scripts (left_by_lines lines rs))))
      (IsPermutation-append_right (filter (takes_reader lines) rs) (left_by_lines lines rs) _ (script-readers (suc n) scripts (left_by_lines lines rs))))
    where
      assoc : (xs ys zs : List (Reader S)) → (xs ++ ys) ++ zs ≡ xs ++ (ys ++ zs)
      assoc [] ys zs = refl
      assoc (x ∷ xs) ys zs = ap (λ ws. x ∷ ws) (assoc xs ys zs)

  pub readers-dealt : (scripts : List (List Line)) (readers : List (Reader S)) → IsPermutation readers (readers_of (tasks_of scripts readers))
  readers-dealt scripts readers =
      subst (λ xs. IsPermutation readers xs)
      (ap (λ ys. readers_of (script_tasks 1 scripts readers) ++ ys) (sym (own-readers (suc (length scripts)) (left_over scripts readers)))
      ∙ sym (flat_map-append (λ task. task.feeds) (script_tasks 1 scripts readers) (own_tasks (suc (length scripts)) (left_over scripts readers))))
      (script-readers 1 scripts readers)

-- ---- lists of lists

-- what is equal piece by piece, where it is equal in a row
pub pieces : {X Y : Type 0} (h : X → Y) (xss : List (List X)) (yss : List (List Y)) → AllZip (λ xs ys. length xs ≡ length ys) xss yss →
    map h (flat_map (λ xs. xs) xss) ≡ flat_map (λ ys. ys) yss → map (map h) xss ≡ yss
pieces h [] [] zip same = refl
pieces h [] (ys ∷ yss) zip same = absurd zip
pieces h (xs ∷ xss) [] zip same = absurd zip
pieces h (xs ∷ xss) (ys ∷ yss) zip same =
    let both = apart-at (map h xs) ys (map h (flat_map (λ xs. xs) xss)) (flat_map (λ ys. ys) yss) (length-map xs h ∙ zip.0)
    (sym (map-append h xs (flat_map (λ xs. xs) xss)) ∙ same) in
    ap₂ (λ a rest-of. a ∷ rest-of) both.0 (pieces h xss yss zip.1 both.1)
  where
    apart-at : {Z : Type 0} (as' bs cs ds : List Z) → length as' ≡ length bs → as' ++ cs ≡ bs ++ ds → (as' ≡ bs) × (cs ≡ ds)
    apart-at [] [] cs ds len is = (refl, is)
    apart-at [] (b ∷ bs) cs ds len is = absurd (omega (arith, len))
    apart-at (a ∷ as') [] cs ds len is = absurd (omega (arith, len))
    apart-at (a ∷ as') (b ∷ bs) cs ds len is =
        let first : a ≡ b = cc in
        let rest : as' ++ cs ≡ bs ++ ds = cc in
        let both = apart-at as' bs cs ds (omega (arith, len)) rest in
        (ap₂ (λ x xs. x ∷ xs) first both.0, both.1)
