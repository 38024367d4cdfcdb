-- From what jobs with the first seat came to, to the law of histories.
use Rattle.std.proofs.Common.{◌≡◌, ℕ, ◌<◌, ◌≤◌, ◌⊎◌, inl, inr, ⊎_elim, Bool, true, false, ◌==◌, ◌&&◌, ◌||◌, not, cond, List, [], ◌∷◌, ◌++◌, length, get_or, map, All, Option, None, Some, refl, ap, sym, ◌∙◌, arith, subst, eq-eqb}
use Rattle.std.specs.List.{AllZip, list_any, flat_map, Contains}
use Rattle.std.proofs.lemmas.Bool.{and_parts}
use Rattle.std.proofs.lemmas.Bool.Decides.{nat_tests}
use Rattle.std.proofs.lemmas.List.{length-map}
use Rattle.std.proofs.lemmas.List.Elements.{All-contains, All-nil, All-cons, All-head, All-tail}
use Rattle.dn_model.specs.Entry.{entries}
use Rattle.base.specs.Lists.{all_differ}
use Rattle.dn_model.specs.declared.entry.Posted.{Posted}
use Rattle.dn_model.specs.declared.topology.Topology.{Topology}
use Rattle.dn_formats.proofs.LawfulLemmas.{kept}
use Rattle.dn_formats.specs.Lawful.{AreLinksKept, IsKept, IsKeptAt, IsLawful, Job, entries_of_job, link_entries}
use Rattle.feed_model.specs.Steps.{FeedRead, updates}
use Rattle.feed_model.specs.declared.feed_told.FeedEnd.{FeedEnd}
use Rattle.feed_model.specs.declared.feed_told.FeedEnd.TheVariants as ends
use Rattle.feed_model.specs.declared.feed_told.FeedTold.{FeedTold}
use Rattle.dn_formats.specs.declared.told.JobTold.{JobTold}
use Rattle.route_feed.specs.FeedReader.{Reader}
use Rattle.version_lock.specs.Callers.{Caller, HasNumber, Lock, first_seat}
use Rattle.version_lock.specs.History.{posted_by}
use Rattle.version_lock.specs.declared.book.Basis.{Basis}
use Rattle.version_lock.specs.declared.view.Setup.{Setup}
use Rattle.feed_threads.specs.declared.job.JobDone.{JobDone}
use Rattle.feed_threads.specs.AllJobs.{AllEnd, AllRan, AreDoneAs, AreLawful, AreNumberedApart, CameTo, IsBackFrom, Run, feeds_of_jobs, numbers_of_runs, same_feed, same_job, told_by}
use Rattle.feed_threads.specs.Feeds.{CountsBy, IsBroken, end_with}
use Rattle.feed_threads.specs.Jobs.{AreReadBy, HasRun, HasRunUnless, IsKeptSo, IsReadBy, Task, job_of}
use Rattle.feed_threads.specs.Runs.{AllRun}
use Rattle.feed_threads.specs.Seats.{own_of}
use Rattle.feed_threads.specs.Tracks.{TookLinks}
use Rattle.feed_threads.proofs.EntriesLemmas.{any-false, contains-cases, not-true, same_number}
use Rattle.feed_threads.proofs.HistoryLemmas.{Shared, TellsOwnJob, feeds_of_all, lawful, zip-map}

-- ---- lists

pub map-map : {X Y Z : Type 0} (f : Y → Z) (g : X → Y) (xs : List X) → map f (map g xs) ≡ map (λ x. f (g x)) xs
map-map f g [] = refl
map-map f g (x ∷ xs) = ap (λ ys. f (g x) ∷ ys) (map-map f g xs)

flat-map : {X Y Z : Type 0} (f : Y → List Z) (g : X → Y) (xs : List X) → flat_map f (map g xs) ≡ flat_map (λ x. f (g x)) xs
flat-map f g [] = refl
flat-map f g (x ∷ xs) = ap (λ ys. f (g x) ++ ys) (flat-map f g xs)

pub all-unmap : {X Y : Type 0} (P : Y → Type 0) (f : X → Y) (xs : List X) → All P (map f xs) → All (λ x. P (f x)) xs
all-unmap P f [] a = All-nil (λ x. P (f x))
all-unmap P f (x ∷ xs) a = All-cons (λ x. P (f x)) x xs (All-head P (f x) (map f xs) a) (all-unmap P f xs (All-tail P (f x) (map f xs) a))

zip-append : {X Y : Type 0} (R : X → Y → Type 0) (xs : List X) (ys : List Y) (xs' : List X) (ys' : List Y) → AllZip R xs ys → AllZip R xs' ys' → AllZip R (xs ++ xs') (ys ++ ys')
zip-append R [] [] xs' ys' a b = b
zip-append R [] (y ∷ ys) xs' ys' a b = absurd a
zip-append R (x ∷ xs) [] xs' ys' a b = absurd a
zip-append R (x ∷ xs) (y ∷ ys) xs' ys' a b = (a.0, zip-append R xs ys xs' ys' a.1 b)

-- ---- numbers of feeds

abbrev HasNumberOf : {S : Type 0} → Reader S → FeedRead → Type 0
HasNumberOf r f = f.feed_no ≡ r.told.feed_no

any-through : {S : Type 0} (r : Reader S) (f : FeedRead) (rs : List (Reader S)) (fs : List FeedRead) → HasNumberOf r f → AllZip HasNumberOf rs fs → list_any (same_feed r) rs ≡ list_any (same_number f) fs
any-through r f [] [] is zip = refl
any-through r f [] (g ∷ fs) is zip = absurd zip
any-through r f (q ∷ rs) [] is zip = absurd zip
any-through r f (q ∷ rs) (g ∷ fs) is zip =
    ap (λ m. (m == q.told.feed_no) || list_any (same_feed r) rs) (sym is) ∙ ap (λ m. (f.feed_no == m) || list_any (same_feed r) rs) (sym zip.0)
    ∙ ap (λ b. (f.feed_no == g.feed_no) || b) (any-through r f rs fs is zip.1)

-- feeds differ in their numbers as their readers do
differ-through : {S : Type 0} (rs : List (Reader S)) (fs : List FeedRead) → AllZip HasNumberOf rs fs → all_differ same_feed rs ≡ all_differ same_number fs
differ-through [] [] zip = refl
differ-through [] (g ∷ fs) zip = absurd zip
differ-through (q ∷ rs) [] zip = absurd zip
differ-through (r ∷ rs) (f ∷ fs) zip =
    ap (λ b. not b && all_differ same_feed rs) (any-through r f rs fs zip.0 zip.1) ∙ ap (λ b. not (list_any (same_number f) fs) && b) (differ-through rs fs zip.1)

read-numbers : {S : Type 0} (t : Topology) (left : S → Option (List ℕ)) (faults place : S → ℕ) (limit : ℕ) (seen : List Posted) (starts : List (Reader S)) (backs : List (S × FeedTold)) (fs : List FeedRead) →
    AreReadBy t left faults place limit seen starts backs fs → AllZip HasNumberOf starts fs
read-numbers t left faults place limit seen [] [] [] read = tt
read-numbers t left faults place limit seen [] [] (f ∷ fs) read = absurd read
read-numbers t left faults place limit seen [] (b ∷ bs) fs read = absurd read
read-numbers t left faults place limit seen (r ∷ rs) [] fs read = absurd read
read-numbers t left faults place limit seen (r ∷ rs) (b ∷ bs) [] read = absurd read
read-numbers t left faults place limit seen (r ∷ rs) (b ∷ bs) (f ∷ fs) read = (read.0.feed_no, read-numbers t left faults place limit seen rs bs fs read.1)

-- ---- what a history kept of a feed

kept-by : (limit : ℕ) (seen : List Posted) (o : Option ℕ) (end : Option FeedEnd) (n : ℕ) (f : FeedRead) → length seen ≤ limit → CountsBy end n → end_with o end ≡ Some f.end → IsKeptSo limit seen o f →
    IsKept limit (entries seen) f
kept-by limit seen None end n f within counts ended is =
    kept limit (entries seen) f (λ (full : f.end ≡ ends.Full). subst (λ (e : Option FeedEnd). CountsBy e n) (ended ∙ ap Some full) counts) is
kept-by limit seen (Some m) end n f within counts ended is =
    let full : ends.Full ≡ f.end = cc (ended) in
    let b : IsBroken limit seen f.steps m = is.1 in
    let same : f.kept ≡ m = is.0 in
    let len : length (entries seen) ≡ length seen = length-map seen (λ (p : Posted). p.entry) in
    subst (λ (e : FeedEnd). IsKeptAt e limit (entries seen) f) full (record {
      before = b.before;
      last = b.last;
      steps = b.steps_are;
      at_least = (let least : length (updates b.before) ≤ m = b.at_least in omega (arith, least, same));
      fewer = (let fewer : m < length (updates f.steps) = b.fewer in omega (arith, fewer, same));
      full = (let full : limit ≤ length seen = b.full in omega (arith, full, within, len));
    })

kept-read : {S : Type 0} (t : Topology) (left : S → Option (List ℕ)) (faults place : S → ℕ) (limit : ℕ) (seen : List Posted) (starts : List (Reader S)) (backs : List (S × FeedTold)) (fs : List FeedRead) → length seen ≤ limit →
    AreReadBy t left faults place limit seen starts backs fs → All (IsKept limit (entries seen)) fs
kept-read t left faults place limit seen [] [] [] within read = All-nil (IsKept limit (entries seen))
kept-read t left faults place limit seen [] [] (f ∷ fs) within read = absurd read
kept-read t left faults place limit seen [] (b ∷ bs) fs within read = absurd read
kept-read t left faults place limit seen (r ∷ rs) [] fs within read = absurd read
kept-read t left faults place limit seen (r ∷ rs) (b ∷ bs) [] within read = absurd read
kept-read {S = S} t left faults place limit seen (r ∷ rs) (b ∷ bs) (f ∷ fs) within read =
    let here : IsReadBy t left faults place limit seen r b.0 b.1 f = read.0 in
    All-cons (IsKept limit (entries seen)) f fs
    (kept-by limit seen here.kept here.reader.told.end (faults here.reader.source) f within here.reads.counts here.end_is here.kept_is)
    (kept-read t left faults place limit seen rs bs fs within read.1)

-- ---- jobs that were done

-- a job that was run, and what it came to be
record Done (S : Type 0) : Type 0 where
  run : Run S
  job : Job

module _ {S : Type 0} (t : Topology) (left : S → Option (List ℕ)) (faults place : S → ℕ) (limit : ℕ) where
  record IsDone (seen : List Posted) (d : Done S) : Type 0 where
    number : d.job.number ≡ d.run.task.number
    lines : d.job.lines ≡ d.run.task.lines
    read : AreReadBy t left faults place limit seen d.run.task.feeds d.run.done.feeds.items d.job.feeds
    full : Bool
    linked : TookLinks full limit seen (length (link_entries t d.job.number d.job.lines)) d.job.kept_links
    order : own_of d.run.number seen ≡ entries_of_job t d.job
    tells : TellsOwnJob t limit seen d.run.number d.job (told_by d.run.done)

  record Made (seen : List Posted) (runs : List (Run S)) : Type 0 where
    dones : List (Done S)
    runs_are : map (λ d. d.run) dones ≡ runs
    each : All (IsDone seen) dones

one-made : {S : Type 0} (t : Topology) (left : S → Option (List ℕ)) (faults place : S → ℕ) (limit : ℕ) (seen : List Posted) (run : Run S) →
    CameTo t left faults place limit [] seen run → run.done.wanted_memory ≡ false → (d : Done S) × (d.run ≡ run) × IsDone t left faults place limit seen d
one-made t left faults place limit seen run came none =
    let ran : HasRun t left faults place limit run.number [] seen run.task run.done.told run.done.feeds.items =
    subst (λ (b : Bool). HasRunUnless t left faults place limit b run.number [] seen run.task run.done.told run.done.feeds.items) none came.ends.done in (
      record { run = run; job = job_of run.task ran.feeds ran.links.count },
      refl,
      record { number = refl; lines = refl; read = ran.read; full = ran.links.full; linked = ran.linked; order = ran.order; tells = (came.number, ran.tells) },
    )

made : {S : Type 0} (t : Topology) (left : S → Option (List ℕ)) (faults place : S → ℕ) (limit : ℕ) (seen : List Posted) (runs : List (Run S)) →
    All (CameTo t left faults place limit [] seen) runs → All (λ run. run.done.wanted_memory ≡ false) runs → Made t left faults place limit seen runs
made t left faults place limit seen [] came none = record { dones = []; runs_are = refl; each = All-nil (IsDone t left faults place limit seen) }
made {S = S} t left faults place limit seen (run ∷ runs) came none =
    let one = one-made t left faults place limit seen run (All-head (CameTo t left faults place limit [] seen) run runs came) (All-head (λ (run : Run S). run.done.wanted_memory ≡ false) run runs none) in
    let rest : Made t left faults place limit seen runs =
    made t left faults place limit seen runs (All-tail (CameTo t left faults place limit [] seen) run runs came) (All-tail (λ (run : Run S). run.done.wanted_memory ≡ false) run runs none) in
    record {
      dones = one.0 ∷ rest.dones;
      runs_are = ap (λ r. r ∷ map (λ (d : Done S). d.run) rest.dones) one.1 ∙ ap (λ rs. run ∷ rs) rest.runs_are;
      each = All-cons (IsDone t left faults place limit seen) one.0 rest.dones one.2 rest.each;
    }

done-numbers : {S : Type 0} (t : Topology) (left : S → Option (List ℕ)) (faults place : S → ℕ) (limit : ℕ) (seen : List Posted) (ds : List (Done S)) → All (IsDone t left faults place limit seen) ds →
    AllZip HasNumberOf (flat_map (λ (task : Task S). task.feeds) (map (λ d. d.run.task) ds)) (feeds_of_all (λ (d : Done S). d.job) ds)
done-numbers t left faults place limit seen [] each = tt
done-numbers {S = S} t left faults place limit seen (d ∷ ds) each =
    zip-append HasNumberOf d.run.task.feeds d.job.feeds (flat_map (λ (task : Task S). task.feeds) (map (λ d. d.run.task) ds)) (feeds_of_all (λ (d : Done S). d.job) ds)
    (read-numbers t left faults place limit seen d.run.task.feeds d.run.done.feeds.items d.job.feeds (All-head (IsDone t left faults place limit seen) d ds each).read)
    (done-numbers t left faults place limit seen ds (All-tail (IsDone t left faults place limit seen) d ds each))

done-as : {S : Type 0} (t : Topology) (left : S → Option (List ℕ)) (faults place : S → ℕ) (limit : ℕ) (seen : List Posted) (ds : List (Done S)) → All (IsDone t left faults place limit seen) ds →
    AreDoneAs t left faults place limit seen (map (λ d. d.run.task) ds) (map (λ d. d.run.done) ds) (map (λ d. d.job) ds)
done-as t left faults place limit seen [] each = tt
done-as t left faults place limit seen (d ∷ ds) each =
    let here : IsDone t left faults place limit seen d = All-head (IsDone t left faults place limit seen) d ds each in
    (record { number = here.number; lines = here.lines; read = here.read }, done-as t left faults place limit seen ds (All-tail (IsDone t left faults place limit seen) d ds each))

-- ---- what a history kept of link lines

links-kept : (full : Bool) (t : Topology) (limit : ℕ) (seen : List Posted) (job : Job) → length seen ≤ limit → TookLinks full limit seen (length (link_entries t job.number job.lines)) job.kept_links → AreLinksKept t limit (entries seen) job
links-kept false t limit seen job within took = record { at_most = omega (arith, took); full = λ fewer. absurd (omega (arith, took, fewer)) }
links-kept true t limit seen job within took = record {
  at_most = (let fewer : job.kept_links < length (link_entries t job.number job.lines) = took.0 in omega (arith, fewer));
  full = λ fewer. (let full : limit ≤ length seen = took.1 in let len : length (entries seen) ≡ length seen = length-map seen (λ (p : Posted). p.entry) in omega (arith, full, within, len));
}

-- ---- numbers of jobs

any-map : {X Y : Type 0} (p : Y → Bool) (f : X → Y) (xs : List X) → list_any p (map f xs) ≡ list_any (λ x. p (f x)) xs
any-map p f [] = refl
any-map p f (x ∷ xs) = ap (λ b. p (f x) || b) (any-map p f xs)

differ-map : {X Y : Type 0} (same : Y → Y → Bool) (f : X → Y) (xs : List X) → all_differ same (map f xs) ≡ all_differ (λ a b. same (f a) (f b)) xs
differ-map same f [] = refl
differ-map same f (x ∷ xs) =
    ap (λ b. not b && all_differ same (map f xs)) (any-map (same (f x)) f xs) ∙ ap (λ b. not (list_any (λ y. same (f x) (f y)) xs) && b) (differ-map same f xs)

eqb-flip : (m n : ℕ) → (m == n) ≡ false → (n == m) ≡ false
eqb-flip m n e = grind (arith, nat_tests, e)

-- two of some things are one, or their numbers differ
numbers-apart : {X : Type 0} (g : X → ℕ) (xs : List X) (x y : X) → all_differ (λ a b. g a == g b) xs ≡ true → Contains xs x → Contains xs y → (x ≡ y → ⊥) → (g y == g x) ≡ false
numbers-apart g [] x y d c e other = absurd (let less : c.0 < 0 = c.1 in omega (arith, less))
numbers-apart g (z ∷ zs) x y d c e other =
    let parts : (not (list_any (λ b. g z == g b) zs) ≡ true) × (all_differ (λ a b. g a == g b) zs ≡ true) = and_parts (not (list_any (λ b. g z == g b) zs)) (all_differ (λ a b. g a == g b) zs) d in
    let others : All (λ b. (g z == g b) ≡ false) zs = any-false (λ b. g z == g b) zs (not-true (list_any (λ b. g z == g b) zs) parts.0) in
    ⊎_elim
    (λ (here : z ≡ x). ⊎_elim
    (λ (also : z ≡ y). absurd (other (sym here ∙ also)))
    (λ (later : Contains zs y). eqb-flip (g x) (g y) (ap (λ w. g w == g y) (sym here) ∙ All-contains (λ b. (g z == g b) ≡ false) zs y others later))
    (contains-cases z zs y e))
    (λ (later : Contains zs x). ⊎_elim
    (λ (also : z ≡ y). ap (λ w. g w == g x) (sym also) ∙ All-contains (λ b. (g z == g b) ≡ false) zs x others later)
    (λ (both : Contains zs y). numbers-apart g zs x y parts.1 later both other)
    (contains-cases z zs y e))
    (contains-cases z zs x c)

-- ---- who bears what

none-by : (n : ℕ) (p : Posted) (ps : List Posted) (b : Bool) → cond b (p ∷ posted_by n ps) (posted_by n ps) ≡ [] → (b ≡ false) × (posted_by n ps ≡ [])
none-by n p ps true e = absurd (cc (e))
none-by n p ps false e = (refl, e)

-- where no entry bears a number none of the list does
borne-none : (n : ℕ) (ps : List Posted) → posted_by n ps ≡ [] → All (λ p. (p.seat == n) ≡ false) ps
borne-none n [] e = All-nil (λ p. (p.seat == n) ≡ false)
borne-none n (p ∷ ps) e =
    let parts : ((p.seat == n) ≡ false) × (posted_by n ps ≡ []) = none-by n p ps (p.seat == n) e in
    All-cons (λ p. (p.seat == n) ≡ false) p ps parts.0 (borne-none n ps parts.1)

-- each entry bears the number of a job, since the seat uses no other that bears one
bears : {S : Type 0} (runs : List (Run S)) (used : List ℕ) (seen : List Posted) → All (λ posted. Contains used posted.seat) seen →
    ((n : ℕ) → Contains used n → Contains (numbers_of_runs runs) n ⊎ (posted_by n seen ≡ [])) → All (λ posted. Contains (numbers_of_runs runs) posted.seat) seen
bears runs used seen own others = λ k d less.
    let p : Posted = get_or seen k d in
    ⊎_elim (λ (has : Contains (numbers_of_runs runs) p.seat). has)
    (λ (none : posted_by p.seat seen ≡ []).
    let other : (p.seat == p.seat) ≡ false = borne-none p.seat seen none k d less in let same : (p.seat == p.seat) ≡ true = eq-eqb p.seat p.seat refl in absurd (cc (other, same)))
    (others p.seat (own k d less))

-- ---- the law

pub all-lawful : {S : Type 0} (t : Topology) (left : S → Option (List ℕ)) (faults place : S → ℕ) (limit : ℕ) (tasks : List (Task S)) (dones : List (JobDone S)) (runs : List (Run S)) (seen : List Posted) →
    tasks ≡ map (λ run. run.task) runs → dones ≡ map (λ run. run.done) runs → All (CameTo t left faults place limit [] seen) runs →
    All (λ posted. Contains (numbers_of_runs runs) posted.seat) seen → length seen ≤ limit → AreNumberedApart tasks →
    All (λ done. done.wanted_memory ≡ false) dones → AreLawful t left faults place limit tasks seen dones
all-lawful {S = S} t left faults place limit tasks dones runs seen tasks-are dones-are came borne within apart none =
    let m : Made t left faults place limit seen runs =
    made t left faults place limit seen runs came
    (all-unmap (λ (done : JobDone S). done.wanted_memory ≡ false) (λ run. run.done) runs (subst (λ (ds : List (JobDone S)). All (λ done. done.wanted_memory ≡ false) ds) dones-are none)) in
    let ds : List (Done S) = m.dones in
    let number : Done S → ℕ = λ d. d.run.number in
    let job : Done S → Job = λ d. d.job in
    let told : Done S → JobTold = λ d. told_by d.run.done in
    let ts : tasks ≡ map (λ d. d.run.task) ds = tasks-are ∙ ap (map (λ (run : Run S). run.task)) (sym m.runs_are) ∙ map-map (λ (run : Run S). run.task) (λ d. d.run) ds in
    let dn : dones ≡ map (λ d. d.run.done) ds = dones-are ∙ ap (map (λ (run : Run S). run.done)) (sym m.runs_are) ∙ map-map (λ (run : Run S). run.done) (λ d. d.run) ds in
    let ns : numbers_of_runs runs ≡ map number ds = ap (map (λ (run : Run S). run.number)) (sym m.runs_are) ∙ map-map (λ (run : Run S). run.number) (λ d. d.run) ds in
    let named : all_differ (λ a b. a.run.task.number == b.run.task.number) ds ≡ true =
    sym (differ-map same_job (λ (d : Done S). d.run.task) ds) ∙ subst (λ (xs : List (Task S)). all_differ same_job xs ≡ true) ts apart.jobs in
    let of-task : (d : Done S) → Contains ds d → d.job.number ≡ d.run.task.number = λ d has. (All-contains (IsDone t left faults place limit seen) ds d m.each has).number in
    let shared : Shared t number job seen ds = record {
      order = λ k d less. (m.each k d less).order;
      bears = subst (λ (ms : List ℕ). All (λ posted. Contains ms posted.seat) seen) ns borne;
      differ = sym (differ-through (flat_map (λ (task : Task S). task.feeds) (map (λ d. d.run.task) ds)) (feeds_of_all job ds) (done-numbers t left faults place limit seen ds m.each))
          ∙ subst (λ (xs : List (Task S)). all_differ same_feed (flat_map (λ (task : Task S). task.feeds) xs) ≡ true) ts apart.feeds;
      apart = λ x y c e other.
          ap (λ (n : ℕ). n == x.job.number) (of-task y e) ∙ ap (λ (n : ℕ). y.run.task.number == n) (of-task x c)
          ∙ numbers-apart (λ (d : Done S). d.run.task.number) ds x y named c e (λ (same : x ≡ y). other (ap number same));
    } in
    record {
      jobs = map job ds;
      read = subst (λ (xs : List (Task S)). AreDoneAs t left faults place limit seen xs dones (map job ds)) (sym ts)
          (subst (λ (xs : List (JobDone S)). AreDoneAs t left faults place limit seen (map (λ d. d.run.task) ds) xs (map job ds)) (sym dn) (done-as t left faults place limit seen ds m.each));
      lawful = λ feeds same.
          let all : feeds_of_jobs (map job ds) ≡ feeds_of_all job ds = flat-map (λ (j : Job). j.feeds) job ds in
          subst (λ (js : List JobTold). IsLawful t limit feeds (map job ds) (entries seen) js) (sym (ap (map told_by) dn ∙ map-map told_by (λ (d : Done S). d.run.done) ds))
          (lawful number job told seen ds t limit feeds shared within
          (λ k d less. kept-read t left faults place limit seen (get_or ds k d).run.task.feeds (get_or ds k d).run.done.feeds.items (get_or ds k d).job.feeds within (m.each k d less).read)
          (λ k d less. links-kept (m.each k d less).full t limit seen (get_or ds k d).job within (m.each k d less).linked)
          (λ k d less. (m.each k d less).tells)
          (λ f has. same.here f (subst (λ (fs : List FeedRead). Contains fs f) (sym all) has))
          (λ f has. subst (λ (fs : List FeedRead). Contains fs f) all (same.there f has)));
    }

-- jobs that the first seat of a lock ran, over the history that the lock's book has then
pub all-ran : {S : Type 0} (t : Topology) (left : S → Option (List ℕ)) (faults place : S → ℕ) (limit : ℕ) (lock : Lock) (old new : Caller) (tasks : List (Task S)) (dones : List (JobDone S)) (history : List Posted) →
    old ≡ first_seat lock → AllEnd t left faults place limit lock old tasks new dones → history ≡ new.seen → All (λ posted. Contains new.used posted.seat) history →
    length history ≤ limit → AreNumberedApart tasks → AllRan t left faults place limit tasks history dones
all-ran {S = S} t left faults place limit lock old new tasks dones history first all is own within apart =
    let none : old.seen ≡ [] = ap (λ (s : Caller). s.seen) first in
    let came : All (CameTo t left faults place limit [] history) all.runs =
    subst (λ (h : List Posted). All (CameTo t left faults place limit [] h) all.runs) (sym is) (subst (λ (h : List Posted). All (CameTo t left faults place limit h new.seen) all.runs) none all.each) in
    let borne : All (λ (posted : Posted). Contains (numbers_of_runs all.runs) posted.seat) history =
    bears all.runs new.used history own
    (λ n has. ⊎_elim (λ (run-has : Contains (numbers_of_runs all.runs) n). inl run-has)
    (λ (same : posted_by n new.seen ≡ posted_by n old.seen). inr (ap (posted_by n) is ∙ same ∙ ap (posted_by n) none)) (all.others n has)) in
    record {
      came = record { runs = all.runs; tasks_are = all.tasks_are; dones_are = all.dones_are; each = came; differ = all.differ; only = borne };
      each = subst (λ (ts : List (Task S)). AllZip (IsBackFrom t left faults place limit) ts dones) (sym all.tasks_are)
          (subst (λ (ds : List (JobDone S)). AllZip (IsBackFrom t left faults place limit) (map (λ run. run.task) all.runs) ds) (sym all.dones_are)
          (zip-map (IsBackFrom t left faults place limit) (λ (run : Run S). run.task) (λ run. run.done) all.runs
          (λ k d less. record { number = (came k d less).number; back = (came k d less).ends.back })));
      lawful = λ no-wants. all-lawful t left faults place limit tasks dones all.runs history all.tasks_are all.dones_are came borne within apart no-wants;
    }

-- a seat that has what the first seat had has every number
pub has-all : (lock : Lock) (old new : Caller) → old ≡ first_seat lock → ((n : ℕ) → HasNumber old n → HasNumber new n) → (n : ℕ) → n < lock.setup.seats → HasNumber new n
has-all lock old new first keeps n less = keeps n (subst (λ (s : Caller). HasNumber s n) (sym first) (inr (omega arith, omega (arith, less))))

-- the same by the limit and the numbers that the lock was made with
pub ran-with : {S : Type 0} (t : Topology) (left : S → Option (List ℕ)) (faults place : S → ℕ) (limit seats : ℕ) (basis kept-basis : Basis) (site lock : Lock) (old new : Caller) (tasks : List (Task S)) (dones : List (JobDone S)) (history : List Posted) →
    lock.setup ≡ record { basis = basis; seats = seats } → site ≡ lock → t ≡ basis.topology → limit ≡ basis.limit → old ≡ first_seat lock → AllRun site left faults place old tasks new dones → history ≡ new.seen →
    All (λ posted. Contains new.used posted.seat) history → kept-basis ≡ lock.setup.basis → length history ≤ kept-basis.limit → AreNumberedApart tasks → AllRan t left faults place limit tasks history dones
ran-with {S = S} t left faults place limit seats basis kept-basis site lock old new tasks dones history setup here is-topology is-limit first run is own kept within apart =
    let same : lock.setup.basis.limit ≡ limit = ap (λ (s : Setup). s.basis.limit) setup ∙ sym is-limit in
    let all : AllEnd t left faults place lock.setup.basis.limit lock old tasks new dones =
    subst (λ (u : Topology). AllEnd u left faults place lock.setup.basis.limit lock old tasks new dones) (ap (λ (s : Setup). s.basis.topology) setup ∙ sym is-topology)
    (subst (λ (l : Lock). AllRun l left faults place old tasks new dones) here run) in
    subst (λ (n : ℕ). AllRan t left faults place n tasks history dones) same
    (all-ran t left faults place lock.setup.basis.limit lock old new tasks dones history first all is own (subst (λ (b : Basis). length history ≤ b.limit) kept within) apart)
