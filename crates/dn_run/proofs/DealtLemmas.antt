-- What the jobs that a run's readers were dealt to come to.
use Rattle.std.proofs.Common.{◌≡◌, ℕ, suc, ◌≤◌, Bool, false, List, [], ◌∷◌, ◌++◌, length, map, All, Option, Result, Ok, Err, IfOk, refl, ap, ap₂, sym, ◌∙◌, subst}
use Rattle.std.specs.List.{AllZip, flat_map, list_any}
use Rattle.std.specs.List.Sorted.{IsNonDecreasingBy, IsPermutation}
use Rattle.std.proofs.lemmas.List.{append-nil, length-map}
use Rattle.std.proofs.lemmas.List.Sorted.{IsPermutation-map, length_permutation}
use Rattle.dn_formats.specs.declared.script.Line.{Line}
use Rattle.feed_model.specs.declared.feed_told.FeedTold.{FeedTold}
use Rattle.dn_formats.specs.declared.told.JobTold.{JobTold}
use Rattle.dn_model.specs.declared.entry.Posted.{Posted}
use Rattle.dn_model.specs.declared.topology.Topology.{Topology}
use Rattle.route_feed.specs.FeedReader.{Reader}
use Rattle.feed_threads.specs.AllJobs.{AllRan, IsBackFrom, told_by}
use Rattle.feed_threads.specs.Jobs.{Task}
use Rattle.feed_threads.specs.declared.job.JobDone.{JobDone}
use Rattle.dn_run.specs.Deal.{readers_of, tasks_of, unread_back}
use Rattle.dn_run.specs.Jobs.{AreFit, AreNumbered, HasRun, IsFresh}
use Rattle.dn_run.specs.Ran.{ListRan, RanAs, back_tag, reader_tag}
use Rattle.dn_run.specs.Limits.{history_limit}
use Rattle.dn_run.proofs.BackLemmas.{all-tags, has-run, places-in-order}
use Rattle.dn_run.proofs.DealLemmas.{readers-dealt}
use Rattle.dn_run.proofs.LawLemmas.{ran-as}
use Rattle.dn_run.proofs.PremiseLemmas.{any-none}

pub zip-count : {A B : Type 0} (R : A → B → Type 0) (xs : List A) (ys : List B) → AllZip R xs ys → length ys ≡ length xs
zip-count R [] [] zip = refl
zip-count R [] (y ∷ ys) zip = absurd zip
zip-count R (x ∷ xs) [] zip = absurd zip
zip-count R (x ∷ xs) (y ∷ ys) zip = ap suc (zip-count R xs ys zip.1)

pub if-ok : {A E : Type 0} (r : Result A E) (P Q : A → Type 0) → ((a : A) → P a → Q a) → IfOk r P → IfOk r Q
if-ok (Ok a) P Q then has = then a has
if-ok (Err e) P Q then has = tt

-- ---- sources that came back

module _ {S : Type 0} (place : S → ℕ) where
  pub unread-tags : (rs : List (Reader S)) → map (back_tag place) (map unread_back rs) ≡ map (reader_tag place) rs
  unread-tags [] = refl
  unread-tags (r ∷ rs) = ap (λ tags. reader_tag place r ∷ tags) (unread-tags rs)

  -- the readers of jobs, and no others
  pub no-others : (list jobs : List (Task S)) (some others : List (Reader S)) → jobs ≡ list → some ≡ [] → others ≡ [] → readers_of jobs ++ (some ++ others) ≡ readers_of list
  no-others list jobs some others jobs_are none nothing = ap₂ (λ js rs. readers_of js ++ rs) jobs_are (ap₂ (λ xs ys. xs ++ ys) none nothing) ∙ append-nil (readers_of list)

  pub given-tags : (list jobs : List (Task S)) (some others : List (Reader S)) (backs : List (S × FeedTold)) → jobs ≡ list → some ≡ [] → others ≡ [] →
      backs ≡ map unread_back (readers_of jobs ++ (some ++ others)) → map (back_tag place) backs ≡ map (reader_tag place) (readers_of list)
  given-tags list jobs some others backs jobs_are none nothing is =
      ap (map (back_tag place)) (is ∙ ap (map unread_back) (no-others list jobs some others jobs_are none nothing)) ∙ unread-tags (readers_of list)

  -- those of jobs that the readers were dealt to, one job after another
  pub dealt-tags : (scripts : List (List Line)) (readers : List (Reader S)) (backs : List (S × FeedTold)) →
      map (back_tag place) backs ≡ map (reader_tag place) (readers_of (tasks_of scripts readers)) → IsPermutation (map (reader_tag place) readers) (map (back_tag place) backs)
  dealt-tags scripts readers backs same =
      subst (λ tags. IsPermutation (map (reader_tag place) readers) tags) (sym same)
      (IsPermutation-map (reader_tag place) readers (readers_of (tasks_of scripts readers)) (readers-dealt scripts readers))

  -- those of readers that were not read
  pub moved-tags : (readers moved : List (Reader S)) (backs : List (S × FeedTold)) → IsPermutation readers moved → backs ≡ map unread_back moved →
      IsPermutation (map (reader_tag place) readers) (map (back_tag place) backs)
  moved-tags readers moved backs moves is =
      subst (λ tags. IsPermutation (map (reader_tag place) readers) tags) (sym (ap (map (back_tag place)) is ∙ unread-tags moved)) (IsPermutation-map (reader_tag place) readers moved moves)

  pub tags-count : (readers : List (Reader S)) (backs : List (S × FeedTold)) → IsPermutation (map (reader_tag place) readers) (map (back_tag place) backs) → length backs ≡ length readers
  tags-count readers backs moves =
      sym (length-map backs (back_tag place)) ∙ length_permutation (map (reader_tag place) readers) (map (back_tag place) backs) moves ∙ length-map readers (reader_tag place)

  -- put in the order of the feeds, the sources have the places of the readers'
  pub sources-in-order : (readers : List (Reader S)) (backs sorted : List (S × FeedTold)) (sources : List S) → AreNumbered 1 readers →
      IsPermutation (map (reader_tag place) readers) (map (back_tag place) backs) → IsPermutation backs sorted → IsNonDecreasingBy (λ b. b.1.feed_no) sorted → sources ≡ map (λ b. b.0) sorted →
      map place sources ≡ map (λ r. place r.source) readers
  sources-in-order readers backs sorted sources numbered moves sorts up is = ap (map place) is ∙ places-in-order place readers backs sorted numbered moves sorts up

-- ---- what was made

module _ {S : Type 0} (t : Topology) (left : S → Option (List ℕ)) (faults place : S → ℕ) where
  pub back-count : (seen : List Posted) (tasks : List (Task S)) (dones : List (JobDone S)) → AllZip (IsBackFrom t left faults place history_limit) tasks dones →
      length (flat_map (λ done. done.feeds.items) dones) ≡ length (readers_of tasks)
  back-count seen tasks dones zip =
      sym (length-map (flat_map (λ done. done.feeds.items) dones) (back_tag place)) ∙ ap length (all-tags t left faults place history_limit seen tasks dones zip)
      ∙ length-map (readers_of tasks) (reader_tag place)

  pub list-tags : (seen : List Posted) (tasks : List (Task S)) (dones : List (JobDone S)) (backs : List (S × FeedTold)) → AllRan t left faults place history_limit tasks seen dones →
      backs ≡ flat_map (λ done. done.feeds.items) dones → map (back_tag place) backs ≡ map (reader_tag place) (readers_of tasks)
  list-tags seen tasks dones backs ran is = ap (map (back_tag place)) is ∙ all-tags t left faults place history_limit seen tasks dones ran.each

  pub list-ran : (seen : List Posted) (tasks : List (Task S)) (dones : List (JobDone S)) (backs : List (S × FeedTold)) (told : List JobTold) → AllRan t left faults place history_limit tasks seen dones →
      list_any (λ done. done.wanted_memory) dones ≡ false → backs ≡ flat_map (λ done. done.feeds.items) dones → told ≡ map told_by dones →
      ListRan t left faults place tasks backs seen told
  list-ran seen tasks dones backs told ran none backs_are told_are =
      record { dones = dones; backs_are = backs_are; told_are = told_are; lawful = ran.lawful (any-none (λ done. done.wanted_memory) dones none) }

  -- ---- as the call tells it

  module _ (now : Topology) (limit : ℕ) (seen : List Posted) (tasks : List (Task S)) (dones : List (JobDone S)) (now_is : now ≡ t) (limit_is : limit ≡ history_limit) (ran : AllRan now left faults place limit tasks seen dones) where
    ran-at : AllRan t left faults place history_limit tasks seen dones
    ran-at = subst (λ l. AllRan t left faults place l tasks seen dones) limit_is (subst (λ u. AllRan u left faults place limit tasks seen dones) now_is ran)

    -- there are as many sources as readers, and as many jobs as were run
    pub came-sources : length (flat_map (λ done. done.feeds.items) dones) ≡ length (readers_of tasks)
    came-sources = back-count seen tasks dones ran-at.each

    pub came-jobs : length dones ≡ length tasks
    came-jobs = zip-count (IsBackFrom t left faults place history_limit) tasks dones ran-at.each

    pub came-tags : (backs : List (S × FeedTold)) → backs ≡ flat_map (λ done. done.feeds.items) dones → map (back_tag place) backs ≡ map (reader_tag place) (readers_of tasks)
    came-tags backs is = list-tags seen tasks dones backs ran-at is

    pub came-ran : (wanted : Bool) (backs : List (S × FeedTold)) (told : List JobTold) (history : List Posted) → wanted ≡ list_any (λ done. done.wanted_memory) dones → wanted ≡ false →
        backs ≡ flat_map (λ done. done.feeds.items) dones → told ≡ map told_by dones → history ≡ seen → ListRan t left faults place tasks backs history told
    came-ran wanted backs told history wanted_is none backs_are told_are history_is =
        subst (λ h. ListRan t left faults place tasks backs h told) (sym history_is) (list-ran seen tasks dones backs told ran-at (sym wanted_is ∙ none) backs_are told_are)

  pub ran-of : (scripts : List (List Line)) (readers : List (Reader S)) (backs : List (S × FeedTold)) (history : List Posted) (told : List JobTold) → AreNumbered 1 readers → AreFit scripts →
      length readers ≤ 64 → length (tasks_of scripts readers) ≤ 64 → All (IsFresh t faults) readers → ListRan t left faults place (tasks_of scripts readers) backs history told → RanAs t left faults readers backs history scripts told
  ran-of scripts readers backs history told numbered fit few few-tasks fresh ran =
      let is = ran-as t left faults place history scripts readers ran.dones numbered fit few few-tasks (λ k d less. (fresh k d less).limit) unread_back ran.lawful in
      subst (λ bs. RanAs t left faults readers bs history scripts told) (sym ran.backs_are)
      (subst (λ js. RanAs t left faults readers (flat_map (λ done. done.feeds.items) ran.dones) history scripts js) (sym ran.told_are) is)

  -- ---- in the order of the feeds

  pub run-in-order : (scripts : List (List Line)) (readers : List (Reader S)) (backs sorted : List (S × FeedTold)) (history : List Posted) (told : List JobTold) (sources : List S) (tolds : List FeedTold) →
      AreNumbered 1 readers → RanAs t left faults readers backs history scripts told → IsPermutation backs sorted → IsNonDecreasingBy (λ b. b.1.feed_no) sorted →
      sources ≡ map (λ b. b.0) sorted → tolds ≡ map (λ b. b.1) sorted → HasRun t left faults readers sources tolds history scripts told
  run-in-order scripts readers backs sorted history told sources tolds numbered ran sorts up sources_are tolds_are =
      subst (λ ss. HasRun t left faults readers ss tolds history scripts told) (sym sources_are)
      (subst (λ ts. HasRun t left faults readers (map (λ b. b.0) sorted) ts history scripts told) (sym tolds_are) (has-run t left faults readers backs sorted history scripts told numbered ran sorts up))
