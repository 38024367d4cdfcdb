-- Sources that came back, put in the order of their feeds.
use Rattle.std.proofs.Common.{◌≡◌, ℕ, zero, suc, ◌<◌, List, [], ◌∷◌, ◌++◌, length, get_or, map, All, Option, None, Some, refl, ap, ap₂, sym, ◌∙◌, subst, arith}
use Rattle.std.specs.List.{AllZip, flat_map}
use Rattle.std.specs.List.Sorted.{IsNonDecreasingBy, IsPermutation}
use Rattle.std.proofs.lemmas.List.{length-map, map-append}
use Rattle.feed_model.specs.Steps.{FeedRead}
use Rattle.std.proofs.lemmas.List.Elements.{All-head, All-tail}
use Rattle.std.proofs.lemmas.List.Sorted.{IsPermutation-map, IsPermutation-trans}
use Rattle.dn_formats.specs.declared.script.Line.{Line}
use Rattle.feed_model.specs.declared.feed_told.FeedTold.{FeedTold}
use Rattle.dn_formats.specs.declared.told.JobTold.{JobTold}
use Rattle.dn_model.specs.declared.entry.Posted.{Posted}
use Rattle.dn_model.specs.declared.topology.Topology.{Topology}
use Rattle.route_feed.specs.FeedReader.{Reader}
use Rattle.feed_threads.specs.AllJobs.{IsBackFrom}
use Rattle.dn_run.specs.Deal.{readers_of, tasks_of}
use Rattle.feed_threads.specs.Jobs.{IsBack, Task}
use Rattle.feed_threads.specs.Feeds.{told_with}
use Rattle.feed_threads.specs.declared.job.JobDone.{JobDone}
use Rattle.dn_run.specs.Jobs.{AreNumbered, AreReadAs, HasRun, IsReadAs}
use Rattle.dn_run.specs.Ran.{RanAs, back_tag, reader_tag}
use Rattle.dn_run.proofs.DealLemmas.{readers-dealt}
use Rattle.dn_run.proofs.InOrder.{IsFrom, in-order}

-- a number and a place
abbrev pub Tag : Type 0
Tag = ℕ × ℕ

abbrev num : Tag → ℕ
num tag = tag.0

module _ {S : Type 0} (place : S → ℕ) where
  tags-from : (n : ℕ) (rs : List (Reader S)) → AreNumbered n rs → IsFrom num n (map (reader_tag place) rs)
  tags-from n [] are = tt
  tags-from n (r ∷ rs) are = (are.0, tags-from (suc n) rs are.1)

  tags-rise : (bs : List (S × FeedTold)) → IsNonDecreasingBy (λ b. b.1.feed_no) bs → IsNonDecreasingBy num (map (back_tag place) bs)
  tags-rise [] up = λ i j d le less. absurd (omega (arith, less))
  tags-rise (b ∷ bs) up = λ i j d le less.
      let len = length-map (b ∷ bs) (back_tag place) in
      let is = up i j b le (omega (arith, less, len)) in
      let first : get_or (map (back_tag place) (b ∷ bs)) i d ≡ back_tag place (get_or (b ∷ bs) i b) = same-at i d b (b ∷ bs) (omega (arith, le, less, len)) in
      let second : get_or (map (back_tag place) (b ∷ bs)) j d ≡ back_tag place (get_or (b ∷ bs) j b) = same-at j d b (b ∷ bs) (omega (arith, less, len)) in
      rw (first, second) is
    where
      same-at : (i : ℕ) (d : Tag) (e : S × FeedTold) (bs : List (S × FeedTold)) → i < length bs → get_or (map (back_tag place) bs) i d ≡ back_tag place (get_or bs i e)
      same-at i d e [] less = absurd (omega (arith, less))
      same-at zero d e (b ∷ bs) less = refl
      same-at (suc i) d e (b ∷ bs) less = same-at i d e bs (omega (arith, less))

  -- the sources in the order of their feeds have the places of the readers'
  pub places-in-order : (readers : List (Reader S)) (backs sorted : List (S × FeedTold)) → AreNumbered 1 readers → IsPermutation (map (reader_tag place) readers) (map (back_tag place) backs) →
      IsPermutation backs sorted → IsNonDecreasingBy (λ b. b.1.feed_no) sorted → map place (map (λ b. b.0) sorted) ≡ map (λ r. place r.source) readers
  places-in-order readers backs sorted numbered moves sorts up =
      let tags : map (back_tag place) sorted ≡ map (reader_tag place) readers =
      in-order num 1 (map (reader_tag place) readers) (map (back_tag place) sorted) (tags-from 1 readers numbered)
      (IsPermutation-trans (map (reader_tag place) readers) (map (back_tag place) backs) (map (back_tag place) sorted) moves (IsPermutation-map (back_tag place) backs sorted sorts)) (tags-rise sorted up) in
      sources sorted ∙ ap (map (λ (tag : Tag). tag.1)) tags ∙ starts readers
    where
      sources : (bs : List (S × FeedTold)) → map place (map (λ b. b.0) bs) ≡ map (λ (tag : Tag). tag.1) (map (back_tag place) bs)
      sources [] = refl
      sources (b ∷ bs) = ap (λ ps. place b.0 ∷ ps) (sources bs)

      starts : (rs : List (Reader S)) → map (λ (tag : Tag). tag.1) (map (reader_tag place) rs) ≡ map (λ r. place r.source) rs
      starts [] = refl
      starts (r ∷ rs) = ap (λ ps. place r.source ∷ ps) (starts rs)

-- ---- what the jobs came to, in the order of the feeds

module _ {S : Type 0} (t : Topology) (left : S → Option (List ℕ)) (faults : S → ℕ) where
  abbrev Each : (Reader S → S × FeedTold) → (Reader S → FeedRead) → List (Reader S) → Type 0
  Each back feed readers = All (λ r. IsReadAs t left faults r (back r).0 (back r).1 (feed r)) readers

  all-read : (back : Reader S → S × FeedTold) (feed : Reader S → FeedRead) (readers : List (Reader S)) → Each back feed readers →
      AreReadAs t left faults readers (map (λ b. b.0) (map back readers)) (map (λ b. b.1) (map back readers)) (map feed readers)
  all-read back feed [] each = tt
  all-read back feed (r ∷ rs) each = (
    All-head (λ r. IsReadAs t left faults r (back r).0 (back r).1 (feed r)) r rs each,
    all-read back feed rs (All-tail (λ r. IsReadAs t left faults r (back r).0 (back r).1 (feed r)) r rs each),
  )

  backs-from : (n : ℕ) (back : Reader S → S × FeedTold) (feed : Reader S → FeedRead) (readers : List (Reader S)) → AreNumbered n readers → Each back feed readers →
      IsFrom (λ (b : S × FeedTold). b.1.feed_no) n (map back readers)
  backs-from n back feed [] are each = tt
  backs-from n back feed (r ∷ rs) are each =
      let here = All-head (λ r. IsReadAs t left faults r (back r).0 (back r).1 (feed r)) r rs each in (
        ap (λ (x : FeedTold). x.feed_no) here.told_is ∙ here.feed_no ∙ are.0,
        backs-from (suc n) back feed rs are.1 (All-tail (λ r. IsReadAs t left faults r (back r).0 (back r).1 (feed r)) r rs each),
      )

  pub has-run : (readers : List (Reader S)) (backs sorted : List (S × FeedTold)) (history : List Posted) (scripts : List (List Line)) (told : List JobTold) → AreNumbered 1 readers →
      RanAs t left faults readers backs history scripts told → IsPermutation backs sorted → IsNonDecreasingBy (λ b. b.1.feed_no) sorted →
      HasRun t left faults readers (map (λ b. b.0) sorted) (map (λ b. b.1) sorted) history scripts told
  has-run readers backs sorted history scripts told numbered ran sorts up =
      let is : sorted ≡ map ran.back readers =
      in-order (λ (b : S × FeedTold). b.1.feed_no) 1 (map ran.back readers) sorted (backs-from 1 ran.back ran.feed readers numbered ran.each)
      (IsPermutation-trans (map ran.back readers) backs sorted ran.backs_are sorts) up in
      record {
        feeds = map ran.feed readers;
        read = subst (λ bs. AreReadAs t left faults readers (map (λ b. b.0) bs) (map (λ b. b.1) bs) (map ran.feed readers)) (sym is) (all-read ran.back ran.feed readers ran.each);
        lawful = ran.lawful;
      }

-- ---- sources that came back in any case

module _ {S : Type 0} (t : Topology) (left : S → Option (List ℕ)) (faults place : S → ℕ) (limit : ℕ) where
  tag-back : (r : Reader S) (b : S × FeedTold) → IsBack t left faults place limit r b → back_tag place b ≡ reader_tag place r
  tag-back r b back =
      ap₂ (λ n p. (n, p)) (ap (λ (x : FeedTold). x.feed_no) back.told_is ∙ told-no back.kept back.reader.told ∙ back.reads.feed_no) (ap place (sym back.source_is) ∙ back.reads.keeps_place)
    where
      told-no : (k : Option ℕ) (x : FeedTold) → (told_with k x).feed_no ≡ x.feed_no
      told-no None x = refl
      told-no (Some n) x = refl

  tags-back : (rs : List (Reader S)) (bs : List (S × FeedTold)) → AllZip (IsBack t left faults place limit) rs bs → map (back_tag place) bs ≡ map (reader_tag place) rs
  tags-back [] [] zip = refl
  tags-back [] (b ∷ bs) zip = absurd zip
  tags-back (r ∷ rs) [] zip = absurd zip
  tags-back (r ∷ rs) (b ∷ bs) zip = ap₂ (λ a more. a ∷ more) (tag-back r b zip.0) (tags-back rs bs zip.1)

  pub all-tags : (seen : List Posted) (tasks : List (Task S)) (dones : List (JobDone S)) → AllZip (IsBackFrom t left faults place limit) tasks dones →
      map (back_tag place) (flat_map (λ done. done.feeds.items) dones) ≡ map (reader_tag place) (readers_of tasks)
  all-tags seen [] [] zip = refl
  all-tags seen [] (d ∷ ds) zip = absurd zip
  all-tags seen (x ∷ xs) [] zip = absurd zip
  all-tags seen (x ∷ xs) (d ∷ ds) zip =
      map-append (back_tag place) d.feeds.items (flat_map (λ done. done.feeds.items) ds)
      ∙ ap₂ (λ a more. a ++ more) (tags-back x.feeds d.feeds.items zip.0.back) (all-tags seen xs ds zip.1)
      ∙ sym (map-append (reader_tag place) x.feeds (readers_of xs))

  -- whatever jobs that were dealt the readers of a run came to, each source has come back
  pub came-back : (seen : List Posted) (scripts : List (List Line)) (readers : List (Reader S)) (dones : List (JobDone S)) → AllZip (IsBackFrom t left faults place limit) (tasks_of scripts readers) dones →
      IsPermutation (map (reader_tag place) readers) (map (back_tag place) (flat_map (λ done. done.feeds.items) dones))
  came-back seen scripts readers dones zip =
      subst (λ tags. IsPermutation (map (reader_tag place) readers) tags) (sym (all-tags seen (tasks_of scripts readers) dones zip))
      (IsPermutation-map (reader_tag place) readers (readers_of (tasks_of scripts readers)) (readers-dealt scripts readers))
