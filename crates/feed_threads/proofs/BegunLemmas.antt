-- Where memory was wanting: the job's own entries are the first of what its lines give, whatever its feeds come to.
use Rattle.std.proofs.Common.{◌≡◌, ℕ, ◌+◌, ◌-◌, ◌≤◌, ◌<◌, ◌==◌, true, false, List, [], ◌∷◌, ◌++◌, length, map, take, drop, get_or, Bool, All, Option, None, Some, refl, ap, sym, ◌∙◌, arith, subst, append_assoc}
use Rattle.std.specs.List.{AllZip, flat_map}
use Rattle.std.proofs.lemmas.List.{append-nil, length-append, length-map, length-take-le, map-append, take_all, take-append-drop}
use Rattle.std.proofs.lemmas.List.Elements.{All-head, All-tail}
use Rattle.std.proofs.lemmas.Bool.{eqb-true}
use Rattle.std.proofs.Math.Seq.{take-append-add}
use mathlib.Core.List.{IsPrefix}
use Rattle.version_lock.proofs.Histories.{prefix_trans}
use Rattle.dn_formats.specs.Lawful.{Job, asked, asked_by, both_counts, front_of, given_along, kept_by, link_entries, taken_by, takes}
use Rattle.feed_model.specs.Steps.{FrameStep, FeedRead, updates, kept_of, entries_by}
use Rattle.dn_formats.specs.declared.script.Line.{Line}
use Rattle.dn_formats.specs.declared.script.Line.TheVariants as line
use Rattle.feed_model.specs.declared.feed_told.FeedEnd.{FeedEnd}
use Rattle.dn_formats.specs.declared.told.Told.{Told}
use Rattle.dn_model.specs.declared.entry.Entry.{Entry}
use Rattle.dn_model.specs.declared.entry.Op.{Op}
use Rattle.dn_model.specs.declared.entry.Posted.{Posted}
use Rattle.dn_model.specs.declared.topology.Topology.{Topology}
use Rattle.base.specs.declared.ids.RouterId.{RouterId}
use Rattle.route_feed.specs.FeedReader.{Reader}
use Rattle.feed_threads.specs.Feeds.{Feed, end_of_feed, HandsOut, Stands, StandsFront, TookOf, TookFront}
use Rattle.feed_threads.specs.Jobs.{Task, HasBegun, back_of}
use Rattle.feed_threads.specs.Places.{FailsOf, ReadOn}
use Rattle.feed_threads.specs.Seats.{own_of}
use Rattle.feed_threads.specs.Takes.{GivesFirst, IsCount, IsWithin}
use Rattle.feed_threads.specs.Tracks.{Begun, GoesOn, IsApartFrom, IsJobOn, Links, MayBecome, MayKeep, Strand, TookFirstLinks, TookLinks, Tracks, Woven, rests_by, rests_of, taken_of_all}
use Rattle.feed_threads.proofs.EndLemmas.{job-order, links-all, map-then, rest_line, rests-of-links, rests-of-routers, rests-same, two-of}
use Rattle.feed_threads.proofs.GiveLemmas.{entries_by-append, later-more, prefix-length, took-later, updates-append}
use Rattle.feed_threads.proofs.ListLemmas.{Parts, all-parts, all-joined, all-through, ZipParts, zip-parts}
use Rattle.feed_threads.proofs.OrderLemmas.{asked-push, given-append, given-push, gives-taken, links-append, links-same, none-taken, one-alone, taken_by-own}
use Rattle.feed_threads.proofs.StrandLemmas.{nows, grown, Others, apart-kept, apart-others, count-grown, Split, split-at}
use Rattle.feed_threads.proofs.TakeLemmas.{count-within}
use Rattle.feed_threads.proofs.TracksLemmas.{Counted, found-feed, kept-is, other-takes}

-- ---- what a feed may come to

keeps-taken : (limit : ℕ) (seen : List Posted) (kept : Option ℕ) (f : FeedRead) (steps : List FrameStep) (ops : List (RouterId × Op)) → TookOf limit seen kept steps ops → MayKeep kept (length ops) f.kept → kept_of f steps ≡ ops
keeps-taken limit seen None f steps ops took may =
    let enough : length (updates steps) ≤ f.kept = subst (λ (xs : List (RouterId × Op)). length xs ≤ f.kept) took may in
    take_all f.kept (updates steps) enough ∙ sym took
keeps-taken limit seen (Some n) f steps ops took may =
    let fewer : n < length (updates steps) = took.1.fewer in
    let len : length ops ≡ n = ap length took.0 ∙ length-take-le n (updates steps) (omega (arith, fewer)) in
    ap (λ (k : ℕ). take k (updates steps)) (may ∙ len) ∙ sym took.0

-- what a feed may come to that the history had taken whole, or broken off, goes on from it
becomes-goes : {S : Type 0} (limit : ℕ) (seen : List Posted) (s : Strand S) (f : FeedRead) → TookOf limit seen s.now.kept s.steps s.ops → MayBecome s f → GoesOn s f
becomes-goes limit seen s f took may = record {
  feed_no = may.feed_no;
  router = may.router;
  later = may.later;
  steps = may.steps;
  kept = keeps-taken limit seen s.now.kept f s.steps s.ops took may.kept;
  none_after_end = may.none_after_end;
}

all-become-go : {S : Type 0} (limit : ℕ) (seen : List Posted) (ss : List (Strand S)) (fs : List FeedRead) → All (λ (s : Strand S). TookOf limit seen s.now.kept s.steps s.ops) ss → AllZip MayBecome ss fs → AllZip GoesOn ss fs
all-become-go limit seen [] [] took zip = tt
all-become-go limit seen [] (f ∷ fs) took zip = absurd zip
all-become-go limit seen (s ∷ ss) [] took zip = absurd zip
all-become-go {S = S} limit seen (s ∷ ss) (f ∷ fs) took zip =
    let P : Strand S → Type 0 = λ s. TookOf limit seen s.now.kept s.steps s.ops in
    (becomes-goes limit seen s f (All-head P s ss took) zip.0, all-become-go limit seen ss fs (All-tail P s ss took) zip.1)

-- ---- the first of what is asked

-- the frames that are asked for begin with those that were taken, where these are no more
front-begins : (c : Option ℕ) (xs ys : List FrameStep) → IsWithin c (length xs) → (zs : List FrameStep) × (front_of c (xs ++ ys) ≡ xs ++ zs)
front-begins None xs ys within = (ys, refl)
front-begins (Some n) xs ys within =
    let few : length xs ≤ n = within in
    let sum : n ≡ length xs + (n - length xs) = omega (arith, few) in
    (take (n - length xs) ys, ap (λ (k : ℕ). take k (xs ++ ys)) sum ∙ take-append-add xs ys (n - length xs))

within-both : (c d : Option ℕ) (len more : ℕ) (end : Option FeedEnd) → IsCount c len end → IsWithin d more → IsWithin (both_counts c d) (len + more)
within-both None d len more end is within = tt
within-both (Some n) None len more end is within = tt
within-both (Some n) (Some m) len more end is within =
    let few : len ≤ n = count-within n len end is in let few-more : more ≤ m = within in
    omega (arith, few, few-more)

-- a longer take of a longer list begins with a shorter one
take-begins : {X : Type 0} (n k : ℕ) (xs ys : List X) → n ≤ k → n ≤ length xs → IsPrefix (take n xs) (take k (xs ++ ys))
take-begins {X = X} n k xs ys less few =
    let len : length (take n xs) ≡ n = length-take-le n xs few in
    let sum : k ≡ length (take n xs) + (k - n) = omega (arith, len, less) in
    let parts : xs ++ ys ≡ take n xs ++ (drop n xs ++ ys) = ap (λ (zs : List X). zs ++ ys) (sym (take-append-drop n xs)) ∙ append_assoc (take n xs) (drop n xs) ys in (
      take (k - n) (drop n xs ++ ys),
      sym (ap (λ (zs : List X). take k zs) parts ∙ ap (λ (m : ℕ). take m (take n xs ++ (drop n xs ++ ys))) sum ∙ take-append-add (take n xs) (drop n xs ++ ys) (k - n)),
    )

-- What lines take of a feed begins with what the history took, where they ask for all the frames that were read.
begun-kept : (lines : List Line) (f : FeedRead) (steps more later : List FrameStep) (ops : List (RouterId × Op)) (n : ℕ) → f.steps ≡ (steps ++ more) ++ later → ops ≡ updates steps → n ≤ length (updates more) →
    length (ops ++ take n (updates more)) ≤ f.kept → IsWithin (asked f.router lines) (length (steps ++ more)) → IsPrefix (ops ++ take n (updates more)) (kept_by lines f)
begun-kept lines f steps more later ops n steps-are whole few kept within =
    let c : Option ℕ = asked f.router lines in
    let um : List (RouterId × Op) = updates more in
    let fr : (zs : List FrameStep) × (front_of c ((steps ++ more) ++ later) ≡ (steps ++ more) ++ zs) = front-begins c (steps ++ more) later within in
    let u : List (RouterId × Op) = updates fr.0 in
    let ups : updates (front_of c f.steps) ≡ ops ++ (um ++ u) =
    ap (λ (xs : List FrameStep). updates (front_of c xs)) steps-are ∙ ap updates fr.1 ∙ updates-append (steps ++ more) fr.0 ∙ ap (λ (z : List (RouterId × Op)). z ++ u) (updates-append steps more)
    ∙ append_assoc (updates steps) um u ∙ ap (λ (z : List (RouterId × Op)). z ++ (um ++ u)) (sym whole) in
    let len : length (ops ++ take n um) ≡ length ops + n = length-append ops (take n um) ∙ ap (λ (k : ℕ). length ops + k) (length-take-le n um few) in
    let j : ℕ = f.kept - length ops in
    let sum : f.kept ≡ length ops + (f.kept - length ops) = omega (arith, len, kept) in
    let enough : n ≤ f.kept - length ops = omega (arith, len, kept) in
    let rest : IsPrefix (take n um) (take j (um ++ u)) = take-begins n j um u enough few in (
      rest.0,
      append_assoc ops (take n um) rest.0 ∙ ap (λ (z : List (RouterId × Op)). ops ++ z) rest.1 ∙ sym (take-append-add ops (um ++ u) j)
          ∙ ap (λ (k : ℕ). take k (ops ++ (um ++ u))) (sym sum) ∙ ap (λ (z : List (RouterId × Op)). take f.kept z) (sym ups),
    )

took-front : (limit : ℕ) (seen later : List Posted) (kept : Option ℕ) (steps : List FrameStep) (ops : List (RouterId × Op)) → IsPrefix seen later → TookOf limit seen kept steps ops → TookFront limit later kept steps ops
took-front limit seen later None steps ops begins took = ([], append-nil ops ∙ took)
took-front limit seen later (Some n) steps ops begins took = took-later limit seen later (Some n) steps ops begins took

-- ---- link lines

-- of what the history took of link entries the first were taken, where more is seen
first-links : (full : Bool) (limit : ℕ) (a b : List Posted) (all all' count : ℕ) → length a ≤ length b → all ≤ all' → TookLinks full limit a all count → TookFirstLinks full limit b all' count
first-links false limit a b all all' count longer more took = omega (arith, took, more)
first-links true limit a b all all' count longer more took = (omega (arith, took.0, more), omega (arith, took.1, longer))

first-links-more : (full : Bool) (limit : ℕ) (seen : List Posted) (all all' count : ℕ) → all ≤ all' → TookFirstLinks full limit seen all count → TookFirstLinks full limit seen all' count
first-links-more false limit seen all all' count more took = omega (arith, took, more)
first-links-more true limit seen all all' count more took = (omega (arith, took.0, more), took.1)

module _ {S : Type 0} (t : Topology) (left : S → Option (List ℕ)) (faults place : S → ℕ) (limit number job_number : ℕ) where
  -- a feed of which all was taken, or that was broken off
  stands-front : (seen later : List Posted) (s : Strand S) → IsPrefix seen later → Stands t left faults place limit seen s.start s.now s.steps s.ops → StandsFront t left faults place limit later s.start s.now s.steps s.ops
  stands-front seen later s begins st = record { reads = st.reads; took = took-front limit seen later s.now.kept s.steps s.ops begins st.took; unended = st.unended }

  -- ---- the feed at which memory was wanting

  -- the strand of a feed of whose frames the history took the first updates
  abbrev first_of : (count : Option ℕ) (mid : Strand S) (new : Feed S) (a b : List Posted) → GivesFirst t left faults place limit number count mid.now new a b → Strand S
  first_of count mid new a b x = grown mid new x.more (take x.took.n (updates x.more))

  first-handed : (count : Option ℕ) (mid : Strand S) (new : Feed S) (a b : List Posted) (x : GivesFirst t left faults place limit number count mid.now new a b) →
      Stands t left faults place limit a mid.start mid.now mid.steps mid.ops → HandsOut t left faults place mid.start new.reader (mid.steps ++ x.more)
  first-handed count mid new a b x st = x.reads mid.start mid.steps st.reads

  first-router : (count : Option ℕ) (mid : Strand S) (new : Feed S) (a b : List Posted) (x : GivesFirst t left faults place limit number count mid.now new a b) →
      Stands t left faults place limit a mid.start mid.now mid.steps mid.ops → new.reader.told.router ≡ mid.now.reader.told.router
  first-router count mid new a b x st = let h : HandsOut t left faults place mid.start new.reader (mid.steps ++ x.more) = first-handed count mid new a b x st in h.router ∙ sym st.reads.router

  whole-before : (count : Option ℕ) (mid : Strand S) (new : Feed S) (a b : List Posted) (x : GivesFirst t left faults place limit number count mid.now new a b) →
      Stands t left faults place limit a mid.start mid.now mid.steps mid.ops → mid.ops ≡ updates mid.steps
  whole-before count mid new a b x st = subst (λ (k : Option ℕ). TookOf limit a k mid.steps mid.ops) x.kept st.took

  may-keep : (count : Option ℕ) (mid : Strand S) (new : Feed S) (a b : List Posted) (x : GivesFirst t left faults place limit number count mid.now new a b) (f : FeedRead) →
      MayBecome (first_of count mid new a b x) f → length (mid.ops ++ take x.took.n (updates x.more)) ≤ f.kept
  may-keep count mid new a b x f may = subst (λ (k : Option ℕ). MayKeep k (length (mid.ops ++ take x.took.n (updates x.more))) f.kept) x.unbroken may.kept

  become-back : (count : Option ℕ) (mid : Strand S) (new : Feed S) (a b : List Posted) (x : GivesFirst t left faults place limit number count mid.now new a b) (f : FeedRead) →
      Stands t left faults place limit a mid.start mid.now mid.steps mid.ops → MayBecome (first_of count mid new a b x) f → GoesOn mid f
  become-back count mid new a b x f st may =
      let h : HandsOut t left faults place mid.start new.reader (mid.steps ++ x.more) = first-handed count mid new a b x st in
      let most : length (mid.ops ++ take x.took.n (updates x.more)) ≤ f.kept = may-keep count mid new a b x f may in
      let len : length (mid.ops ++ take x.took.n (updates x.more)) ≡ length mid.ops + length (take x.took.n (updates x.more)) = length-append mid.ops (take x.took.n (updates x.more)) in
      let enough : length mid.ops ≤ f.kept = omega (arith, most, len) in
      let unbroken-steps : kept_of f mid.steps ≡ mid.ops = keeps-taken limit a None f mid.steps mid.ops (whole-before count mid new a b x st) enough in
      record {
        feed_no = may.feed_no ∙ h.feed_no ∙ sym st.reads.feed_no;
        router = may.router ∙ first-router count mid new a b x st;
        later = x.more ++ may.later;
        steps = may.steps ∙ append_assoc mid.steps x.more may.later;
        kept = unbroken-steps;
        none_after_end = later-more (end_of_feed mid.now) (end_of_feed new) x.more may.later x.later (λ e is. ap end_of_feed (x.ended e is) ∙ is) may.none_after_end;
      }

  become-go-back : (count : Option ℕ) (front : List (Strand S)) (mid : Strand S) (back : List (Strand S)) (new : Feed S) (a b : List Posted) (x : GivesFirst t left faults place limit number count mid.now new a b) (fs : List FeedRead) →
      Stands t left faults place limit a mid.start mid.now mid.steps mid.ops → All (λ (s : Strand S). TookOf limit a s.now.kept s.steps s.ops) (front ++ mid ∷ back) →
      AllZip MayBecome (front ++ first_of count mid new a b x ∷ back) fs → AllZip GoesOn (front ++ mid ∷ back) fs
  become-go-back count [] mid back new a b x [] st took zip = absurd zip
  become-go-back count [] mid back new a b x (f ∷ fs) st took zip =
      (become-back count mid new a b x f st zip.0, all-become-go limit a back fs (All-tail (λ (s : Strand S). TookOf limit a s.now.kept s.steps s.ops) mid back took) zip.1)
  become-go-back count (y ∷ front) mid back new a b x [] st took zip = absurd zip
  become-go-back count (y ∷ front) mid back new a b x (f ∷ fs) st took zip =
      let P : Strand S → Type 0 = λ s. TookOf limit a s.now.kept s.steps s.ops in (
        becomes-goes limit a y f (All-head P y (front ++ mid ∷ back) took) zip.0,
        become-go-back count front mid back new a b x fs st (All-tail P y (front ++ mid ∷ back) took) zip.1,
      )

  -- the job's own entries where memory was wanting at a feed that a line names
  begun-own : (start : List Entry) (a b : List Posted) (before : List Line) (front : List (Strand S)) (mid : Strand S) (back : List (Strand S)) (new : Feed S) (l : ℕ) (r : RouterId) (count : Option ℕ) (job : Job) →
      (mid.now.reader.told.router.0 == r.0) ≡ true → (x : GivesFirst t left faults place limit number count mid.now new a b) → Stands t left faults place limit a mid.start mid.now mid.steps mid.ops →
      Counted before mid → Others front mid back → AllZip MayBecome (front ++ first_of count mid new a b x ∷ back) job.feeds → own_of number a ≡ start ++ given_along t job [] before →
      IsPrefix (own_of number b) (start ++ given_along t job [] (before ++ line.Take l r count ∷ []))
  begun-own start a b before front mid back new l r count job this x st counted others zip order =
      let y : Line = line.Take l r count in
      let fs : List FeedRead = job.feeds in
      let before-gives : List Entry = given_along t job [] before in
      let q : RouterId = mid.now.reader.told.router in
      let m : ℕ = mid.now.reader.told.feed_no in
      let first : List (RouterId × Op) = take x.took.n (updates x.more) in
      let es : List Entry = entries_by m first in
      let z : ZipParts MayBecome front (first_of count mid new a b x) back fs = zip-parts MayBecome front (first_of count mid new a b x) back fs zip in
      let g : GoesOn mid z.y = become-back count mid new a b x z.y st z.mid_zip in
      let own-line : (r.0 == q.0) ≡ true = ap (λ (n : ℕ). n == q.0) (sym (eqb-true q.0 r.0 this)) ∙ ap (λ (n : ℕ). q.0 == n) (eqb-true q.0 r.0 this) ∙ this in
      let by : asked_by q (line.Take l r count) ≡ count = rw own-line refl in
      let asked-now : asked z.y.router (before ++ y ∷ []) ≡ both_counts (asked q before) count =
      ap (λ (p : RouterId). asked p (before ++ y ∷ [])) g.router ∙ asked-push q before y ∙ ap (both_counts (asked q before)) by in
      let within : IsWithin (asked z.y.router (before ++ y ∷ [])) (length (mid.steps ++ x.more)) =
      subst (λ (c : Option ℕ). IsWithin c (length (mid.steps ++ x.more))) (sym asked-now)
      (subst (λ (n : ℕ). IsWithin (both_counts (asked q before) count) n) (sym (length-append mid.steps x.more))
      (within-both (asked q before) count (length mid.steps) (length x.more) (end_of_feed mid.now) counted x.within)) in
      let has : IsPrefix (mid.ops ++ first) (kept_by (before ++ y ∷ []) z.y) =
      begun-kept (before ++ y ∷ []) z.y mid.steps x.more z.mid_zip.later mid.ops x.took.n z.mid_zip.steps (whole-before count mid new a b x st) x.took.few (may-keep count mid new a b x z.y z.mid_zip) within in
      let tail : List Entry = entries_by m has.0 in
      let own : taken_by before y z.y ≡ es ++ tail =
      taken_by-own before y z.y mid.ops (first ++ has.0) (kept-is mid z.y before g counted) (sym has.1 ∙ append_assoc mid.ops first has.0)
      ∙ ap (λ (n : ℕ). entries_by n (first ++ has.0)) g.feed_no ∙ entries_by-append m first has.0 in
      let alone : flat_map (taken_by before y) (z.front_ys ++ z.y ∷ z.back_ys) ≡ es ++ tail =
      one-alone (taken_by before y) z.front_ys z.y z.back_ys (es ++ tail)
      (none-taken before y z.front_ys (all-through MayBecome (IsApartFrom mid) (λ f. takes f.router y ≡ false) front z.front_ys (λ s f may p. other-takes mid s f l r count this p may.router) z.front_zip others.in_front))
      own
      (none-taken before y z.back_ys (all-through MayBecome (IsApartFrom mid) (λ f. takes f.router y ≡ false) back z.back_ys (λ s f may p. other-takes mid s f l r count this p may.router) z.back_zip others.in_back)) in
      let line-gives : given_along t job [] (before ++ y ∷ []) ≡ before-gives ++ (es ++ tail) =
      given-push t job [] before y ∙ ap (λ (w : List Entry). before-gives ++ w) (gives-taken t job before y refl ∙ ap (flat_map (taken_by before y)) z.whole ∙ alone) in (
        tail,
        ap (λ (w : List Entry). w ++ tail) (x.took.grows ∙ ap (λ (w : List Entry). w ++ es) order) ∙ append_assoc (start ++ before-gives) es tail
            ∙ append_assoc start before-gives (es ++ tail) ∙ ap (λ (w : List Entry). start ++ w) (sym line-gives),
      )

  begun-grown : (start : List Entry) (olds : List (Reader S)) (news news' : List (Feed S)) (a b : List Posted) (before : List Line) (links : Links) (front : List (Strand S)) (mid : Strand S) (back : List (Strand S)) (new : Feed S) (l : ℕ) (r : RouterId) (count : Option ℕ) →
      IsPrefix a b → (mid.now.reader.told.router.0 == r.0) ≡ true → news' ≡ nows front ++ new ∷ nows back → GivesFirst t left faults place limit number count mid.now new a b →
      Woven t left faults place limit olds news a (front ++ mid ∷ back) → All (Counted before) (front ++ mid ∷ back) → TookLinks links.full limit a (length (link_entries t job_number before)) links.count →
      length (own_of number a) ≡ length start + (taken_of_all (front ++ mid ∷ back) + links.count) →
      ((job : Job) → IsJobOn GoesOn job_number (front ++ mid ∷ back) links job → own_of number a ≡ start ++ given_along t job [] before) →
      Begun t left faults place limit number job_number start olds news' b (before ++ line.Take l r count ∷ [])
  begun-grown start olds news news' a b before links front mid back new l r count begins this news-are x w counted linked count-before order =
      let y : Line = line.Take l r count in
      let s' : Strand S = first_of count mid new a b x in
      let um : List (RouterId × Op) = updates x.more in
      let n : ℕ = x.took.n in
      let Q : Strand S → Type 0 = λ s. Stands t left faults place limit a s.start s.now s.steps s.ops in
      let P : Strand S → Type 0 = λ s. StandsFront t left faults place limit b s.start s.now s.steps s.ops in
      let each : Parts Q front mid back = all-parts Q front mid back w.each in
      let st : Q mid = each.mid_is in
      let whole : mid.ops ≡ updates mid.steps = whole-before count mid new a b x st in
      let all : (mid.ops ++ take n um) ++ drop n um ≡ updates (mid.steps ++ x.more) =
      append_assoc mid.ops (take n um) (drop n um) ∙ ap (λ (z : List (RouterId × Op)). mid.ops ++ z) (take-append-drop n um) ∙ ap (λ (z : List (RouterId × Op)). z ++ um) whole ∙ sym (updates-append mid.steps x.more) in
      let others : Others front mid back = apart-others front mid back w.apart in
      let mine : Counted before mid = (all-parts (Counted before) front mid back counted).mid_is in
      let here : P s' = record {
        reads = first-handed count mid new a b x st;
        took = subst (λ (k : Option ℕ). TookFront limit b k (mid.steps ++ x.more) (mid.ops ++ take n um)) (sym x.unbroken) (drop n um, all);
        unended = λ m is. absurd (cc (sym x.unbroken ∙ is));
      } in
      record {
        strands = front ++ s' ∷ back;
        links = links;
        starts = map-append (λ s. s.start) front (s' ∷ back) ∙ sym (map-append (λ s. s.start) front (mid ∷ back)) ∙ w.starts;
        nows = map-append (λ s. s.now) front (s' ∷ back) ∙ sym news-are;
        each = all-joined P front s' back (λ k d i. stands-front a b (get_or front k d) begins (each.front_all k d i)) here (λ k d i. stands-front a b (get_or back k d) begins (each.back_all k d i));
        apart = apart-kept front mid s' back (first-router count mid new a b x st) w.apart;
        linked = first-links links.full limit a b (length (link_entries t job_number before)) (length (link_entries t job_number (before ++ y ∷ []))) links.count
            (prefix-length a b begins) (let same = ap length (links-same t job_number before y refl) in omega (arith, same)) linked;
        count = count-grown front mid s' back (own_of number a) (own_of number b) start mid.now.reader.told.feed_no (take n um) links.count refl x.took.grows count-before;
        order = λ job on.
            begun-own start a b before front mid back new l r count job this x st mine others on.feeds
            (order job (record {
              number = on.number;
              feeds = become-go-back count front mid back new a b x job.feeds st (λ k d i. (w.each k d i).took) on.feeds;
              kept = on.kept;
            }));
      }

  -- memory was wanting at a line that takes frames
  pub begun-at : (start : List Entry) (olds : List (Reader S)) (news news' : List (Feed S)) (a b : List Posted) (before : List Line) (tolds : List Told) (l : ℕ) (r : RouterId) (count : Option ℕ) → IsPrefix a b →
      FailsOf t left faults place limit number r count news news' a b → Tracks t left faults place limit number job_number start olds news a before tolds →
      Begun t left faults place limit number job_number start olds news' b (before ++ line.Take l r count ∷ [])
  begun-at start olds news news' a b before tolds l r count begins fails tracks =
      let x = fails.fails in
      let sp : Split tracks.strands x.front x.old x.back = split-at tracks.strands x.front x.old x.back (tracks.woven.nows ∙ x.olds_are) in
      let w : Woven t left faults place limit olds news a (sp.front ++ sp.mid ∷ sp.back) = subst (λ (ss : List (Strand S)). Woven t left faults place limit olds news a ss) sp.whole tracks.woven in
      let place-is : length sp.front ≡ fails.at = sym (length-map sp.front (λ s. s.now)) ∙ ap length sp.front_is ∙ x.at_place in
      begun-grown start olds news news' a b before tracks.links sp.front sp.mid sp.back x.new l r count begins
      (found-feed r sp.front sp.mid sp.back news fails.at w.nows place-is fails.found)
      (x.news_are ∙ ap (λ (f : List (Feed S)). f ++ x.new ∷ x.back) (sym sp.front_is) ∙ ap (λ (b : List (Feed S)). nows sp.front ++ x.new ∷ b) (sym sp.back_is))
      (subst (λ (f : Feed S). GivesFirst t left faults place limit number count f x.new a b) (sym sp.mid_is) x.step) w
      (subst (λ (ss : List (Strand S)). All (Counted before) ss) sp.whole tracks.counted) tracks.linked
      (subst (λ (ss : List (Strand S)). length (own_of number a) ≡ length start + (taken_of_all ss + tracks.links.count)) sp.whole tracks.count)
      (λ job on. (tracks.whatever job (subst (λ (ss : List (Strand S)). IsJobOn GoesOn job_number ss tracks.links job) (sym sp.whole) on)).order)

  -- memory was wanting where nothing was taken since the lines that were done
  pub begun-still : (start : List Entry) (olds : List (Reader S)) (news : List (Feed S)) (a b : List Posted) (before : List Line) (tolds : List Told) → IsPrefix a b → own_of number b ≡ own_of number a →
      Tracks t left faults place limit number job_number start olds news a before tolds → Begun t left faults place limit number job_number start olds news b before
  begun-still start olds news a b before tolds begins same tracks = record {
    strands = tracks.strands;
    links = tracks.links;
    starts = tracks.woven.starts;
    nows = tracks.woven.nows;
    each = λ k d i. stands-front a b (get_or tracks.strands k d) begins (tracks.woven.each k d i);
    apart = tracks.woven.apart;
    linked = first-links tracks.links.full limit a b (length (link_entries t job_number before)) (length (link_entries t job_number before)) tracks.links.count (prefix-length a b begins) (omega arith) tracks.linked;
    count = ap length same ∙ tracks.count;
    order = λ job on. (
      [],
      append-nil (own_of number b) ∙ same ∙ (tracks.whatever job (record {
        number = on.number;
        feeds = all-become-go limit a tracks.strands job.feeds (λ k d i. (tracks.woven.each k d i).took) on.feeds;
        kept = on.kept;
      })).order,
    );
  }

  -- what was begun within lines was begun within these and others
  pub begun-more : (start : List Entry) (olds : List (Reader S)) (news : List (Feed S)) (seen : List Posted) (lines more : List Line) →
      Begun t left faults place limit number job_number start olds news seen lines → Begun t left faults place limit number job_number start olds news seen (lines ++ more)
  begun-more start olds news seen lines more begun = record {
    strands = begun.strands;
    links = begun.links;
    starts = begun.starts;
    nows = begun.nows;
    each = begun.each;
    apart = begun.apart;
    linked = first-links-more begun.links.full limit seen (length (link_entries t job_number lines)) (length (link_entries t job_number (lines ++ more))) begun.links.count
        (let len = ap length (links-append t job_number lines more) ∙ length-append (link_entries t job_number lines) (link_entries t job_number more) in omega (arith, len)) begun.linked;
    count = begun.count;
    order = λ job on.
        prefix_trans (own_of number seen) (start ++ given_along t job [] lines) (start ++ given_along t job [] (lines ++ more)) (begun.order job on)
        (given_along t job lines more, append_assoc start (given_along t job [] lines) (given_along t job lines more) ∙ ap (λ (w : List Entry). start ++ w) (sym (given-append t job [] lines more)));
  }

  -- a job whose lines and rests were begun
  pub has-begun : (start : List Entry) (seen : List Posted) (task : Task S) (olds news : List (Feed S)) → task.number ≡ job_number → ReadOn t left faults place olds news →
      Begun t left faults place limit number job_number start task.feeds news seen ((task.lines ++ rests_of task.lines) ++ rests_by olds) → HasBegun t left faults place limit number start seen task (map back_of news)
  has-begun start seen task olds news is on begun =
      let all : List Line = (task.lines ++ rests_of task.lines) ++ rests_by olds in
      let ss : List (Strand S) = begun.strands in
      record {
        strands = ss;
        links = begun.links;
        starts = begun.starts;
        backs_are = sym (map-then (λ (s : Strand S). s.now) back_of ss) ∙ ap (map back_of) begun.nows;
        each = begun.each;
        linked = subst (λ (es : List Entry). TookFirstLinks begun.links.full limit seen (length es) begun.links.count)
            (links-all t job_number task.lines (rests_by olds) (rests-of-links t job_number olds) ∙ ap (λ (n : ℕ). link_entries t n task.lines) (sym is)) begun.linked;
        count = begun.count;
        order = λ job jo lines-are.
            let fs : List FeedRead = job.feeds in
            let same : rests_by olds ≡ map rest_line fs =
            rests-same t left faults place limit news ss olds on begun.nows ∙ rests-of-routers MayBecome (λ s f may. may.router) ss fs jo.feeds in
            subst (λ (es : List Entry). IsPrefix (own_of number seen) (start ++ es))
            (ap (λ ls. given_along t job [] ((task.lines ++ rests_of task.lines) ++ ls)) same
            ∙ ap (λ ls. given_along t job [] ((ls ++ rests_of ls) ++ map rest_line fs)) (sym lines-are) ∙ job-order t job (two-of MayBecome (λ s f may. may.router) ss fs jo.feeds begun.apart))
            (begun.order job (record { number = jo.number ∙ is; feeds = jo.feeds; kept = jo.kept }));
      }
