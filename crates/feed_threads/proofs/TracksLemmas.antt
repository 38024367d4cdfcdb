-- How what a job has taken and told goes on by a line.
use Rattle.std.proofs.Common.{◌≡◌, ℕ, suc, ◌+◌, ◌≤◌, Bool, true, false, ◌==◌, nat_lt, cond, if◌then◌else◌, List, [], ◌∷◌, ◌++◌, ◌<◌, length, length-append, take, get_or, All, Option, None, Some, refl, ap, sym, ◌∙◌, arith, subst, append_assoc}
use Rattle.std.specs.List.{AllZip, cons_option, flat_map, position, position_or_len}
use Rattle.std.specs.Option.{option_map}
use Rattle.std.specs.Prelude.{IsSome}
use Rattle.std.proofs.lemmas.List.{append-nil, length-map, map-append, take_all}
use Rattle.std.proofs.Math.Seq.{get_or-append_seam, take-append_seam}
use Rattle.std.proofs.lemmas.List.Elements.{All-nil, All-cons, All-same}
use Rattle.std.proofs.lemmas.List.Sums.{fold-append}
use Rattle.std.proofs.lemmas.List.Quantifiers.{position-Some}
use Rattle.std.proofs.lemmas.Bool.{eqb-true, ltb-false}
use mathlib.Core.List.{IsPrefix}
use Rattle.dn_formats.specs.Lawful.{Job, asked, asked_by, both_counts, front_of, given_along, kept_by, link_entries, link_entry, linked_by, position_after, taken, taken_by, takes}
use Rattle.feed_model.specs.Steps.{FrameStep, FeedRead, kept_of, entries_by}
use Rattle.dn_model.specs.Entry.{entries}
use Rattle.dn_model.specs.Lookup.{link_of}
use Rattle.base.specs.declared.ids.LinkId.{LinkId}
use Rattle.dn_model.specs.declared.entry.Entry.{Entry}
use Rattle.dn_model.specs.declared.entry.Entry.TheVariants as entry
use Rattle.dn_model.specs.declared.entry.Op.{Op}
use Rattle.dn_model.specs.declared.entry.Posted.{Posted}
use Rattle.base.specs.declared.ids.RouterId.{RouterId}
use Rattle.dn_model.specs.Query.{Question}
use Rattle.dn_formats.specs.declared.script.Line.{Line}
use Rattle.dn_formats.specs.declared.script.Line.TheVariants as line
use Rattle.dn_model.specs.declared.topology.Topology.{Topology}
use Rattle.feed_model.specs.declared.feed_told.FeedEnd.{FeedEnd}
use Rattle.dn_formats.specs.declared.told.LinkOutcome.{LinkOutcome}
use Rattle.dn_formats.specs.declared.told.LinkOutcome.TheVariants.{At, Full, UnknownLink}
use Rattle.dn_formats.specs.declared.told.Told.{Told}
use Rattle.dn_formats.specs.declared.told.Told.TheVariants.{Asked, Linked}
use Rattle.route_feed.specs.FeedReader.{Reader}
use Rattle.version_lock.specs.Callers.{Caller, Lock, posted_of}
use Rattle.version_lock.specs.History.{posted_by}
use Rattle.feed_threads.specs.Feeds.{Feed, end_of_feed, Stands}
use Rattle.feed_threads.specs.Places.{is_feed_of, TakesAt}
use Rattle.feed_threads.specs.Seats.{own_of}
use Rattle.feed_threads.specs.Takes.{IsCount, IsLater, TakesSome}
use Rattle.feed_threads.specs.Tells.{Adds, IsLinkOutcomeNow, IsOutcomeNow, TellsOwn}
use Rattle.feed_threads.specs.Tracks.{GoesOn, IsApartFrom, IsJobOn, Links, MayLink, Strand, TookLinks, Tracks, Whatever, Woven, last_position, taken_of_all}
use Rattle.feed_threads.proofs.GiveLemmas.{prefix-length, stands-later}
use Rattle.feed_threads.proofs.ListLemmas.{Parts, all-parts, all-joined, All-unmap, all-through, eqb-back, ZipParts, zip-parts}
use Rattle.feed_threads.proofs.OrderLemmas.{asked-push, gives, gives-taken, given-push, linked-none, linked-one, linked-past, links-push, links-same, none-taken, one-alone, taken_by-own}
use Rattle.feed_threads.proofs.StrandLemmas.{nows, grown, count-grown, Others, apart-others, woven-took, goes-back, go-back, Grows, grows}
use Rattle.feed_threads.proofs.TakeLemmas.{count-more}
use Rattle.feed_threads.proofs.TellLemmas.{entry-now, link-own, outcome-own, pin-now, tells-ask, tells-link, tells-take}

-- as many frames were taken as these lines ask for
abbrev pub Counted : {S : Type 0} → List Line → Strand S → Type 0
Counted before s = IsCount (asked s.now.reader.told.router before) (length s.steps) (end_of_feed s.now)

count-zero : (c : Option ℕ) (len : ℕ) (end : Option FeedEnd) → IsCount c len end → IsCount (both_counts c (Some 0)) len end
count-zero None len None is = is
count-zero None len (Some e) is = tt
count-zero (Some n) len None is = omega (arith, is)
count-zero (Some n) len (Some e) is = omega (arith, is)

-- the frames that are asked for are those that were taken, whatever comes later
front-taken : (c : Option ℕ) (steps later : List FrameStep) (end : Option FeedEnd) → IsCount c (length steps) end → IsLater end later → front_of c (steps ++ later) ≡ steps
front-taken None steps later None is late = absurd is
front-taken None steps later (Some e) is late = rw late (append-nil steps)
front-taken (Some n) steps later None is late = subst (λ m. take m (steps ++ later) ≡ steps) is (take-append_seam steps later)
front-taken (Some n) steps later (Some e) is late = rw (late, append-nil) (take_all n steps is)

-- what the history took of them is what it has of the feed so far
pub kept-is : {S : Type 0} (s : Strand S) (f : FeedRead) (lines : List Line) → GoesOn s f → Counted lines s → kept_by lines f ≡ s.ops
kept-is s f lines g is =
    let all : taken lines f ≡ s.steps =
    ap (λ r. front_of (asked r lines) f.steps) g.router ∙ ap (front_of (asked s.now.reader.told.router lines)) g.steps
    ∙ front-taken (asked s.now.reader.told.router lines) s.steps g.later (end_of_feed s.now) is g.none_after_end in
    ap (kept_of f) all ∙ g.kept

-- a line that names another router asks for none
pub counted-other : {S : Type 0} (before : List Line) (l : Line) (s : Strand S) → asked_by s.now.reader.told.router l ≡ Some 0 → Counted before s → Counted (before ++ l ∷ []) s
counted-other before l s none is =
    subst (λ (c : Option ℕ). IsCount c (length s.steps) (end_of_feed s.now)) (sym (asked-push s.now.reader.told.router before l ∙ ap (both_counts (asked s.now.reader.told.router before)) none))
    (count-zero (asked s.now.reader.told.router before) (length s.steps) (end_of_feed s.now) is)

-- a feed's router isn't the one that a line names
pub other-takes : {S : Type 0} (mid s : Strand S) (f : FeedRead) (l : ℕ) (r : RouterId) (count : Option ℕ) → (mid.now.reader.told.router.0 == r.0) ≡ true → IsApartFrom mid s → f.router ≡ s.now.reader.told.router →
    takes f.router (line.Take l r count) ≡ false
other-takes mid s f l r count this apart router =
    ap (λ q. r.0 == q.0) router ∙ ap (λ n. n == s.now.reader.told.router.0) (sym (eqb-true mid.now.reader.told.router.0 r.0 this)) ∙ apart.router

other-asked : {S : Type 0} (mid s : Strand S) (l : ℕ) (r : RouterId) (count : Option ℕ) → (mid.now.reader.told.router.0 == r.0) ≡ true → IsApartFrom mid s →
    asked_by s.now.reader.told.router (line.Take l r count) ≡ Some 0
other-asked mid s l r count this apart =
    let other : (r.0 == s.now.reader.told.router.0) ≡ false = ap (λ n. n == s.now.reader.told.router.0) (sym (eqb-true mid.now.reader.told.router.0 r.0 this)) ∙ apart.router in
    rw other refl

-- no feed is of this router where no place was found
cond-none : (b : Bool) (i : ℕ) → cond b (Some i) None ≡ None → b ≡ false
cond-none true i e = cc
cond-none false i e = refl

all-past-by : {X : Type 0} (p : X → Bool) (x : X) (xs : List X) (b : Bool) → p x ≡ b → (length xs ≤ position_or_len p xs → All (λ x. p x ≡ false) xs) →
    length (x ∷ xs) ≤ position_or_len p (x ∷ xs) → All (λ x. p x ≡ false) (x ∷ xs)
all-past-by p x xs true e rest le = let bad : suc (length xs) ≤ 0 = rw e at le in grind (arith, bad)
all-past-by p x xs false e rest le = let less : suc (length xs) ≤ 1 + position_or_len p xs = rw e at le in All-cons (λ x. p x ≡ false) x xs e (rest (omega (arith, less)))

all-past : {X : Type 0} (p : X → Bool) (xs : List X) → length xs ≤ position_or_len p xs → All (λ x. p x ≡ false) xs
all-past p [] le = All-nil (λ x. p x ≡ false)
all-past p (x ∷ xs) le = all-past-by p x xs (p x) refl (all-past p xs) le

pub none-found : {X : Type 0} (p : X → Bool) (xs : List X) → position p xs ≡ None → All (λ x. p x ≡ false) xs
none-found p xs none = all-past p xs (ltb-false (position_or_len p xs) (length xs) (cond-none (nat_lt (position_or_len p xs) (length xs)) (position_or_len p xs) none))

-- the feed at the place that was found is of this router
pub found-feed : {S : Type 0} (r : RouterId) (front : List (Strand S)) (mid : Strand S) (back : List (Strand S)) (news : List (Feed S)) (at : ℕ) →
    nows (front ++ mid ∷ back) ≡ news → length front ≡ at → position (is_feed_of r) news ≡ Some at → (mid.now.reader.told.router.0 == r.0) ≡ true
found-feed {S = S} r front mid back news at is place found =
    let there : get_or news at mid.now ≡ mid.now =
    ap (λ n. get_or news n mid.now) (sym place) ∙ ap (λ (rs : List (Feed S)). get_or rs (length front) mid.now) (sym is ∙ map-append (λ s. s.now) front (mid ∷ back))
    ∙ ap (λ n. get_or (nows front ++ mid.now ∷ nows back) n mid.now) (sym (length-map front (λ s. s.now))) ∙ get_or-append_seam (nows front) mid.now (nows back) mid.now in
    ap (λ (q : Feed S). q.reader.told.router.0 == r.0) (sym there) ∙ (position-Some (is_feed_of r) news at mid.now found).1

pub none-takes : {S : Type 0} (s : Strand S) (f : FeedRead) (l : ℕ) (r : RouterId) (count : Option ℕ) → (s.now.reader.told.router.0 == r.0) ≡ false → GoesOn s f → takes f.router (line.Take l r count) ≡ false
none-takes s f l r count other g = ap (λ q. r.0 == q.0) g.router ∙ eqb-back s.now.reader.told.router.0 r.0 other

-- ---- link lines

-- what was taken of link entries was taken where more is seen, and where a line makes none
pub took-links : (full : Bool) (limit : ℕ) (a b : List Posted) (all all' count : ℕ) → length a ≤ length b → all' ≡ all → TookLinks full limit a all count → TookLinks full limit b all' count
took-links false limit a b all all' count longer same took = omega (arith, took, same)
took-links true limit a b all all' count longer same took = (omega (arith, took.0, same), omega (arith, took.1, longer))

-- whether it was full at one
full-after : Bool → LinkOutcome → Bool
full-after full UnknownLink = full
full-after full (At p) = full
full-after full Full = true

count-after : ℕ → LinkOutcome → ℕ
count-after count UnknownLink = count
count-after count (At p) = suc count
count-after count Full = count

-- a history that has room was full at none
going-by : (full : Bool) (limit : ℕ) (a : List Posted) (all count : ℕ) → length a < limit → TookLinks full limit a all count → (full ≡ false) × (count ≡ all)
going-by false limit a all count room took = (refl, took)
going-by true limit a all count room took = absurd (let full : limit ≤ length a = took.1 in omega (arith, full, room))

-- where a link line met a full history no more than what was taken is
may-before : (full : Bool) (count kept : ℕ) → kept ≡ count → MayLink full count kept
may-before false count kept is = omega (arith, is)
may-before true count kept is = is

few-taken : (full : Bool) (limit : ℕ) (a : List Posted) (all count : ℕ) → TookLinks full limit a all count → count ≤ all
few-taken false limit a all count took = omega (arith, took)
few-taken true limit a all count took = (let less : count < all = took.0 in omega (arith, less))

module _ {S : Type 0} (t : Topology) (left : S → Option (List ℕ)) (faults place : S → ℕ) (limit number job_number : ℕ) where
  -- what the line took of the feed that it names
  counted-own : (a b : List Posted) (before : List Line) (mid : Strand S) (new : Feed S) (l : ℕ) (r : RouterId) (count : Option ℕ) →
      (mid.now.reader.told.router.0 == r.0) ≡ true → (x : TakesSome t left faults place limit number count mid.now new a b) → Counted before mid →
      Counted (before ++ line.Take l r count ∷ []) (grown mid new x.more x.adds.ops)
  counted-own a b before mid new l r count this x is =
      let q : RouterId = mid.now.reader.told.router in
      let own : (r.0 == q.0) ≡ true = ap (λ n. n == q.0) (sym (eqb-true q.0 r.0 this)) ∙ ap (λ n. q.0 == n) (eqb-true q.0 r.0 this) ∙ this in
      let by : asked_by q (line.Take l r count) ≡ count = rw own refl in
      let asked-now : asked new.reader.told.router (before ++ line.Take l r count ∷ []) ≡ both_counts (asked q before) count =
      ap (λ z. asked z (before ++ line.Take l r count ∷ [])) x.adds.router ∙ asked-push q before (line.Take l r count) ∙ ap (both_counts (asked q before)) by in
      subst (λ (c : Option ℕ). IsCount c (length (mid.steps ++ x.more)) (end_of_feed new)) (sym asked-now)
      (count-more (asked q before) count mid.steps x.more (end_of_feed mid.now) (end_of_feed new) is x.counted x.adds.later (λ e is. ap end_of_feed (x.adds.ended e is).0 ∙ is))

  -- ---- a line that takes frames of a feed

  -- the line gives what the history took of the feed's frames, whatever the job comes to
  took-order : (start : List Entry) (a b : List Posted) (before : List Line) (front : List (Strand S)) (mid : Strand S) (back : List (Strand S)) (new : Feed S) (l : ℕ) (r : RouterId) (count : Option ℕ) (job : Job) →
      (mid.now.reader.told.router.0 == r.0) ≡ true → (x : TakesSome t left faults place limit number count mid.now new a b) → Stands t left faults place limit a mid.start mid.now mid.steps mid.ops →
      Counted before mid → Others front mid back → AllZip GoesOn (front ++ grown mid new x.more x.adds.ops ∷ back) job.feeds →
      own_of number a ≡ start ++ given_along t job [] before → own_of number b ≡ start ++ given_along t job [] (before ++ line.Take l r count ∷ [])
  took-order start a b before front mid back new l r count job this x st counted others zip order =
      let y : Line = line.Take l r count in
      let fs : List FeedRead = job.feeds in
      let ops : List (RouterId × Op) = x.adds.ops in
      let es : List Entry = entries_by mid.now.reader.told.feed_no ops in
      let z : ZipParts GoesOn front (grown mid new x.more ops) back fs = zip-parts GoesOn front (grown mid new x.more ops) back fs zip in
      let g : GoesOn mid z.y = goes-back t left faults place limit number mid new a b x.more z.y x.adds st z.mid_zip in
      let own : taken_by before y z.y ≡ es =
      taken_by-own before y z.y mid.ops ops (kept-is mid z.y before g counted)
      (kept-is (grown mid new x.more ops) z.y (before ++ y ∷ []) z.mid_zip (counted-own a b before mid new l r count this x counted))
      ∙ ap (λ n. entries_by n ops) g.feed_no in
      let alone : flat_map (taken_by before y) (z.front_ys ++ z.y ∷ z.back_ys) ≡ es =
      one-alone (taken_by before y) z.front_ys z.y z.back_ys es
      (none-taken before y z.front_ys (all-through GoesOn (IsApartFrom mid) (λ f. takes f.router y ≡ false) front z.front_ys (λ s f g p. other-takes mid s f l r count this p g.router) z.front_zip others.in_front))
      own
      (none-taken before y z.back_ys (all-through GoesOn (IsApartFrom mid) (λ f. takes f.router y ≡ false) back z.back_ys (λ s f g p. other-takes mid s f l r count this p g.router) z.back_zip others.in_back)) in
      let given : gives t job before y ≡ es = gives-taken t job before y refl ∙ ap (flat_map (taken_by before y)) z.whole ∙ alone in
      x.adds.grows ∙ ap (λ w. w ++ es) order ∙ append_assoc start (given_along t job [] before) es
      ∙ ap (λ w. start ++ w) (ap (λ w. given_along t job [] before ++ w) (sym given) ∙ sym (given-push t job [] before y))

  -- what was told stays told where more is seen
  tells-on : (a b later : List Posted) (start : List Entry) (job : Job) (before : List Line) (tolds : List Told) (begins : IsPrefix a b) → Whatever t limit number start a before tolds job →
      TellsOwn t limit (b ++ later) number start job [] 0 before tolds
  tells-on a b later start job before tolds begins w =
      subst (λ (h : List Posted). TellsOwn t limit h number start job [] 0 before tolds) (sym (append_assoc a begins.0 later) ∙ ap (λ h. h ++ later) begins.1) (w.tells (begins.0 ++ later))

  tracks-grown : (start : List Entry) (olds : List (Reader S)) (news news' : List (Feed S)) (a b : List Posted) (before : List Line) (tolds : List Told) (links : Links)
      (front : List (Strand S)) (mid : Strand S) (back : List (Strand S)) (new : Feed S) (l : ℕ) (r : RouterId) (count : Option ℕ) → IsPrefix a b →
      (mid.now.reader.told.router.0 == r.0) ≡ true → news' ≡ nows front ++ new ∷ nows back → TakesSome t left faults place limit number count mid.now new a b →
      Woven t left faults place limit olds news a (front ++ mid ∷ back) → All (Counted before) (front ++ mid ∷ back) → TookLinks links.full limit a (length (link_entries t job_number before)) links.count →
      last_position tolds ≤ length a → length (own_of number a) ≡ length start + (taken_of_all (front ++ mid ∷ back) + links.count) →
      ((job : Job) → IsJobOn GoesOn job_number (front ++ mid ∷ back) links job → Whatever t limit number start a before tolds job) →
      Tracks t left faults place limit number job_number start olds news' b (before ++ line.Take l r count ∷ []) tolds
  tracks-grown start olds news news' a b before tolds links front mid back new l r count begins this news-are x w counted linked pinned count-before whatever =
      let y : Line = line.Take l r count in
      let s' : Strand S = grown mid new x.more x.adds.ops in
      let P : Strand S → Type 0 = λ s. Stands t left faults place limit a s.start s.now s.steps s.ops in
      let st : P mid = (all-parts P front mid back w.each).mid_is in
      let others : Others front mid back = apart-others front mid back w.apart in
      let parts : Parts (Counted before) front mid back = all-parts (Counted before) front mid back counted in
      let longer : length a ≤ length b = prefix-length a b begins in
      record {
        strands = front ++ s' ∷ back;
        links = links;
        woven = woven-took t left faults place limit number olds news news' a b front mid back new x.more begins news-are x.adds w;
        counted = all-joined (Counted (before ++ y ∷ [])) front s' back
            (λ k d i. counted-other before y (get_or front k d) (other-asked mid (get_or front k d) l r count this (others.in_front k d i)) (parts.front_all k d i))
            (counted-own a b before mid new l r count this x parts.mid_is)
            (λ k d i. counted-other before y (get_or back k d) (other-asked mid (get_or back k d) l r count this (others.in_back k d i)) (parts.back_all k d i));
        linked = took-links links.full limit a b (length (link_entries t job_number before)) (length (link_entries t job_number (before ++ y ∷ []))) links.count longer (ap length (links-same t job_number before y refl)) linked;
        pinned = omega (arith, longer, pinned);
        count = count-grown front mid s' back (own_of number a) (own_of number b) start mid.now.reader.told.feed_no x.adds.ops links.count refl x.adds.grows count-before;
        whatever = λ job on.
            let back-zip : AllZip GoesOn (front ++ mid ∷ back) job.feeds = go-back t left faults place limit number front mid back new a b x.more job.feeds x.adds st on.feeds in
            let v : Whatever t limit number start a before tolds job = whatever job (record { number = on.number; feeds = back-zip; kept = on.kept }) in
            record {
              order = took-order start a b before front mid back new l r count job this x st parts.mid_is others on.feeds v.order;
              tells = λ later. tells-take t limit (b ++ later) number start job [] 0 before tolds l r count (tells-on a b later start job before tolds begins v);
            };
      }

  tracks-same : (start : List Entry) (olds : List (Reader S)) (news : List (Feed S)) (a : List Posted) (before : List Line) (tolds : List Told) (l : ℕ) (r : RouterId) (count : Option ℕ) → All (λ x. is_feed_of r x ≡ false) news →
      Tracks t left faults place limit number job_number start olds news a before tolds → Tracks t left faults place limit number job_number start olds news a (before ++ line.Take l r count ∷ []) tolds
  tracks-same start olds news a before tolds l r count others tracks =
      let y : Line = line.Take l r count in
      let apart : All (λ s. is_feed_of r s.now ≡ false) tracks.strands =
      All-unmap (λ x. is_feed_of r x ≡ false) (λ s. s.now) tracks.strands (All-same (λ x. is_feed_of r x ≡ false) (nows tracks.strands) news tracks.woven.nows others) in
      record {
        strands = tracks.strands;
        links = tracks.links;
        woven = tracks.woven;
        counted = λ k d i. counted-other before y (get_or tracks.strands k d) (ap (λ b. if b then count else Some 0) (eqb-back (get_or tracks.strands k d).now.reader.told.router.0 r.0 (apart k d i))) (tracks.counted k d i);
        linked = took-links tracks.links.full limit a a (length (link_entries t job_number before)) (length (link_entries t job_number (before ++ y ∷ []))) tracks.links.count (omega arith) (ap length (links-same t job_number before y refl)) tracks.linked;
        pinned = tracks.pinned;
        count = tracks.count;
        whatever = λ job on.
            let w : Whatever t limit number start a before tolds job = tracks.whatever job on in
            let none : gives t job before y ≡ [] =
            gives-taken t job before y refl ∙ none-taken before y job.feeds (all-through GoesOn (λ s. is_feed_of r s.now ≡ false) (λ f. takes f.router y ≡ false) tracks.strands job.feeds (λ s f g p. none-takes s f l r count p g) on.feeds apart) in
            record {
              order = w.order ∙ ap (λ z. start ++ z) (sym (append-nil (given_along t job [] before)) ∙ ap (λ z. given_along t job [] before ++ z) (sym none) ∙ sym (given-push t job [] before y));
              tells = λ later. tells-take t limit (a ++ later) number start job [] 0 before tolds l r count (w.tells later);
            };
      }

  pub tracks-at : (start : List Entry) (olds : List (Reader S)) (news news' : List (Feed S)) (a b : List Posted) (before : List Line) (tolds : List Told) (l : ℕ) (r : RouterId) (count at : Option ℕ) → IsPrefix a b →
      position (is_feed_of r) news ≡ at → TakesAt t left faults place limit number at count news news' a b →
      Tracks t left faults place limit number job_number start olds news a before tolds → Tracks t left faults place limit number job_number start olds news' b (before ++ line.Take l r count ∷ []) tolds
  tracks-at start olds news news' a b before tolds l r count None begins found x tracks =
      subst (λ (fs : List (Feed S)). Tracks t left faults place limit number job_number start olds fs b (before ++ line.Take l r count ∷ []) tolds) (sym x.0)
      (subst (λ (h : List Posted). Tracks t left faults place limit number job_number start olds news h (before ++ line.Take l r count ∷ []) tolds) (sym x.1)
      (tracks-same start olds news a before tolds l r count (none-found (is_feed_of r) news found) tracks))
  tracks-at start olds news news' a b before tolds l r count (Some at) begins found x tracks =
      let g : Grows t left faults place limit number at count tracks.strands news' a b = grows t left faults place limit number at count tracks.strands news news' a b tracks.woven.nows x in
      let w : Woven t left faults place limit olds news a (g.front ++ g.mid ∷ g.back) = subst (λ (ss : List (Strand S)). Woven t left faults place limit olds news a ss) g.whole tracks.woven in
      tracks-grown start olds news news' a b before tolds tracks.links g.front g.mid g.back g.new l r count begins
      (found-feed r g.front g.mid g.back news at w.nows g.place_is found) g.news_are g.step w
      (subst (λ (ss : List (Strand S)). All (Counted before) ss) g.whole tracks.counted) tracks.linked tracks.pinned
      (subst (λ (ss : List (Strand S)). length (own_of number a) ≡ length start + (taken_of_all ss + tracks.links.count)) g.whole tracks.count)
      (subst (λ (ss : List (Strand S)). (job : Job) → IsJobOn GoesOn job_number ss tracks.links job → Whatever t limit number start a before tolds job) g.whole tracks.whatever)

  -- ---- a line that takes nothing

  woven-later : (olds : List (Reader S)) (news : List (Feed S)) (a b : List Posted) (ss : List (Strand S)) → IsPrefix a b → Woven t left faults place limit olds news a ss → Woven t left faults place limit olds news b ss
  woven-later olds news a b ss begins w = record {
    starts = w.starts;
    nows = w.nows;
    each = λ k d i. stands-later t left faults place limit a b (get_or ss k d).start (get_or ss k d).now (get_or ss k d).steps (get_or ss k d).ops begins (w.each k d i);
    passes = w.passes;
    apart = w.apart;
  }

  -- more is seen, and none of it is the seat's own
  pub tracks-looks : (start : List Entry) (olds : List (Reader S)) (news : List (Feed S)) (a b : List Posted) (before : List Line) (tolds : List Told) → IsPrefix a b → own_of number b ≡ own_of number a →
      Tracks t left faults place limit number job_number start olds news a before tolds → Tracks t left faults place limit number job_number start olds news b before tolds
  tracks-looks start olds news a b before tolds begins same tracks =
      let longer : length a ≤ length b = prefix-length a b begins in
      record {
        strands = tracks.strands;
        links = tracks.links;
        woven = woven-later olds news a b tracks.strands begins tracks.woven;
        counted = tracks.counted;
        linked = took-links tracks.links.full limit a b (length (link_entries t job_number before)) (length (link_entries t job_number before)) tracks.links.count longer refl tracks.linked;
        pinned = (let within : last_position tolds ≤ length a = tracks.pinned in omega (arith, longer, within));
        count = ap length same ∙ tracks.count;
        whatever = λ job on.
            let v : Whatever t limit number start a before tolds job = tracks.whatever job on in
            record { order = same ∙ v.order; tells = λ later. tells-on a b later start job before tolds begins v };
      }

  -- what was seen since the last line bears other numbers, and then the query was answered over all that is seen
  pub tracks-ask : (start : List Entry) (olds : List (Reader S)) (news : List (Feed S)) (a b : List Posted) (before : List Line) (tolds tolds' : List Told) (l : ℕ) (q : Question) → IsPrefix a b → own_of number b ≡ own_of number a →
      Adds tolds tolds' l q (IsOutcomeNow t b q) →
      Tracks t left faults place limit number job_number start olds news a before tolds → Tracks t left faults place limit number job_number start olds news b (before ++ line.Ask l q ∷ []) tolds'
  tracks-ask start olds news a b before tolds tolds' l q begins same adds tracks =
      let y : Line = line.Ask l q in
      let x : Told = Asked l q adds.outcome in
      let longer : length a ≤ length b = prefix-length a b begins in
      let below : last_position tolds ≤ length b = omega (arith, longer, tracks.pinned) in
      record {
        strands = tracks.strands;
        links = tracks.links;
        woven = woven-later olds news a b tracks.strands begins tracks.woven;
        counted = λ k d i. counted-other before y (get_or tracks.strands k d) refl (tracks.counted k d i);
        linked = took-links tracks.links.full limit a b (length (link_entries t job_number before)) (length (link_entries t job_number (before ++ y ∷ []))) tracks.links.count longer (ap length (links-same t job_number before y refl)) tracks.linked;
        pinned = subst (λ (xs : List Told). last_position xs ≤ length b) (sym adds.added)
            (subst (λ (n : ℕ). n ≤ length b) (sym (fold-append position_after 0 tolds (x ∷ []))) (pin-now t b (last_position tolds) q adds.outcome adds.good below));
        count = ap length same ∙ tracks.count;
        whatever = λ job on.
            let v : Whatever t limit number start a before tolds job = tracks.whatever job on in
            let order : own_of number b ≡ start ++ given_along t job [] before = same ∙ v.order in
            let none : gives t job before y ≡ [] = gives-taken t job before y refl ∙ none-taken before y job.feeds (λ k d i. refl) in
            record {
              order = order ∙ ap (λ z. start ++ z) (sym (append-nil (given_along t job [] before)) ∙ ap (λ z. given_along t job [] before ++ z) (sym none) ∙ sym (given-push t job [] before y));
              tells = λ later.
                  subst (λ (xs : List Told). TellsOwn t limit (b ++ later) number start job [] 0 (before ++ y ∷ []) xs) (sym adds.added)
                  (tells-ask t limit (b ++ later) number start job [] 0 before tolds l q adds.outcome
                  (outcome-own t limit b later number start job before (last_position tolds) q adds.outcome adds.good below order)
                  (tells-on a b later start job before tolds begins v));
            };
      }

-- ---- a link line

-- its entry, if it made one, is what the line gives of links
linked-after : (t : Topology) (job : Job) (before : List Line) (l : ℕ) (name : List ℕ) (down : Bool) (link : LinkId) → link_of t name ≡ Some link →
    length (link_entries t job.number before) < job.kept_links → gives t job before (line.Link l name down) ≡ entry.Link job.number link down ∷ []
linked-after t job before l name down link named room =
    let y : Line = line.Link l name down in
    let made : link_entry t job.number y ≡ Some (entry.Link job.number link down) = ap (option_map (λ (id : LinkId). entry.Link job.number id down)) named in
    ap (λ es. es ++ linked_by t job before y) (none-taken before y job.feeds (λ k d i. refl)) ∙ linked-one t job before y (entry.Link job.number link down) made room

gives-links : (t : Topology) (job : Job) (before : List Line) (l : ℕ) (name : List ℕ) (down : Bool) → linked_by t job before (line.Link l name down) ≡ [] → gives t job before (line.Link l name down) ≡ []
gives-links t job before l name down none =
    let y : Line = line.Link l name down in
    ap (λ es. es ++ linked_by t job before y) (none-taken before y job.feeds (λ k d i. refl)) ∙ none

some-made : (t : Topology) (n : ℕ) (l : ℕ) (name : List ℕ) (down : Bool) (before : List Line) → IsSome (link_of t name) → length (link_entries t n (before ++ line.Link l name down ∷ [])) ≡ length (link_entries t n before) + 1
some-made t n l name down before some = made (link_of t name) refl some
  where
    made : (o : Option LinkId) → link_of t name ≡ o → IsSome o → length (link_entries t n (before ++ line.Link l name down ∷ [])) ≡ length (link_entries t n before) + 1
    made None is none = absurd (let no : false ≡ true = none in cc (no))
    made (Some link) is there =
        ap length (links-push t n before (line.Link l name down) ∙ ap (λ (o : Option LinkId). link_entries t n before ++ cons_option (option_map (λ (id : LinkId). entry.Link n id down) o) []) is)
        ∙ length-append (link_entries t n before) (entry.Link n link down ∷ [])

module _ {S : Type 0} (lock : Lock) (left : S → Option (List ℕ)) (faults place : S → ℕ) (old new : Caller) (number : ℕ) where
  -- what the seat's entries are after the line, by what became of it
  record After (before : List Line) (links : Links) (l : ℕ) (name : List ℕ) (down : Bool) (o : LinkOutcome) : Type 0 where
    linked : TookLinks (full-after links.full o) lock.setup.basis.limit new.seen (length (link_entries lock.setup.basis.topology number (before ++ line.Link l name down ∷ []))) (count-after links.count o)
    grows : length (own_of old.number new.seen) + links.count ≡ length (own_of old.number old.seen) + count-after links.count o
    kept : (kept : ℕ) → MayLink (full-after links.full o) (count-after links.count o) kept → MayLink links.full links.count kept
    few : (kept : ℕ) → MayLink (full-after links.full o) (count-after links.count o) kept → o ≡ Full → kept ≤ length (link_entries lock.setup.basis.topology number before)
    gave : (job : Job) → job.number ≡ number → MayLink (full-after links.full o) (count-after links.count o) job.kept_links →
        own_of old.number new.seen ≡ own_of old.number old.seen ++ gives lock.setup.basis.topology job before (line.Link l name down)

  after : (before : List Line) (links : Links) (l : ℕ) (name : List ℕ) (down : Bool) (o : LinkOutcome) → IsPrefix old.seen new.seen →
      TookLinks links.full lock.setup.basis.limit old.seen (length (link_entries lock.setup.basis.topology number before)) links.count →
      IsLinkOutcomeNow lock number name down old new o → After before links l name down o
  unfolding full-after count-after
  after before links l name down UnknownLink begins linked is =
      let t : Topology = lock.setup.basis.topology in
      let y : Line = line.Link l name down in
      let none : (n : ℕ) → link_entry t n y ≡ None = λ n. ap (option_map (λ (id : LinkId). entry.Link n id down)) is.0 in
      record {
        linked = took-links links.full lock.setup.basis.limit old.seen new.seen (length (link_entries t number before)) (length (link_entries t number (before ++ y ∷ []))) links.count
            (prefix-length old.seen new.seen begins) (ap length (links-same t number before y (none number))) linked;
        grows = ap (λ (es : List Entry). length es + links.count) is.1;
        kept = λ kept may. may;
        few = λ kept may e. absurd (cc (e));
        gave = λ job same may.
            is.1 ∙ sym (append-nil (own_of old.number old.seen))
            ∙ ap (λ es. own_of old.number old.seen ++ es) (sym (gives-links t job before l name down (linked-none t job before y (none job.number))));
      }
  after before links l name down Full begins linked is =
      let t : Topology = lock.setup.basis.topology in
      let few-now : links.count ≤ length (link_entries t number before) = few-taken links.full lock.setup.basis.limit old.seen (length (link_entries t number before)) links.count linked in
      let made : length (link_entries t number (before ++ line.Link l name down ∷ [])) ≡ length (link_entries t number before) + 1 = some-made t number l name down before is.0 in
      record {
        linked = (omega (arith, few-now, made), is.2);
        grows = ap (λ (es : List Entry). length es + links.count) is.1;
        kept = λ kept may. may-before links.full links.count kept may;
        few = λ kept may e. (let here : kept ≡ links.count = may in omega (arith, here, few-now));
        gave = λ job same may.
            is.1 ∙ sym (append-nil (own_of old.number old.seen))
            ∙ ap (λ es. own_of old.number old.seen ++ es)
            (sym (gives-links t job before l name down
            (linked-past t job before (line.Link l name down)
            (let here : job.kept_links ≡ links.count = may in
            let len : length (link_entries t job.number before) ≡ length (link_entries t number before) = ap (λ (n : ℕ). length (link_entries t n before)) same in
            omega (arith, here, few-now, len)))));
      }
  after before links l name down (At p) begins linked is =
      let t : Topology = lock.setup.basis.topology in
      let a = is.applied in
      let e : Entry = entry.Link number is.link down in
      let x : Posted = posted_of old e in
      let longer : length a.before ≡ length old.seen + length a.begins.0 = ap length (sym a.begins.1) ∙ length-append old.seen a.begins.0 in
      let len : length new.seen ≡ length a.before + 1 = ap length a.ends ∙ length-append a.before (x ∷ []) in
      let here : p ≡ length new.seen = a.number in
      let room : p ≤ lock.setup.basis.limit = a.room in
      let going : (links.full ≡ false) × (links.count ≡ length (link_entries t number before)) =
      going-by links.full lock.setup.basis.limit old.seen (length (link_entries t number before)) links.count (omega (arith, longer, len, here, room)) linked in
      let some : IsSome (link_of t name) = subst (λ (o : Option LinkId). IsSome o) (sym is.named) refl in
      let made : length (link_entries t number (before ++ line.Link l name down ∷ [])) ≡ length (link_entries t number before) + 1 = some-made t number l name down before some in
      let own : own_of old.number new.seen ≡ own_of old.number old.seen ++ e ∷ [] =
      ap entries a.own ∙ map-append (λ (q : Posted). q.entry) (posted_by old.number old.seen) (x ∷ []) in
      record {
        linked = subst (λ (b : Bool). TookLinks b lock.setup.basis.limit new.seen (length (link_entries t number (before ++ line.Link l name down ∷ []))) (suc links.count)) (sym going.0) (omega (arith, made, going.1));
        grows = (let more : length (own_of old.number new.seen) ≡ length (own_of old.number old.seen) + 1 = ap length own ∙ length-append (own_of old.number old.seen) (e ∷ []) in omega (arith, more));
        kept = λ kept may.
            (let enough : suc links.count ≤ kept = subst (λ (b : Bool). MayLink b (suc links.count) kept) going.0 may in
            subst (λ (b : Bool). MayLink b links.count kept) (sym going.0) (omega (arith, enough)));
        few = λ kept may e. absurd (cc (e));
        gave = λ job same may.
            (let enough : suc links.count ≤ job.kept_links = subst (λ (b : Bool). MayLink b (suc links.count) job.kept_links) going.0 may in
            let all : length (link_entries t job.number before) ≡ length (link_entries t number before) = ap (λ (n : ℕ). length (link_entries t n before)) same in
            own ∙ ap (λ es. own_of old.number old.seen ++ es)
            (ap (λ (n : ℕ). entry.Link n is.link down ∷ []) (sym same)
            ∙ sym (linked-after t job before l name down is.link is.named (omega (arith, enough, all, going.1)))));
      }

  -- a link line was done: its entry is there, or the history was full, or there is no such link
  pub tracks-link : (start : List Entry) (olds : List (Reader S)) (news : List (Feed S)) (before : List Line) (tolds : List Told) (l : ℕ) (name : List ℕ) (down : Bool) (o : LinkOutcome) →
      IsPrefix old.seen new.seen → IsLinkOutcomeNow lock number name down old new o →
      Tracks lock.setup.basis.topology left faults place lock.setup.basis.limit old.number number start olds news old.seen before tolds →
      Tracks lock.setup.basis.topology left faults place lock.setup.basis.limit old.number number start olds news new.seen (before ++ line.Link l name down ∷ []) (tolds ++ Linked l name down o ∷ [])
  tracks-link start olds news before tolds l name down o begins is tracks =
      let t : Topology = lock.setup.basis.topology in
      let limit : ℕ = lock.setup.basis.limit in
      let k : ℕ = old.number in
      let y : Line = line.Link l name down in
      let x : Told = Linked l name down o in
      let links' : Links = record { count = count-after tracks.links.count o; full = full-after tracks.links.full o } in
      let w : After before tracks.links l name down o = after before tracks.links l name down o begins tracks.linked is in
      let grows : length (own_of k new.seen) + tracks.links.count ≡ length (own_of k old.seen) + count-after tracks.links.count o = w.grows in
      let counts : length (own_of k old.seen) ≡ length start + (taken_of_all tracks.strands + tracks.links.count) = tracks.count in
      record {
        strands = tracks.strands;
        links = links';
        woven = woven-later t left faults place limit k number olds news old.seen new.seen tracks.strands begins tracks.woven;
        counted = λ i d less. counted-other before y (get_or tracks.strands i d) refl (tracks.counted i d less);
        linked = w.linked;
        pinned = subst (λ (n : ℕ). n ≤ length new.seen) (sym (fold-append position_after 0 tolds (x ∷ [])))
            (entry-now lock old new number (last_position tolds) name down o begins is tracks.pinned);
        count = omega (arith, grows, counts);
        whatever = λ job on.
            let v : Whatever t limit k start old.seen before tolds job = tracks.whatever job (record { number = on.number; feeds = on.feeds; kept = w.kept job.kept_links on.kept }) in
            record {
              order = w.gave job on.number on.kept ∙ ap (λ es. es ++ gives t job before y) v.order ∙ append_assoc start (given_along t job [] before) (gives t job before y)
                  ∙ ap (λ es. start ++ es) (sym (given-push t job [] before y));
              tells = λ later.
                  tells-link t limit (new.seen ++ later) k start job [] 0 before tolds l name down o
                  (link-own lock old new later start job number before (last_position tolds) name down o on.number begins is tracks.pinned v.order
                  (λ full. (let few : job.kept_links ≤ length (link_entries t number before) = w.few job.kept_links on.kept full in
                  subst (λ (n : ℕ). job.kept_links ≤ length (link_entries t n before)) (sym on.number) few)))
                  (tells-on t left faults place limit k number old.seen new.seen later start job before tolds begins v);
            };
      }
