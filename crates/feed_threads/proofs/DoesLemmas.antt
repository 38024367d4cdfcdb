-- What one call does of a job's lines, and then another.
use Rattle.std.proofs.Common.{◌≡◌, ℕ, zero, suc, ◌+◌, get_or, set, take, arith, ◌<◌, Bool, Result, Ok, Err, OnOk, IsErr, is_err, All, List, [], ◌∷◌, ◌++◌, length, map, Option, None, Some, refl, ap, sym, ◌∙◌, subst, append_assoc}
use Rattle.std.specs.Global.{Vec}
use Rattle.std.specs.List.{position}
use Rattle.std.proofs.lemmas.Grind.{flat_map-append}
use Rattle.std.proofs.lemmas.List.{append-nil}
use Rattle.std.proofs.lemmas.List.Elements.{All-cons, All-head, All-map, All-tail}
use Rattle.dn_formats.specs.declared.script.Line.{Line}
use Rattle.dn_formats.specs.declared.script.Line.TheVariants as line
use Rattle.feed_model.specs.declared.feed_told.FeedTold.{FeedTold}
use Rattle.dn_formats.specs.declared.told.Outcome.{Outcome}
use Rattle.dn_formats.specs.declared.told.LinkOutcome.{LinkOutcome}
use Rattle.dn_formats.specs.declared.told.Told.{Told}
use Rattle.dn_formats.specs.declared.told.Told.TheVariants.{Asked, Linked}
use Rattle.dn_model.specs.Query.{Question}
use Rattle.dn_model.specs.declared.entry.Entry.{Entry}
use Rattle.dn_model.specs.declared.entry.Posted.{Posted}
use Rattle.base.specs.declared.ids.RouterId.{RouterId}
use Rattle.dn_model.specs.declared.topology.Topology.{Topology}
use Rattle.route_feed.specs.FeedReader.{Reader}
use Rattle.fast_pins.specs.Known.{Known}
use Rattle.version_lock.proofs.Histories.{prefix_self}
use Rattle.version_lock.specs.Callers.{Caller, IsSeatOf, Lock}
use Rattle.feed_threads.specs.Feeds.{Feed}
use Rattle.feed_threads.specs.Jobs.{Task, IsFresh, unread, back_of, HasRunUnless, Ends}
use Rattle.feed_threads.specs.Places.{is_feed_of, HaveRouters, ReadOn}
use Rattle.feed_threads.specs.Runs.{IsReady, RanJob}
use Rattle.feed_threads.specs.Seats.{own_of, LooksOn, SawMore}
use Rattle.feed_threads.specs.Shown.{IsShown, ShowsOn}
use Rattle.feed_threads.specs.Takes.{Takes}
use Rattle.feed_threads.specs.Tells.{Adds, IsLinkOutcomeNow, IsOutcomeNow, TellsOwnFront}
use Rattle.feed_threads.specs.Tracks.{rest_of, rests_of, rest_by, rests_by}
use Rattle.feed_threads.specs.Works.{Work, IsAtWork, WorksOn, HasDone, HasBegun, Does, Breaks, TellsFrontOf, Works, TookAt}
use Rattle.feed_threads.proofs.BegunLemmas.{begun-at, begun-still, begun-more, has-begun}
use Rattle.feed_threads.proofs.EndLemmas.{map-then, front-of, tracks-start, has-run, backs-are}
use Rattle.feed_threads.proofs.PlaceLemmas.{failed-at, read-at, read-none, took-at}
use Rattle.feed_threads.proofs.SeatLemmas.{saw-none, saw-number, saw-more, saw-seat}
use Rattle.feed_threads.proofs.ShownLemmas.{shows-more, shows-none, shows-still}
use Rattle.feed_threads.proofs.StepLemmas.{reads-more}
use Rattle.feed_threads.proofs.TracksLemmas.{tracks-ask, tracks-at, tracks-link, tracks-looks}

-- ---- all feeds read on

pub read-more : {S : Type 0} (t : Topology) (left : S → Option (List ℕ)) (faults place : S → ℕ) (a b c : List (Feed S)) → ReadOn t left faults place a b → ReadOn t left faults place b c → ReadOn t left faults place a c
read-more t left faults place [] [] [] x y = tt
read-more t left faults place [] [] (f ∷ c) x y = absurd y
read-more t left faults place [] (f ∷ b) c x y = absurd x
read-more t left faults place (f ∷ a) [] c x y = absurd x
read-more t left faults place (f ∷ a) (g ∷ b) [] x y = absurd y
read-more t left faults place (f ∷ a) (g ∷ b) (h ∷ c) x y =
    (reads-more t left faults place f.reader g.reader h.reader x.0 y.0, read-more t left faults place a b c x.1 y.1)

-- the rests of feeds that have read on are those that they were
pub rests-alike : {S : Type 0} (t : Topology) (left : S → Option (List ℕ)) (faults place : S → ℕ) (olds news : List (Feed S)) → ReadOn t left faults place olds news → rests_by olds ≡ rests_by news
rests-alike t left faults place [] [] on = refl
rests-alike t left faults place [] (n ∷ news) on = absurd on
rests-alike t left faults place (o ∷ olds) [] on = absurd on
rests-alike t left faults place (o ∷ olds) (n ∷ news) on =
    ap (λ (q : RouterId). line.Take 0 q None ∷ rests_by olds) (sym on.0.router) ∙ ap (λ ls. line.Take 0 n.reader.told.router None ∷ ls) (rests-alike t left faults place olds news on.1)

-- ---- a job's feeds before it begins

pub feeds-unread : {S : Type 0} (feeds : List (Feed S)) → feeds ≡ map (λ (f : Feed S). unread f.reader) feeds → feeds ≡ map unread (map (λ (f : Feed S). f.reader) feeds)
feeds-unread {S = S} feeds are = are ∙ sym (map-then (λ (f : Feed S). f.reader) unread feeds)

pub routers-fresh : {S : Type 0} (t : Topology) (faults : S → ℕ) (readers : List (Reader S)) (feeds : List (Feed S)) → feeds ≡ map unread readers → All (IsFresh t faults) readers → HaveRouters t feeds
routers-fresh {S = S} t faults readers feeds are fresh =
    subst (λ (fs : List (Feed S)). HaveRouters t fs) (sym are) (All-map (λ (f : Feed S). f.reader.told.router.0 < length t.routers) unread readers (λ k d i. (fresh k d i).router))

-- ---- rests of feeds, line by line

pub rests-push : (before more : List Line) (l : Line) → more ≡ before ++ l ∷ [] → rests_of more ≡ rests_of before ++ rest_of l
rests-push before more l is = ap rests_of is ∙ flat_map-append rest_of before (l ∷ []) ∙ ap (λ ls. rests_of before ++ ls) (append-nil (rest_of l))

pub rests-split : (all xs ys : List Line) → all ≡ xs ++ ys → rests_of all ≡ rests_of xs ++ rests_of ys
rests-split all xs ys is = ap rests_of is ∙ flat_map-append rest_of xs ys

rests-here : {S : Type 0} (feeds : List (Feed S)) (i : ℕ) (v : Feed S) → i < length feeds → take (suc i) (rests_by feeds) ≡ take i (rests_by feeds) ++ rest_by (get_or feeds i v) ∷ []
rests-here [] i v less = grind (arith, less)
rests-here (f ∷ feeds) zero v less = refl
rests-here (f ∷ feeds) (suc i) v less = ap (λ ls. rest_by f ∷ ls) (rests-here feeds i v (omega (arith, less)))

-- the feed at a place is of the router that it was
pub rests-at : {S : Type 0} (t : Topology) (left : S → Option (List ℕ)) (faults place : S → ℕ) (olds feeds : List (Feed S)) (i : ℕ) (v : Feed S) → ReadOn t left faults place olds feeds → i < length feeds → v ≡ get_or feeds i v →
    (r : RouterId) → r ≡ v.reader.told.router → take (i + 1) (rests_by olds) ≡ take i (rests_by olds) ++ line.Take 0 r None ∷ []
rests-at {S = S} t left faults place olds feeds i v on less is r router =
    let same : rests_by olds ≡ rests_by feeds = rests-alike t left faults place olds feeds on in
    let next : i + 1 ≡ suc i = omega arith in
    ap (take (i + 1)) same ∙ ap (λ n. take n (rests_by feeds)) next ∙ rests-here feeds i v less ∙ ap (λ ls. take i ls ++ rest_by (get_or feeds i v) ∷ []) (sym same)
    ∙ ap (λ (f : Feed S). take i (rests_by olds) ++ rest_by f ∷ []) (sym is) ∙ ap (λ (q : RouterId). take i (rests_by olds) ++ line.Take 0 q None ∷ []) (sym router)

pub read-length : {S : Type 0} (t : Topology) (left : S → Option (List ℕ)) (faults place : S → ℕ) (olds news : List (Feed S)) → ReadOn t left faults place olds news → length news ≡ length olds
read-length t left faults place [] [] on = refl
read-length t left faults place [] (n ∷ news) on = absurd on
read-length t left faults place (o ∷ olds) [] on = absurd on
read-length t left faults place (o ∷ olds) (n ∷ news) on = ap suc (read-length t left faults place olds news on.1)

-- what is told was added at the end
pub told-adds : {A E : Type 0} (result : Result A E) (tolds tolds' : List Told) (l : ℕ) (q q' : Question) (o : Outcome) (P : Outcome → Type 0) → OnOk result (tolds' ≡ tolds ++ Asked l q' o ∷ []) → q' ≡ q → P o →
    OnOk result (Adds tolds tolds' l q P)
told-adds (Ok r) tolds tolds' l q q' o P added same good = record { outcome = o; added = added ∙ ap (λ (a : Question). tolds ++ Asked l a o ∷ []) same; good = good }
told-adds (Err e) tolds tolds' l q q' o P added same good = tt

module _ {S : Type 0} (lock : Lock) (left : S → Option (List ℕ)) (faults place : S → ℕ) where
  -- ---- going on

  routers-on : (olds news : List (Feed S)) → ReadOn lock.setup.basis.topology left faults place olds news → HaveRouters lock.setup.basis.topology olds → HaveRouters lock.setup.basis.topology news
  routers-on [] [] on have = have
  routers-on [] (n ∷ news) on have = absurd on
  routers-on (o ∷ olds) [] on have = absurd on
  routers-on (o ∷ olds) (n ∷ news) on have =
      let P : Feed S → Type 0 = λ f. f.reader.told.router.0 < length lock.setup.basis.topology.routers in
      All-cons P n news (subst (λ (r : RouterId). r.0 < length lock.setup.basis.topology.routers) (sym on.0.router) (All-head P o olds have)) (routers-on olds news on.1 (All-tail P o olds have))

  -- a job that went on is still at work
  pub at-work : (old new : Work S) → WorksOn lock left faults place old new → IsAtWork lock old → IsAtWork lock new
  at-work old new on at = record { seat = saw-seat lock old.seat new.seat on.saw at.seat; routers = routers-on old.feeds new.feeds on.reads at.routers; shown = on.shows.shown }

  pub on-none : (work : Work S) → IsAtWork lock work → WorksOn lock left faults place work work
  on-none work at = record {
    number = refl;
    saw = saw-none work.seat;
    shows = shows-none lock.setup.basis.topology work.seat.seen work.shown at.shown;
    reads = read-none lock.setup.basis.topology left faults place lock.setup.basis.limit work.feeds;
  }

  pub on-more : (old mid new : Work S) → WorksOn lock left faults place old mid → WorksOn lock left faults place mid new → WorksOn lock left faults place old new
  on-more old mid new a b = record {
    number = b.number ∙ a.number;
    saw = saw-more old.seat mid.seat new.seat a.saw b.saw;
    shows = shows-more lock.setup.basis.topology mid.seat.seen new.seat.seen old.shown mid.shown new.shown a.shows b.shows;
    reads = read-more lock.setup.basis.topology left faults place old.feeds mid.feeds new.feeds a.reads b.reads;
  }

  -- ---- lines that are done

  -- by the same numbers
  renumber : (k k' n n' : ℕ) (start : List Entry) (readers : List (Reader S)) (lines : List Line) (w : Work S) → k ≡ k' → n ≡ n' →
      HasDone lock left faults place k n start readers lines w → HasDone lock left faults place k' n' start readers lines w
  renumber k k' n n' start readers lines w seats numbers h =
      subst (λ (x : ℕ). HasDone lock left faults place x n' start readers lines w) seats (subst (λ (x : ℕ). HasDone lock left faults place k x start readers lines w) numbers h)

  renumber-begun : (k k' n n' : ℕ) (start : List Entry) (readers : List (Reader S)) (lines : List Line) (w : Work S) → k ≡ k' → n ≡ n' →
      HasBegun lock left faults place k n start readers lines w → HasBegun lock left faults place k' n' start readers lines w
  renumber-begun k k' n n' start readers lines w seats numbers h =
      subst (λ (x : ℕ). HasBegun lock left faults place x n' start readers lines w) seats (subst (λ (x : ℕ). HasBegun lock left faults place k x start readers lines w) numbers h)

  -- nothing is done
  pub does-none : (work : Work S) → Does lock left faults place work work []
  does-none work = record {
    on = λ start readers before h. subst (λ (ls : List Line). HasDone lock left faults place work.seat.number work.number start readers ls work) (sym (append-nil before)) h;
  }

  -- and then some more lines
  pub does-more : (old mid new : Work S) (xs ys all : List Line) → WorksOn lock left faults place old mid → Does lock left faults place old mid xs → Does lock left faults place mid new ys → all ≡ xs ++ ys →
      Does lock left faults place old new all
  does-more old mid new xs ys all on first second is = record {
    on = λ start readers before h.
        let n : mid.seat.number ≡ old.seat.number = saw-number old.seat mid.seat on.saw in
        let between : HasDone lock left faults place mid.seat.number mid.number start readers (before ++ xs) mid =
        renumber old.seat.number mid.seat.number old.number mid.number start readers (before ++ xs) mid (sym n) (sym on.number) (first.on start readers before h) in
        let after : HasDone lock left faults place old.seat.number old.number start readers ((before ++ xs) ++ ys) new =
        renumber mid.seat.number old.seat.number mid.number old.number start readers ((before ++ xs) ++ ys) new n on.number (second.on start readers (before ++ xs) between) in
        subst (λ (ls : List Line). HasDone lock left faults place old.seat.number old.number start readers ls new) (append_assoc before xs ys ∙ ap (λ ls. before ++ ls) (sym is)) after;
  }

  -- lines were done, and then memory was wanting within others
  pub breaks-after : (old mid new : Work S) (xs ys more all : List Line) → WorksOn lock left faults place old mid → Does lock left faults place old mid xs →
      Breaks lock left faults place mid new ys → all ≡ (xs ++ ys) ++ more → Breaks lock left faults place old new all
  breaks-after old mid new xs ys more all on first second is = record {
    on = λ start readers before h.
        let n : mid.seat.number ≡ old.seat.number = saw-number old.seat mid.seat on.saw in
        let between : HasDone lock left faults place mid.seat.number mid.number start readers (before ++ xs) mid =
        renumber old.seat.number mid.seat.number old.number mid.number start readers (before ++ xs) mid (sym n) (sym on.number) (first.on start readers before h) in
        let broken : HasBegun lock left faults place old.seat.number old.number start readers ((before ++ xs) ++ ys) new =
        renumber-begun mid.seat.number old.seat.number mid.number old.number start readers ((before ++ xs) ++ ys) new n on.number (second.on start readers (before ++ xs) between) in
        subst (λ (ls : List Line). HasBegun lock left faults place old.seat.number old.number start readers ls new)
        (ap (λ ls. ls ++ more) (append_assoc before xs ys) ∙ append_assoc before (xs ++ ys) more ∙ ap (λ ls. before ++ ls) (sym is))
        (begun-more lock.setup.basis.topology left faults place lock.setup.basis.limit old.seat.number old.number start readers new.feeds new.seat.seen ((before ++ xs) ++ ys) more broken);
  }

  -- memory was wanting within the first of these lines
  pub breaks-more : (old new : Work S) (xs more all : List Line) → Breaks lock left faults place old new xs → all ≡ xs ++ more → Breaks lock left faults place old new all
  breaks-more old new xs more all first is = record {
    on = λ start readers before h.
        subst (λ (ls : List Line). HasBegun lock left faults place old.seat.number old.number start readers ls new)
        (append_assoc before xs more ∙ ap (λ ls. before ++ ls) (sym is))
        (begun-more lock.setup.basis.topology left faults place lock.setup.basis.limit old.seat.number old.number start readers new.feeds new.seat.seen (before ++ xs) more (first.on start readers before h));
  }

  -- ---- calls

  -- a call that was refused
  pub works-broke : {A E : Type 0} (result : Result A E) (old new : Work S) (lines : List Line) → IsErr result → WorksOn lock left faults place old new → Breaks lock left faults place old new lines → Works lock left faults place result old new lines
  works-broke (Ok o) old new lines is on breaks = absurd (cc (is))
  works-broke (Err e) old new lines is on breaks = record { on = on; does = tt; breaks = breaks }

  -- a call by other lines that are the same
  pub works-same : {A E : Type 0} (result : Result A E) (old new : Work S) (xs ys : List Line) → xs ≡ ys → Works lock left faults place result old new ys → Works lock left faults place result old new xs
  works-same result old new xs ys is works = subst (λ (ls : List Line). Works lock left faults place result old new ls) (sym is) works

  -- a last call, after others that did their lines
  pub works-last : {A E : Type 0} (result : Result A E) (old mid new : Work S) (xs ys : List Line) → WorksOn lock left faults place old mid → Does lock left faults place old mid xs → Works lock left faults place result mid new ys →
      Works lock left faults place result old new (xs ++ ys)
  works-last (Ok o) old mid new xs ys on does last = record { on = on-more old mid new on last.on; does = does-more old mid new xs ys (xs ++ ys) on does last.does refl; breaks = tt }
  works-last (Err e) old mid new xs ys on does last = record {
    on = on-more old mid new on last.on;
    does = tt;
    breaks = breaks-after old mid new xs ys [] (xs ++ ys) on does last.breaks (sym (append-nil (xs ++ ys)));
  }

  -- frames of the feed of a router, where the job has it
  pub works-took : {A E : Type 0} (result : Result A E) (old new : Work S) (r : RouterId) (at : ℕ) (count : Option ℕ) → position (is_feed_of r) old.feeds ≡ Some at → TookAt lock left faults place result at count old new →
      (l : ℕ) → Works lock left faults place result old new (line.Take l r count ∷ [])
  works-took (Ok o) old new r at count found took l = record {
    on = took.on;
    does = record {
      on = λ start readers before h.
          subst (λ (x : List Told). HasDone lock left faults place old.seat.number old.number start readers (before ++ line.Take l r count ∷ []) (record new { told = x })) (sym took.told)
          (tracks-at lock.setup.basis.topology left faults place lock.setup.basis.limit old.seat.number old.number start readers old.feeds new.feeds old.seat.seen new.seat.seen before old.told l r count (Some at) took.on.saw.seen found took.took h);
    };
    breaks = tt;
  }
  works-took (Err e) old new r at count found took l = record {
    on = took.on;
    does = tt;
    breaks = record {
      on = λ start readers before h.
          begun-at lock.setup.basis.topology left faults place lock.setup.basis.limit old.seat.number old.number start readers old.feeds new.feeds old.seat.seen new.seat.seen before old.told l r count took.on.saw.seen
          (record { at = at; found = found; fails = took.fails }) h;
    };
  }

  -- the job hasn't it
  pub works-not : (work : Work S) (r : RouterId) (count : Option ℕ) → IsAtWork lock work → position (is_feed_of r) work.feeds ≡ None → (l : ℕ) → Does lock left faults place work work (line.Take l r count ∷ [])
  works-not work r count at none l = record {
    on = λ start readers before h.
        tracks-at lock.setup.basis.topology left faults place lock.setup.basis.limit work.seat.number work.number start readers work.feeds work.feeds work.seat.seen work.seat.seen before work.told l r count None (prefix_self work.seat.seen) none (refl, refl) h;
  }

  -- a query was asked, or memory was wanting
  asked-on : {A E : Type 0} (result : Result A E) (old : Work S) (s : Caller) (shown : Option Known) (told : List Told) (l : ℕ) (q : Question) → LooksOn old.seat s → ShowsOn lock.setup.basis.topology s.seen old.shown shown →
      OnOk result (Adds old.told told l q (IsOutcomeNow lock.setup.basis.topology s.seen q)) → Works lock left faults place result old (record old { seat = s; shown = shown; told = told }) (line.Ask l q ∷ [])
  asked-on (Ok o) old s shown told l q looks shows adds = record {
    on = record { number = refl; saw = looks.saw; shows = shows; reads = read-none lock.setup.basis.topology left faults place lock.setup.basis.limit old.feeds };
    does = record {
      on = λ start readers before h.
          tracks-ask lock.setup.basis.topology left faults place lock.setup.basis.limit old.seat.number old.number start readers old.feeds old.seat.seen s.seen before old.told told l q looks.saw.seen looks.own adds h;
    };
    breaks = tt;
  }
  asked-on (Err e) old s shown told l q looks shows adds = record {
    on = record { number = refl; saw = looks.saw; shows = shows; reads = read-none lock.setup.basis.topology left faults place lock.setup.basis.limit old.feeds };
    does = tt;
    breaks = record {
      on = λ start readers before h.
          begun-more lock.setup.basis.topology left faults place lock.setup.basis.limit old.seat.number old.number start readers old.feeds s.seen before (line.Ask l q ∷ [])
          (begun-still lock.setup.basis.topology left faults place lock.setup.basis.limit old.seat.number old.number start readers old.feeds old.seat.seen s.seen before old.told looks.saw.seen looks.own h);
    };
  }

  pub works-asked : {A E : Type 0} (result : Result A E) (old : Work S) (n : ℕ) (s s' : Caller) (shown shown' : Option Known) (feeds : List (Feed S)) (told told' : List Told) (l : ℕ) (q : Question) →
      record { number = n; seat = s; shown = shown; feeds = feeds; told = told } ≡ old → LooksOn s s' → ShowsOn lock.setup.basis.topology s'.seen shown shown' →
      OnOk result (Adds told told' l q (IsOutcomeNow lock.setup.basis.topology s'.seen q)) →
      Works lock left faults place result old (record { number = n; seat = s'; shown = shown'; feeds = feeds; told = told' }) (line.Ask l q ∷ [])
  works-asked result old n s s' shown shown' feeds told told' l q is looks shows adds =
      let w : Work S = record { number = n; seat = s; shown = shown; feeds = feeds; told = told } in
      subst (λ (x : Work S). Works lock left faults place result x (record { number = n; seat = s'; shown = shown'; feeds = feeds; told = told' }) (line.Ask l q ∷ [])) is
      (asked-on result w s' shown' told' l q looks shows adds)

  -- ---- a link line

  -- the entry of a link line was applied, or there was none, and then it was shown and told; or memory was wanting at one of these
  set-link : {A E : Type 0} (result : Result A E) (old : Work S) (mid new : Caller) (shown : Option Known) (told : List Told) (l : ℕ) (name : List ℕ) (down : Bool) (o : LinkOutcome) → SawMore old.seat mid →
      IsLinkOutcomeNow lock old.number name down old.seat mid o → LooksOn mid new → ShowsOn lock.setup.basis.topology new.seen old.shown shown →
      OnOk result (told ≡ old.told ++ Linked l name down o ∷ []) → Works lock left faults place result old (record old { seat = new; shown = shown; told = told }) (line.Link l name down ∷ [])
  set-link result old mid new shown told l name down o saw is looks shows adds =
      let t : Topology = lock.setup.basis.topology in
      let limit : ℕ = lock.setup.basis.limit in
      let y : List Line = line.Link l name down ∷ [] in
      let tolds : List Told = old.told ++ Linked l name down o ∷ [] in
      let done : (start : List Entry) (readers : List (Reader S)) (before : List Line) → HasDone lock left faults place old.seat.number old.number start readers before old →
      HasDone lock left faults place old.seat.number old.number start readers (before ++ y) (record old { seat = mid; told = tolds }) =
      λ start readers before h. tracks-link lock left faults place old.seat mid old.number start readers old.feeds before old.told l name down o saw.seen is h in
      let own : own_of old.seat.number new.seen ≡ own_of old.seat.number mid.seen = subst (λ (k : ℕ). own_of k new.seen ≡ own_of k mid.seen) (saw-number old.seat mid saw) looks.own in
      let on : WorksOn lock left faults place old (record old { seat = new; shown = shown; told = told }) =
      record { number = refl; saw = saw-more old.seat mid new saw looks.saw; shows = shows; reads = read-none t left faults place limit old.feeds } in
      linked result on done own adds
    where
      linked : {A E : Type 0} (result : Result A E) → WorksOn lock left faults place old (record old { seat = new; shown = shown; told = told }) →
          ((start : List Entry) (readers : List (Reader S)) (before : List Line) → HasDone lock left faults place old.seat.number old.number start readers before old →
          HasDone lock left faults place old.seat.number old.number start readers (before ++ line.Link l name down ∷ []) (record old { seat = mid; told = old.told ++ Linked l name down o ∷ [] })) →
          own_of old.seat.number new.seen ≡ own_of old.seat.number mid.seen → OnOk result (told ≡ old.told ++ Linked l name down o ∷ []) →
          Works lock left faults place result old (record old { seat = new; shown = shown; told = told }) (line.Link l name down ∷ [])
      linked (Ok r) on done own adds = record {
        on = on;
        does = record {
          on = λ start readers before h.
              subst (λ (ts : List Told). HasDone lock left faults place old.seat.number old.number start readers (before ++ line.Link l name down ∷ []) (record old { seat = new; shown = shown; told = ts })) (sym adds)
              (tracks-looks lock.setup.basis.topology left faults place lock.setup.basis.limit old.seat.number old.number start readers old.feeds mid.seen new.seen (before ++ line.Link l name down ∷ []) (old.told ++ Linked l name down o ∷ [])
              looks.saw.seen own (done start readers before h));
        };
        breaks = tt;
      }
      linked (Err e) on done own adds = record {
        on = on;
        does = tt;
        breaks = record {
          on = λ start readers before h.
              begun-still lock.setup.basis.topology left faults place lock.setup.basis.limit old.seat.number old.number start readers old.feeds mid.seen new.seen (before ++ line.Link l name down ∷ []) (old.told ++ Linked l name down o ∷ [])
              looks.saw.seen own (done start readers before h);
        };
      }

  -- memory was wanting before a link line's entry was applied
  pub link-broke : {A E : Type 0} (result : Result A E) (old : Work S) (new : Caller) (l : ℕ) (name : List ℕ) (down : Bool) → IsErr result → IsAtWork lock old → SawMore old.seat new →
      own_of old.seat.number new.seen ≡ own_of old.seat.number old.seat.seen → Works lock left faults place result old (record old { seat = new }) (line.Link l name down ∷ [])
  link-broke result old new l name down err at saw own =
      works-broke result old (record old { seat = new }) (line.Link l name down ∷ []) err
      (record { number = refl; saw = saw; shows = shows-still lock.setup.basis.topology old.seat.seen new.seen old.shown saw.seen at.shown; reads = read-none lock.setup.basis.topology left faults place lock.setup.basis.limit old.feeds })
      (record {
        on = λ start readers before h.
            begun-more lock.setup.basis.topology left faults place lock.setup.basis.limit old.seat.number old.number start readers old.feeds new.seen before (line.Link l name down ∷ [])
            (begun-still lock.setup.basis.topology left faults place lock.setup.basis.limit old.seat.number old.number start readers old.feeds old.seat.seen new.seen before old.told saw.seen own h);
      })

  -- the same by the parts of the job as a call has them
  pub works-linked : {A E : Type 0} (result : Result A E) (old : Work S) (n : ℕ) (s mid new : Caller) (shown shown' : Option Known) (feeds : List (Feed S)) (told told' : List Told) (l : ℕ) (name : List ℕ) (down : Bool) (o : LinkOutcome) →
      record { number = n; seat = s; shown = shown; feeds = feeds; told = told } ≡ old → SawMore s mid → IsLinkOutcomeNow lock n name down s mid o → LooksOn mid new → ShowsOn lock.setup.basis.topology new.seen shown shown' →
      OnOk result (told' ≡ told ++ Linked l name down o ∷ []) → Works lock left faults place result old (record { number = n; seat = new; shown = shown'; feeds = feeds; told = told' }) (line.Link l name down ∷ [])
  works-linked result old n s mid new shown shown' feeds told told' l name down o is saw outcome looks shows adds =
      let w : Work S = record { number = n; seat = s; shown = shown; feeds = feeds; told = told } in
      subst (λ (x : Work S). Works lock left faults place result x (record { number = n; seat = new; shown = shown'; feeds = feeds; told = told' }) (line.Link l name down ∷ [])) is
      (set-link result w mid new shown' told' l name down o saw outcome looks shows adds)

  pub works-unlinked : {A E : Type 0} (result : Result A E) (old : Work S) (n : ℕ) (s new : Caller) (shown : Option Known) (feeds : List (Feed S)) (told : List Told) (l : ℕ) (name : List ℕ) (down : Bool) →
      record { number = n; seat = s; shown = shown; feeds = feeds; told = told } ≡ old → IsErr result → IsAtWork lock old → SawMore s new → own_of s.number new.seen ≡ own_of s.number s.seen →
      Works lock left faults place result old (record { number = n; seat = new; shown = shown; feeds = feeds; told = told }) (line.Link l name down ∷ [])
  works-unlinked result old n s new shown feeds told l name down is err at saw own =
      let w : Work S = record { number = n; seat = s; shown = shown; feeds = feeds; told = told } in
      subst (λ (x : Work S). Works lock left faults place result x (record { number = n; seat = new; shown = shown; feeds = feeds; told = told }) (line.Link l name down ∷ [])) is
      (link-broke result w new l name down err (subst (λ (x : Work S). IsAtWork lock x) (sym is) at) saw own)

  -- frames of the feed at a place
  pub work-took : {A E : Type 0} (result : Result A E) (old : Work S) (n : ℕ) (s s' : Caller) (shown shown' : Option Known) (feeds : List (Feed S)) (told : List Told) (at : ℕ) (count : Option ℕ) (v new : Feed S) →
      record { number = n; seat = s; shown = shown; feeds = feeds; told = told } ≡ old → at < length old.feeds → v ≡ get_or feeds at v → ShowsOn lock.setup.basis.topology s'.seen shown shown' → Takes lock left faults place result count s s' v new →
      TookAt lock left faults place result at count old (record { number = n; seat = s'; shown = shown'; feeds = set feeds at new; told = told })
  work-took result old n s s' shown shown' feeds told at count v new is less value shows takes =
      let w : Work S = record { number = n; seat = s; shown = shown; feeds = feeds; told = told } in
      let below : at < length feeds = subst (λ (x : Work S). at < length x.feeds) (sym is) less in
      let took : TookAt lock left faults place result at count w (record { number = n; seat = s'; shown = shown'; feeds = set feeds at new; told = told }) =
      record {
        on = record { number = refl; saw = takes.saw; shows = shows; reads = read-at lock.setup.basis.topology left faults place lock.setup.basis.limit feeds at v new below value takes.reads };
        took = took-at lock.setup.basis.topology left faults place lock.setup.basis.limit s.number result at count feeds v new s.seen s'.seen below value takes.taken;
        fails = failed-at lock.setup.basis.topology left faults place lock.setup.basis.limit s.number result at count feeds v new s.seen s'.seen below value takes.first;
        told = refl;
      } in
      subst (λ (x : Work S). TookAt lock left faults place result at count x (record { number = n; seat = s'; shown = shown'; feeds = set feeds at new; told = told })) is took

  -- ---- what is told

  -- what lines told is that of a front of them and others
  pub front-told : (old mid new : Work S) (xs ys all : List Line) → SawMore mid.seat new.seat → new.told ≡ mid.told → Does lock left faults place old mid xs → all ≡ xs ++ ys →
      TellsFrontOf lock left faults place old new all
  front-told old mid new xs ys all saw same does is = record {
    on = λ start readers more h.
        let later : List Posted = saw.seen.0 in
        let told : TellsOwnFront lock.setup.basis.topology lock.setup.basis.limit (mid.seat.seen ++ (later ++ more)) old.seat.number start old.number all mid.told =
        front-of lock.setup.basis.topology left faults place lock.setup.basis.limit old.seat.number old.number start readers mid.feeds mid.seat.seen xs ys all mid.told (later ++ more) is (does.on start readers [] h) in
        subst (λ (tolds : List Told). TellsOwnFront lock.setup.basis.topology lock.setup.basis.limit (new.seat.seen ++ more) old.seat.number start old.number all tolds) (sym same)
        (subst (λ (seen : List Posted). TellsOwnFront lock.setup.basis.topology lock.setup.basis.limit seen old.seat.number start old.number all mid.told) (sym (append_assoc mid.seat.seen later more) ∙ ap (λ s. s ++ more) saw.seen.1) told);
  }

  pub front-later : (old mid new : Work S) (all : List Line) → SawMore mid.seat new.seat → new.told ≡ mid.told → TellsFrontOf lock left faults place old mid all →
      TellsFrontOf lock left faults place old new all
  front-later old mid new all saw same told = record {
    on = λ start readers more h.
        subst (λ (tolds : List Told). TellsOwnFront lock.setup.basis.topology lock.setup.basis.limit (new.seat.seen ++ more) old.seat.number start old.number all tolds) (sym same)
        (subst (λ (seen : List Posted). TellsOwnFront lock.setup.basis.topology lock.setup.basis.limit seen old.seat.number start old.number all mid.told) (sym (append_assoc mid.seat.seen saw.seen.0 more) ∙ ap (λ s. s ++ more) saw.seen.1)
        (told.on start readers (saw.seen.0 ++ more) h));
  }

  -- ---- the job

  run-unless : {A E : Type 0} (result : Result A E) (old new : Work S) (task : Task S) → task.number ≡ old.number → old.feeds ≡ map unread task.feeds →
      All (IsFresh lock.setup.basis.topology faults) task.feeds → ReadOn lock.setup.basis.topology left faults place old.feeds new.feeds →
      HasDone lock left faults place old.seat.number old.number (own_of old.seat.number old.seat.seen) task.feeds [] old →
      Works lock left faults place result old new ((task.lines ++ rests_of task.lines) ++ rests_by old.feeds) →
      HasRunUnless lock.setup.basis.topology left faults place lock.setup.basis.limit (is_err result) old.seat.number (own_of old.seat.number old.seat.seen) new.seat.seen task new.told (map back_of new.feeds)
  run-unless (Ok o) old new task number are fresh on begins works =
      has-run lock.setup.basis.topology left faults place lock.setup.basis.limit old.seat.number (own_of old.seat.number old.seat.seen) new.seat.seen task old.feeds new.feeds new.told fresh on
      (renumber old.seat.number old.seat.number old.number task.number (own_of old.seat.number old.seat.seen) task.feeds ((task.lines ++ rests_of task.lines) ++ rests_by old.feeds) new refl (sym number)
      (works.does.on (own_of old.seat.number old.seat.seen) task.feeds [] begins))
  run-unless (Err e) old new task number are fresh on begins works =
      has-begun lock.setup.basis.topology left faults place lock.setup.basis.limit old.seat.number old.number (own_of old.seat.number old.seat.seen) new.seat.seen task old.feeds new.feeds number on
      (works.breaks.on (own_of old.seat.number old.seat.seen) task.feeds [] begins)

  -- what a job came to whose lines and rests were done, or not all of them
  ends-of : {A E : Type 0} (result : Result A E) (wanted : Bool) (old new : Work S) (task : Task S) → wanted ≡ is_err result → task.number ≡ old.number → old.feeds ≡ map unread task.feeds → old.told ≡ [] → IsReady lock faults task →
      Works lock left faults place result old new ((task.lines ++ rests_of task.lines) ++ rests_by old.feeds) → TellsFrontOf lock left faults place old new task.lines →
      Ends lock.setup.basis.topology left faults place lock.setup.basis.limit old.seat.number (own_of old.seat.number old.seat.seen) new.seat.seen task wanted new.told (map back_of new.feeds)
  ends-of result wanted old new task is named are none ready works front =
      let t : Topology = lock.setup.basis.topology in
      let limit : ℕ = lock.setup.basis.limit in
      let number : ℕ = old.seat.number in
      let start : List Entry = own_of old.seat.number old.seat.seen in
      let begins : HasDone lock left faults place number old.number start task.feeds [] old =
      subst (λ (x : List Told). HasDone lock left faults place number old.number start task.feeds [] (record old { told = x })) (sym none)
      (tracks-start t left faults place limit number old.number task.feeds old.feeds old.seat.seen are ready.fresh ready.apart) in
      record {
        done = subst (λ (b : Bool). HasRunUnless t left faults place limit b number start new.seat.seen task new.told (map back_of new.feeds)) (sym is)
            (run-unless result old new task named are ready.fresh works.on.reads begins works);
        front = subst (λ (h : List Posted). TellsOwnFront t limit h number start task.number task.lines new.told) (append-nil new.seat.seen)
            (subst (λ (n : ℕ). TellsOwnFront t limit (new.seat.seen ++ []) number start n task.lines new.told) (sym named) (front.on start task.feeds [] begins));
        back = backs-are t left faults place limit task.feeds old.feeds new.feeds are ready.fresh works.on.reads;
      }

-- ---- the job as its call has it

module _ {S : Type 0} (desk lock : Lock) (left : S → Option (List ℕ)) (faults place : S → ℕ) (job : Task S) (number : ℕ) (lines : List Line) (olds : List (Feed S)) (same : desk ≡ lock)
    (is : record { number = number; lines = lines; feeds = map (λ (f : Feed S). f.reader) olds } ≡ job) (are : olds ≡ map (λ (f : Feed S). unread f.reader) olds) (ready : IsReady lock faults job) where
  ready-here : IsReady desk faults (record { number = number; lines = lines; feeds = map (λ (f : Feed S). f.reader) olds })
  ready-here = subst (λ (l : Lock). IsReady l faults (record { number = number; lines = lines; feeds = map (λ (f : Feed S). f.reader) olds })) (sym same) (subst (λ (j : Task S). IsReady lock faults j) (sym is) ready)

  pub job-at-work : (seat : Caller) (shown : Option Known) (begins : List Told) → IsSeatOf lock seat → IsShown lock.setup.basis.topology seat.seen shown →
      IsAtWork desk (record { number = number; seat = seat; shown = shown; feeds = olds; told = begins })
  job-at-work seat shown begins at shows = record {
    seat = subst (λ (l : Lock). IsSeatOf l seat) (sym same) at;
    routers = routers-fresh desk.setup.basis.topology faults (map (λ (f : Feed S). f.reader) olds) olds (feeds-unread olds are) (ready-here.fresh);
    shown = subst (λ (l : Lock). IsShown l.setup.basis.topology seat.seen shown) (sym same) shows;
  }

  pub job-ran : {A E : Type 0} (result : Result A E) (wanted : Bool) (old new : Work S) (n : ℕ) (s : Caller) (shown : Option Known) (feeds : List (Feed S)) (told : List Told) (done : List Line) (backs : Vec (S × FeedTold)) →
      record { number = n; seat = s; shown = shown; feeds = feeds; told = told } ≡ new → old.number ≡ number → old.feeds ≡ olds → old.told ≡ [] → done ≡ lines → wanted ≡ is_err result → backs.items ≡ map back_of feeds →
      Works desk left faults place result old new ((done ++ rests_of done) ++ rests_by old.feeds) → TellsFrontOf desk left faults place old new done →
      RanJob lock left faults place old.seat s job (record { number = number; told = told; feeds = backs; wanted_memory = wanted })
  job-ran result wanted old new n s shown feeds told done backs new-was same-number olds-are none lines-are wants backs-are works front =
      let w : Work S = record { number = number; seat = s; shown = shown; feeds = feeds; told = told } in
      let same-n : n ≡ number = ap (λ (x : Work S). x.number) new-was ∙ works.on.number ∙ same-number in
      let new-is : w ≡ new = ap (λ (m : ℕ). record { number = m; seat = s; shown = shown; feeds = feeds; told = told }) (sym same-n) ∙ new-was in
      let task : Task S = record { number = number; lines = lines; feeds = map (λ (f : Feed S). f.reader) olds } in
      let start : List Entry = own_of old.seat.number old.seat.seen in
      let works' : Works desk left faults place result old w ((lines ++ rests_of lines) ++ rests_by old.feeds) =
      subst (λ (x : Work S). Works desk left faults place result old x ((lines ++ rests_of lines) ++ rests_by old.feeds)) (sym new-is)
      (subst (λ (ls : List Line). Works desk left faults place result old new ((ls ++ rests_of ls) ++ rests_by old.feeds)) lines-are works) in
      let front' : TellsFrontOf desk left faults place old w lines =
      subst (λ (x : Work S). TellsFrontOf desk left faults place old x lines) (sym new-is) (subst (λ (ls : List Line). TellsFrontOf desk left faults place old new ls) lines-are front) in
      let ends : Ends desk.setup.basis.topology left faults place desk.setup.basis.limit old.seat.number start s.seen task wanted told (map back_of feeds) =
      ends-of desk left faults place result wanted old w task wants (sym same-number) (olds-are ∙ feeds-unread olds are) none ready-here works' front' in
      record {
        saw = works'.on.saw;
        number = ap (λ (j : Task S). j.number) is;
        ends = subst (λ (bs : List (S × FeedTold)). Ends lock.setup.basis.topology left faults place lock.setup.basis.limit old.seat.number start s.seen job wanted told bs) (sym backs-are)
            (subst (λ (j : Task S). Ends lock.setup.basis.topology left faults place lock.setup.basis.limit old.seat.number start s.seen j wanted told (map back_of feeds)) is
            (subst (λ (l : Lock). Ends l.setup.basis.topology left faults place l.setup.basis.limit old.seat.number start s.seen task wanted told (map back_of feeds)) same ends));
      }

  pub job-shows : {A E : Type 0} (result : Result A E) (old new : Work S) (n : ℕ) (s : Caller) (shown : Option Known) (feeds : List (Feed S)) (told : List Told) (done : List Line) →
      record { number = n; seat = s; shown = shown; feeds = feeds; told = told } ≡ new → Works desk left faults place result old new done → ShowsOn lock.setup.basis.topology s.seen old.shown shown
  job-shows result old new n s shown feeds told done new-is works =
      subst (λ (l : Lock). ShowsOn l.setup.basis.topology s.seen old.shown shown) same (subst (λ (x : Work S). Works desk left faults place result old x done) (sym new-is) works).on.shows
