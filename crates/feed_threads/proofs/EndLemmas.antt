-- A job before its first line and after its last.
use Rattle.std.proofs.Common.{◌≡◌, ℕ, ◌+◌, ◌*◌, ◌≤◌, ◌==◌, Bool, true, false, ◌&&◌, ◌||◌, not, cond, List, [], ◌∷◌, ◌++◌, length, map, filter, take, get_or, All, Option, None, Some, refl, ap, sym, ◌∙◌, arith, subst, append_assoc, eq-eqb}
use Rattle.std.specs.List.{AllZip, list_any, flat_map}
use Rattle.std.proofs.Math.Seq.{take-length}
use Rattle.std.proofs.Math.Bool.{or-true, or-false}
use Rattle.std.proofs.lemmas.Bool.{and_parts, or_parts}
use Rattle.std.proofs.lemmas.Grind.{flat_map-append}
use Rattle.std.proofs.lemmas.List.{append-nil, map-append}
use Rattle.std.proofs.lemmas.List.Folds.{list_any-append}
use Rattle.std.proofs.lemmas.List.Elements.{All-nil, All-cons, All-head, All-tail, All-map, filter-append}
use Rattle.dn_io.specs.Told.{with_front}
use Rattle.feed_model.specs.Feed.{IsToTableOf}
use Rattle.feed_model.specs.Frames.{IsFrame}
use Rattle.dn_formats.specs.Lawful.{Job, asked, entries_of_job, first_taken, given_along, left_by, link_entries, takes, takes_feed}
use Rattle.feed_model.specs.Steps.{FrameStep, FeedRead, updates, told_of}
use Rattle.base.specs.Lists.{all_differ}
use Rattle.dn_model.specs.declared.entry.Entry.{Entry}
use Rattle.dn_model.specs.declared.entry.Op.{Op}
use Rattle.dn_model.specs.declared.entry.Posted.{Posted}
use Rattle.base.specs.declared.ids.RouterId.{RouterId}
use Rattle.dn_model.specs.declared.topology.Topology.{Topology}
use Rattle.dn_formats.specs.declared.script.Line.{Line}
use Rattle.dn_formats.specs.declared.script.Line.TheVariants as line
use Rattle.feed_model.specs.declared.feed_told.FeedEnd.{FeedEnd}
use Rattle.feed_model.specs.declared.feed_told.FeedEnd.TheVariants as ends
use Rattle.feed_model.specs.declared.feed_told.FeedTold.{FeedTold}
use Rattle.dn_formats.specs.declared.told.Told.{Told}
use Rattle.route_feed.specs.FeedReader.{Reader, IsAt, told_so_far}
use Rattle.feed_threads.specs.Feeds.{Feed, end_with, end_of_feed, told_upto, told_with, StandsBy, CountsBy, HandsOut, Stands, StandsFront, TookOf}
use Rattle.feed_threads.specs.Jobs.{Task, AreApart, same_router, unread, back_of, IsFresh, IsKeptSo, AreReadBy, IsBack, HasBegun, HasRun, job_of}
use Rattle.feed_threads.specs.Places.{ReadOn}
use Rattle.feed_threads.specs.Seats.{own_of}
use Rattle.feed_threads.specs.Takes.{IsCount, Passes}
use Rattle.feed_threads.specs.Tells.{TellsOwn, TellsOwnFront}
use Rattle.feed_threads.specs.Tracks.{AllApart, GoesOn, IsApartFrom, IsJobOn, Links, MayLink, Strand, TookLinks, Tracks, Whatever, rest_of, rests_by, rests_of, taken_of_all}
use Rattle.feed_threads.proofs.GiveLemmas.{later-nil, passes-none}
use Rattle.feed_threads.proofs.ListLemmas.{All-unmap, Parts, all-parts, all-through, eqb-back}
use Rattle.feed_threads.proofs.OrderLemmas.{given-append, links-append}
use Rattle.feed_threads.proofs.RestLemmas.{asked-rests, filter-none, rests-left, first_taken-append}
use Rattle.feed_threads.proofs.StrandLemmas.{nows}
use Rattle.feed_threads.proofs.TellLemmas.{tells-untake}

-- ---- before the first line

abbrev pub fresh_strand : {S : Type 0} → Reader S → Strand S
fresh_strand r = record { start = r; now = unread r; steps = []; ops = [] }

map-again : {X Y : Type 0} (f : X → Y) (g : Y → X) → ((x : X) → g (f x) ≡ x) → (xs : List X) → map g (map f xs) ≡ xs
map-again f g same [] = refl
map-again f g same (x ∷ xs) = ap (λ y. y ∷ map g (map f xs)) (same x) ∙ ap (λ ys. x ∷ ys) (map-again f g same xs)

pub map-then : {X Y Z : Type 0} (f : X → Y) (g : Y → Z) (xs : List X) → map g (map f xs) ≡ map (λ x. g (f x)) xs
map-then f g [] = refl
map-then f g (x ∷ xs) = ap (λ ys. g (f x) ∷ ys) (map-then f g xs)

not-true : (b : Bool) → not b ≡ true → b ≡ false
not-true true e = cc
not-true false e = refl

any-false : {X : Type 0} (p : X → Bool) (xs : List X) → list_any p xs ≡ false → All (λ x. p x ≡ false) xs
any-false p [] e = All-nil (λ x. p x ≡ false)
any-false p (x ∷ xs) e =
    let parts : (p x ≡ false) × (list_any p xs ≡ false) = or_parts (p x) (list_any p xs) e in
    All-cons (λ x. p x ≡ false) x xs parts.0 (any-false p xs parts.1)

apart-fresh : {S : Type 0} (rs : List (Reader S)) → all_differ same_router (map (λ r. r.told.router) rs) ≡ true → AllApart (map fresh_strand rs)
apart-fresh [] apart = tt
apart-fresh {S = S} (r ∷ rs) apart =
    let parts : (not (list_any (same_router r.told.router) (map (λ r. r.told.router) rs)) ≡ true) × (all_differ same_router (map (λ r. r.told.router) rs) ≡ true) =
    and_parts (not (list_any (same_router r.told.router) (map (λ r. r.told.router) rs))) (all_differ same_router (map (λ r. r.told.router) rs)) apart in
    let routers : All (λ (x : Reader S). (r.told.router.0 == x.told.router.0) ≡ false) rs =
    All-unmap (λ q. same_router r.told.router q ≡ false) (λ (x : Reader S). x.told.router) rs
    (any-false (same_router r.told.router) (map (λ r. r.told.router) rs) (not-true (list_any (same_router r.told.router) (map (λ r. r.told.router) rs)) parts.0)) in (
      All-map (IsApartFrom (fresh_strand r)) fresh_strand rs
          (λ k d i. record { router = routers k d i; back = eqb-back r.told.router.0 (get_or rs k d).told.router.0 (routers k d i) }),
      apart-fresh rs parts.1,
    )

-- ---- a feed that was read

abbrev pub end_or : Option FeedEnd → FeedEnd
end_or None = ends.End
end_or (Some end) = end

abbrev pub kept_or : Option ℕ → List FrameStep → ℕ
kept_or None steps = length (updates steps)
kept_or (Some n) steps = n

-- what a feed has given so far as a feed that was read
abbrev pub feed_of : {S : Type 0} → Strand S → FeedRead
feed_of s = record {
  feed_no = s.now.reader.told.feed_no;
  router = s.now.reader.told.router;
  steps = s.steps;
  kept = kept_or s.now.kept s.steps;
  end = end_or (end_of_feed s.now);
}

kept-or : (limit : ℕ) (seen : List Posted) (kept : Option ℕ) (steps : List FrameStep) (ops : List (RouterId × Op)) → TookOf limit seen kept steps ops → take (kept_or kept steps) (updates steps) ≡ ops
kept-or limit seen None steps ops took = take-length (updates steps) ∙ sym took
kept-or limit seen (Some n) steps ops took = sym took.0

kept-so : (limit : ℕ) (seen : List Posted) (kept : Option ℕ) (f : FeedRead) (ops : List (RouterId × Op)) → f.kept ≡ kept_or kept f.steps → TookOf limit seen kept f.steps ops → IsKeptSo limit seen kept f
kept-so limit seen None f ops is took = is
kept-so limit seen (Some n) f ops is took = (is, took.1)

-- a count without a number is over at the end alone
end-is : (len : ℕ) (end : Option FeedEnd) → IsCount None len end → end ≡ Some (end_or end)
end-is len None is = absurd is
end-is len (Some e) is = refl

told-is : (kept : Option ℕ) (told : FeedTold) (feed_no : ℕ) (router : RouterId) (steps : List FrameStep) (end : Option FeedEnd) (e : FeedEnd) → told ≡ told_upto feed_no router steps end → end_with kept end ≡ Some e →
    told_with kept told ≡ told_of (record { feed_no = feed_no; router = router; steps = steps; kept = kept_or kept steps; end = e })
told-is None told feed_no router steps end e is ended = is ∙ ap (told_upto feed_no router steps) ended
told-is (Some n) told feed_no router steps end e is ended =
    ap (λ (x : FeedTold). record x { updates = n; end = Some ends.Full }) is ∙ ap (λ o. record (told_so_far feed_no router steps) { updates = n; end = o }) ended

-- ---- the rests of all feeds

-- the line that takes the rest of a feed that was read
abbrev pub rest_line : FeedRead → Line
rest_line f = line.Take 0 f.router None

-- two feeds are not of one router
pub record AreTwo (x y : FeedRead) : Type 0 where
  pub router : (x.router.0 == y.router.0) ≡ false
  pub back : (y.router.0 == x.router.0) ≡ false

abbrev pub AllTwo : List FeedRead → Type 0
AllTwo [] = Unit {0}
AllTwo (f ∷ fs) = All (AreTwo f) fs × AllTwo fs

two-back : (x y : FeedRead) → AreTwo x y → AreTwo y x
two-back x y two = record { router = two.back; back = two.router }

record BesideTwo (front : List FeedRead) (mid : FeedRead) (back : List FeedRead) : Type 0 where
  in_front : All (AreTwo mid) front
  in_back : All (AreTwo mid) back

two-beside : (front : List FeedRead) (mid : FeedRead) (back : List FeedRead) → AllTwo (front ++ mid ∷ back) → BesideTwo front mid back
two-beside [] mid back two = record { in_front = All-nil (AreTwo mid); in_back = two.0 }
two-beside (x ∷ front) mid back two =
    let here : Parts (AreTwo x) front mid back = all-parts (AreTwo x) front mid back two.0 in
    let rest : BesideTwo front mid back = two-beside front mid back two.1 in
    record { in_front = All-cons (AreTwo mid) x front (two-back x mid here.mid_is) rest.in_front; in_back = rest.in_back }

-- feeds that were read are apart where those are of whose routers they are
pub two-of : {S : Type 0} (R : Strand S → FeedRead → Type 0) → ((s : Strand S) (f : FeedRead) → R s f → f.router ≡ s.now.reader.told.router) →
    (ss : List (Strand S)) (fs : List FeedRead) → AllZip R ss fs → AllApart ss → AllTwo fs
two-of R same [] [] zip apart = tt
two-of R same [] (f ∷ fs) zip apart = absurd zip
two-of R same (s ∷ ss) [] zip apart = absurd zip
two-of R same (s ∷ ss) (f ∷ fs) zip apart = (
  all-through R (IsApartFrom s) (AreTwo f) ss fs (λ x g r a. record {
    router = ap (λ (q : RouterId). q.0 == g.router.0) (same s f zip.0) ∙ ap (λ (q : RouterId). s.now.reader.told.router.0 == q.0) (same x g r) ∙ a.router;
    back = ap (λ (q : RouterId). q.0 == f.router.0) (same x g r) ∙ ap (λ (q : RouterId). x.now.reader.told.router.0 == q.0) (same s f zip.0) ∙ a.back;
  }) zip.1 apart.0,
  two-of R same ss fs zip.1 apart.1,
)

-- the rests of feeds are those of their routers
pub rests-of-routers : {S : Type 0} (R : Strand S → FeedRead → Type 0) → ((s : Strand S) (f : FeedRead) → R s f → f.router ≡ s.now.reader.told.router) →
    (ss : List (Strand S)) (fs : List FeedRead) → AllZip R ss fs → map (λ x. rest_line (feed_of x)) ss ≡ map rest_line fs
rests-of-routers R same [] [] zip = refl
rests-of-routers R same [] (f ∷ fs) zip = absurd zip
rests-of-routers R same (s ∷ ss) [] zip = absurd zip
rests-of-routers R same (s ∷ ss) (f ∷ fs) zip =
    ap (λ (q : RouterId). line.Take 0 q None ∷ map (λ x. rest_line (feed_of x)) ss) (sym (same s f zip.0))
    ∙ ap (λ ls. rest_line f ∷ ls) (rests-of-routers R same ss fs zip.1)

-- lines that name none of these feeds' routers
unnamed-by : (f : FeedRead) (fs : List FeedRead) → All (AreTwo f) fs → list_any (takes f.router) (map rest_line fs) ≡ false
unnamed-by f [] two = refl
unnamed-by f (g ∷ gs) two =
    let here : (g.router.0 == f.router.0) ≡ false = (All-head (AreTwo f) g gs two).back in
    rw here (unnamed-by f gs (All-tail (AreTwo f) g gs two))

-- the feeds that the rests of all take first, after some lines, are those that no line takes
first-rests : (lines : List Line) (front back : List FeedRead) → AllTwo (front ++ back) →
    first_taken (front ++ back) (lines ++ map rest_line front) (map rest_line back) ≡ filter (λ f. not (takes_feed lines f)) back
first-rests lines front [] two = refl
first-rests lines front (f ∷ back) two =
    let b : List Line = lines ++ map rest_line front in
    let p : FeedRead → Bool = λ g. takes g.router (rest_line f) && not (takes_feed b g) in
    let others : BesideTwo front f back = two-beside front f back two in
    let none-of : (gs : List FeedRead) → All (AreTwo f) gs → filter p gs ≡ [] =
    λ gs out. filter-none p gs (λ k d i. ap (λ c. c && not (takes_feed b (get_or gs k d))) (out k d i).router) in
    let own : (f.router.0 == f.router.0) ≡ true = eq-eqb f.router.0 f.router.0 refl in
    let named : takes_feed b f ≡ takes_feed lines f =
    list_any-append (takes f.router) lines (map rest_line front) ∙ ap (λ c. takes_feed lines f || c) (unnamed-by f front others.in_front) ∙ or-false (takes_feed lines f) in
    let test : p f ≡ not (takes_feed lines f) = ap (λ c. c && not (takes_feed b f)) own ∙ ap not named in
    let here : filter p (front ++ f ∷ back) ≡ cond (not (takes_feed lines f)) (f ∷ []) [] =
    filter-append p front (f ∷ back)
    ∙ ap (λ gs. gs ++ filter p (f ∷ back)) (none-of front others.in_front)
    ∙ ap (λ gs. cond (p f) (f ∷ gs) gs) (none-of back others.in_back) ∙ ap (λ c. cond c (f ∷ []) []) test in
    let whole : (front ++ f ∷ []) ++ back ≡ front ++ f ∷ back = append_assoc front (f ∷ []) back in
    let next : b ++ rest_line f ∷ [] ≡ lines ++ map rest_line (front ++ f ∷ []) =
    append_assoc lines (map rest_line front) (rest_line f ∷ []) ∙ ap (λ ls. lines ++ ls) (sym (map-append rest_line front (f ∷ []))) in
    let rest : first_taken (front ++ f ∷ back) (b ++ rest_line f ∷ []) (map rest_line back) ≡ filter (λ f. not (takes_feed lines f)) back =
    ap (λ ls. first_taken (front ++ f ∷ back) ls (map rest_line back)) next
    ∙ ap (λ (gs : List FeedRead). first_taken gs (lines ++ map rest_line (front ++ f ∷ [])) (map rest_line back)) (sym whole)
    ∙ first-rests lines (front ++ f ∷ []) back (subst (λ (gs : List FeedRead). AllTwo gs) (sym whole) two) in
    ap (λ gs. gs ++ first_taken (front ++ f ∷ back) (b ++ rest_line f ∷ []) (map rest_line back)) here
    ∙ ap (λ gs. cond (not (takes_feed lines f)) (f ∷ []) [] ++ gs) rest
    ∙ joined (not (takes_feed lines f)) f (filter (λ f. not (takes_feed lines f)) back)
  where
    joined : (b : Bool) (f : FeedRead) (gs : List FeedRead) → cond b (f ∷ []) [] ++ gs ≡ cond b (f ∷ gs) gs
    joined true f gs = refl
    joined false f gs = refl

rests-themselves : (fs : List FeedRead) → rests_of (map rest_line fs) ≡ map rest_line fs
rests-themselves [] = refl
rests-themselves (f ∷ fs) = ap (λ ls. rest_line f ∷ ls) (rests-themselves fs)

rests-again : {S : Type 0} (ss : List (Strand S)) → rests_of (map (λ x. rest_line (feed_of x)) ss) ≡ map (λ x. rest_line (feed_of x)) ss
rests-again [] = refl
rests-again (s ∷ ss) = ap (λ ls. rest_line (feed_of s) ∷ ls) (rests-again ss)

-- A job's lines, then the rests of the feeds that they name, then those of all: what they give are the entries of the job.
pub job-order : (t : Topology) (job : Job) → AllTwo job.feeds → given_along t job [] ((job.lines ++ rests_of job.lines) ++ map rest_line job.feeds) ≡ entries_of_job t job
job-order t job two =
    let lines : List Line = job.lines in
    let fs : List FeedRead = job.feeds in
    let rests : List Line = map rest_line fs in
    let order : (lines ++ rests_of lines) ++ rests ≡ lines ++ rests_of (lines ++ rests) =
    append_assoc lines (rests_of lines) rests ∙ ap (λ ls. lines ++ (rests_of lines ++ ls)) (sym (rests-themselves fs)) ∙ ap (λ ls. lines ++ ls) (sym (flat_map-append rest_of lines rests)) in
    let first : first_taken fs [] (lines ++ rests) ≡ first_taken fs [] lines ++ filter (λ f. not (takes_feed lines f)) fs =
    first_taken-append fs [] lines rests ∙ ap (λ gs. first_taken fs [] lines ++ gs)
    (ap (λ ls. first_taken fs ls rests) (sym (append-nil lines)) ∙ first-rests lines [] fs two) in
    ap (given_along t job []) order ∙ given-append t job [] lines (rests_of (lines ++ rests))
    ∙ ap (λ es. given_along t job [] lines ++ es)
    (ap (λ b. given_along t job b (rests_of (lines ++ rests))) (sym (append-nil lines)) ∙ rests-left t job lines [] (lines ++ rests) ∙ ap (flat_map (left_by lines)) first)

-- ---- rests make no link entry

rests-link : (t : Topology) (n : ℕ) (lines : List Line) → link_entries t n (rests_of lines) ≡ []
rests-link t n [] = refl
rests-link t n (line.Take l r c ∷ lines) = rests-link t n lines
rests-link t n (line.Ask l q ∷ lines) = rests-link t n lines
rests-link t n (line.Link l name d ∷ lines) = rests-link t n lines

pub rests-of-links : {S : Type 0} (t : Topology) (n : ℕ) (feeds : List (Feed S)) → link_entries t n (rests_by feeds) ≡ []
rests-of-links t n [] = refl
rests-of-links t n (f ∷ fs) = rests-of-links t n fs

-- so the link entries of a job's lines and rests are those of its lines
pub links-all : (t : Topology) (n : ℕ) (lines rests : List Line) → link_entries t n rests ≡ [] → link_entries t n ((lines ++ rests_of lines) ++ rests) ≡ link_entries t n lines
links-all t n lines rests none =
    links-append t n (lines ++ rests_of lines) rests ∙ ap (λ es. link_entries t n (lines ++ rests_of lines) ++ es) none ∙ append-nil (link_entries t n (lines ++ rests_of lines))
    ∙ links-append t n lines (rests_of lines) ∙ ap (λ es. link_entries t n lines ++ es) (rests-link t n lines) ∙ append-nil (link_entries t n lines)

-- ---- what is told after takes alone

pub tells-rests : (t : Topology) (limit : ℕ) (h : List Posted) (k : ℕ) (start : List Entry) (job : Job) (lines more : List Line) (tolds : List Told) →
    TellsOwn t limit h k start job [] 0 (lines ++ rests_of more) tolds → TellsOwn t limit h k start job [] 0 lines tolds
tells-rests t limit h k start job lines [] tolds told = subst (λ (ls : List Line). TellsOwn t limit h k start job [] 0 ls tolds) (append-nil lines) told
tells-rests t limit h k start job lines (line.Ask l q ∷ more) tolds told = tells-rests t limit h k start job lines more tolds told
tells-rests t limit h k start job lines (line.Link l n d ∷ more) tolds told = tells-rests t limit h k start job lines more tolds told
tells-rests t limit h k start job lines (line.Take l r c ∷ more) tolds told =
    tells-untake t limit h k start job [] 0 lines tolds l r None
    (tells-rests t limit h k start job (lines ++ line.Take l r None ∷ []) more tolds
    (subst (λ (ls : List Line). TellsOwn t limit h k start job [] 0 ls tolds) (sym (append_assoc lines (line.Take l r None ∷ []) (rests_of more))) told))

-- ---- a job as what was taken so far has it

-- what was taken is what may be in the end
may-itself : (full : Bool) (count : ℕ) → MayLink full count count
may-itself false count = omega arith
may-itself true count = refl

module _ {S : Type 0} (t : Topology) (left : S → Option (List ℕ)) (faults place : S → ℕ) (limit : ℕ) where
  at-start : (r : Reader S) → IsFresh t faults r → (bytes : List ℕ) → left r.source ≡ Some bytes → IsAt t r (left r.source) bytes []
  at-start r fresh bytes is = record {
    frames = [];
    each = All-nil IsFrame;
    come_to = tt;
    passed = fresh.passed;
    whole = sym (ap (with_front ([] ++ r.held)) is ∙ ap (λ xs. with_front xs (Some bytes)) fresh.held);
    within = (let p : r.passed ≡ 0 = fresh.passed in let q : length r.held ≡ 0 = ap length fresh.held in omega arith);
    counted = fresh.told;
    knows = fresh.knows;
  }

  going-on : (r : Reader S) → IsFresh t faults r → r.told.end ≡ None
  going-on r fresh = ap (λ (x : FeedTold). x.end) fresh.told

  -- a reader that has read nothing has handed out no frame
  pub hands-none : (r : Reader S) → IsFresh t faults r → HandsOut t left faults place r r []
  hands-none r fresh =
      let going : r.told.end ≡ None = going-on r fresh in
      record {
        feed_no = refl;
        router = refl;
        limit = refl;
        keeps_place = refl;
        told = fresh.told ∙ ap (told_upto r.told.feed_no r.told.router []) (sym going);
        counts = subst (λ (e : Option FeedEnd). CountsBy e (faults r.source)) (sym going) fresh.faults_none;
        own = All-nil (IsToTableOf t r.told.router);
        stands = λ bytes is. subst (λ (e : Option FeedEnd). StandsBy e t r (left r.source) bytes []) (sym going) (at-start r fresh bytes is);
      }

  fresh-taken : (readers : List (Reader S)) → taken_of_all (map fresh_strand readers) ≡ 0
  fresh-taken [] = refl
  fresh-taken (r ∷ rs) = let rest : taken_of_all (map fresh_strand rs) ≡ 0 = fresh-taken rs in omega (arith, rest)

  -- a job that has done no line
  pub tracks-start : (number job_number : ℕ) (readers : List (Reader S)) (news : List (Feed S)) (seen : List Posted) → news ≡ map unread readers → All (IsFresh t faults) readers → AreApart readers →
      Tracks t left faults place limit number job_number (own_of number seen) readers news seen [] []
  tracks-start number job_number readers news seen are fresh apart = record {
    strands = map fresh_strand readers;
    links = record { count = 0; full = false };
    woven = record {
      starts = map-again fresh_strand (λ s. s.start) (λ r. refl) readers;
      nows = map-then fresh_strand (λ s. s.now) readers ∙ sym are;
      each = All-map (λ (s : Strand S). Stands t left faults place limit seen s.start s.now s.steps s.ops) fresh_strand readers (λ k d i. record {
        reads = hands-none (get_or readers k d) (fresh k d i);
        took = refl;
        unended = λ n is. cc;
      });
      passes = All-map (λ (s : Strand S). Passes s.start s.now.reader s.steps) fresh_strand readers (λ k d i. passes-none (get_or readers k d));
      apart = apart-fresh readers apart;
    };
    counted = All-map (λ (s : Strand S). IsCount (asked s.now.reader.told.router []) (length s.steps) (end_of_feed s.now)) fresh_strand readers
        (λ k d i. subst (λ (e : Option FeedEnd). IsCount (Some 0) 0 e) (sym (going-on (get_or readers k d) (fresh k d i))) refl);
    linked = refl;
    pinned = omega arith;
    count = (let none : taken_of_all (map fresh_strand readers) ≡ 0 = fresh-taken readers in omega (arith, none));
    whatever = λ job on. record { order = sym (append-nil (own_of number seen)); tells = λ later. tt };
  }

  -- a job of which nothing was done
  pub fresh-begun : (number : ℕ) (start : List Entry) (seen : List Posted) (task : Task S) → All (IsFresh t faults) task.feeds → own_of number seen ≡ start →
      HasBegun t left faults place limit number start seen task (map (λ r. (r.source, r.told)) task.feeds)
  fresh-begun number start seen task fresh is = record {
    strands = map fresh_strand task.feeds;
    links = record { count = 0; full = false };
    starts = map-again fresh_strand (λ s. s.start) (λ r. refl) task.feeds;
    backs_are = map-then fresh_strand (λ s. back_of s.now) task.feeds;
    each = All-map (λ (s : Strand S). StandsFront t left faults place limit seen s.start s.now s.steps s.ops) fresh_strand task.feeds (λ k d i. record {
      reads = hands-none (get_or task.feeds k d) (fresh k d i);
      took = ([], refl);
      unended = λ n e. cc;
    });
    linked = omega arith;
    count = (let none : taken_of_all (map fresh_strand task.feeds) ≡ 0 = fresh-taken task.feeds in let same : length (own_of number seen) ≡ length start = ap length is in omega (arith, none, same));
    order = λ job on lines-are. let es : List Entry = entries_of_job t job in (es, ap (λ (xs : List Entry). xs ++ es) is);
  }

  -- ---- some feeds go on from the strands: those of what was read so far

  goes-itself : (seen : List Posted) (ss : List (Strand S)) → All (λ s. Stands t left faults place limit seen s.start s.now s.steps s.ops) ss → AllZip GoesOn ss (map feed_of ss)
  goes-itself seen [] each = tt
  goes-itself seen (s ∷ ss) each =
      let here : Stands t left faults place limit seen s.start s.now s.steps s.ops = All-head (λ (s : Strand S). Stands t left faults place limit seen s.start s.now s.steps s.ops) s ss each in (
        record {
          feed_no = refl;
          router = refl;
          later = [];
          steps = sym (append-nil s.steps);
          kept = kept-or limit seen s.now.kept s.steps s.ops here.took;
          none_after_end = later-nil (end_of_feed s.now);
        },
        goes-itself seen ss (All-tail (λ (s : Strand S). Stands t left faults place limit seen s.start s.now s.steps s.ops) s ss each),
      )

  -- the job that these strands and link lines make, and it goes on from them
  job-itself : (number : ℕ) (lines : List Line) (seen : List Posted) (ss : List (Strand S)) (links : Links) → All (λ s. Stands t left faults place limit seen s.start s.now s.steps s.ops) ss →
      IsJobOn GoesOn number ss links (record { number = number; lines = lines; feeds = map feed_of ss; kept_links = links.count })
  job-itself number lines seen ss links each = record { number = refl; feeds = goes-itself seen ss each; kept = may-itself links.full links.count }

  -- what some lines told is that of a front of lines that begin so
  pub front-of : (number job_number : ℕ) (start : List Entry) (readers : List (Reader S)) (news : List (Feed S)) (seen : List Posted) (xs ys all : List Line) (tolds : List Told) (more : List Posted) → all ≡ xs ++ ys →
      Tracks t left faults place limit number job_number start readers news seen xs tolds → TellsOwnFront t limit (seen ++ more) number start job_number all tolds
  front-of number job_number start readers news seen xs ys all tolds more is tracks =
      let job : Job = record { number = job_number; lines = xs; feeds = map feed_of tracks.strands; kept_links = tracks.links.count } in
      let w : Whatever t limit number start seen xs tolds job = tracks.whatever job (job-itself job_number xs seen tracks.strands tracks.links tracks.woven.each) in
      record { front = xs; back = ys; lines_are = is; job = job; number_is = refl; tells = w.tells more }

  -- ---- after the last line

  read-itself : (seen : List Posted) (ss : List (Strand S)) → All (IsFresh t faults) (map (λ s. s.start) ss) → All (λ s. Stands t left faults place limit seen s.start s.now s.steps s.ops) ss →
      All (λ s. Passes s.start s.now.reader s.steps) ss → All (λ s. end_of_feed s.now ≡ Some (end_or (end_of_feed s.now))) ss →
      AreReadBy t left faults place limit seen (map (λ s. s.start) ss) (map back_of (nows ss)) (map feed_of ss)
  read-itself seen [] fresh each passes ended = tt
  read-itself seen (s ∷ ss) fresh each passes ended =
      let Q : Strand S → Type 0 = λ s. Stands t left faults place limit seen s.start s.now s.steps s.ops in
      let E : Strand S → Type 0 = λ s. end_of_feed s.now ≡ Some (end_or (end_of_feed s.now)) in
      let P : Strand S → Type 0 = λ s. Passes s.start s.now.reader s.steps in
      let st : Q s = All-head Q s ss each in
      let e : E s = All-head E s ss ended in
      let p : P s = All-head P s ss passes in
      let r : IsFresh t faults s.start = All-head (IsFresh t faults) s.start (map (λ s. s.start) ss) fresh in
      let zero : s.start.passed ≡ 0 = r.passed in
      let within : s.now.reader.passed ≤ s.now.reader.limit =
      subst (λ (n : ℕ). s.now.reader.passed ≤ n) refl (p.within (omega (arith, zero))) in
      let same : s.now.reader.limit ≡ s.start.limit = st.reads.limit in
      let fits : s.start.passed + 28 * length (updates s.steps) ≤ s.now.reader.passed = p.fits in (
        record {
          reader = s.now.reader;
          kept = s.now.kept;
          source_is = refl;
          reads = st.reads;
          fits = omega (arith, within, same, fits);
          unended = st.unended;
          end_is = e;
          kept_is = kept-so limit seen s.now.kept (feed_of s) s.ops refl st.took;
          feed_no = st.reads.feed_no;
          router = st.reads.router;
          told_is = told-is s.now.kept s.now.reader.told s.now.reader.told.feed_no s.now.reader.told.router s.steps s.now.reader.told.end (end_or (end_of_feed s.now)) st.reads.told e;
        },
        read-itself seen ss (All-tail (IsFresh t faults) s.start (map (λ s. s.start) ss) fresh) (All-tail Q s ss each) (All-tail P s ss passes) (All-tail E s ss ended),
      )

  -- a feed whose rest was taken has ended
  ended-by : (before : List Line) (ss done : List (Strand S)) → All (λ s. IsCount (asked s.now.reader.told.router (before ++ rests_of (map (λ x. rest_line (feed_of x)) (done ++ ss)))) (length s.steps) (end_of_feed s.now)) ss →
      All (λ s. end_of_feed s.now ≡ Some (end_or (end_of_feed s.now))) ss
  ended-by before [] done counted = All-nil (λ s. end_of_feed s.now ≡ Some (end_or (end_of_feed s.now)))
  ended-by before (s ∷ ss) done counted =
      let rests : List (Strand S) → List Line = λ xs. map (λ x. rest_line (feed_of x)) xs in
      let r : RouterId = s.now.reader.told.router in
      let C : List (Strand S) → Strand S → Type 0 = λ xs s. IsCount (asked s.now.reader.told.router (before ++ rests_of (rests xs))) (length s.steps) (end_of_feed s.now) in
      let own : (r.0 == r.0) ≡ true = eq-eqb r.0 r.0 refl in
      let named : list_any (takes r) (rests (done ++ s ∷ ss)) ≡ true =
      ap (list_any (takes r)) (map-append (λ x. rest_line (feed_of x)) done (s ∷ ss)) ∙ list_any-append (takes r) (rests done) (rests (s ∷ ss))
      ∙ ap (λ b. list_any (takes r) (rests done) || (b || list_any (takes r) (rests ss))) own ∙ or-true (list_any (takes r) (rests done)) in
      let all : asked r (before ++ rests_of (rests (done ++ s ∷ ss))) ≡ None = asked-rests r before (rests (done ++ s ∷ ss)) named in
      All-cons (λ s. end_of_feed s.now ≡ Some (end_or (end_of_feed s.now))) s ss
      (end-is (length s.steps) (end_of_feed s.now) (subst (λ (c : Option ℕ). IsCount c (length s.steps) (end_of_feed s.now)) all (All-head (C (done ++ s ∷ ss)) s ss counted)))
      (ended-by before ss (done ++ s ∷ []) (subst (λ (xs : List (Strand S)). All (C xs) ss) (sym (append_assoc done (s ∷ []) ss)) (All-tail (C (done ++ s ∷ ss)) s ss counted)))

  -- the rests of the feeds at a job's beginning are those of the strands
  pub rests-same : (news : List (Feed S)) (ss : List (Strand S)) (olds : List (Feed S)) → ReadOn t left faults place olds news → nows ss ≡ news → rests_by olds ≡ map (λ x. rest_line (feed_of x)) ss
  rests-same [] [] [] on is = refl
  rests-same [] [] (o ∷ olds) on is = absurd on
  rests-same [] (s ∷ ss) olds on is = cc
  rests-same (n ∷ news) [] olds on is = cc
  rests-same (n ∷ news) (s ∷ ss) [] on is = absurd on
  rests-same (n ∷ news) (s ∷ ss) (o ∷ olds) on is =
      let head : s.now ≡ n = cc in
      let tail : nows ss ≡ news = cc in
      ap (λ (q : RouterId). line.Take 0 q None ∷ rests_by olds) (sym on.0.router ∙ ap (λ (f : Feed S). f.reader.told.router) (sym head))
      ∙ ap (λ ls. rest_line (feed_of s) ∷ ls) (rests-same news ss olds on.1 tail)

  -- a job that has done its lines and taken the rests has run
  pub has-run : (number : ℕ) (start : List Entry) (seen : List Posted) (task : Task S) (olds news : List (Feed S)) (tolds : List Told) → All (IsFresh t faults) task.feeds → ReadOn t left faults place olds news →
      Tracks t left faults place limit number task.number start task.feeds news seen ((task.lines ++ rests_of task.lines) ++ rests_by olds) tolds →
      HasRun t left faults place limit number start seen task tolds (map back_of news)
  has-run number start seen task olds news tolds fresh on tracks =
      let ss : List (Strand S) = tracks.strands in
      let fs : List FeedRead = map feed_of ss in
      let job : Job = job_of task fs tracks.links.count in
      let rests : List Line = map (λ x. rest_line (feed_of x)) ss in
      let before : List Line = task.lines ++ rests_of task.lines in
      let itself : IsJobOn GoesOn task.number ss tracks.links job = job-itself task.number task.lines seen ss tracks.links tracks.woven.each in
      let same : rests_by olds ≡ rests = rests-same news ss olds on tracks.woven.nows in
      let w : Whatever t limit number start seen (before ++ rests_by olds) tolds job = tracks.whatever job itself in
      let lines-are : before ++ rests_by olds ≡ before ++ rests_of rests = ap (λ ls. before ++ ls) (same ∙ sym (rests-again ss)) in
      let ended : All (λ (s : Strand S). end_of_feed s.now ≡ Some (end_or (end_of_feed s.now))) ss =
      ended-by before ss [] (subst (λ (ls : List Line). All (λ (s : Strand S). IsCount (asked s.now.reader.told.router ls) (length s.steps) (end_of_feed s.now)) ss) lines-are tracks.counted) in
      record {
        feeds = fs;
        links = tracks.links;
        read = subst (λ (xs : List (Feed S)). AreReadBy t left faults place limit seen task.feeds (map back_of xs) fs) tracks.woven.nows
            (subst (λ (rs : List (Reader S)). AreReadBy t left faults place limit seen rs (map back_of (nows ss)) fs) tracks.woven.starts
            (read-itself seen ss (subst (λ (rs : List (Reader S)). All (IsFresh t faults) rs) (sym tracks.woven.starts) fresh) tracks.woven.each tracks.woven.passes ended));
        linked = subst (λ (es : List Entry). TookLinks tracks.links.full limit seen (length es) tracks.links.count) (links-all t task.number task.lines (rests_by olds) (rests-of-links t task.number olds)) tracks.linked;
        order = w.order ∙ ap (λ es. start ++ es) (ap (λ ls. given_along t job [] (before ++ ls)) (same ∙ rests-of-routers GoesOn (λ s f g. g.router) ss fs itself.feeds)
            ∙ job-order t job (two-of GoesOn (λ s f g. g.router) ss fs itself.feeds tracks.woven.apart));
        tells = tells-rests t limit seen number start job task.lines task.lines tolds
            (tells-rests t limit seen number start job before rests tolds
            (subst (λ (ls : List Line). TellsOwn t limit seen number start job [] 0 ls tolds) lines-are
            (subst (λ (h : List Posted). TellsOwn t limit h number start job [] 0 (before ++ rests_by olds) tolds) (append-nil seen) (w.tells []))));
      }

  -- every source came back
  pub backs-are : (readers : List (Reader S)) (olds news : List (Feed S)) → olds ≡ map unread readers → All (IsFresh t faults) readers → ReadOn t left faults place olds news →
      AllZip (IsBack t left faults place limit) readers (map back_of news)
  backs-are readers olds news are fresh on = backs readers news fresh (subst (λ (xs : List (Feed S)). ReadOn t left faults place xs news) are on)
    where
      backs : (readers : List (Reader S)) (news : List (Feed S)) → All (IsFresh t faults) readers → ReadOn t left faults place (map unread readers) news → AllZip (IsBack t left faults place limit) readers (map back_of news)
      backs [] [] fresh on = tt
      backs [] (n ∷ news) fresh on = absurd on
      backs (r ∷ readers) [] fresh on = absurd on
      backs (r ∷ readers) (n ∷ news) fresh on = (
        record {
          reader = n.reader;
          kept = n.kept;
          steps = on.0.more;
          source_is = refl;
          reads = on.0.on r [] (hands-none r (All-head (IsFresh t faults) r readers fresh));
          told_is = refl;
        },
        backs readers news (All-tail (IsFresh t faults) r readers fresh) on.1,
      )
