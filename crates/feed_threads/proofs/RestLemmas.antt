-- The rests of feeds, taken line by line, are what a job's lines leave of them.
use Rattle.std.proofs.Common.{◌≡◌, ℕ, Bool, true, false, ◌==◌, ◌&&◌, ◌||◌, not, cond, if◌then◌else◌, List, [], ◌∷◌, ◌++◌, length, filter, drop, get_or, All, Option, None, Some, refl, ap, sym, ◌∙◌, append_assoc}
use Rattle.std.specs.List.{list_any, flat_map}
use Rattle.std.proofs.lemmas.Bool.{or_parts}
use Rattle.std.proofs.lemmas.Grind.{flat_map-append}
use Rattle.std.proofs.lemmas.List.{append-nil}
use Rattle.std.proofs.lemmas.List.Elements.{All-head, All-tail}
use Rattle.dn_formats.specs.Lawful.{Job, asked, asked_by, both_counts, first_taken, front_of, given_along, kept_by, left_by, linked_by, taken_by, takes, takes_feed}
use Rattle.feed_model.specs.Steps.{FeedRead, kept_of, entries_of}
use Rattle.dn_model.specs.declared.entry.Entry.{Entry}
use Rattle.dn_model.specs.declared.entry.Op.{Op}
use Rattle.dn_model.specs.declared.topology.Topology.{Topology}
use Rattle.base.specs.declared.ids.RouterId.{RouterId}
use Rattle.dn_formats.specs.declared.script.Line.{Line}
use Rattle.dn_formats.specs.declared.script.Line.TheVariants as line
use Rattle.feed_threads.specs.Tracks.{rest_of, rests_of}
use Rattle.feed_threads.proofs.OrderLemmas.{asked-push, both-zero, asked-other, drop-all, linked-none, taken_by-other}

-- ---- how many frames lines ask for

both-none : (c : Option ℕ) → both_counts c None ≡ None
both-none None = refl
both-none (Some n) = refl

-- a feed of which all was asked is asked for no more
pub asked-stays : (r : RouterId) (before more : List Line) → asked r before ≡ None → asked r (before ++ more) ≡ None
asked-stays r before [] all = ap (asked r) (append-nil before) ∙ all
asked-stays r before (l ∷ more) all =
    ap (asked r) (sym (append_assoc before (l ∷ []) more))
    ∙ asked-stays r (before ++ l ∷ []) more (asked-push r before l ∙ ap (λ c. both_counts c (asked_by r l)) all)

asked-own : (r : RouterId) (before : List Line) (l : ℕ) (q : RouterId) → (q.0 == r.0) ≡ true → asked r (before ++ line.Take l q None ∷ []) ≡ None
asked-own r before l q own =
    let by : asked_by r (line.Take l q None) ≡ None = rw own refl in
    asked-push r before (line.Take l q None) ∙ ap (both_counts (asked r before)) by ∙ both-none (asked r before)

-- the rests of what lines name ask for all of a feed that they name, and for nothing of another
rests-by-name : (r : RouterId) (before more : List Line) (l : ℕ) (q : RouterId) (c : Option ℕ) (b : Bool) → (q.0 == r.0) ≡ b →
    (list_any (takes r) more ≡ true → asked r ((before ++ line.Take l q None ∷ []) ++ rests_of more) ≡ None) →
    list_any (takes r) (line.Take l q c ∷ more) ≡ true → asked r (before ++ rests_of (line.Take l q c ∷ more)) ≡ None
rests-by-name r before more l q c true own rest named =
    ap (asked r) (sym (append_assoc before (line.Take l q None ∷ []) (rests_of more)))
    ∙ asked-stays r (before ++ line.Take l q None ∷ []) (rests_of more) (asked-own r before l q own)
rests-by-name r before more l q c false other rest named =
    let later : list_any (takes r) more ≡ true = sym (ap (λ b. b || list_any (takes r) more) other) ∙ named in
    ap (asked r) (sym (append_assoc before (line.Take l q None ∷ []) (rests_of more))) ∙ rest later

pub asked-rests : (r : RouterId) (before more : List Line) → list_any (takes r) more ≡ true → asked r (before ++ rests_of more) ≡ None
asked-rests r before [] named = cc
asked-rests r before (line.Ask l q ∷ more) named = asked-rests r before more named
asked-rests r before (line.Link l n d ∷ more) named = asked-rests r before more named
asked-rests r before (line.Take l q c ∷ more) named =
    rests-by-name r before more l q c (q.0 == r.0) refl (asked-rests r (before ++ line.Take l q None ∷ []) more) named

pub asked-unnamed : (r : RouterId) (before more : List Line) → list_any (takes r) more ≡ false → asked r (before ++ rests_of more) ≡ asked r before
asked-unnamed r before [] named = ap (asked r) (append-nil before)
asked-unnamed r before (line.Ask l q ∷ more) named = asked-unnamed r before more named
asked-unnamed r before (line.Link l n d ∷ more) named = asked-unnamed r before more named
asked-unnamed r before (line.Take l q c ∷ more) named =
    let parts : ((q.0 == r.0) ≡ false) × (list_any (takes r) more ≡ false) = or_parts (q.0 == r.0) (list_any (takes r) more) named in
    ap (asked r) (sym (append_assoc before (line.Take l q None ∷ []) (rests_of more)))
    ∙ asked-unnamed r (before ++ line.Take l q None ∷ []) more parts.1
    ∙ asked-push r before (line.Take l q None) ∙ ap (both_counts (asked r before)) (asked-other r (line.Take l q None) parts.0) ∙ both-zero (asked r before)

-- ---- what is taken of each feed

kept-of-asked : (lines : List Line) (f : FeedRead) (c : Option ℕ) → asked f.router lines ≡ c → kept_by lines f ≡ kept_of f (front_of c f.steps)
kept-of-asked lines f c is = ap (λ c. kept_of f (front_of c f.steps)) is

-- the rest that a line names is what all lines leave of a feed that no line named before, and else it is nothing
rest-by : (lines done : List Line) (l : ℕ) (q : RouterId) (f : FeedRead) (own named : Bool) → (q.0 == f.router.0) ≡ own → takes_feed done f ≡ named →
    taken_by (lines ++ rests_of done) (line.Take l q None) f ≡ (if own && not named then left_by lines f else [])
rest-by lines done l q f false named other is = taken_by-other (lines ++ rests_of done) (line.Take l q None) f other
rest-by lines done l q f true true own is =
    let all : asked f.router (lines ++ rests_of done) ≡ None = asked-rests f.router lines done is in
    let before : kept_by (lines ++ rests_of done) f ≡ kept_of f f.steps = kept-of-asked (lines ++ rests_of done) f None all in
    let after : kept_by ((lines ++ rests_of done) ++ line.Take l q None ∷ []) f ≡ kept_of f f.steps =
    kept-of-asked ((lines ++ rests_of done) ++ line.Take l q None ∷ []) f None (asked-own f.router (lines ++ rests_of done) l q own) in
    ap (λ (xs : List (RouterId × Op)). entries_of f (drop (length xs) (kept_by ((lines ++ rests_of done) ++ line.Take l q None ∷ []) f))) before
    ∙ ap (λ (xs : List (RouterId × Op)). entries_of f (drop (length (kept_of f f.steps)) xs)) after ∙ ap (entries_of f) (drop-all (kept_of f f.steps))
rest-by lines done l q f true false own is =
    let same : asked f.router (lines ++ rests_of done) ≡ asked f.router lines = asked-unnamed f.router lines done is in
    let before : kept_by (lines ++ rests_of done) f ≡ kept_by lines f = kept-of-asked (lines ++ rests_of done) f (asked f.router lines) same in
    let after : kept_by ((lines ++ rests_of done) ++ line.Take l q None ∷ []) f ≡ kept_of f f.steps =
    kept-of-asked ((lines ++ rests_of done) ++ line.Take l q None ∷ []) f None (asked-own f.router (lines ++ rests_of done) l q own) in
    ap (λ (xs : List (RouterId × Op)). entries_of f (drop (length xs) (kept_by ((lines ++ rests_of done) ++ line.Take l q None ∷ []) f))) before
    ∙ ap (λ (xs : List (RouterId × Op)). entries_of f (drop (length (kept_by lines f)) xs)) after

-- what is made of some things alone
flat-by-test : {X Y : Type 0} (p : X → Bool) (g h : X → List Y) (x : X) (xs : List X) (b : Bool) → p x ≡ b → h x ≡ (if p x then g x else []) → flat_map h xs ≡ flat_map g (filter p xs) →
    flat_map h (x ∷ xs) ≡ flat_map g (filter p (x ∷ xs))
flat-by-test p g h x xs true e here rest =
    ap (λ ys. ys ++ flat_map h xs) (here ∙ ap (λ b. if b then g x else []) e) ∙ ap (λ ys. g x ++ ys) rest ∙ ap (λ b. flat_map g (cond b (x ∷ filter p xs) (filter p xs))) (sym e)
flat-by-test p g h x xs false e here rest =
    ap (λ ys. ys ++ flat_map h xs) (here ∙ ap (λ b. if b then g x else []) e) ∙ rest ∙ ap (λ b. flat_map g (cond b (x ∷ filter p xs) (filter p xs))) (sym e)

flat-if : {X Y : Type 0} (p : X → Bool) (g h : X → List Y) → ((x : X) → h x ≡ (if p x then g x else [])) → (xs : List X) → flat_map h xs ≡ flat_map g (filter p xs)
flat-if p g h same [] = refl
flat-if p g h same (x ∷ xs) = flat-by-test p g h x xs (p x) refl (same x) (flat-if p g h same xs)

pub filter-none : {X : Type 0} (p : X → Bool) (xs : List X) → All (λ x. p x ≡ false) xs → filter p xs ≡ []
filter-none p [] a = refl
filter-none p (x ∷ xs) a =
    let here : p x ≡ false = All-head (λ x. p x ≡ false) x xs a in
    rw here (filter-none p xs (All-tail (λ x. p x ≡ false) x xs a))

-- a line that takes nothing takes no feed first
first-same : (fs : List FeedRead) (done : List Line) (l : Line) → ((r : RouterId) → takes r l ≡ false) → rest_of l ≡ [] → filter (λ f. takes f.router l && not (takes_feed done f)) fs ≡ []
first-same fs done l none same = filter-none (λ f. takes f.router l && not (takes_feed done f)) fs (λ k d i. ap (λ b. b && not (takes_feed done (get_or fs k d))) (none (get_or fs k d).router))

module _ (t : Topology) (job : Job) where
  -- a line that takes nothing has no rest
  rest-none : (lines done more : List Line) (l : Line) → ((r : RouterId) → takes r l ≡ false) → rest_of l ≡ [] →
      given_along t job (lines ++ rests_of (done ++ l ∷ [])) (rests_of more) ≡ flat_map (left_by lines) (first_taken job.feeds (done ++ l ∷ []) more) →
      given_along t job (lines ++ rests_of done) (rests_of more) ≡ flat_map (left_by lines) (first_taken job.feeds done (l ∷ more))
  rest-none lines done more l none rest later =
      let same : rests_of (done ++ l ∷ []) ≡ rests_of done =
      flat_map-append rest_of done (l ∷ []) ∙ ap (λ ls. rests_of done ++ (ls ++ [])) rest ∙ append-nil (rests_of done) in
      ap (λ b. given_along t job (lines ++ b) (rests_of more)) (sym same) ∙ later
      ∙ ap (λ gs. flat_map (left_by lines) (gs ++ first_taken job.feeds (done ++ l ∷ []) more)) (sym (first-same job.feeds done l none rest))

  -- the rests of what lines name are what all lines leave of the feeds that these name first
  pub rests-left : (lines done more : List Line) → given_along t job (lines ++ rests_of done) (rests_of more) ≡ flat_map (left_by lines) (first_taken job.feeds done more)
  rests-left lines done [] = refl
  rests-left lines done (line.Ask l q ∷ more) = rest-none lines done more (line.Ask l q) (λ r. refl) refl (rests-left lines (done ++ line.Ask l q ∷ []) more)
  rests-left lines done (line.Link l n d ∷ more) = rest-none lines done more (line.Link l n d) (λ r. refl) refl (rests-left lines (done ++ line.Link l n d ∷ []) more)
  rests-left lines done (line.Take l q c ∷ more) =
      let y : Line = line.Take l q None in
      let p : FeedRead → Bool = λ f. takes f.router (line.Take l q c) && not (takes_feed done f) in
      let here : flat_map (taken_by (lines ++ rests_of done) y) job.feeds ≡ flat_map (left_by lines) (filter p job.feeds) =
      flat-if p (left_by lines) (taken_by (lines ++ rests_of done) y) (λ f. rest-by lines done l q f (q.0 == f.router.0) (takes_feed done f) refl refl) job.feeds in
      let next : (lines ++ rests_of done) ++ y ∷ [] ≡ lines ++ rests_of (done ++ line.Take l q c ∷ []) =
      append_assoc lines (rests_of done) (y ∷ []) ∙ ap (λ b. lines ++ b) (sym (flat_map-append rest_of done (line.Take l q c ∷ []))) in
      let rest : List Entry = given_along t job ((lines ++ rests_of done) ++ y ∷ []) (rests_of more) in
      ap (λ es. (es ++ linked_by t job (lines ++ rests_of done) y) ++ rest) here
      ∙ ap (λ es. (flat_map (left_by lines) (filter p job.feeds) ++ es) ++ rest) (linked-none t job (lines ++ rests_of done) y refl)
      ∙ ap (λ es. es ++ rest) (append-nil (flat_map (left_by lines) (filter p job.feeds)))
      ∙ ap (λ b. flat_map (left_by lines) (filter p job.feeds) ++ given_along t job b (rests_of more)) next
      ∙ ap (λ es. flat_map (left_by lines) (filter p job.feeds) ++ es) (rests-left lines (done ++ line.Take l q c ∷ []) more)
      ∙ sym (flat_map-append (left_by lines) (filter p job.feeds) (first_taken job.feeds (done ++ line.Take l q c ∷ []) more))

-- ---- lines after lines

pub first_taken-append : (fs : List FeedRead) (before xs ys : List Line) → first_taken fs before (xs ++ ys) ≡ first_taken fs before xs ++ first_taken fs (before ++ xs) ys
first_taken-append fs before [] ys = ap (λ b. first_taken fs b ys) (sym (append-nil before))
first_taken-append fs before (x ∷ xs) ys =
    let p : FeedRead → Bool = λ f. takes f.router x && not (takes_feed before f) in
    ap (λ gs. filter p fs ++ gs) (first_taken-append fs (before ++ x ∷ []) xs ys ∙ ap (λ b. first_taken fs (before ++ x ∷ []) xs ++ first_taken fs b ys) (append_assoc before (x ∷ []) xs))
    ∙ sym (append_assoc (filter p fs) (first_taken fs (before ++ x ∷ []) xs) (first_taken fs (before ++ x ∷ xs) ys))
