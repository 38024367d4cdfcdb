-- No feed and no link line meets a full history where all together give fewer entries than it takes.
use Rattle.std.proofs.Common.{◌≡◌, ℕ, ◌+◌, ◌*◌, ◌<◌, ◌≤◌, Bool, true, false, ◌||◌, not, cond, List, [], ◌∷◌, length, get_or, filter, Option, None, Some, All, refl, ap, sym, ◌∙◌, arith, subst, length-take}
use Rattle.std.specs.List.{cons_option, list_any}
use Rattle.std.proofs.lemmas.List.{length-map}
use Rattle.std.proofs.lemmas.List.Filters.{length-filter_both}
use Rattle.std.proofs.lemmas.List.Sums.{length-filter, count_by-le-length}
use Rattle.std.proofs.lemmas.List.Elements.{All-nil, All-cons, All-head, All-tail}
use Rattle.dn_model.specs.declared.entry.Entry.{Entry}
use Rattle.dn_model.specs.declared.entry.Entry.TheVariants.{Route}
use Rattle.dn_model.specs.declared.entry.Op.{Op}
use Rattle.base.specs.declared.ids.RouterId.{RouterId}
use Rattle.dn_model.specs.declared.topology.Topology.{Topology}
use Rattle.dn_formats.specs.Lawful.{IsBrokenOff, IsKeptAt, IsLawful, Job, is_by, is_by_some, is_from, is_from_some, kept_of_links, link_entries, link_entry}
use Rattle.feed_model.specs.Steps.{FeedRead, kept_of, updates}
use Rattle.dn_formats.specs.declared.script.Line.{Line}
use Rattle.feed_model.specs.declared.feed_told.FeedEnd.{FeedEnd}
use Rattle.feed_model.specs.declared.feed_told.FeedEnd.TheVariants as ends
use Rattle.dn_formats.specs.declared.told.JobTold.{JobTold}
use Rattle.feed_threads.proofs.EntriesLemmas.{filter-swap}

filter-fewer : {X : Type 0} (p : X → Bool) (xs : List X) → length (filter p xs) ≤ length xs
filter-fewer p xs = let is = length-filter p xs in let few = count_by-le-length p xs in omega (arith, is, few)

-- ---- entries by tests

-- what is not of the first of some tests is of the others
rest-by : {X : Type 0} (test : X → Entry → Bool) (x : X) (xs : List X) (e : Entry) (b : Bool) → test x e ≡ b → (b || list_any (λ y. test y e) xs) ≡ true → (es : List Entry) → All (λ e. list_any (λ y. test y e) xs ≡ true) es →
    All (λ e. list_any (λ y. test y e) xs ≡ true) (cond (not b) (e ∷ es) es)
rest-by test x xs e true is some es a = a
rest-by test x xs e false is some es a = All-cons (λ e. list_any (λ y. test y e) xs ≡ true) e es some a

rest-some : {X : Type 0} (test : X → Entry → Bool) (x : X) (xs : List X) (h : List Entry) → All (λ e. list_any (λ y. test y e) (x ∷ xs) ≡ true) h →
    All (λ e. list_any (λ y. test y e) xs ≡ true) (filter (λ e. not (test x e)) h)
rest-some test x xs [] a = All-nil (λ e. list_any (λ y. test y e) xs ≡ true)
rest-some test x xs (e ∷ h) a =
    rest-by test x xs e (test x e) refl (All-head (λ e. list_any (λ y. test y e) (x ∷ xs) ≡ true) e h a) (filter (λ e. not (test x e)) h)
    (rest-some test x xs h (All-tail (λ e. list_any (λ y. test y e) (x ∷ xs) ≡ true) e h a))

fewer-of : {X : Type 0} (test : X → Entry → Bool) (room : ℕ) (y : X) (p : Entry → Bool) (h : List Entry) → 28 * length (filter (test y) h) ≤ room → 28 * length (filter (test y) (filter p h)) ≤ room
fewer-of test room y p h own =
    let fewer : length (filter (test y) (filter p h)) ≤ length (filter (test y) h) =
    subst (λ (es : List Entry). length es ≤ length (filter (test y) h)) (sym (filter-swap (test y) p h)) (filter-fewer p (filter (test y) h)) in
    omega (arith, fewer, own)

-- a list has no more entries than its tests let through together
room-all : {X : Type 0} (test : X → Entry → Bool) (room : ℕ) (xs : List X) (h : List Entry) → All (λ e. list_any (λ y. test y e) xs ≡ true) h → All (λ x. 28 * length (filter (test x) h) ≤ room) xs → 28 * length h ≤ length xs * room
room-all test room [] [] some each = omega arith
room-all test room [] (e ∷ h) some each = absurd (let no : false ≡ true = All-head (λ e. list_any (λ y. test y e) [] ≡ true) e h some in cc (no))
room-all test room (x ∷ xs) h some each =
    let out : List Entry = filter (λ e. not (test x e)) h in
    let both : length (filter (test x) h) + length out ≡ length h = length-filter_both (test x) (λ e. not (test x e)) (λ e. refl) h in
    let here : 28 * length (filter (test x) h) ≤ room = All-head (λ x. 28 * length (filter (test x) h) ≤ room) x xs each in
    let tail : All (λ y. 28 * length (filter (test y) h) ≤ room) xs = All-tail (λ x. 28 * length (filter (test x) h) ≤ room) x xs each in
    let rest : 28 * length out ≤ length xs * room =
    room-all test room xs out (rest-some test x xs h some) (λ k d less. fewer-of test room (get_or xs k d) (λ e. not (test x e)) h (tail k d less)) in
    omega (arith, both, here, rest)

-- ---- link entries

links-few : (t : Topology) (n : ℕ) (lines : List Line) → length (link_entries t n lines) ≤ length lines
links-few t n [] = omega arith
links-few t n (l ∷ lines) = one-more (link_entry t n l) (links-few t n lines)
  where
    one-more : (o : Option Entry) → length (link_entries t n lines) ≤ length lines → length (cons_option o (link_entries t n lines)) ≤ length (l ∷ lines)
    one-more None few = omega (arith, few)
    one-more (Some e) few = omega (arith, few)

-- an entry that is not of a feed is of a job
by-jobs : (feeds : List FeedRead) (jobs : List Job) (h : List Entry) → All (λ e. (is_from_some feeds e || is_by_some jobs e) ≡ true) h → All (λ e. is_by_some jobs e ≡ true) (filter (λ e. not (is_from_some feeds e)) h)
by-jobs feeds jobs [] a = All-nil (λ e. is_by_some jobs e ≡ true)
by-jobs feeds jobs (e ∷ h) a =
    by-one (is_from_some feeds e) (All-head (λ e. (is_from_some feeds e || is_by_some jobs e) ≡ true) e h a) (by-jobs feeds jobs h (All-tail (λ e. (is_from_some feeds e || is_by_some jobs e) ≡ true) e h a))
  where
    by-one : (b : Bool) → (b || is_by_some jobs e) ≡ true → All (λ e. is_by_some jobs e ≡ true) (filter (λ e. not (is_from_some feeds e)) h) →
        All (λ e. is_by_some jobs e ≡ true) (cond (not b) (e ∷ filter (λ e. not (is_from_some feeds e)) h) (filter (λ e. not (is_from_some feeds e)) h))
    by-one true some rest = rest
    by-one false some rest = All-cons (λ e. is_by_some jobs e ≡ true) e (filter (λ e. not (is_from_some feeds e)) h) some rest

by-feeds : (feeds : List FeedRead) (h : List Entry) → All (λ e. is_from_some feeds e ≡ true) (filter (is_from_some feeds) h)
by-feeds feeds [] = All-nil (λ e. is_from_some feeds e ≡ true)
by-feeds feeds (e ∷ h) = by-one (is_from_some feeds e) refl (by-feeds feeds h)
  where
    by-one : (b : Bool) → is_from_some feeds e ≡ b → All (λ e. is_from_some feeds e ≡ true) (filter (is_from_some feeds) h) → All (λ e. is_from_some feeds e ≡ true) (cond b (e ∷ filter (is_from_some feeds) h) (filter (is_from_some feeds) h))
    by-one true is rest = All-cons (λ e. is_from_some feeds e ≡ true) e (filter (is_from_some feeds) h) is rest
    by-one false is rest = rest

-- ---- room

-- a lawful history has room left where so many feeds with this room each and so many jobs with so many lines each give fewer
-- entries than the limit
pub room-left : (t : Topology) (limit room lines : ℕ) (feeds : List FeedRead) (jobs : List Job) (h : List Entry) (tolds : List JobTold) → IsLawful t limit feeds jobs h tolds →
    All (λ f. 28 * length (updates f.steps) ≤ room) feeds → All (λ j. length j.lines ≤ lines) jobs → length feeds * room + length jobs * (28 * lines) < 28 * limit → length h < limit
room-left t limit room lines feeds jobs h tolds lawful fits few less =
    let fed : List Entry = filter (is_from_some feeds) h in
    let linked : List Entry = filter (λ e. not (is_from_some feeds e)) h in
    let both : length fed + length linked ≡ length h = length-filter_both (is_from_some feeds) (λ e. not (is_from_some feeds e)) (λ e. refl) h in
    let of-feeds : 28 * length fed ≤ length feeds * room =
    room-all is_from room feeds fed (by-feeds feeds h)
    (λ i d there.
    let g : FeedRead = get_or feeds i d in
    let is : length (filter (is_from g) h) ≡ length (kept_of g g.steps) =
    ap length (lawful.shuffle.each i d there) ∙ length-map (kept_of g g.steps) (λ (u : RouterId × Op). Route u.0 g.feed_no u.1) in
    let kept : length (kept_of g g.steps) ≤ length (updates g.steps) = (let len = length-take g.kept (updates g.steps) in omega (arith, len)) in
    let own : 28 * length (updates g.steps) ≤ room = fits i d there in
    fewer-of is_from room g (is_from_some feeds) h (omega (arith, is, kept, own))) in
    let of-jobs : 28 * length linked ≤ length jobs * (28 * lines) =
    room-all (λ j. is_by j.number) (28 * lines) jobs linked (by-jobs feeds jobs h lawful.shuffle.only)
    (λ i d there.
    let j : Job = get_or jobs i d in
    let is : length (filter (is_by j.number) h) ≡ length (kept_of_links t j j.lines) = ap length (lawful.shuffle.each_link i d there) in
    let kept : length (kept_of_links t j j.lines) ≤ length (link_entries t j.number j.lines) = (let len = length-take j.kept_links (link_entries t j.number j.lines) in omega (arith, len)) in
    let made : length (link_entries t j.number j.lines) ≤ length j.lines = links-few t j.number j.lines in
    let own : length j.lines ≤ lines = few i d there in
    fewer-of (λ k. is_by k.number) (28 * lines) j (λ e. not (is_from_some feeds e)) h (omega (arith, is, kept, made, own))) in
    omega (arith, both, of-feeds, of-jobs, less)

-- of no feed of a lawful history with room left the end is that of a full one
pub never-full : (t : Topology) (limit : ℕ) (feeds : List FeedRead) (jobs : List Job) (h : List Entry) (tolds : List JobTold) → IsLawful t limit feeds jobs h tolds → length h < limit →
    All (λ f. f.end ≡ ends.Full → ⊥) feeds
never-full t limit feeds jobs h tolds lawful less = λ k d below.
    λ full.
    let f : FeedRead = get_or feeds k d in
    let broken : IsBrokenOff limit h f = subst (λ (e : FeedEnd). IsKeptAt e limit h f) full (lawful.shuffle.kept k d below) in
    let long : length h ≡ limit = broken.full in
    omega (arith, long, less)
