-- What of a job's entries is one of its feeds', and what its link lines'.
use Rattle.std.proofs.Common.{◌≡◌, ℕ, zero, suc, ◌+◌, ◌<◌, ◌≤◌, ◌⊎◌, inl, inr, ⊎_elim, Bool, true, false, ◌==◌, ◌&&◌, ◌||◌, not, cond, List, [], ◌∷◌, ◌++◌, length, get_or, filter, take, drop, All, Option, None, Some, refl, ap, sym, ◌∙◌, arith, subst, append_assoc, eq-eqb}
use Rattle.std.specs.List.{cons_option, list_any, flat_map, Contains}
use Rattle.std.specs.Option.{option_map}
use Rattle.std.proofs.Math.Bool.{or-false, or-true}
use Rattle.std.proofs.Math.Seq.{take-nil, drop-append_seam}
use Rattle.std.proofs.lemmas.Bool.{and_parts, or_parts}
use Rattle.std.proofs.lemmas.Bool.Decides.{nat_tests}
use Rattle.std.proofs.lemmas.Grind.{fold-append, flat_map-append}
use Rattle.std.proofs.lemmas.List.{append-nil, map-append, length-append, take-append-drop, take-take, drop-append-le}
use Rattle.std.proofs.lemmas.List.Folds.{list_any-append, list_any_at}
use Rattle.std.proofs.lemmas.List.Elements.{All-nil, All-cons, All-head, All-tail, All-append, All-drop, All-filter, All-map, All-take, All-contains, filter-append}
use Rattle.base.specs.Lists.{all_differ}
use Rattle.dn_model.specs.declared.entry.Entry.{Entry}
use Rattle.dn_model.specs.declared.entry.Entry.TheVariants.{Route}
use Rattle.dn_model.specs.declared.entry.Entry.TheVariants as entry
use Rattle.dn_model.specs.Lookup.{link_of}
use Rattle.base.specs.declared.ids.LinkId.{LinkId}
use Rattle.dn_model.specs.declared.topology.Topology.{Topology}
use Rattle.dn_model.specs.declared.entry.Op.{Op}
use Rattle.base.specs.declared.ids.RouterId.{RouterId}
use Rattle.dn_formats.specs.Lawful.{Job, asked, asked_by, both_counts, entries_of_job, first_taken, front_of, given_along, is_by, is_from, is_from_some, is_own, kept_by, kept_of_links, left_by, link_entries, link_entry, linked_by, taken, taken_by, takes, takes_feed}
use Rattle.feed_model.specs.Steps.{FrameStep, FeedRead, ops_of, updates, kept_of, entries_of}
use Rattle.dn_formats.specs.declared.script.Line.{Line}
use Rattle.dn_formats.specs.declared.script.Line.TheVariants as line
use Rattle.feed_threads.proofs.OrderLemmas.{links-append}

-- ---- lists of which one begins with the other

pub record Front {X : Type 0} (xs ys : List X) : Type 0 where
  pub more : List X
  pub whole : ys ≡ xs ++ more

front-trans : {X : Type 0} (xs ys zs : List X) → Front xs ys → Front ys zs → Front xs zs
front-trans xs ys zs p q = record { more = p.more ++ q.more; whole = q.whole ∙ ap (λ w. w ++ q.more) p.whole ∙ append_assoc xs p.more q.more }

front-take : {X : Type 0} (n : ℕ) (xs more : List X) → Front (take n xs) (take n (xs ++ more))
front-take zero xs more = record { more = []; whole = refl }
front-take (suc n) [] more = record { more = take (suc n) more; whole = refl }
front-take (suc n) (x ∷ xs) more =
    let r : Front (take n xs) (take n (xs ++ more)) = front-take n xs more in
    record { more = r.more; whole = ap (λ ys. x ∷ ys) r.whole }

-- what is past a point of the first, and what of the second is past the first, is what of the second is past that point
drops : {X : Type 0} (n : ℕ) (xs ys : List X) → n ≤ length xs → Front xs ys → drop n xs ++ drop (length xs) ys ≡ drop n ys
drops n xs ys le p =
    ap (λ w. drop n xs ++ drop (length xs) w) p.whole ∙ ap (λ w. drop n xs ++ w) (drop-append_seam xs p.more)
    ∙ sym (drop-append-le n xs p.more le) ∙ ap (drop n) (sym p.whole)

drop-all : {X : Type 0} (xs : List X) → drop (length xs) xs ≡ []
drop-all [] = refl
drop-all (x ∷ xs) = drop-all xs

-- ---- what lines take of a feed

front-counts : (c d : Option ℕ) (steps : List FrameStep) → Front (front_of c steps) (front_of (both_counts c d) steps)
front-counts None d steps = record { more = []; whole = sym (append-nil steps) }
front-counts (Some m) None steps = record { more = drop m steps; whole = sym (take-append-drop m steps) }
front-counts (Some m) (Some n) steps = record {
  more = drop m (take (m + n) steps);
  whole = sym (take-append-drop m (take (m + n) steps)) ∙ ap (λ w. w ++ drop m (take (m + n) steps)) (take-take m (m + n) steps (omega arith));
}

front-steps : (c : Option ℕ) (steps : List FrameStep) → Front (front_of c steps) steps
front-steps None steps = record { more = []; whole = sym (append-nil steps) }
front-steps (Some m) steps = record { more = drop m steps; whole = sym (take-append-drop m steps) }

asked-push : (r : RouterId) (before : List Line) (l : Line) → asked r (before ++ l ∷ []) ≡ both_counts (asked r before) (asked_by r l)
asked-push r before l = simp (map-append, fold-append)

-- more frames give more of the updates that are kept
kept-front : (f : FeedRead) (xs ys : List FrameStep) → Front xs ys → Front (kept_of f xs) (kept_of f ys)
kept-front f xs ys p =
    let r : Front (take f.kept (updates xs)) (take f.kept (updates xs ++ updates p.more)) = front-take f.kept (updates xs) (updates p.more) in
    record { more = r.more; whole = ap (take f.kept) (ap updates p.whole ∙ flat_map-append ops_of xs p.more) ∙ r.whole }

kept-grows : (before : List Line) (l : Line) (f : FeedRead) → Front (kept_by before f) (kept_by (before ++ l ∷ []) f)
kept-grows before l f =
    kept-front f (taken before f) (taken (before ++ l ∷ []) f)
    (subst (λ (c : Option ℕ). Front (taken before f) (front_of c f.steps)) (sym (asked-push f.router before l))
    (front-counts (asked f.router before) (asked_by f.router l) f.steps))

kept-more : (before lines : List Line) (f : FeedRead) → Front (kept_by before f) (kept_by (before ++ lines) f)
kept-more before [] f = record { more = []; whole = ap (λ b. kept_by b f) (append-nil before) ∙ sym (append-nil (kept_by before f)) }
kept-more before (l ∷ lines) f =
    front-trans (kept_by before f) (kept_by (before ++ l ∷ []) f) (kept_by (before ++ l ∷ lines) f) (kept-grows before l f)
    (subst (λ (b : List Line). Front (kept_by (before ++ l ∷ []) f) (kept_by b f)) (append_assoc before (l ∷ []) lines) (kept-more (before ++ l ∷ []) lines f))

kept-whole : (lines : List Line) (f : FeedRead) → Front (kept_by lines f) (kept_of f f.steps)
kept-whole lines f = kept-front f (taken lines f) f.steps (front-steps (asked f.router lines) f.steps)

entries-join : (f : FeedRead) (xs ys : List (RouterId × Op)) → entries_of f xs ++ entries_of f ys ≡ entries_of f (xs ++ ys)
entries-join f xs ys = sym (map-append (λ (u : RouterId × Op). Route u.0 f.feed_no u.1) xs ys)

-- ---- what lines take of feeds

-- what lines take of some feeds, line by line, beyond what lines before took
abbrev pub taken_along : List FeedRead → List Line → List Line → List Entry
taken_along fs before [] = []
taken_along fs before (l ∷ lines) = flat_map (taken_by before l) fs ++ taken_along fs (before ++ l ∷ []) lines

-- ---- a feed

-- what lines take of one feed, beyond what lines before took
taken-alone : (f : FeedRead) (before lines : List Line) → taken_along (f ∷ []) before lines ≡ entries_of f (drop (length (kept_by before f)) (kept_by (before ++ lines) f))
taken-alone f before [] =
    sym (ap (λ b. entries_of f (drop (length (kept_by before f)) (kept_by b f))) (append-nil before) ∙ ap (entries_of f) (drop-all (kept_by before f)))
taken-alone f before (l ∷ lines) =
    let k : List (RouterId × Op) = kept_by before f in
    let m : List (RouterId × Op) = kept_by (before ++ l ∷ []) f in
    let n : List (RouterId × Op) = kept_by (before ++ l ∷ lines) f in
    let grows : Front k m = kept-grows before l f in
    let longer : length m ≡ length k + length grows.more = ap length grows.whole ∙ length-append k grows.more in
    let rest : Front m n =
    subst (λ (b : List Line). Front m (kept_by b f)) (append_assoc before (l ∷ []) lines) (kept-more (before ++ l ∷ []) lines f) in
    ap (λ es. es ++ taken_along (f ∷ []) (before ++ l ∷ []) lines) (append-nil (taken_by before l f))
    ∙ ap (λ es. taken_by before l f ++ es) (taken-alone f (before ++ l ∷ []) lines)
    ∙ ap (λ b. taken_by before l f ++ entries_of f (drop (length m) (kept_by b f))) (append_assoc before (l ∷ []) lines)
    ∙ entries-join f (drop (length k) m) (drop (length m) n)
    ∙ ap (entries_of f) (drops (length k) m n (omega (arith, longer)) rest)

-- what lines take of one feed
pub taken-first : (f : FeedRead) (lines : List Line) → taken_along (f ∷ []) [] lines ≡ entries_of f (kept_by lines f)
taken-first f lines =
    taken-alone f [] lines ∙ ap (λ (ops : List (RouterId × Op)). entries_of f (drop (length ops) (kept_by lines f))) (take-nil f.kept)

abbrev one_if : Bool → FeedRead → List FeedRead
one_if true f = f ∷ []
one_if false f = []

none-if : (b : Bool) (f : FeedRead) → [] ≡ one_if (b && false) f
none-if true f = refl
none-if false f = refl

by-line : (f : FeedRead) (b k later : Bool) → cond (k && not b) (f ∷ []) [] ++ one_if (not (b || k) && later) f ≡ one_if (not b && (k || later)) f
by-line f true true later = refl
by-line f true false later = refl
by-line f false true later = refl
by-line f false false later = refl

takes-push : (f : FeedRead) (before : List Line) (l : Line) → takes_feed (before ++ l ∷ []) f ≡ (takes_feed before f || takes f.router l)
takes-push f before l = list_any-append (takes f.router) before (l ∷ []) ∙ ap (λ b. takes_feed before f || b) (or-false (takes f.router l))

first-alone : (f : FeedRead) (before lines : List Line) → first_taken (f ∷ []) before lines ≡ one_if (not (takes_feed before f) && takes_feed lines f) f
first-alone f before [] = none-if (not (takes_feed before f)) f
first-alone f before (l ∷ lines) =
    ap (λ fs. filter (λ f. takes f.router l && not (takes_feed before f)) (f ∷ []) ++ fs)
    (first-alone f (before ++ l ∷ []) lines ∙ ap (λ b. one_if (not b && takes_feed lines f) f) (takes-push f before l))
    ∙ by-line f (takes_feed before f) (takes f.router l) (takes_feed lines f)

once : (f : FeedRead) (b : Bool) → one_if (true && b) f ++ cond (not b) (f ∷ []) [] ≡ f ∷ []
once f true = refl
once f false = refl

-- a feed comes once among those that lines take first and those that they don't take
all-alone : (f : FeedRead) (lines : List Line) → first_taken (f ∷ []) [] lines ++ filter (λ f. not (takes_feed lines f)) (f ∷ []) ≡ f ∷ []
all-alone f lines = ap (λ fs. fs ++ filter (λ f. not (takes_feed lines f)) (f ∷ [])) (first-alone f [] lines) ∙ once f (takes_feed lines f)

job-alone : (f : FeedRead) (lines : List Line) →
    taken_along (f ∷ []) [] lines ++ flat_map (left_by lines) (first_taken (f ∷ []) [] lines ++ filter (λ f. not (takes_feed lines f)) (f ∷ [])) ≡ entries_of f (kept_of f f.steps)
job-alone f lines =
    ap (λ es. es ++ flat_map (left_by lines) (first_taken (f ∷ []) [] lines ++ filter (λ f. not (takes_feed lines f)) (f ∷ []))) (taken-first f lines)
    ∙ ap (λ fs. entries_of f (kept_by lines f) ++ flat_map (left_by lines) fs) (all-alone f lines)
    ∙ ap (λ es. entries_of f (kept_by lines f) ++ es) (append-nil (left_by lines f))
    ∙ entries-join f (kept_by lines f) (drop (length (kept_by lines f)) (kept_of f f.steps))
    ∙ ap (entries_of f) (drops 0 (kept_by lines f) (kept_of f f.steps) (omega arith) (kept-whole lines f))

-- ---- feeds of one number among others

abbrev pub same_number : FeedRead → FeedRead → Bool
same_number f g = f.feed_no == g.feed_no

abbrev same_as : FeedRead → FeedRead → Bool
same_as f g = g.feed_no == f.feed_no

swap-by : {X : Type 0} (p q : X → Bool) (x : X) (ps qs : List X) (b c : Bool) → p x ≡ b → q x ≡ c → filter p qs ≡ filter q ps →
    filter p (cond c (x ∷ qs) qs) ≡ filter q (cond b (x ∷ ps) ps)
swap-by p q x ps qs true true is-p is-q same =
    ap (λ d. cond d (x ∷ filter p qs) (filter p qs)) is-p ∙ ap (λ ys. x ∷ ys) same ∙ sym (ap (λ d. cond d (x ∷ filter q ps) (filter q ps)) is-q)
swap-by p q x ps qs true false is-p is-q same = same ∙ sym (ap (λ d. cond d (x ∷ filter q ps) (filter q ps)) is-q)
swap-by p q x ps qs false true is-p is-q same = ap (λ d. cond d (x ∷ filter p qs) (filter p qs)) is-p ∙ same
swap-by p q x ps qs false false is-p is-q same = same

pub filter-swap : {X : Type 0} (p q : X → Bool) (xs : List X) → filter p (filter q xs) ≡ filter q (filter p xs)
filter-swap p q [] = refl
filter-swap p q (x ∷ xs) = swap-by p q x (filter p xs) (filter q xs) (p x) (q x) refl refl (filter-swap p q xs)

first-filter : (p : FeedRead → Bool) (fs : List FeedRead) (before lines : List Line) → filter p (first_taken fs before lines) ≡ first_taken (filter p fs) before lines
first-filter p fs before [] = refl
first-filter p fs before (l ∷ lines) =
    filter-append p (filter (λ f. takes f.router l && not (takes_feed before f)) fs) (first_taken fs (before ++ l ∷ []) lines)
    ∙ ap (λ gs. gs ++ filter p (first_taken fs (before ++ l ∷ []) lines)) (filter-swap p (λ f. takes f.router l && not (takes_feed before f)) fs)
    ∙ ap (λ gs. filter (λ f. takes f.router l && not (takes_feed before f)) (filter p fs) ++ gs) (first-filter p fs (before ++ l ∷ []) lines)

from-own : (f x : FeedRead) (ops : List (RouterId × Op)) → same_as f x ≡ true → filter (is_from f) (entries_of x ops) ≡ entries_of x ops
from-own f x [] own = refl
from-own f x (u ∷ us) own = rw own (ap (λ es. Route u.0 x.feed_no u.1 ∷ es) (from-own f x us own))

from-other : (f x : FeedRead) (ops : List (RouterId × Op)) → same_as f x ≡ false → filter (is_from f) (entries_of x ops) ≡ []
from-other f x [] other = refl
from-other f x (u ∷ us) other = rw other (from-other f x us other)

-- entries that each of some feeds gives
abbrev gives : (FeedRead → List (RouterId × Op)) → FeedRead → List Entry
gives h x = entries_of x (h x)

from-by : (h : FeedRead → List (RouterId × Op)) (f x : FeedRead) (es : List Entry) (xs : List FeedRead) (b : Bool) → same_as f x ≡ b → es ≡ flat_map (gives h) xs →
    filter (is_from f) (gives h x) ++ es ≡ flat_map (gives h) (cond b (x ∷ xs) xs)
from-by h f x es xs true is rest = ap (λ ys. ys ++ es) (from-own f x (h x) is) ∙ ap (λ ys. gives h x ++ ys) rest
from-by h f x es xs false is rest = ap (λ ys. ys ++ es) (from-other f x (h x) is) ∙ rest

from-flat : (h : FeedRead → List (RouterId × Op)) (f : FeedRead) (fs : List FeedRead) → filter (is_from f) (flat_map (gives h) fs) ≡ flat_map (gives h) (filter (same_as f) fs)
from-flat h f [] = refl
from-flat h f (x ∷ xs) =
    filter-append (is_from f) (gives h x) (flat_map (gives h) xs)
    ∙ from-by h f x (filter (is_from f) (flat_map (gives h) xs)) (filter (same_as f) xs) (same_as f x) refl (from-flat h f xs)

from-along : (f : FeedRead) (fs : List FeedRead) (before lines : List Line) → filter (is_from f) (taken_along fs before lines) ≡ taken_along (filter (same_as f) fs) before lines
from-along f fs before [] = refl
from-along f fs before (l ∷ lines) =
    filter-append (is_from f) (flat_map (taken_by before l) fs) (taken_along fs (before ++ l ∷ []) lines)
    ∙ ap (λ es. es ++ filter (is_from f) (taken_along fs (before ++ l ∷ []) lines))
    (from-flat (λ x. drop (length (kept_by before x)) (kept_by (before ++ l ∷ []) x)) f fs)
    ∙ ap (λ es. flat_map (taken_by before l) (filter (same_as f) fs) ++ es) (from-along f fs (before ++ l ∷ []) lines)

-- ---- link entries

-- an entry of a link line of the job of this number
abbrev pub IsLinkOf : ℕ → Entry → Type 0
IsLinkOf n (Route r m op) = ⊥
IsLinkOf n (entry.Link j l down) = j ≡ n

link-of-line : (t : Topology) (n : ℕ) (l : Line) (es : List Entry) → All (IsLinkOf n) es → All (IsLinkOf n) (cons_option (link_entry t n l) es)
link-of-line t n (line.Take l r c) es all = all
link-of-line t n (line.Ask l q) es all = all
link-of-line t n (line.Link l name down) es all = made (link_of t name)
  where
    made : (o : Option LinkId) → All (IsLinkOf n) (cons_option (option_map (λ (id : LinkId). entry.Link n id down) o) es)
    made None = all
    made (Some id) = All-cons (IsLinkOf n) (entry.Link n id down) es refl all

-- the link entries of lines are the job's
pub links-own : (t : Topology) (n : ℕ) (lines : List Line) → All (IsLinkOf n) (link_entries t n lines)
links-own t n [] = All-nil (IsLinkOf n)
links-own t n (l ∷ lines) = link-of-line t n l (link_entries t n lines) (links-own t n lines)

linked-own : (t : Topology) (job : Job) (before : List Line) (l : Line) → All (IsLinkOf job.number) (linked_by t job before l)
linked-own t job before l =
    All-drop (IsLinkOf job.number) (length (kept_of_links t job before)) (kept_of_links t job (before ++ l ∷ []))
    (All-take (IsLinkOf job.number) job.kept_links (link_entries t job.number (before ++ l ∷ [])) (links-own t job.number (before ++ l ∷ [])))

-- none of them is a feed's
from-links : (f : FeedRead) (n : ℕ) (es : List Entry) → All (IsLinkOf n) es → filter (is_from f) es ≡ []
from-links f n [] all = refl
from-links f n (Route r m op ∷ es) all = absurd (All-head (IsLinkOf n) (Route r m op) es all)
from-links f n (entry.Link j l down ∷ es) all = from-links f n es (All-tail (IsLinkOf n) (entry.Link j l down) es all)

-- all of them are the job's
by-links : (n : ℕ) (es : List Entry) → All (IsLinkOf n) es → filter (is_by n) es ≡ es
by-links n [] all = refl
by-links n (Route r m op ∷ es) all = absurd (All-head (IsLinkOf n) (Route r m op) es all)
by-links n (entry.Link j l down ∷ es) all =
    let here : (j == n) ≡ true = eq-eqb j n (All-head (IsLinkOf n) (entry.Link j l down) es all) in
    ap (λ b. cond b (entry.Link j l down ∷ filter (is_by n) es) (filter (is_by n) es)) here
    ∙ ap (λ xs. entry.Link j l down ∷ xs) (by-links n es (All-tail (IsLinkOf n) (entry.Link j l down) es all))

-- a feed's entries are none
by-feed : (n : ℕ) (x : FeedRead) (ops : List (RouterId × Op)) → filter (is_by n) (entries_of x ops) ≡ []
by-feed n x [] = refl
by-feed n x (u ∷ us) = by-feed n x us

by-flat : (n : ℕ) (h : FeedRead → List (RouterId × Op)) (fs : List FeedRead) → filter (is_by n) (flat_map (gives h) fs) ≡ []
by-flat n h [] = refl
by-flat n h (x ∷ xs) =
    filter-append (is_by n) (gives h x) (flat_map (gives h) xs) ∙ ap (λ es. es ++ filter (is_by n) (flat_map (gives h) xs)) (by-feed n x (h x)) ∙ by-flat n h xs

-- lines after lines have the link entries of both
kept-links-grow : (t : Topology) (job : Job) (before lines : List Line) → Front (kept_of_links t job before) (kept_of_links t job (before ++ lines))
kept-links-grow t job before lines =
    subst (λ (es : List Entry). Front (kept_of_links t job before) (take job.kept_links es)) (sym (links-append t job.number before lines))
    (front-take job.kept_links (link_entries t job.number before) (link_entries t job.number lines))

-- of what lines give, the link entries are those that the history took
by-given : (t : Topology) (job : Job) (before lines : List Line) →
    filter (is_by job.number) (given_along t job before lines) ≡ drop (length (kept_of_links t job before)) (kept_of_links t job (before ++ lines))
by-given t job before [] =
    sym (ap (λ b. drop (length (kept_of_links t job before)) (kept_of_links t job b)) (append-nil before) ∙ drop-all (kept_of_links t job before))
by-given t job before (l ∷ lines) =
    let n : ℕ = job.number in
    let k : List Entry = kept_of_links t job before in
    let m : List Entry = kept_of_links t job (before ++ l ∷ []) in
    let z : List Entry = kept_of_links t job (before ++ l ∷ lines) in
    let fs : List Entry = flat_map (taken_by before l) job.feeds in
    let ls : List Entry = linked_by t job before l in
    let rest : List Entry = given_along t job (before ++ l ∷ []) lines in
    let grows : Front k m = kept-links-grow t job before (l ∷ []) in
    let longer : length m ≡ length k + length grows.more = ap length grows.whole ∙ length-append k grows.more in
    let later : Front m z = subst (λ (b : List Line). Front m (kept_of_links t job b)) (append_assoc before (l ∷ []) lines) (kept-links-grow t job (before ++ l ∷ []) lines) in
    let firsts : filter (is_by n) (fs ++ ls) ≡ ls =
    filter-append (is_by n) fs ls ∙ ap (λ es. es ++ filter (is_by n) ls) (by-flat n (λ x. drop (length (kept_by before x)) (kept_by (before ++ l ∷ []) x)) job.feeds)
    ∙ by-links n ls (linked-own t job before l) in
    filter-append (is_by n) (fs ++ ls) rest
    ∙ ap (λ es. es ++ filter (is_by n) rest) firsts
    ∙ ap (λ es. ls ++ es) (by-given t job (before ++ l ∷ []) lines)
    ∙ ap (λ b. ls ++ drop (length m) (kept_of_links t job b)) (append_assoc before (l ∷ []) lines)
    ∙ drops (length k) m z (omega (arith, longer)) later

pub lines-links : (t : Topology) (job : Job) (lines : List Line) → filter (is_by job.number) (given_along t job [] lines) ≡ kept_of_links t job lines
lines-links t job lines =
    by-given t job [] lines ∙ ap (λ (es : List Entry). drop (length es) (kept_of_links t job lines)) (take-nil job.kept_links)

-- of a job's entries, those of its link lines are those that the history took
pub job-links : (t : Topology) (job : Job) → filter (is_by job.number) (entries_of_job t job) ≡ kept_of_links t job job.lines
job-links t job =
    let lines : List Line = job.lines in
    let all : List FeedRead = first_taken job.feeds [] lines ++ filter (λ f. not (takes_feed lines f)) job.feeds in
    filter-append (is_by job.number) (given_along t job [] lines) (flat_map (left_by lines) all)
    ∙ ap (λ es. filter (is_by job.number) (given_along t job [] lines) ++ es) (by-flat job.number (λ x. drop (length (kept_by lines x)) (kept_of x x.steps)) all)
    ∙ append-nil (filter (is_by job.number) (given_along t job [] lines)) ∙ lines-links t job lines

-- of what lines give, that of a feed is what they take of feeds of its number
from-given : (t : Topology) (f : FeedRead) (job : Job) (before lines : List Line) → filter (is_from f) (given_along t job before lines) ≡ filter (is_from f) (taken_along job.feeds before lines)
from-given t f job before [] = refl
from-given t f job before (l ∷ lines) =
    let fs : List Entry = flat_map (taken_by before l) job.feeds in
    let ls : List Entry = linked_by t job before l in
    let rest : List Entry = given_along t job (before ++ l ∷ []) lines in
    let taken : List Entry = taken_along job.feeds (before ++ l ∷ []) lines in
    let firsts : filter (is_from f) (fs ++ ls) ≡ filter (is_from f) fs =
    filter-append (is_from f) fs ls ∙ ap (λ es. filter (is_from f) fs ++ es) (from-links f job.number ls (linked-own t job before l)) ∙ append-nil (filter (is_from f) fs) in
    filter-append (is_from f) (fs ++ ls) rest
    ∙ ap (λ es. es ++ filter (is_from f) rest) firsts
    ∙ ap (λ es. filter (is_from f) fs ++ es) (from-given t f job (before ++ l ∷ []) lines)
    ∙ sym (filter-append (is_from f) fs taken)

from-job : (t : Topology) (f : FeedRead) (job : Job) →
    let own : List FeedRead = filter (same_as f) job.feeds in
    filter (is_from f) (entries_of_job t job) ≡ taken_along own [] job.lines ++ flat_map (left_by job.lines) (first_taken own [] job.lines ++ filter (λ f. not (takes_feed job.lines f)) own)
from-job t f job =
    let lines : List Line = job.lines in
    let all : List FeedRead = first_taken job.feeds [] lines ++ filter (λ f. not (takes_feed lines f)) job.feeds in
    let own : List FeedRead = filter (same_as f) job.feeds in
    filter-append (is_from f) (given_along t job [] lines) (flat_map (left_by lines) all)
    ∙ ap (λ es. es ++ filter (is_from f) (flat_map (left_by lines) all)) (from-given t f job [] lines ∙ from-along f job.feeds [] lines)
    ∙ ap (λ es. taken_along own [] lines ++ es)
    (from-flat (λ x. drop (length (kept_by lines x)) (kept_of x x.steps)) f all
    ∙ ap (flat_map (left_by lines))
    (filter-append (same_as f) (first_taken job.feeds [] lines) (filter (λ f. not (takes_feed lines f)) job.feeds)
    ∙ ap (λ fs. fs ++ filter (same_as f) (filter (λ f. not (takes_feed lines f)) job.feeds)) (first-filter (same_as f) job.feeds [] lines)
    ∙ ap (λ fs. first_taken own [] lines ++ fs) (filter-swap (same_as f) (λ f. not (takes_feed lines f)) job.feeds)))

-- ---- feeds whose numbers differ

pub not-true : (b : Bool) → not b ≡ true → b ≡ false
not-true true e = cc
not-true false e = refl

pub any-false : {X : Type 0} (p : X → Bool) (xs : List X) → list_any p xs ≡ false → All (λ x. p x ≡ false) xs
any-false p [] e = All-nil (λ x. p x ≡ false)
any-false p (x ∷ xs) e =
    let parts : (p x ≡ false) × (list_any p xs ≡ false) = or_parts (p x) (list_any p xs) e in
    All-cons (λ x. p x ≡ false) x xs parts.0 (any-false p xs parts.1)

filter-none : {X : Type 0} (p : X → Bool) (xs : List X) → All (λ x. p x ≡ false) xs → filter p xs ≡ []
filter-none p [] a = refl
filter-none p (x ∷ xs) a =
    let here : p x ≡ false = All-head (λ x. p x ≡ false) x xs a in
    rw here (filter-none p xs (All-tail (λ x. p x ≡ false) x xs a))

pub record Apart (x : FeedRead) (xs : List FeedRead) : Type 0 where
  pub others : All (λ y. same_number x y ≡ false) xs
  pub rest : all_differ same_number xs ≡ true

pub apart : (x : FeedRead) (xs : List FeedRead) → all_differ same_number (x ∷ xs) ≡ true → Apart x xs
apart x xs d =
    let parts : (not (list_any (same_number x) xs) ≡ true) × (all_differ same_number xs ≡ true) = and_parts (not (list_any (same_number x) xs)) (all_differ same_number xs) d in
    record { others = any-false (same_number x) xs (not-true (list_any (same_number x) xs) parts.0); rest = parts.1 }

contains-at : {X : Type 0} (k : ℕ) (y : X) (ys : List X) (x : X) → k < suc (length ys) → get_or (y ∷ ys) k x ≡ x → (y ≡ x) ⊎ Contains ys x
contains-at zero y ys x less is = inl is
contains-at (suc k) y ys x less is = inr (k, omega (arith, less), is)

pub contains-cases : {X : Type 0} (y : X) (ys : List X) (x : X) → Contains (y ∷ ys) x → (y ≡ x) ⊎ Contains ys x
contains-cases y ys x c = contains-at c.0 y ys x c.1 c.2

eqb-back : (m n : ℕ) → (m == n) ≡ false → (n == m) ≡ false
eqb-back m n e = grind (arith, nat_tests, e)

alone-here : (y : FeedRead) (ys : List FeedRead) (f : FeedRead) → Apart y ys → y ≡ f → filter (same_as f) (y ∷ ys) ≡ f ∷ []
alone-here y ys f a same =
    subst (λ (g : FeedRead). filter (same_as g) (y ∷ ys) ≡ g ∷ []) same
    (ap (λ b. cond b (y ∷ filter (same_as y) ys) (filter (same_as y) ys)) (eq-eqb y.feed_no y.feed_no refl)
    ∙ ap (λ xs. y ∷ xs) (filter-none (same_as y) ys (λ k d less. eqb-back y.feed_no (get_or ys k d).feed_no (a.others k d less))))

-- a feed is alone with its number
alone : (fs : List FeedRead) (f : FeedRead) → all_differ same_number fs ≡ true → Contains fs f → filter (same_as f) fs ≡ f ∷ []
alone [] f d c = absurd (omega (arith, c.1))
alone (y ∷ ys) f d c =
    let a : Apart y ys = apart y ys d in
    ⊎_elim (λ (same : y ≡ f). alone-here y ys f a same)
    (λ (c : Contains ys f).
    ap (λ b. cond b (y ∷ filter (same_as f) ys) (filter (same_as f) ys)) (All-contains (λ x. same_number y x ≡ false) ys f a.others c) ∙ alone ys f a.rest c)
    (contains-cases y ys f c)

-- of a job's entries, those of one of its feeds are what was kept of the feed
pub job-feed : (t : Topology) (job : Job) (f : FeedRead) → all_differ same_number job.feeds ≡ true → Contains job.feeds f → filter (is_from f) (entries_of_job t job) ≡ entries_of f (kept_of f f.steps)
job-feed t job f d c =
    let lines : List Line = job.lines in
    from-job t f job
    ∙ ap (λ fs. taken_along fs [] lines ++ flat_map (left_by lines) (first_taken fs [] lines ++ filter (λ f. not (takes_feed lines f)) fs)) (alone job.feeds f d c) ∙ job-alone f lines

-- of what lines give, that of one of the job's feeds is what they take of the feed
pub lines-feed : (t : Topology) (job : Job) (lines : List Line) (f : FeedRead) → all_differ same_number job.feeds ≡ true → Contains job.feeds f → filter (is_from f) (given_along t job [] lines) ≡ entries_of f (kept_by lines f)
lines-feed t job lines f d c = from-given t f job [] lines ∙ from-along f job.feeds [] lines ∙ ap (λ gs. taken_along gs [] lines) (alone job.feeds f d c) ∙ taken-first f lines

-- ---- each entry is the job's own

-- an entry's feed is one of these
abbrev IsFromSome : List FeedRead → Entry → Type 0
IsFromSome fs e = is_from_some fs e ≡ true

-- a feed has the number of one of these
abbrev IsAmong : List FeedRead → FeedRead → Type 0
IsAmong fs x = list_any (λ f. x.feed_no == f.feed_no) fs ≡ true

some-entries : (fs : List FeedRead) (x : FeedRead) (ops : List (RouterId × Op)) → IsAmong fs x → All (IsFromSome fs) (entries_of x ops)
some-entries fs x ops is = All-map (IsFromSome fs) (λ (u : RouterId × Op). Route u.0 x.feed_no u.1) ops (λ k d less. is)

some-flat : (fs : List FeedRead) (h : FeedRead → List (RouterId × Op)) (xs : List FeedRead) → All (IsAmong fs) xs → All (IsFromSome fs) (flat_map (gives h) xs)
some-flat fs h [] a = All-nil (IsFromSome fs)
some-flat fs h (x ∷ xs) a =
    All-append (IsFromSome fs) (gives h x) (flat_map (gives h) xs) (some-entries fs x (h x) (All-head (IsAmong fs) x xs a)) (some-flat fs h xs (All-tail (IsAmong fs) x xs a))

-- an entry of one of these feeds, or of a link line of the job of this number
abbrev IsMine : List FeedRead → ℕ → Entry → Type 0
IsMine fs n e = (is_from_some fs e || is_by n e) ≡ true

mine-from : (fs : List FeedRead) (n : ℕ) (es : List Entry) → All (IsFromSome fs) es → All (IsMine fs n) es
mine-from fs n es a = λ k d less. ap (λ b. b || is_by n (get_or es k d)) (a k d less)

mine-link : (fs : List FeedRead) (n : ℕ) (es : List Entry) → All (IsLinkOf n) es → All (IsMine fs n) es
mine-link fs n [] a = All-nil (IsMine fs n)
mine-link fs n (Route r m op ∷ es) a = absurd (All-head (IsLinkOf n) (Route r m op) es a)
mine-link fs n (entry.Link j l down ∷ es) a =
    let e : Entry = entry.Link j l down in
    let here : (j == n) ≡ true = eq-eqb j n (All-head (IsLinkOf n) e es a) in
    All-cons (IsMine fs n) e es (ap (λ b. is_from_some fs e || b) here ∙ or-true (is_from_some fs e)) (mine-link fs n es (All-tail (IsLinkOf n) e es a))

mine-along : (t : Topology) (job : Job) (before lines : List Line) → All (IsAmong job.feeds) job.feeds → All (IsMine job.feeds job.number) (given_along t job before lines)
mine-along t job before [] a = All-nil (IsMine job.feeds job.number)
mine-along t job before (l ∷ lines) a =
    let P : Entry → Type 0 = IsMine job.feeds job.number in
    let ls : List Entry = linked_by t job before l in
    let fs : List Entry = flat_map (taken_by before l) job.feeds in
    All-append P (fs ++ ls) (given_along t job (before ++ l ∷ []) lines)
    (All-append P fs ls (mine-from job.feeds job.number fs (some-flat job.feeds (λ x. drop (length (kept_by before x)) (kept_by (before ++ l ∷ []) x)) job.feeds a))
    (mine-link job.feeds job.number ls (linked-own t job before l))) (mine-along t job (before ++ l ∷ []) lines a)

among-first : (P : FeedRead → Type 0) (xs : List FeedRead) (before lines : List Line) → All P xs → All P (first_taken xs before lines)
among-first P xs before [] a = All-nil P
among-first P xs before (l ∷ lines) a =
    All-append P (filter (λ f. takes f.router l && not (takes_feed before f)) xs) (first_taken xs (before ++ l ∷ []) lines)
    (All-filter (λ f. takes f.router l && not (takes_feed before f)) P xs a) (among-first P xs (before ++ l ∷ []) lines a)

pub job-own : (t : Topology) (job : Job) → All (λ e. is_own job e ≡ true) (entries_of_job t job)
job-own t job =
    let fs : List FeedRead = job.feeds in
    let a : All (IsAmong fs) fs =
    (λ k d less. list_any_at (λ (f : FeedRead). (get_or fs k d).feed_no == f.feed_no) fs k d less (eq-eqb (get_or fs k d).feed_no (get_or fs k d).feed_no refl)) in
    let all : List FeedRead = first_taken fs [] job.lines ++ filter (λ f. not (takes_feed job.lines f)) fs in
    All-append (IsMine fs job.number) (given_along t job [] job.lines) (flat_map (left_by job.lines) all) (mine-along t job [] job.lines a)
    (mine-from fs job.number (flat_map (left_by job.lines) all)
    (some-flat fs (λ x. drop (length (kept_by job.lines x)) (kept_of x x.steps)) all
    (All-append (IsAmong fs) (first_taken fs [] job.lines) (filter (λ f. not (takes_feed job.lines f)) fs)
    (among-first (IsAmong fs) fs [] job.lines a) (All-filter (λ f. not (takes_feed job.lines f)) (IsAmong fs) fs a))))
