-- What jobs wrote into one history is a shuffle of their feeds, in which each job keeps its order.
use Rattle.std.proofs.Common.{◌≡◌, ℕ, suc, ◌-◌, ◌<◌, ◌≤◌, ⊎_elim, Bool, true, false, ◌==◌, ◌||◌, IsTrue, cond, List, [], ◌∷◌, ◌++◌, length, get_or, map, filter, take, All, refl, ap, sym, ◌∙◌, arith, subst, eq-eqb, eqb-true}
use Rattle.std.specs.List.{AllZip, list_any, flat_map, Contains}
use Rattle.std.proofs.Math.Bool.{or-true}
use Rattle.std.proofs.lemmas.List.{length-map, map-append, take-map}
use Rattle.std.proofs.lemmas.List.Folds.{list_any-append, list_any_at, list_any_none, Any-from_list_any}
use Rattle.std.proofs.lemmas.List.Elements.{All-nil, All-cons, All-head, All-tail, All-append, All-take, All-map, All-contains, Contains-get_or, Contains-append_left, Contains-append_right}
use Rattle.dn_model.specs.Answer.{IsAnswer}
use Rattle.dn_model.specs.Entry.{entries}
use Rattle.dn_model.specs.Query.{Question}
use Rattle.base.specs.Lists.{all_differ}
use Rattle.dn_model.specs.declared.entry.Entry.{Entry}
use Rattle.dn_model.specs.declared.entry.Entry.TheVariants as entry
use Rattle.dn_model.specs.declared.entry.Posted.{Posted}
use Rattle.dn_model.specs.declared.topology.Topology.{Topology}
use Rattle.dn_formats.specs.Lawful.{AreLinksKept, HoldsWhatWasGiven, IsKept, IsLawful, IsLinkOutcome, IsOutcome, Job, KeepsOrder, Tells, TellsJob, entries_of_job, entry_after, given_along, is_by, is_by_some, is_from, is_from_some, is_own, kept_of_links, pin_after}
use Rattle.feed_model.specs.Steps.{FeedRead, kept_of, entries_of}
use Rattle.dn_formats.specs.declared.script.Line.{Line}
use Rattle.dn_formats.specs.declared.script.Line.TheVariants as line
use Rattle.dn_formats.specs.declared.told.JobTold.{JobTold}
use Rattle.dn_formats.specs.declared.told.Outcome.{Outcome}
use Rattle.dn_formats.specs.declared.told.Outcome.TheVariants.{Answered, Unknown}
use Rattle.dn_formats.specs.declared.told.LinkOutcome.{LinkOutcome}
use Rattle.dn_formats.specs.declared.told.LinkOutcome.TheVariants.{At, Full, UnknownLink}
use Rattle.dn_formats.specs.declared.told.Told.{Told}
use Rattle.dn_formats.specs.declared.told.Told.TheVariants.{Asked, Linked}
use Rattle.version_lock.specs.History.{posted_by}
use Rattle.feed_threads.specs.Seats.{own_of}
use Rattle.feed_threads.specs.Tells.{IsOwnLinkOutcome, IsOwnOutcome, TellsOwn}
use Rattle.feed_threads.proofs.EntriesLemmas.{Apart, apart, contains-cases, job-feed, job-links, job-own, lines-feed, lines-links, same_number}

-- ---- the entries of a number

own-by : (P : Entry → Type 0) (n : ℕ) (p : Posted) (ps : List Posted) (b : Bool) → All P (entries (cond b (p ∷ posted_by n ps) (posted_by n ps))) → (b ≡ true → P p.entry) × All P (own_of n ps)
own-by P n p ps true a = (λ e. All-head P p.entry (own_of n ps) a, All-tail P p.entry (own_of n ps) a)
own-by P n p ps false a = (λ e. absurd (cc), a)

-- what holds of the entries of a number holds of each that bears it
own-all : (P : Entry → Type 0) (n : ℕ) (ps : List Posted) → All P (own_of n ps) → All (λ p. (p.seat == n) ≡ true → P p.entry) ps
own-all P n [] a = All-nil (λ p. (p.seat == n) ≡ true → P p.entry)
own-all P n (p ∷ ps) a =
    let parts : ((p.seat == n) ≡ true → P p.entry) × All P (own_of n ps) = own-by P n p ps (p.seat == n) a in
    All-cons (λ p. (p.seat == n) ≡ true → P p.entry) p ps parts.0 (own-all P n ps parts.1)

same-by : (q : Entry → Bool) (n : ℕ) (p : Posted) (ps : List Posted) (b : Bool) → q p.entry ≡ b → (p.seat == n) ≡ b → filter q (entries ps) ≡ own_of n ps →
    filter q (entries (p ∷ ps)) ≡ own_of n (p ∷ ps)
same-by q n p ps true tests bears same =
    ap (λ d. cond d (p.entry ∷ filter q (entries ps)) (filter q (entries ps))) tests ∙ ap (λ es. p.entry ∷ es) same
    ∙ sym (ap (λ d. entries (cond d (p ∷ posted_by n ps) (posted_by n ps))) bears)
same-by q n p ps false tests bears same =
    ap (λ d. cond d (p.entry ∷ filter q (entries ps)) (filter q (entries ps))) tests ∙ same
    ∙ sym (ap (λ d. entries (cond d (p ∷ posted_by n ps) (posted_by n ps))) bears)

-- a test that tells the entries of a number keeps them
filter-same : (q : Entry → Bool) (n : ℕ) (ps : List Posted) → All (λ p. q p.entry ≡ (p.seat == n)) ps → filter q (entries ps) ≡ own_of n ps
filter-same q n [] a = refl
filter-same q n (p ∷ ps) a =
    same-by q n p ps (p.seat == n) (All-head (λ p. q p.entry ≡ (p.seat == n)) p ps a) refl (filter-same q n ps (All-tail (λ p. q p.entry ≡ (p.seat == n)) p ps a))

within-by : (q : Entry → Bool) (n : ℕ) (p : Posted) (ps : List Posted) (b c : Bool) → q p.entry ≡ b → (b ≡ true → c ≡ true) → filter q (entries ps) ≡ filter q (own_of n ps) →
    filter q (entries (p ∷ ps)) ≡ filter q (entries (cond c (p ∷ posted_by n ps) (posted_by n ps)))
within-by q n p ps true true tests within same =
    ap (λ d. cond d (p.entry ∷ filter q (entries ps)) (filter q (entries ps))) tests ∙ ap (λ es. p.entry ∷ es) same
    ∙ sym (ap (λ d. cond d (p.entry ∷ filter q (own_of n ps)) (filter q (own_of n ps))) tests)
within-by q n p ps true false tests within same = absurd (let e : false ≡ true = within refl in cc)
within-by q n p ps false true tests within same =
    ap (λ d. cond d (p.entry ∷ filter q (entries ps)) (filter q (entries ps))) tests ∙ same
    ∙ sym (ap (λ d. cond d (p.entry ∷ filter q (own_of n ps)) (filter q (own_of n ps))) tests)
within-by q n p ps false false tests within same = ap (λ d. cond d (p.entry ∷ filter q (entries ps)) (filter q (entries ps))) tests ∙ same

-- a test that only entries of a number pass keeps what it keeps of them
filter-within : (q : Entry → Bool) (n : ℕ) (ps : List Posted) → All (λ p. q p.entry ≡ true → (p.seat == n) ≡ true) ps → filter q (entries ps) ≡ filter q (own_of n ps)
filter-within q n [] a = refl
filter-within q n (p ∷ ps) a =
    within-by q n p ps (q p.entry) (p.seat == n) refl (All-head (λ p. q p.entry ≡ true → (p.seat == n) ≡ true) p ps a)
    (filter-within q n ps (All-tail (λ p. q p.entry ≡ true → (p.seat == n) ≡ true) p ps a))

-- ---- members of lists

-- an element of which a mapped list has what it is mapped to
pub record Comes {X Y : Type 0} (f : X → Y) (xs : List X) (y : Y) : Type 0 where
  pub from : X
  pub is_in : Contains xs from
  pub same : f from ≡ y

contains-here : {X : Type 0} (x : X) (xs : List X) → Contains (x ∷ xs) x
contains-here x xs = (0, omega arith, refl)

contains-later : {X : Type 0} (x y : X) (xs : List X) → Contains xs y → Contains (x ∷ xs) y
contains-later x y xs c = (suc c.0, (let less : c.0 < length xs = c.1 in omega (arith, less)), c.2)

pub comes : {X Y : Type 0} (f : X → Y) (xs : List X) (y : Y) → Contains (map f xs) y → Comes f xs y
comes f [] y c = absurd (let less : c.0 < 0 = c.1 in omega (arith, less))
comes f (x ∷ xs) y c =
    ⊎_elim (λ (same : f x ≡ y). record { from = x; is_in = contains-here x xs; same = same })
    (λ (c : Contains (map f xs) y). let r : Comes f xs y = comes f xs y c in record { from = r.from; is_in = contains-later x r.from xs r.is_in; same = r.same })
    (contains-cases (f x) (map f xs) y c)

contains-flat : {X Y : Type 0} (g : X → List Y) (xs : List X) (x : X) (y : Y) → Contains xs x → Contains (g x) y → Contains (flat_map g xs) y
contains-flat g [] x y c d = absurd (let less : c.0 < 0 = c.1 in omega (arith, less))
contains-flat g (z ∷ xs) x y c d =
    ⊎_elim (λ (same : z ≡ x). Contains-append_left (g z) (flat_map g xs) y (subst (λ w. Contains (g w) y) (sym same) d))
    (λ (c : Contains xs x). Contains-append_right (g z) (flat_map g xs) y (contains-flat g xs x y c d))
    (contains-cases z xs x c)

all-flat : {X Y : Type 0} (P : Y → Type 0) (g : X → List Y) (xs : List X) → All (λ x. All P (g x)) xs → All P (flat_map g xs)
all-flat P g [] a = All-nil P
all-flat P g (x ∷ xs) a =
    All-append P (g x) (flat_map g xs) (All-head (λ x. All P (g x)) x xs a) (all-flat P g xs (All-tail (λ x. All P (g x)) x xs a))

any-member : {X : Type 0} (p : X → Bool) (xs : List X) (x : X) → Contains xs x → p x ≡ true → list_any p xs ≡ true
any-member p xs x c e = list_any_at p xs c.0 x c.1 (ap p c.2 ∙ e)

pub zip-map : {X Y Z : Type 0} (R : Y → Z → Type 0) (f : X → Y) (g : X → Z) (xs : List X) → All (λ x. R (f x) (g x)) xs → AllZip R (map f xs) (map g xs)
zip-map R f g [] a = tt
zip-map R f g (x ∷ xs) a = (All-head (λ x. R (f x) (g x)) x xs a, zip-map R f g xs (All-tail (λ x. R (f x) (g x)) x xs a))

-- ---- feeds whose numbers differ

-- whether one of some feeds has this number
abbrev has : ℕ → List FeedRead → Bool
has n fs = list_any (λ f. n == f.feed_no) fs

all-right : {X : Type 0} (P : X → Type 0) (xs ys : List X) → All P (xs ++ ys) → All P ys
all-right P [] ys a = a
all-right P (x ∷ xs) ys a = all-right P xs ys (All-tail P x (xs ++ ys) a)

all-left : {X : Type 0} (P : X → Type 0) (xs ys : List X) → All P (xs ++ ys) → All P xs
all-left P [] ys a = All-nil P
all-left P (x ∷ xs) ys a = All-cons P x xs (All-head P x (xs ++ ys) a) (all-left P xs ys (All-tail P x (xs ++ ys) a))

differ-right : (xs ys : List FeedRead) → all_differ same_number (xs ++ ys) ≡ true → all_differ same_number ys ≡ true
differ-right [] ys d = d
differ-right (x ∷ xs) ys d = differ-right xs ys (apart x (xs ++ ys) d).rest

differ-cons : (x : FeedRead) (xs : List FeedRead) → All (λ y. same_number x y ≡ false) xs → all_differ same_number xs ≡ true → all_differ same_number (x ∷ xs) ≡ true
differ-cons x xs others d = rw (list_any_none (same_number x) xs others, d) refl

differ-left : (xs ys : List FeedRead) → all_differ same_number (xs ++ ys) ≡ true → all_differ same_number xs ≡ true
differ-left [] ys d = refl
differ-left (x ∷ xs) ys d =
    let a : Apart x (xs ++ ys) = apart x (xs ++ ys) d in
    differ-cons x xs (all-left (λ y. same_number x y ≡ false) xs ys a.others) (differ-left xs ys a.rest)

apart-by : (n : ℕ) (x : FeedRead) (xs ys : List FeedRead) (b : Bool) → Apart x (xs ++ ys) → (n == x.feed_no) ≡ b → (b || has n xs) ≡ true → (has n xs ≡ true → has n ys ≡ false) →
    has n ys ≡ false
apart-by n x xs ys true a here is rest =
    let same : n ≡ x.feed_no = eqb-true n x.feed_no here in
    subst (λ (m : ℕ). has m ys ≡ false) (sym same) (list_any_none (same_number x) ys (all-right (λ y. same_number x y ≡ false) xs ys a.others))
apart-by n x xs ys false a here is rest = rest is

-- a number of the first of two lists of feeds is none of the second
apart-lists : (n : ℕ) (xs ys : List FeedRead) → all_differ same_number (xs ++ ys) ≡ true → has n xs ≡ true → has n ys ≡ false
apart-lists n [] ys d is = absurd (cc)
apart-lists n (x ∷ xs) ys d is =
    let a : Apart x (xs ++ ys) = apart x (xs ++ ys) d in
    apart-by n x xs ys (n == x.feed_no) a refl is (apart-lists n xs ys a.rest)

not-both : (b : Bool) (c : Bool) → (b ≡ true → c ≡ false) → c ≡ true → b ≡ false
not-both true c never is = absurd (let e : c ≡ false = never refl in cc)
not-both false c never is = refl

-- the feeds of jobs
abbrev pub feeds_of_all : {X : Type 0} → (X → Job) → List X → List FeedRead
feeds_of_all job xs = flat_map (λ x. (job x).feeds) xs

has-all : {X : Type 0} (job : X → Job) (n : ℕ) (xs : List X) (x : X) → Contains xs x → has n (job x).feeds ≡ true → has n (feeds_of_all job xs) ≡ true
has-all job n [] x c is = absurd (let less : c.0 < 0 = c.1 in omega (arith, less))
has-all job n (z ∷ xs) x c is =
    list_any-append (λ (f : FeedRead). n == f.feed_no) (job z).feeds (feeds_of_all job xs)
    ∙ ⊎_elim (λ (same : z ≡ x). ap (λ b. b || has n (feeds_of_all job xs)) (ap (λ w. has n (job w).feeds) same ∙ is))
    (λ (c : Contains xs x). ap (λ b. has n (job z).feeds || b) (has-all job n xs x c is) ∙ or-true (has n (job z).feeds))
    (contains-cases z xs x c)

-- a number of one job's feeds is that of no other job's
apart-jobs : {X : Type 0} (number : X → ℕ) (job : X → Job) (n : ℕ) (xs : List X) (x y : X) → all_differ same_number (feeds_of_all job xs) ≡ true → Contains xs x → Contains xs y →
    (number x ≡ number y → ⊥) → has n (job y).feeds ≡ true → has n (job x).feeds ≡ false
apart-jobs number job n [] x y d c e other is = absurd (let less : c.0 < 0 = c.1 in omega (arith, less))
apart-jobs number job n (z ∷ xs) x y d c e other is =
    let fs : List FeedRead = (job z).feeds in
    let rest : List FeedRead = feeds_of_all job xs in
    ⊎_elim
    (λ (here : z ≡ x). ⊎_elim
    (λ (also : z ≡ y). absurd (other (ap number (sym here ∙ also))))
    (λ (later : Contains xs y).
    subst (λ w. has n (job w).feeds ≡ false) here (not-both (has n fs) (has n rest) (apart-lists n fs rest d) (has-all job n xs y later is)))
    (contains-cases z xs y e))
    (λ (later : Contains xs x). ⊎_elim
    (λ (also : z ≡ y).
    not-both (has n (job x).feeds) true
    (λ (has-x : has n (job x).feeds ≡ true).
    sym (has-all job n xs x later has-x) ∙ apart-lists n fs rest d (ap (λ w. has n (job w).feeds) also ∙ is)) refl)
    (λ (both : Contains xs y). apart-jobs number job n xs x y (differ-right fs rest d) later both other is)
    (contains-cases z xs y e))
    (contains-cases z xs x c)

differ-job : {X : Type 0} (job : X → Job) (xs : List X) (x : X) → all_differ same_number (feeds_of_all job xs) ≡ true → Contains xs x → all_differ same_number (job x).feeds ≡ true
differ-job job [] x d c = absurd (let less : c.0 < 0 = c.1 in omega (arith, less))
differ-job job (z ∷ xs) x d c =
    ⊎_elim (λ (same : z ≡ x). subst (λ w. all_differ same_number (job w).feeds ≡ true) same (differ-left (job z).feeds (feeds_of_all job xs) d))
    (λ (c : Contains xs x). differ-job job xs x (differ-right (job z).feeds (feeds_of_all job xs) d) c)
    (contains-cases z xs x c)

-- ---- jobs over one history

-- Jobs ran over a history: the entries of each one's number are the job's, each entry bears the number of one of them, no
-- two of all their feeds have one number, and no two of the jobs.
pub record Shared {X : Type 0} (t : Topology) (number : X → ℕ) (job : X → Job) (seen : List Posted) (xs : List X) : Type 0 where
  pub order : All (λ x. own_of (number x) seen ≡ entries_of_job t (job x)) xs
  pub bears : All (λ p. Contains (map number xs) p.seat) seen
  pub differ : all_differ same_number (feeds_of_all job xs) ≡ true
  pub apart : (x y : X) → Contains xs x → Contains xs y → (number x ≡ number y → ⊥) → ((job y).number == (job x).number) ≡ false

or-right : (b c : Bool) → b ≡ false → (b || c) ≡ true → c ≡ true
or-right true c none is = absurd (cc (none))
or-right false c none is = is

or-left : (b c : Bool) → c ≡ false → (b || c) ≡ true → b ≡ true
or-left true c none is = refl
or-left false c none is = absurd (cc (none, is))

-- an entry of one job is no other job's own
other-job : {X : Type 0} (t : Topology) (number : X → ℕ) (job : X → Job) (seen : List Posted) (e : Entry) (xs : List X) (x y : X) → Shared t number job seen xs → Contains xs x → Contains xs y →
    (number x ≡ number y → ⊥) → is_own (job y) e ≡ true → is_own (job x) e ≡ false
other-job t number job seen (entry.Route r n op) xs x y shared c in-y other is =
    let mine : has n (job y).feeds ≡ true = or-left (has n (job y).feeds) false refl is in
    ap (λ b. b || false) (apart-jobs number job n xs x y shared.differ c in-y other mine)
other-job {X = X} t number job seen (entry.Link j l down) xs x y shared c in-y other is =
    let e : Entry = entry.Link j l down in
    let none : (z : X) → is_from_some (job z).feeds e ≡ false = λ z. list_any_none (λ (f : FeedRead). is_from f e) (job z).feeds (λ k d less. refl) in
    let mine : (j == (job y).number) ≡ true = or-right (is_from_some (job y).feeds e) (j == (job y).number) (none y) is in
    ap (λ b. b || (j == (job x).number)) (none x) ∙ ap (λ (n : ℕ). n == (job x).number) (eqb-true j (job y).number mine) ∙ shared.apart x y c in-y other

-- an entry that bears a job's number is the job's own
from-job : {X : Type 0} (t : Topology) (number : X → ℕ) (job : X → Job) (seen : List Posted) (xs : List X) → Shared t number job seen xs → (x : X) → Contains xs x →
    All (λ p. (p.seat == number x) ≡ true → is_own (job x) p.entry ≡ true) seen
from-job t number job seen xs shared x c =
    own-all (λ e. is_own (job x) e ≡ true) (number x) seen
    (subst (λ (es : List Entry). All (λ e. is_own (job x) e ≡ true) es) (sym (All-contains (λ x. own_of (number x) seen ≡ entries_of_job t (job x)) xs x shared.order c)) (job-own t (job x)))

mine-by : {X : Type 0} (t : Topology) (number : X → ℕ) (job : X → Job) (seen : List Posted) (xs : List X) (x : X) (k : ℕ) (d : Posted) (b : Bool) → Shared t number job seen xs → Contains xs x → k < length seen →
    ((get_or seen k d).seat == number x) ≡ b → is_own (job x) (get_or seen k d).entry ≡ b
mine-by t number job seen xs x k d true shared c less is = from-job t number job seen xs shared x c k d less is
mine-by {X = X} t number job seen xs x k d false shared c less is =
    let p : Posted = get_or seen k d in
    let y : Comes number xs p.seat = comes number xs p.seat (shared.bears k d less) in
    other-job t number job seen p.entry xs x y.from shared c y.is_in
    (λ (same : number x ≡ number y.from). let e : (p.seat == number x) ≡ true = eq-eqb p.seat (number x) (sym (same ∙ y.same)) in cc)
    (from-job t number job seen xs shared y.from y.is_in k d less (eq-eqb p.seat (number y.from) (sym y.same)))

-- a job's own entries are those that bear its number
mine : {X : Type 0} (t : Topology) (number : X → ℕ) (job : X → Job) (seen : List Posted) (xs : List X) → Shared t number job seen xs → (x : X) → Contains xs x →
    All (λ p. is_own (job x) p.entry ≡ (p.seat == number x)) seen
mine t number job seen xs shared x c = λ k d less. mine-by t number job seen xs x k d ((get_or seen k d).seat == number x) shared c less refl

keeps-order : {X : Type 0} (t : Topology) (number : X → ℕ) (job : X → Job) (seen : List Posted) (xs : List X) → Shared t number job seen xs → (x : X) → Contains xs x → KeepsOrder t (entries seen) (job x)
keeps-order t number job seen xs shared x c =
    filter-same (is_own (job x)) (number x) seen (mine t number job seen xs shared x c)
    ∙ All-contains (λ x. own_of (number x) seen ≡ entries_of_job t (job x)) xs x shared.order c

-- the entries of a job's feed all bear its number
feeds-own : {X : Type 0} (t : Topology) (number : X → ℕ) (job : X → Job) (seen : List Posted) (xs : List X) → Shared t number job seen xs → (x : X) → Contains xs x → (f : FeedRead) → Contains (job x).feeds f →
    All (λ p. is_from f p.entry ≡ true → (p.seat == number x) ≡ true) seen
feeds-own t number job seen xs shared x c f in-job = λ k d less.
    λ is. sym (mine t number job seen xs shared x c k d less)
    ∙ ap (λ b. b || is_by (job x).number (get_or seen k d).entry) (any-member (λ (g : FeedRead). is_from g (get_or seen k d).entry) (job x).feeds f in-job is)

-- those of its link lines too
links-own : {X : Type 0} (t : Topology) (number : X → ℕ) (job : X → Job) (seen : List Posted) (xs : List X) → Shared t number job seen xs → (x : X) → Contains xs x →
    All (λ p. is_by (job x).number p.entry ≡ true → (p.seat == number x) ≡ true) seen
links-own t number job seen xs shared x c = λ k d less.
    λ is. sym (mine t number job seen xs shared x c k d less)
    ∙ ap (λ b. is_from_some (job x).feeds (get_or seen k d).entry || b) is ∙ or-true (is_from_some (job x).feeds (get_or seen k d).entry)

each-feed : {X : Type 0} (t : Topology) (number : X → ℕ) (job : X → Job) (seen : List Posted) (xs : List X) → Shared t number job seen xs → (x : X) → Contains xs x → (f : FeedRead) → Contains (job x).feeds f →
    filter (is_from f) (entries seen) ≡ entries_of f (kept_of f f.steps)
each-feed t number job seen xs shared x c f in-job =
    filter-within (is_from f) (number x) seen (feeds-own t number job seen xs shared x c f in-job)
    ∙ ap (filter (is_from f)) (All-contains (λ x. own_of (number x) seen ≡ entries_of_job t (job x)) xs x shared.order c)
    ∙ job-feed t (job x) f (differ-job job xs x shared.differ c) in-job

each-job : {X : Type 0} (t : Topology) (number : X → ℕ) (job : X → Job) (seen : List Posted) (xs : List X) → Shared t number job seen xs → (x : X) → Contains xs x →
    filter (is_by (job x).number) (entries seen) ≡ kept_of_links t (job x) (job x).lines
each-job t number job seen xs shared x c =
    filter-within (is_by (job x).number) (number x) seen (links-own t number job seen xs shared x c)
    ∙ ap (filter (is_by (job x).number)) (All-contains (λ x. own_of (number x) seen ≡ entries_of_job t (job x)) xs x shared.order c)
    ∙ job-links t (job x)

-- an entry that is a job's own is of one of the feeds of all, or of a link line of one of the jobs
own-only : {X : Type 0} (job : X → Job) (xs : List X) (feeds : List FeedRead) (e : Entry) (y : X) (b : Bool) → ((f : FeedRead) → Contains (feeds_of_all job xs) f → Contains feeds f) → Contains xs y →
    is_from_some (job y).feeds e ≡ b → (b || is_by (job y).number e) ≡ true → (is_from_some feeds e || is_by_some (map job xs) e) ≡ true
own-only job xs feeds e y true among in-y is own =
    let some = Any-from_list_any (λ (f : FeedRead). is_from f e) (job y).feeds is in
    ap (λ b. b || is_by_some (map job xs) e)
    (any-member (λ (f : FeedRead). is_from f e) feeds some.1
    (among some.1 (contains-flat (λ x. (job x).feeds) xs y some.1 in-y (some.0, some.2, some.3))) some.4)
own-only job xs feeds e y false among in-y is own =
    ap (λ b. is_from_some feeds e || b) (any-map (λ (j : Job). is_by j.number e) job xs y in-y own) ∙ or-true (is_from_some feeds e)
  where
    any-map : {X Y : Type 0} (p : Y → Bool) (g : X → Y) (zs : List X) (z : X) → Contains zs z → p (g z) ≡ true → list_any p (map g zs) ≡ true
    any-map p g [] z c e = absurd (let less : c.0 < 0 = c.1 in omega (arith, less))
    any-map p g (w ∷ zs) z c e =
        ⊎_elim (λ (same : w ≡ z). ap (λ b. b || list_any p (map g zs)) (ap (λ v. p (g v)) same ∙ e))
        (λ (later : Contains zs z). ap (λ b. p (g w) || b) (any-map p g zs z later e) ∙ or-true (p (g w)))
        (contains-cases w zs z c)

only-own : {X : Type 0} (t : Topology) (number : X → ℕ) (job : X → Job) (seen : List Posted) (xs : List X) (feeds : List FeedRead) → Shared t number job seen xs →
    ((f : FeedRead) → Contains (feeds_of_all job xs) f → Contains feeds f) → All (λ e. IsTrue (is_from_some feeds e || is_by_some (map job xs) e)) (entries seen)
only-own t number job seen xs feeds shared among =
    All-map (λ e. IsTrue (is_from_some feeds e || is_by_some (map job xs) e)) (λ (p : Posted). p.entry) seen
    (λ k d less.
    let p : Posted = get_or seen k d in
    let y : Comes number xs p.seat = comes number xs p.seat (shared.bears k d less) in
    own-only job xs feeds p.entry y.from (is_from_some (job y.from).feeds p.entry) among y.is_in refl
    (from-job t number job seen xs shared y.from y.is_in k d less (eq-eqb p.seat (number y.from) (sym y.same))))

-- ---- what is told

-- a history as a position shows it holds of the job what the lines before gave
holds : {X : Type 0} (t : Topology) (number : X → ℕ) (job : X → Job) (seen : List Posted) (xs : List X) → Shared t number job seen xs → (x : X) → Contains xs x → (m : ℕ) (before : List Line) →
    own_of (number x) (take m seen) ≡ given_along t (job x) [] before → HoldsWhatWasGiven t (job x) before (take m (entries seen))
holds t number job seen xs shared x c m before own = record {
  taken = λ k d less.
      let f : FeedRead = get_or (job x).feeds k d in
      let in-job : Contains (job x).feeds f = Contains-get_or (job x).feeds k d less in
      ap (filter (is_from f)) (take-map (λ (p : Posted). p.entry) m seen)
      ∙ filter-within (is_from f) (number x) (take m seen)
      (All-take (λ p. is_from f p.entry ≡ true → (p.seat == number x) ≡ true) m seen (feeds-own t number job seen xs shared x c f in-job))
      ∙ ap (filter (is_from f)) own ∙ lines-feed t (job x) before f (differ-job job xs x shared.differ c) in-job;
  links = ap (filter (is_by (job x).number)) (take-map (λ (p : Posted). p.entry) m seen)
      ∙ filter-within (is_by (job x).number) (number x) (take m seen)
      (All-take (λ p. is_by (job x).number p.entry ≡ true → (p.seat == number x) ≡ true) m seen (links-own t number job seen xs shared x c))
      ∙ ap (filter (is_by (job x).number)) own ∙ lines-links t (job x) before;
}

module _ {X : Type 0} (t : Topology) (limit : ℕ) (number : X → ℕ) (job : X → Job) (seen : List Posted) (xs : List X) (shared : Shared t number job seen xs) (x : X) (c : Contains xs x) (within : length seen ≤ limit) where
  outcome-all : (before : List Line) (last : ℕ) (q : Question) (o : Outcome) → IsOwnOutcome t limit seen (number x) [] (job x) before last q o → IsOutcome t (entries seen) (job x) before last q o
  outcome-all before last q (Unknown u) is = is
  outcome-all before last q (Answered n answer) is = (
    is.0,
    is.1,
    (let within : n ≤ length seen = is.2 in let same : length (entries seen) ≡ length seen = length-map seen (λ (p : Posted). p.entry) in omega (arith, within, same)),
    holds t number job seen xs shared x c n before is.3,
    subst (λ (es : List Entry). IsAnswer t es q answer) (sym (take-map (λ (p : Posted). p.entry) n seen)) is.4,
  )

  link-all : (before : List Line) (last : ℕ) (name : List ℕ) (down : Bool) (o : LinkOutcome) → IsOwnLinkOutcome t limit seen (number x) [] (job x) before last name down o → IsLinkOutcome t limit (entries seen) (job x) before last name down o
  link-all before last name down UnknownLink is = is
  link-all before last name down Full is =
      (is.0, is.1, (let full : limit ≤ length seen = is.2 in let same : length (entries seen) ≡ length seen = length-map seen (λ (p : Posted). p.entry) in omega (arith, full, within, same)))
  link-all before last name down (At p) is =
      let e : Entry = entry.Link (job x).number is.link down in
      record {
        link = is.link;
        named = is.named;
        later = is.later;
        entry = take-map (λ (q : Posted). q.entry) p seen ∙ ap entries is.entry
            ∙ map-append (λ (q : Posted). q.entry) (take (p - 1) seen) (record { seat = number x; entry = e } ∷ []) ∙ ap (λ (es : List Entry). es ++ e ∷ []) (sym (take-map (λ (q : Posted). q.entry) (p - 1) seen));
        holds = holds t number job seen xs shared x c (p - 1) before is.own;
      }

  tells-all : (before : List Line) (last : ℕ) (lines : List Line) (tolds : List Told) → TellsOwn t limit seen (number x) [] (job x) before last lines tolds → Tells t limit (entries seen) (job x) before last lines tolds
  tells-all before last [] [] told = tt
  tells-all before last [] (o ∷ os) told = told
  tells-all before last (line.Take l r count ∷ lines) tolds told = tells-all (before ++ line.Take l r count ∷ []) last lines tolds told
  tells-all before last (line.Ask l q ∷ lines) [] told = told
  tells-all before last (line.Ask l q ∷ lines) (Linked m name d o ∷ os) told = told
  tells-all before last (line.Ask l q ∷ lines) (Asked m a o ∷ os) told = (
    told.0,
    told.1,
    outcome-all before last q o told.2,
    tells-all (before ++ line.Ask l q ∷ []) (pin_after last o) lines os told.3,
  )
  tells-all before last (line.Link l name d ∷ lines) [] told = told
  tells-all before last (line.Link l name d ∷ lines) (Asked m a o ∷ os) told = told
  tells-all before last (line.Link l name d ∷ lines) (Linked m named is o ∷ os) told = (
    told.0,
    told.1,
    told.2,
    link-all before last name d o told.3,
    tells-all (before ++ line.Link l name d ∷ []) (entry_after last o) lines os told.4,
  )

-- ---- the law

-- what is told of a job, by its own entries alone
abbrev pub TellsOwnJob : Topology → ℕ → List Posted → ℕ → Job → JobTold → Type 0
TellsOwnJob t limit seen n job told = (told.number ≡ job.number) × TellsOwn t limit seen n [] job [] 0 job.lines told.told

-- what these jobs made and told is lawful, of whatever list has the feeds of all of them
pub lawful : {X : Type 0} (number : X → ℕ) (job : X → Job) (told : X → JobTold) (seen : List Posted) (xs : List X) (t : Topology) (limit : ℕ) (feeds : List FeedRead) →
    Shared t number job seen xs → length seen ≤ limit → All (λ x. All (IsKept limit (entries seen)) (job x).feeds) xs → All (λ x. AreLinksKept t limit (entries seen) (job x)) xs →
    All (λ x. TellsOwnJob t limit seen (number x) (job x) (told x)) xs →
    ((f : FeedRead) → Contains (feeds_of_all job xs) f → Contains feeds f) → ((f : FeedRead) → Contains feeds f → Contains (feeds_of_all job xs) f) →
    IsLawful t limit feeds (map job xs) (entries seen) (map told xs)
lawful {X = X} number job told seen xs t limit feeds shared within kept links tells to back = record {
  shuffle = record {
    within = (let same : length (entries seen) ≡ length seen = length-map seen (λ (p : Posted). p.entry) in omega (arith, within, same));
    kept = λ k d less. All-contains (IsKept limit (entries seen)) (feeds_of_all job xs) (get_or feeds k d)
        (all-flat (IsKept limit (entries seen)) (λ x. (job x).feeds) xs kept) (back (get_or feeds k d) (Contains-get_or feeds k d less));
    links_kept = All-map (AreLinksKept t limit (entries seen)) job xs links;
    each = λ k d less. All-contains (λ f. filter (is_from f) (entries seen) ≡ entries_of f (kept_of f f.steps)) (feeds_of_all job xs) (get_or feeds k d)
        (all-flat (λ f. filter (is_from f) (entries seen) ≡ entries_of f (kept_of f f.steps)) (λ x. (job x).feeds) xs
        (λ i e there j g here. each-feed t number job seen xs shared (get_or xs i e) (Contains-get_or xs i e there) (get_or (job (get_or xs i e)).feeds j g) (Contains-get_or (job (get_or xs i e)).feeds j g here)))
        (back (get_or feeds k d) (Contains-get_or feeds k d less));
    each_link = All-map (λ (j : Job). filter (is_by j.number) (entries seen) ≡ kept_of_links t j j.lines) job xs
        (λ k d less. each-job t number job seen xs shared (get_or xs k d) (Contains-get_or xs k d less));
    only = only-own t number job seen xs feeds shared to;
  };
  order = All-map (KeepsOrder t (entries seen)) job xs (λ k d less. keeps-order t number job seen xs shared (get_or xs k d) (Contains-get_or xs k d less));
  tells = zip-map (TellsJob t limit (entries seen)) job told xs
      (λ k d less. (
        (tells k d less).0,
        tells-all t limit number job seen xs shared (get_or xs k d) (Contains-get_or xs k d less) within [] 0 (job (get_or xs k d)).lines (told (get_or xs k d)).told (tells k d less).1,
      ));
}
