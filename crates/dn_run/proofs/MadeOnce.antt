-- The generated input of so many updates makes one text.
use Rattle.std.proofs.Common.{◌≡◌, ℕ, ◌+◌, Bool, true, false, ◌||◌, List, [], ◌∷◌, ◌++◌, All, IsTrue, cond, drop, filter, get_or, length, map, take, None, refl, ap, ap₂, sym, ◌∙◌, subst, nat_lt}
use Rattle.std.specs.List.{AllZip, list_any}
use Rattle.std.proofs.Math.Bool.{So-prop}
use Rattle.std.proofs.lemmas.List.{append_cancel_left, append-nil, take-append-drop}
use Rattle.std.proofs.lemmas.List.Elements.{All-cons, All-drop, All-head, All-nil, All-tail, filter-append}
use Rattle.feed_model.specs.Feed.{IsReading, ending}
use Rattle.feed_model.specs.Frames.{FrameRest, NoRest, CutFrame, BadVersion, BadFrameLength, frames_text, rest_kind}
use Rattle.dn_formats.specs.Lawful.{HoldsWhatWasGiven, IsKept, IsLawful, IsWhole, KeepsOrder, asked, entries_of_job, front_of, is_by, is_from, is_from_some, is_own, kept_by, kept_of_links}
use Rattle.feed_model.specs.Steps.{FeedRead, entries_of, kept_of, updates}
use Rattle.dn_model.specs.Tables.{parts}
use Rattle.dn_formats.specs.declared.script.Line.{Line}
use Rattle.feed_model.specs.declared.feed_told.FeedEnd.TheVariants as ends
use Rattle.dn_formats.specs.declared.told.JobTold.{JobTold}
use Rattle.feed_model.proofs.FeedLemmas.{reading_once}
use Rattle.dn_formats.proofs.LawfulLemmas.{whole}
use Rattle.base.specs.Cycles.{AreCycles}
use Rattle.dn_model.specs.Topology.{Parts, is_sound_topology}
use Rattle.dn_model.specs.Next.{next}
use Rattle.base.specs.declared.cycle.Cycle.{Cycle}
use Rattle.dn_model.specs.declared.entry.Entry.{Entry}
use Rattle.dn_model.specs.declared.topology.Topology.{Topology}
use Rattle.base.proofs.AnswersOnce.{cycles-once}
use Rattle.made_input.specs.Updates.{made_feed}
use Rattle.dn_run.specs.Limits.{feed_limit, history_limit}
use Rattle.dn_run.proofs.MadeLemmas.{all-pass}
use Rattle.dn_run.specs.Made.{IsMade, IsMadeFeed, made_job, made_router, made_take, router_numbers, summary_text, told_cycles}

-- ---- a network is what its parts are

true-prop : (b : Bool) (x y : IsTrue b) → x ≡ y
true-prop b x y = So-prop b x y

abbrev IsSound : Parts → Type 0
IsSound p = IsTrue (is_sound_topology p)

abbrev made-of : (p : Parts) → IsSound p → Topology
made-of p s = record { routers = p.routers; tables = p.tables; links = p.links; edges = p.edges; sound = s }

same-made : (p q : Parts) (s : IsSound p) (s' : IsSound q) → p ≡ q → made-of p s ≡ made-of q s'
same-made p q s s' e = subst (λ (r : Parts). (z : IsSound r) → made-of p s ≡ made-of r z) e (λ z. ap (made-of p) (true-prop _ s z)) s'

pub same-topology : (t u : Topology) → parts t ≡ parts u → t ≡ u
same-topology t u e = same-made (parts t) (parts u) t.sound u.sound e

-- ---- the feeds

-- no feed that is read ends at a full history
pub ending-not-full : (k : FrameRest) (o : ℕ) (longer : Bool) → ending k o longer ≡ ends.Full → ⊥
ending-not-full NoRest o true full = cc
ending-not-full NoRest o false full = cc
ending-not-full CutFrame o true full = cc
ending-not-full CutFrame o false full = cc
ending-not-full BadVersion o longer full = cc
ending-not-full BadFrameLength o longer full = cc

made-whole : (t : Topology) (n i : ℕ) (h : List Entry) (f : FeedRead) → IsMadeFeed t n i f → IsKept history_limit h f → IsWhole f
made-whole t n i h f made kept =
    whole history_limit h f
    (λ full. ending-not-full (rest_kind made.reading.rest) (length (frames_text made.reading.frames)) (nat_lt feed_limit (length (made_feed i n))) (sym made.reading.ends ∙ full)) kept

same-feed : (f g : FeedRead) → f.feed_no ≡ g.feed_no → f.router ≡ g.router → f.steps ≡ g.steps → f.kept ≡ g.kept → f.end ≡ g.end → f ≡ g
same-feed f g a b c d e =
    ap₂ (λ n r. record { feed_no = n; router = r; steps = f.steps; kept = f.kept; end = f.end }) a b
    ∙ ap₂ (λ s k. record { feed_no = g.feed_no; router = g.router; steps = s; kept = k; end = f.end }) c d
    ∙ ap (λ x. record { feed_no = g.feed_no; router = g.router; steps = g.steps; kept = g.kept; end = x }) e

one-feed : (t : Topology) (n i : ℕ) (h j : List Entry) (f g : FeedRead) → IsMadeFeed t n i f → IsKept history_limit h f → IsMadeFeed t n i g → IsKept history_limit j g → f ≡ g
one-feed t n i h j f g a kept b also =
    let once = reading_once t (made_router i) (made_feed i n) feed_limit f.steps g.steps f.end g.end
    (subst (λ r. IsReading t r (made_feed i n) feed_limit f.steps f.end) a.router_is a.reading) (subst (λ r. IsReading t r (made_feed i n) feed_limit g.steps g.end) b.router_is b.reading) in
    let count : f.kept ≡ g.kept = made-whole t n i h f a kept ∙ ap (λ ss. length (updates ss)) once.0 ∙ sym (made-whole t n i j g b also) in
    same-feed f g (a.feed_no ∙ sym b.feed_no) (a.router_is ∙ sym b.router_is) once.0 count once.1

all-feeds : (t : Topology) (n : ℕ) (h j : List Entry) (is : List ℕ) (fs gs : List FeedRead) → AllZip (IsMadeFeed t n) is fs → All (IsKept history_limit h) fs →
    AllZip (IsMadeFeed t n) is gs → All (IsKept history_limit j) gs → fs ≡ gs
all-feeds t n h j [] [] [] a kept b also = refl
all-feeds t n h j [] [] (g ∷ gs) a kept b also = absurd b
all-feeds t n h j [] (f ∷ fs) gs a kept b also = absurd a
all-feeds t n h j (i ∷ is) [] gs a kept b also = absurd a
all-feeds t n h j (i ∷ is) (f ∷ fs) [] a kept b also = absurd b
all-feeds t n h j (i ∷ is) (f ∷ fs) (g ∷ gs) a kept b also =
    ap₂ (λ x xs. x ∷ xs) (one-feed t n i h j f g a.0 (All-head (IsKept history_limit h) f fs kept) b.0 (All-head (IsKept history_limit j) g gs also))
    (all-feeds t n h j is fs gs a.1 (All-tail (IsKept history_limit h) f fs kept) b.1 (All-tail (IsKept history_limit j) g gs also))

-- ---- the history

-- where no entry is of a link line each is of a feed
of-feeds : (feeds : List FeedRead) (h : List Entry) → filter (is_by 1) h ≡ [] → All (λ e. IsTrue (is_from_some feeds e || (is_by 1 e || false))) h → All (λ e. IsTrue (is_from_some feeds e)) h
of-feeds feeds [] none only = All-nil (λ e. IsTrue (is_from_some feeds e))
of-feeds feeds (e ∷ h) none only =
    by-test (is_by 1 e) none (All-head (λ e. IsTrue (is_from_some feeds e || (is_by 1 e || false))) e h only)
    (λ rest. of-feeds feeds h rest (All-tail (λ e. IsTrue (is_from_some feeds e || (is_by 1 e || false))) e h only))
  where
    no-more : (a : Bool) → (a || false) ≡ true → a ≡ true
    no-more true is = refl
    no-more false is = is

    by-test : (b : Bool) → cond b (e ∷ filter (is_by 1) h) (filter (is_by 1) h) ≡ [] → (is_from_some feeds e || (b || false)) ≡ true →
        (filter (is_by 1) h ≡ [] → All (λ e. IsTrue (is_from_some feeds e)) h) → All (λ e. IsTrue (is_from_some feeds e)) (e ∷ h)
    by-test true none here rest = absurd (cc)
    by-test false none here rest = All-cons (λ e. IsTrue (is_from_some feeds e)) e h (no-more (is_from_some feeds e) here) (rest none)

only-feeds : (t : Topology) (feeds : List FeedRead) (h : List Entry) (told : List JobTold) → IsLawful t history_limit feeds (made_job feeds ∷ []) h told → All (λ e. IsTrue (is_from_some feeds e)) h
only-feeds t feeds h told lawful =
    of-feeds feeds h (All-head (λ job. filter (is_by job.number) h ≡ kept_of_links t job job.lines) (made_job feeds) [] lawful.shuffle.each_link) lawful.shuffle.only

-- the one job's entries are the whole history
one-history : (t : Topology) (feeds : List FeedRead) (h : List Entry) (pin : ℕ) (cycles : List Cycle) →
    IsLawful t history_limit feeds (made_job feeds ∷ []) h (told_cycles pin cycles ∷ []) → h ≡ entries_of_job t (made_job feeds)
one-history t feeds h pin cycles lawful =
    let only = only-feeds t feeds h (told_cycles pin cycles ∷ []) lawful in
    sym (all-pass (is_own (made_job feeds)) h (λ k d less. let here : is_from_some feeds (get_or h k d) ≡ true = only k d less in rw here refl))
    ∙ All-head (KeepsOrder t h) (made_job feeds) [] lawful.order

-- ---- the position of the query

abbrev takes : List Line
takes = map made_take router_numbers

-- lines that take all of the feeds of these routers
abbrev AskForAll : List ℕ → Type 0
AskForAll [] = Unit {0}
AskForAll (i ∷ is) = (asked (made_router i) takes ≡ None) × AskForAll is

ask-for-all : AskForAll router_numbers
ask-for-all = (refl, (refl, (refl, (refl, (refl, (refl, (refl, (refl, tt))))))))

taken-all : (t : Topology) (n i : ℕ) (f : FeedRead) → IsMadeFeed t n i f → asked (made_router i) takes ≡ None → kept_by takes f ≡ kept_of f f.steps
taken-all t n i f made all = ap (λ c. kept_of f (front_of c f.steps)) (ap (λ r. asked r takes) made.router_is ∙ all)

no-end : {X : Type 0} (xs ys zs : List X) → zs ≡ xs ++ ys → xs ≡ zs → ys ≡ []
no-end xs ys zs whole same = append_cancel_left xs ys [] (sym whole ∙ sym same ∙ sym (append-nil xs))

-- what comes after the position has no entry of a feed
none-after : (t : Topology) (n : ℕ) (h : List Entry) (pin : ℕ) (is : List ℕ) (fs : List FeedRead) → AllZip (IsMadeFeed t n) is fs → AskForAll is →
    All (λ f. filter (is_from f) (take pin h) ≡ entries_of f (kept_by takes f)) fs → All (λ f. filter (is_from f) h ≡ entries_of f (kept_of f f.steps)) fs →
    All (λ f. filter (is_from f) (drop pin h) ≡ []) fs
none-after t n h pin [] [] are ask holds each = All-nil (λ f. filter (is_from f) (drop pin h) ≡ [])
none-after t n h pin [] (f ∷ fs) are ask holds each = absurd are
none-after t n h pin (i ∷ is) [] are ask holds each = absurd are
none-after t n h pin (i ∷ is) (f ∷ fs) are ask holds each =
    let whole : filter (is_from f) h ≡ filter (is_from f) (take pin h) ++ filter (is_from f) (drop pin h) =
    ap (filter (is_from f)) (sym (take-append-drop pin h)) ∙ filter-append (is_from f) (take pin h) (drop pin h) in
    let same : filter (is_from f) (take pin h) ≡ filter (is_from f) h =
    All-head (λ f. filter (is_from f) (take pin h) ≡ entries_of f (kept_by takes f)) f fs holds ∙ ap (entries_of f) (taken-all t n i f are.0 ask.0)
    ∙ sym (All-head (λ f. filter (is_from f) h ≡ entries_of f (kept_of f f.steps)) f fs each) in
    All-cons (λ f. filter (is_from f) (drop pin h) ≡ []) f fs (no-end (filter (is_from f) (take pin h)) (filter (is_from f) (drop pin h)) (filter (is_from f) h) whole same)
    (none-after t n h pin is fs are.1 ask.1 (All-tail (λ f. filter (is_from f) (take pin h) ≡ entries_of f (kept_by takes f)) f fs holds)
    (All-tail (λ f. filter (is_from f) h ≡ entries_of f (kept_of f f.steps)) f fs each))

-- an entry is of no feed that has no entry
of-none : (e : Entry) (es : List Entry) (fs : List FeedRead) → All (λ f. filter (is_from f) (e ∷ es) ≡ []) fs → list_any (λ f. is_from f e) fs ≡ true → ⊥
of-none e es [] none some = cc
of-none e es (f ∷ fs) none some =
    by-test (is_from f e) (All-head (λ f. filter (is_from f) (e ∷ es) ≡ []) f fs none) some (of-none e es fs (All-tail (λ f. filter (is_from f) (e ∷ es) ≡ []) f fs none))
  where
    by-test : (b : Bool) → cond b (e ∷ filter (is_from f) es) (filter (is_from f) es) ≡ [] → (b || list_any (λ f. is_from f e) fs) ≡ true → (list_any (λ f. is_from f e) fs ≡ true → ⊥) → ⊥
    by-test true none some rest = cc
    by-test false none some rest = rest some

none-left : (es : List Entry) (fs : List FeedRead) → All (λ e. IsTrue (is_from_some fs e)) es → All (λ f. filter (is_from f) es ≡ []) fs → es ≡ []
none-left [] fs only none = refl
none-left (e ∷ es) fs only none = absurd (of-none e es fs none (All-head (λ e. IsTrue (is_from_some fs e)) e es only))

-- the query is answered over the whole history
whole-pin : (t : Topology) (n : ℕ) (feeds : List FeedRead) (h : List Entry) (pin : ℕ) (cycles : List Cycle) → AllZip (IsMadeFeed t n) router_numbers feeds →
    IsLawful t history_limit feeds (made_job feeds ∷ []) h (told_cycles pin cycles ∷ []) → take pin h ≡ h
whole-pin t n feeds h pin cycles are lawful =
    let holds : HoldsWhatWasGiven t (made_job feeds) takes (take pin h) = lawful.tells.0.1.2.3 in
    let none = none-after t n h pin router_numbers feeds are ask-for-all holds.taken lawful.shuffle.each in
    let only = only-feeds t feeds h (told_cycles pin cycles ∷ []) lawful in
    let rest : drop pin h ≡ [] = none-left (drop pin h) feeds (All-drop (λ e. IsTrue (is_from_some feeds e)) pin h only) none in
    sym (append-nil (take pin h)) ∙ ap (λ xs. take pin h ++ xs) (sym rest) ∙ take-append-drop pin h

-- ---- the cycles

cycles-are : (t : Topology) (n : ℕ) (feeds : List FeedRead) (h : List Entry) (pin : ℕ) (cycles : List Cycle) → AllZip (IsMadeFeed t n) router_numbers feeds →
    IsLawful t history_limit feeds (made_job feeds ∷ []) h (told_cycles pin cycles ∷ []) → AreCycles (next t (entries_of_job t (made_job feeds)) []) cycles
cycles-are t n feeds h pin cycles are lawful =
    let answer : AreCycles (next t (take pin h) []) cycles = lawful.tells.0.1.2.4 in
    subst (λ es. AreCycles (next t es []) cycles) (whole-pin t n feeds h pin cycles are lawful ∙ one-history t feeds h pin cycles lawful) answer

-- two runs over one generated input tell the same cycles
same-cycles : (n : ℕ) (t u : Topology) (fs gs : List FeedRead) (h j : List Entry) (pin at : ℕ) (xs ys : List Cycle) → t ≡ u → AllZip (IsMadeFeed t n) router_numbers fs →
    IsLawful t history_limit fs (made_job fs ∷ []) h (told_cycles pin xs ∷ []) → AllZip (IsMadeFeed u n) router_numbers gs →
    IsLawful u history_limit gs (made_job gs ∷ []) j (told_cycles at ys ∷ []) → xs ≡ ys
same-cycles n t u fs gs h j pin at xs ys same a p b q =
    let there : AllZip (IsMadeFeed t n) router_numbers gs = subst (λ (v : Topology). AllZip (IsMadeFeed v n) router_numbers gs) (sym same) b in
    let lawful : IsLawful t history_limit gs (made_job gs ∷ []) j (told_cycles at ys ∷ []) = subst (λ (v : Topology). IsLawful v history_limit gs (made_job gs ∷ []) j (told_cycles at ys ∷ [])) (sym same) q in
    let feeds : fs ≡ gs = all-feeds t n h j router_numbers fs gs a p.shuffle.kept there lawful.shuffle.kept in
    cycles-once (next t (entries_of_job t (made_job fs)) []) xs ys (cycles-are t n fs h pin xs a p)
    (subst (λ (ks : List FeedRead). AreCycles (next t (entries_of_job t (made_job ks)) []) ys) (sym feeds) (cycles-are t n gs j at ys there lawful))

pub made-once : (n : ℕ) (x y : List ℕ) → IsMade n x → IsMade n y → x ≡ y
made-once n x y p q =
    let cycles : p.1 ≡ q.1 = same-cycles n p.2.t q.2.t p.2.feeds q.2.feeds p.2.history q.2.history p.0 q.0 p.1 q.1
    (same-topology p.2.t q.2.t (p.2.network ∙ sym q.2.network)) p.2.read p.2.lawful q.2.read q.2.lawful in
    p.3 ∙ ap (summary_text n) cycles ∙ sym q.3
