-- The order of what lines give.
use Rattle.std.proofs.Common.{◌≡◌, ℕ, false, List, [], ◌∷◌, ◌++◌, ◌+◌, ◌<◌, ◌≤◌, length, take, drop, All, Option, None, Some, refl, ap, sym, ◌∙◌, arith, append_assoc, length-append}
use Rattle.std.specs.List.{cons_option, flat_map}
use Rattle.std.proofs.lemmas.Grind.{flat_map-append}
use Rattle.std.proofs.lemmas.List.{append-nil, map-append, take_all, take-append-le}
use Rattle.std.proofs.lemmas.List.Sums.{fold-append}
use Rattle.std.proofs.Math.Seq.{drop-append_seam}
use Rattle.std.proofs.lemmas.List.Elements.{All-head, All-tail, filter_map-append}
use Rattle.dn_formats.specs.Lawful.{Job, asked, asked_by, both_counts, front_of, given_along, kept_by, kept_of_links, link_entries, link_entry, linked_by, taken, taken_by, takes}
use Rattle.feed_model.specs.Steps.{FeedRead, kept_of, entries_of}
use Rattle.dn_model.specs.declared.entry.Entry.{Entry}
use Rattle.dn_model.specs.declared.entry.Op.{Op}
use Rattle.dn_model.specs.declared.topology.Topology.{Topology}
use Rattle.base.specs.declared.ids.RouterId.{RouterId}
use Rattle.dn_formats.specs.declared.script.Line.{Line}
use Rattle.dn_formats.specs.declared.script.Line.TheVariants as line

pub asked-push : (r : RouterId) (before : List Line) (l : Line) → asked r (before ++ l ∷ []) ≡ both_counts (asked r before) (asked_by r l)
asked-push r before l = simp (map-append, fold-append)

-- what a line gives beyond those before it
abbrev pub gives : Topology → Job → List Line → Line → List Entry
gives t job before l = flat_map (taken_by before l) job.feeds ++ linked_by t job before l

pub given-append : (t : Topology) (job : Job) (before xs ys : List Line) → given_along t job before (xs ++ ys) ≡ given_along t job before xs ++ given_along t job (before ++ xs) ys
given-append t job before [] ys = ap (λ b. given_along t job b ys) (sym (append-nil before))
given-append t job before (x ∷ xs) ys =
    let first : List Entry = gives t job before x in
    let rest : List Entry = given_along t job (before ++ x ∷ []) xs in
    let later : List Entry = given_along t job (before ++ x ∷ xs) ys in
    ap (λ es. first ++ es) (given-append t job (before ++ x ∷ []) xs ys ∙ ap (λ b. rest ++ given_along t job b ys) (append_assoc before (x ∷ []) xs)) ∙ sym (append_assoc first rest later)

pub given-push : (t : Topology) (job : Job) (before lines : List Line) (l : Line) → given_along t job before (lines ++ l ∷ []) ≡ given_along t job before lines ++ gives t job (before ++ lines) l
given-push t job before lines l =
    given-append t job before lines (l ∷ []) ∙ ap (λ es. given_along t job before lines ++ es) (append-nil (gives t job (before ++ lines) l))

pub drop-all : {X : Type 0} (xs : List X) → drop (length xs) xs ≡ []
drop-all [] = refl
drop-all (x ∷ xs) = drop-all xs

-- ---- link lines

pub links-append : (t : Topology) (n : ℕ) (xs ys : List Line) → link_entries t n (xs ++ ys) ≡ link_entries t n xs ++ link_entries t n ys
links-append t n xs ys = filter_map-append (link_entry t n) xs ys

pub links-push : (t : Topology) (n : ℕ) (before : List Line) (l : Line) → link_entries t n (before ++ l ∷ []) ≡ link_entries t n before ++ cons_option (link_entry t n l) []
links-push t n before l = links-append t n before (l ∷ [])

-- a line that makes no link entry leaves them as they were
pub links-same : (t : Topology) (n : ℕ) (before : List Line) (l : Line) → link_entry t n l ≡ None → link_entries t n (before ++ l ∷ []) ≡ link_entries t n before
links-same t n before l none = links-push t n before l ∙ ap (λ (o : Option Entry). link_entries t n before ++ cons_option o []) none ∙ append-nil (link_entries t n before)

pub linked-none : (t : Topology) (job : Job) (before : List Line) (l : Line) → link_entry t job.number l ≡ None → linked_by t job before l ≡ []
linked-none t job before l none =
    let ks : List Entry = kept_of_links t job before in
    ap (λ (es : List Entry). drop (length ks) (take job.kept_links es)) (links-same t job.number before l none) ∙ drop-all ks

-- a line gives its link entry where the history took it
pub linked-one : (t : Topology) (job : Job) (before : List Line) (l : Line) (e : Entry) → link_entry t job.number l ≡ Some e → length (link_entries t job.number before) < job.kept_links → linked_by t job before l ≡ e ∷ []
linked-one t job before l e is room =
    let es : List Entry = link_entries t job.number before in
    let more : link_entries t job.number (before ++ l ∷ []) ≡ es ++ e ∷ [] = links-push t job.number before l ∙ ap (λ (o : Option Entry). es ++ cons_option o []) is in
    let len : length (es ++ e ∷ []) ≡ length es + 1 = length-append es (e ∷ []) in
    let kept : take job.kept_links es ≡ es = take_all job.kept_links es (omega (arith, room)) in
    let all : take job.kept_links (es ++ e ∷ []) ≡ es ++ e ∷ [] = take_all job.kept_links (es ++ e ∷ []) (omega (arith, room, len)) in
    ap (λ (xs : List Entry). drop (length (take job.kept_links es)) (take job.kept_links xs)) more
    ∙ ap (λ (xs : List Entry). drop (length (take job.kept_links es)) xs) all
    ∙ ap (λ (xs : List Entry). drop (length xs) (es ++ e ∷ [])) kept ∙ drop-append_seam es (e ∷ [])

-- and nothing where the history had been full before
pub linked-past : (t : Topology) (job : Job) (before : List Line) (l : Line) → job.kept_links ≤ length (link_entries t job.number before) → linked_by t job before l ≡ []
linked-past t job before l past =
    let es : List Entry = link_entries t job.number before in
    let same : take job.kept_links (link_entries t job.number (before ++ l ∷ [])) ≡ take job.kept_links es =
    ap (take job.kept_links) (links-push t job.number before l) ∙ take-append-le job.kept_links es (cons_option (link_entry t job.number l) []) past in
    ap (λ (xs : List Entry). drop (length (take job.kept_links es)) xs) same ∙ drop-all (take job.kept_links es)

-- a line gives what it takes where it makes no link entry
pub gives-taken : (t : Topology) (job : Job) (before : List Line) (l : Line) → link_entry t job.number l ≡ None → gives t job before l ≡ flat_map (taken_by before l) job.feeds
gives-taken t job before l none = ap (λ es. flat_map (taken_by before l) job.feeds ++ es) (linked-none t job before l none) ∙ append-nil (flat_map (taken_by before l) job.feeds)

pub both-zero : (c : Option ℕ) → both_counts c (Some 0) ≡ c
both-zero None = refl
both-zero (Some n) = ap Some (omega arith)

pub asked-other : (r : RouterId) (l : Line) → takes r l ≡ false → asked_by r l ≡ Some 0
asked-other r (line.Take l q count) other = rw other refl
asked-other r (line.Ask l q) other = refl
asked-other r (line.Link l n d) other = refl

-- a line that names another router takes nothing
pub taken_by-other : (before : List Line) (l : Line) (f : FeedRead) → takes f.router l ≡ false → taken_by before l f ≡ []
taken_by-other before l f other =
    let same : taken (before ++ l ∷ []) f ≡ taken before f =
    ap (λ c. front_of c f.steps) (asked-push f.router before l ∙ ap (both_counts (asked f.router before)) (asked-other f.router l other) ∙ both-zero (asked f.router before)) in
    ap (λ ss. entries_of f (drop (length (kept_by before f)) (kept_of f ss))) same ∙ ap (entries_of f) (drop-all (kept_by before f))

pub none-taken : (before : List Line) (l : Line) (fs : List FeedRead) → All (λ f. takes f.router l ≡ false) fs → flat_map (taken_by before l) fs ≡ []
none-taken before l [] others = refl
none-taken before l (f ∷ fs) others =
    ap (λ es. es ++ flat_map (taken_by before l) fs) (taken_by-other before l f (All-head (λ f. takes f.router l ≡ false) f fs others))
    ∙ none-taken before l fs (All-tail (λ f. takes f.router l ≡ false) f fs others)

-- of the feeds one alone has some
pub one-alone : (g : FeedRead → List Entry) (front : List FeedRead) (f : FeedRead) (back : List FeedRead) (es : List Entry) →
    flat_map g front ≡ [] → g f ≡ es → flat_map g back ≡ [] → flat_map g (front ++ f ∷ back) ≡ es
one-alone g front f back es none is none-back =
    flat_map-append g front (f ∷ back) ∙ ap (λ x. x ++ flat_map g (f ∷ back)) none ∙ ap (λ x. x ++ flat_map g back) is ∙ ap (λ x. es ++ x) none-back ∙ append-nil es

-- what a line takes of a feed, by what the history had taken of it before and after it
pub taken_by-own : (before : List Line) (l : Line) (f : FeedRead) (ops more : List (RouterId × Op)) → kept_by before f ≡ ops → kept_by (before ++ l ∷ []) f ≡ ops ++ more →
    taken_by before l f ≡ entries_of f more
taken_by-own before l f ops more was is =
    ap (λ xs. entries_of f (drop (length xs) (kept_by (before ++ l ∷ []) f))) was ∙ ap (λ xs. entries_of f (drop (length ops) xs)) is
    ∙ ap (entries_of f) (drop-append_seam ops more)
