-- What a job of queries alone tells, line by line.
use Rattle.std.proofs.Common.{◌≡◌, ℕ, ◌+◌, ◌≤◌, Bool, false, List, [], ◌∷◌, ◌++◌, length, map, All, refl, ap, sym, ◌∙◌, arith, subst, append_assoc, Result, Ok, Err, OnOk, is_err}
use Rattle.std.specs.List.{flat_map}
use Rattle.std.proofs.lemmas.List.{append-nil, length-append, map-append}
use Rattle.std.proofs.lemmas.List.Elements.{All-append, All-cons, All-head, All-nil, All-tail}
use Rattle.std.proofs.lemmas.List.Sums.{fold-append}
use mathlib.Core.List.{IsPrefix}
use Rattle.dn_formats.specs.Lawful.{Job, given_along, linked_by, pin_after, position_after, taken_by}
use Rattle.dn_formats.specs.declared.script.Line.{Line}
use Rattle.dn_formats.specs.declared.script.Line.TheVariants as line
use Rattle.feed_model.specs.declared.feed_told.FeedTold.{FeedTold}
use Rattle.feed_model.specs.Steps.{FeedRead}
use Rattle.dn_formats.specs.declared.told.Told.{Told}
use Rattle.dn_formats.specs.declared.told.Told.TheVariants.{Asked}
use Rattle.dn_model.specs.Entry.{entries}
use Rattle.dn_model.specs.Query.{Question}
use Rattle.dn_model.specs.declared.entry.Entry.{Entry}
use Rattle.dn_model.specs.declared.entry.Posted.{Posted}
use Rattle.dn_model.specs.declared.topology.Topology.{Topology}
use Rattle.fast_pins.specs.Known.{Known, published}
use Rattle.version_lock.proofs.Histories.{prefix_self, prefix_trans, same_between}
use Rattle.version_lock.specs.History.{posted_by}
use Rattle.feed_threads.specs.declared.reader_job.Read.{Read}
use Rattle.feed_threads.specs.Feeds.{Feed}
use Rattle.feed_threads.specs.Jobs.{Task, back_of}
use Rattle.feed_threads.specs.Readers.{AllRead, HasRead, Reading}
use Rattle.feed_threads.specs.Reads.{IsAsk, PinsOn, ReadEnds, TellsRead, TellsReadFront}
use Rattle.feed_threads.specs.Seats.{own_of}
use Rattle.feed_threads.specs.Tells.{Adds, IsOutcomeNow, TellsOwn}
use Rattle.feed_threads.specs.Tracks.{last_position}
use Rattle.feed_threads.proofs.OrderLemmas.{linked-none}
use Rattle.feed_threads.proofs.TellLemmas.{outcome-own, pin-now, tells-ask}

-- ---- a reader goes on

-- readers that know one publication are of its network
pub readers-of : (t : Topology) (known : Known) (readers : List Known) → known.topology ≡ t → All (λ r. r ≡ known) readers → All (λ r. r.topology ≡ t) readers
readers-of t known readers is same = λ k d less. ap (λ (r : Known). r.topology) (same k d less) ∙ is

pub pins-more : (a b c : Known) → PinsOn a b → PinsOn b c → PinsOn a c
pins-more a b c x y = record {
  origin = y.origin ∙ x.origin;
  topology = y.topology ∙ x.topology;
  mine = prefix_trans (published a) (published b) (published c) x.mine y.mine;
}

-- ---- what is told

-- lines that ask give nothing of a job without feeds
pub given-none : (t : Topology) (job : Job) (before lines : List Line) → job.feeds ≡ [] → All IsAsk lines → given_along t job before lines ≡ []
given-none t job before [] none asks = refl
given-none t job before (line.Take l r c ∷ lines) none asks = absurd (All-head IsAsk (line.Take l r c) lines asks)
given-none t job before (line.Link l n d ∷ lines) none asks = absurd (All-head IsAsk (line.Link l n d) lines asks)
given-none t job before (line.Ask l q ∷ lines) none asks =
    let y : Line = line.Ask l q in
    let rest : List Entry = given_along t job (before ++ y ∷ []) lines in
    ap (λ (fs : List FeedRead). (flat_map (taken_by before y) fs ++ linked_by t job before y) ++ rest) none
    ∙ ap (λ es. es ++ rest) (linked-none t job before y refl) ∙ given-none t job (before ++ y ∷ []) lines none (All-tail IsAsk y lines asks)

pub read-none : (t : Topology) (list : List Posted) → TellsRead t list list [] []
read-none t list = record { asks = All-nil IsAsk; begins = prefix_self list; pinned = omega arith; tells = λ limit k job more none same. tt }

prefix-length : {X : Type 0} (xs ys : List X) → IsPrefix xs ys → length xs ≤ length ys
prefix-length xs ys p = let e : length ys ≡ length xs + length p.0 = ap length (sym p.1) ∙ length-append xs p.0 in omega (arith, e)

-- what was told is told where more is pinned
pub read-later : (t : Topology) (first list later : List Posted) (lines : List Line) (tolds : List Told) → IsPrefix list later →
    TellsRead t first list lines tolds → TellsRead t first later lines tolds
read-later t first list later lines tolds p told = record {
  asks = told.asks;
  begins = prefix_trans first list later told.begins p;
  pinned = (let longer : length list ≤ length later = prefix-length list later p in let pinned : last_position tolds ≤ length list = told.pinned in omega (arith, longer, pinned));
  tells = λ limit k job more none same.
      let whole : list ++ (p.0 ++ more) ≡ later ++ more = sym (append_assoc list p.0 more) ∙ ap (λ ps. ps ++ more) p.1 in
      subst (λ (ps : List Posted). TellsOwn t limit ps k (own_of k first) job [] 0 lines tolds) whole
      (told.tells limit k job (p.0 ++ more) none (ap (posted_by k) whole ∙ same));
}

-- and one query more
pub read-ask : (t : Topology) (first list later : List Posted) (lines : List Line) (l : ℕ) (q : Question) (tolds tolds' : List Told) → IsPrefix list later →
    TellsRead t first list lines tolds → Adds tolds tolds' l q (IsOutcomeNow t later q) → TellsRead t first later (lines ++ line.Ask l q ∷ []) tolds'
read-ask t first list later lines l q tolds tolds' p told adds =
    let here : TellsRead t first later lines tolds = read-later t first list later lines tolds p told in
    let x : Told = Asked l q adds.outcome in
    let added : last_position tolds' ≡ pin_after (last_position tolds) adds.outcome =
    ap last_position adds.added ∙ fold-append position_after 0 tolds (x ∷ []) in
    record {
      asks = All-append IsAsk lines (line.Ask l q ∷ []) here.asks (All-cons IsAsk (line.Ask l q) [] tt (All-nil IsAsk));
      begins = here.begins;
      pinned = subst (λ (n : ℕ). n ≤ length later) (sym added) (pin-now t later (last_position tolds) q adds.outcome adds.good here.pinned);
      tells = λ limit k job more none same.
          let own : own_of k later ≡ own_of k first = ap entries (same_between k first later (later ++ more) here.begins (more, refl) (sym same)) in
          subst (λ (ts : List Told). TellsOwn t limit (later ++ more) k (own_of k first) job [] 0 (lines ++ line.Ask l q ∷ []) ts) (sym adds.added)
          (tells-ask t limit (later ++ more) k (own_of k first) job [] 0 lines tolds l q adds.outcome
          (outcome-own t limit later more k (own_of k first) job lines (last_position tolds) q adds.outcome adds.good here.pinned
          (own ∙ sym (ap (λ es. own_of k first ++ es) (given-none t job [] lines none here.asks) ∙ append-nil (own_of k first))))
          (here.tells limit k job more none same));
    }

-- what is told of all lines is that of a front of them
pub read-front : (t : Topology) (first list : List Posted) (front back lines : List Line) (tolds : List Told) → lines ≡ front ++ back →
    TellsRead t first list front tolds → TellsReadFront t first list lines tolds
read-front t first list front back lines tolds is told = record { front = front; back = back; lines_are = is; told = told }

-- one line more that asks
pub asks-more : (front more : List Line) (y : Line) (l : ℕ) (q : Question) → more ≡ front ++ y ∷ [] → y ≡ line.Ask l q → All IsAsk front → All IsAsk more
asks-more front more y l q is asks all =
    subst (All IsAsk) (sym is) (All-append IsAsk front (y ∷ []) all (All-cons IsAsk y [] (subst IsAsk (sym asks) tt) (All-nil IsAsk)))

ok-of : {A E : Type 0} (result : Result A E) (P : Type 0) → is_err result ≡ false → OnOk result P → P
ok-of (Ok a) P is p = p
ok-of (Err e) P is p = absurd (cc (is))

none-back : {S : Type 0} (feeds : List (Feed S)) → map (λ (f : Feed S). f.reader) feeds ≡ [] → map back_of feeds ≡ []
none-back [] is = refl
none-back (f ∷ fs) is = absurd (cc (is))

-- what a job of queries alone came to
pub read-ends : {S A E : Type 0} (result : Result A E) (wanted : Bool) (t t' : Topology) (first list : List Posted) (job : Task S) (lines : List Line) (tolds : List Told) (backs : List (S × FeedTold)) (feeds : List (Feed S)) →
    wanted ≡ is_err result → t' ≡ t → lines ≡ job.lines → job.feeds ≡ [] → map (λ (f : Feed S). f.reader) feeds ≡ job.feeds → backs ≡ map back_of feeds →
    OnOk result (TellsRead t' first list lines tolds) → TellsReadFront t' first list lines tolds → ReadEnds t first list job wanted tolds backs
read-ends result wanted t t' first list job lines tolds backs feeds wants same lines-are none feeds-are backs-are done front = record {
  feeds = none;
  done = λ e.
      let told : TellsRead t' first list lines tolds = ok-of result (TellsRead t' first list lines tolds) (sym wants ∙ e) done in
      subst (λ (ls : List Line). TellsRead t first list ls tolds) lines-are (subst (λ (u : Topology). TellsRead u first list lines tolds) same told);
  front = subst (λ (ls : List Line). TellsReadFront t first list ls tolds) lines-are (subst (λ (u : Topology). TellsReadFront u first list lines tolds) same front);
  none = backs-are ∙ none-back feeds (feeds-are ∙ none);
}

-- ---- readers, one after another

pub all-read-none : {S : Type 0} (t : Topology) (readers : List Known) (tasks : List (Task S)) (reads : List (Read S)) → readers ≡ [] → tasks ≡ [] → reads ≡ [] → AllRead t readers tasks reads
all-read-none {S = S} t readers tasks reads rs ts ds = record { readings = []; readers_are = rs; tasks_are = ts; reads_are = ds; each = All-nil (HasRead t) }

pub all-read-more : {S : Type 0} (t : Topology) (readers rs : List Known) (tasks ts : List (Task S)) (reads ds : List (Read S)) (r : Known) (task : Task S) (read : Read S) →
    readers ≡ rs ++ r ∷ [] → tasks ≡ ts ++ task ∷ [] → reads ≡ ds ++ read ∷ [] → PinsOn r read.reader → read.done.number ≡ task.number →
    ReadEnds t (published r) (published read.reader) task read.done.wanted_memory read.done.told read.done.feeds.items → AllRead t rs ts ds → AllRead t readers tasks reads
all-read-more {S = S} t readers rs tasks ts reads ds r task read rs-are ts-are ds-are pins number ends all =
    let one : Reading S = record { before = r; task = task; read = read } in
    record {
      readings = all.readings ++ one ∷ [];
      readers_are = rs-are ∙ ap (λ xs. xs ++ r ∷ []) all.readers_are ∙ sym (map-append (λ (x : Reading S). x.before) all.readings (one ∷ []));
      tasks_are = ts-are ∙ ap (λ xs. xs ++ task ∷ []) all.tasks_are ∙ sym (map-append (λ (x : Reading S). x.task) all.readings (one ∷ []));
      reads_are = ds-are ∙ ap (λ xs. xs ++ read ∷ []) all.reads_are ∙ sym (map-append (λ (x : Reading S). x.read) all.readings (one ∷ []));
      each = All-append (HasRead t) all.readings (one ∷ []) all.each (All-cons (HasRead t) one [] (record { pins = pins; number = number; ends = ends }) (All-nil (HasRead t)));
    }
