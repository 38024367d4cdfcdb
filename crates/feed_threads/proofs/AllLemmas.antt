-- What jobs with a seat came to holds of what is seen later too, and of one job more.
use Rattle.std.proofs.Common.{◌≡◌, ℕ, zero, suc, ◌+◌, ◌-◌, ◌<◌, ◌≤◌, ◌⊎◌, inl, inr, ⊎_elim, Bool, true, false, ◌==◌, List, [], ◌∷◌, ◌++◌, length, get_or, take, All, Option, None, Some, refl, ap, sym, ◌∙◌, arith, subst, length-take}
use Rattle.std.specs.Global.{Vec}
use Rattle.std.specs.List.{list_any, Contains}
use Rattle.std.specs.Prelude.{nat_lt}
use Rattle.std.proofs.lemmas.Bool.Decides.{nat_tests}
use Rattle.std.proofs.lemmas.List.{map-append, length-append, take-append-le}
use Rattle.std.proofs.lemmas.List.Folds.{list_any_none}
use Rattle.std.proofs.lemmas.List.Elements.{All-nil, All-cons, All-head, All-tail, All-append, All-map, Contains-append_left, Contains-append_right, Contains-append_cases, Contains-push}
use mathlib.Core.List.{IsPrefix}
use Rattle.dn_model.specs.Answer.{IsAnswer}
use Rattle.dn_model.specs.Entry.{entries}
use Rattle.dn_model.specs.Query.{Question}
use Rattle.base.specs.Lists.{all_differ}
use Rattle.dn_model.specs.declared.entry.Entry.{Entry}
use Rattle.dn_model.specs.declared.entry.Entry.TheVariants as entry
use Rattle.dn_model.specs.declared.entry.Posted.{Posted}
use Rattle.dn_model.specs.declared.topology.Topology.{Topology}
use Rattle.dn_formats.proofs.TopologySound.{all_differ-push}
use Rattle.dn_formats.specs.Lawful.{Job, entries_of_job, entry_after, given_along, link_entries, pin_after}
use Rattle.feed_model.specs.Steps.{FrameStep, FeedRead}
use Rattle.dn_model.specs.declared.entry.Op.{Op}
use Rattle.base.specs.declared.ids.RouterId.{RouterId}
use Rattle.dn_formats.specs.declared.script.Line.{Line}
use Rattle.dn_formats.specs.declared.script.Line.TheVariants as line
use Rattle.feed_model.specs.declared.feed_told.FeedTold.{FeedTold}
use Rattle.dn_formats.specs.declared.told.Outcome.{Outcome}
use Rattle.dn_formats.specs.declared.told.Outcome.TheVariants.{Answered, Unknown}
use Rattle.dn_formats.specs.declared.told.LinkOutcome.{LinkOutcome}
use Rattle.dn_formats.specs.declared.told.LinkOutcome.TheVariants.{At, Full, UnknownLink}
use Rattle.dn_formats.specs.declared.told.Told.{Told}
use Rattle.dn_formats.specs.declared.told.Told.TheVariants.{Asked, Linked}
use Rattle.route_feed.specs.FeedReader.{Reader}
use Rattle.version_lock.proofs.Histories.{prefix_self, prefix_trans}
use Rattle.version_lock.specs.Callers.{Caller, HasNumber, IsSeatOf, KeepsOwn, Lock, numbers, upper_seat}
use Rattle.version_lock.specs.History.{posted_by, HasSameOf}
use Rattle.version_lock.specs.Rule.{longer}
use Rattle.std.specs.Prelude.{vec_capacity}
use Rattle.feed_threads.specs.declared.all_jobs.Batch.{Batch}
use Rattle.feed_threads.specs.declared.job.JobDone.{JobDone}
use Rattle.feed_threads.specs.AllJobs.{AllEnd, CameTo, Run, numbers_of_runs, same_no}
use Rattle.feed_threads.specs.Feeds.{Feed, IsBroken, StandsFront, TookFront}
use Rattle.feed_threads.specs.Jobs.{AreApart, AreReadBy, Ends, HasRunUnless, IsFresh, IsKeptSo, IsReadBy, Task, job_of}
use Rattle.feed_threads.specs.Room.{HasRoom}
use Rattle.feed_threads.specs.Runs.{AllRun, AreReady, IsReady, IsReadyBatch, MayRun, RanJob}
use Rattle.feed_threads.specs.Seats.{own_of, SawMore}
use Rattle.feed_threads.specs.Tells.{IsOwnLinkOutcome, IsOwnOutcome, TellsOwn, TellsOwnFront}
use Rattle.feed_threads.specs.Tracks.{TookFirstLinks, TookLinks}
use Rattle.feed_threads.proofs.GiveLemmas.{took-later}
use Rattle.feed_threads.proofs.SeatLemmas.{saw-seat}

-- ---- what is told stays told

take-prefix : {X : Type 0} (n : ℕ) (xs ys : List X) → n ≤ length xs → IsPrefix xs ys → take n xs ≡ take n ys
take-prefix n xs ys within p = sym (take-append-le n xs p.0 within) ∙ ap (take n) p.1

longer-prefix : {X : Type 0} (xs ys : List X) → IsPrefix xs ys → length xs ≤ length ys
longer-prefix xs ys p = let e : length ys ≡ length xs + length p.0 = ap length (sym p.1) ∙ length-append xs p.0 in omega (arith, e)

module _ (t : Topology) (limit : ℕ) (seen later : List Posted) (n : ℕ) (start : List Entry) (job : Job) (p : IsPrefix seen later) where
  own-outcome-later : (before : List Line) (last : ℕ) (q : Question) (o : Outcome) → IsOwnOutcome t limit seen n start job before last q o → IsOwnOutcome t limit later n start job before last q o
  own-outcome-later before last q (Unknown u) is = is
  own-outcome-later before last q (Answered m answer) is =
      let same : take m seen ≡ take m later = take-prefix m seen later is.2 p in (
        is.0,
        is.1,
        (let within : m ≤ length seen = is.2 in let more : length seen ≤ length later = longer-prefix seen later p in omega (arith, within, more)),
        subst (λ (ps : List Posted). own_of n ps ≡ start ++ given_along t job [] before) same is.3,
        subst (λ (ps : List Posted). IsAnswer t (entries ps) q answer) same is.4,
      )

  -- an entry that stands at a position stands within what is seen
  link-within : (m : ℕ) (x : Posted) → take m seen ≡ take (m - 1) seen ++ x ∷ [] → m ≤ length seen
  link-within m x is =
      let more : length (take m seen) ≡ length (take (m - 1) seen) + 1 = ap length is ∙ length-append (take (m - 1) seen) (x ∷ []) in
      let here = length-take m seen in
      let before = length-take (m - 1) seen in
      omega (arith, more, here, before)

  own-link-later : (before : List Line) (last : ℕ) (name : List ℕ) (down : Bool) (o : LinkOutcome) → IsOwnLinkOutcome t limit seen n start job before last name down o → IsOwnLinkOutcome t limit later n start job before last name down o
  own-link-later before last name down UnknownLink is = is
  own-link-later before last name down Full is = (is.0, is.1, (let full : limit ≤ length seen = is.2 in let more : length seen ≤ length later = longer-prefix seen later p in omega (arith, full, more)))
  own-link-later before last name down (At m) is =
      let within : m ≤ length seen = link-within m _ is.entry in
      let same : take m seen ≡ take m later = take-prefix m seen later within p in
      let front : take (m - 1) seen ≡ take (m - 1) later = take-prefix (m - 1) seen later (omega (arith, within)) p in
      record {
        link = is.link;
        named = is.named;
        later = is.later;
        entry = sym same ∙ is.entry ∙ ap (λ (ps : List Posted). ps ++ record { seat = n; entry = entry.Link job.number is.link down } ∷ []) front;
        own = ap (own_of n) (sym front) ∙ is.own;
      }

  tells-own-later : (before : List Line) (last : ℕ) (lines : List Line) (tolds : List Told) → TellsOwn t limit seen n start job before last lines tolds → TellsOwn t limit later n start job before last lines tolds
  tells-own-later before last [] [] told = tt
  tells-own-later before last [] (o ∷ os) told = told
  tells-own-later before last (line.Take l r count ∷ lines) tolds told = tells-own-later (before ++ line.Take l r count ∷ []) last lines tolds told
  tells-own-later before last (line.Ask l q ∷ lines) [] told = told
  tells-own-later before last (line.Ask l q ∷ lines) (Linked m name d o ∷ os) told = told
  tells-own-later before last (line.Ask l q ∷ lines) (Asked m a o ∷ os) told = (
    told.0,
    told.1,
    own-outcome-later before last q o told.2,
    tells-own-later (before ++ line.Ask l q ∷ []) (pin_after last o) lines os told.3,
  )
  tells-own-later before last (line.Link l name d ∷ lines) [] told = told
  tells-own-later before last (line.Link l name d ∷ lines) (Asked m a o ∷ os) told = told
  tells-own-later before last (line.Link l name d ∷ lines) (Linked m named is o ∷ os) told = (
    told.0,
    told.1,
    told.2,
    own-link-later before last name d o told.3,
    tells-own-later (before ++ line.Link l name d ∷ []) (entry_after last o) lines os told.4,
  )

-- what was taken of link entries was taken where more is seen
took-links-later : (full : Bool) (limit : ℕ) (seen later : List Posted) (all count : ℕ) → IsPrefix seen later → TookLinks full limit seen all count → TookLinks full limit later all count
took-links-later false limit seen later all count p took = took
took-links-later true limit seen later all count p took = (took.0, (let full : limit ≤ length seen = took.1 in let more : length seen ≤ length later = longer-prefix seen later p in omega (arith, full, more)))

first-links-later : (full : Bool) (limit : ℕ) (seen later : List Posted) (all count : ℕ) → IsPrefix seen later → TookFirstLinks full limit seen all count → TookFirstLinks full limit later all count
first-links-later false limit seen later all count p took = took
first-links-later true limit seen later all count p took = (took.0, (let full : limit ≤ length seen = took.1 in let more : length seen ≤ length later = longer-prefix seen later p in omega (arith, full, more)))

-- ---- what a job came to

kept-later : (limit : ℕ) (seen later : List Posted) (kept : Option ℕ) (f : FeedRead) → IsPrefix seen later → IsKeptSo limit seen kept f → IsKeptSo limit later kept f
kept-later limit seen later None f p is = is
kept-later limit seen later (Some n) f p is =
    let b : IsBroken limit seen f.steps n = is.1 in (
      is.0,
      record {
        before = b.before;
        last = b.last;
        steps_are = b.steps_are;
        at_least = b.at_least;
        fewer = b.fewer;
        full = (let full : limit ≤ length seen = b.full in let more : length seen ≤ length later = longer-prefix seen later p in omega (arith, full, more));
      },
    )

read-later : {S : Type 0} (t : Topology) (left : S → Option (List ℕ)) (faults place : S → ℕ) (limit : ℕ) (seen later : List Posted) (start : Reader S) (source : S) (told : FeedTold) (f : FeedRead) → IsPrefix seen later →
    IsReadBy t left faults place limit seen start source told f → IsReadBy t left faults place limit later start source told f
read-later t left faults place limit seen later start source told f p is = record {
  reader = is.reader;
  kept = is.kept;
  source_is = is.source_is;
  reads = is.reads;
  fits = is.fits;
  unended = is.unended;
  end_is = is.end_is;
  kept_is = kept-later limit seen later is.kept f p is.kept_is;
  feed_no = is.feed_no;
  router = is.router;
  told_is = is.told_is;
}

reads-later : {S : Type 0} (t : Topology) (left : S → Option (List ℕ)) (faults place : S → ℕ) (limit : ℕ) (seen later : List Posted) (starts : List (Reader S)) (backs : List (S × FeedTold)) (fs : List FeedRead) → IsPrefix seen later →
    AreReadBy t left faults place limit seen starts backs fs → AreReadBy t left faults place limit later starts backs fs
reads-later t left faults place limit seen later [] [] [] p is = tt
reads-later t left faults place limit seen later [] [] (f ∷ fs) p is = is
reads-later t left faults place limit seen later [] (b ∷ bs) fs p is = is
reads-later t left faults place limit seen later (r ∷ rs) [] fs p is = is
reads-later t left faults place limit seen later (r ∷ rs) (b ∷ bs) [] p is = is
reads-later t left faults place limit seen later (r ∷ rs) (b ∷ bs) (f ∷ fs) p is =
    (read-later t left faults place limit seen later r b.0 b.1 f p is.0, reads-later t left faults place limit seen later rs bs fs p is.1)

took-front-later : (limit : ℕ) (seen later : List Posted) (kept : Option ℕ) (steps : List FrameStep) (ops : List (RouterId × Op)) → IsPrefix seen later → TookFront limit seen kept steps ops → TookFront limit later kept steps ops
took-front-later limit seen later None steps ops p took = took
took-front-later limit seen later (Some n) steps ops p took = took-later limit seen later (Some n) steps ops p took

stands-front-later : {S : Type 0} (t : Topology) (left : S → Option (List ℕ)) (faults place : S → ℕ) (limit : ℕ) (seen later : List Posted) (start : Reader S) (feed : Feed S) (steps : List FrameStep) (ops : List (RouterId × Op)) → IsPrefix seen later →
    StandsFront t left faults place limit seen start feed steps ops → StandsFront t left faults place limit later start feed steps ops
stands-front-later t left faults place limit seen later start feed steps ops p st = record { reads = st.reads; took = took-front-later limit seen later feed.kept steps ops p st.took; unended = st.unended }

run-later : {S : Type 0} (t : Topology) (left : S → Option (List ℕ)) (faults place : S → ℕ) (limit n : ℕ) (start : List Entry) (seen later : List Posted) (task : Task S) (wanted : Bool) (told : List Told) (backs : List (S × FeedTold)) →
    IsPrefix seen later → posted_by n later ≡ posted_by n seen →
    HasRunUnless t left faults place limit wanted n start seen task told backs → HasRunUnless t left faults place limit wanted n start later task told backs
run-later t left faults place limit n start seen later task true told backs p same run = record {
  strands = run.strands;
  links = run.links;
  starts = run.starts;
  backs_are = run.backs_are;
  each = λ k d i. stands-front-later t left faults place limit seen later (get_or run.strands k d).start (get_or run.strands k d).now (get_or run.strands k d).steps (get_or run.strands k d).ops p (run.each k d i);
  linked = first-links-later run.links.full limit seen later (length (link_entries t task.number task.lines)) run.links.count p run.linked;
  count = ap length (ap entries same) ∙ run.count;
  order = λ job on lines-are. subst (λ (es : List Entry). IsPrefix es (start ++ entries_of_job t job)) (sym (ap entries same)) (run.order job on lines-are);
}
run-later t left faults place limit n start seen later task false told backs p same run = record {
  feeds = run.feeds;
  links = run.links;
  read = reads-later t left faults place limit seen later task.feeds backs run.feeds p run.read;
  linked = took-links-later run.links.full limit seen later (length (link_entries t task.number task.lines)) run.links.count p run.linked;
  order = ap entries same ∙ run.order;
  tells = tells-own-later t limit seen later n start (job_of task run.feeds run.links.count) p [] 0 task.lines told run.tells;
}

-- what a job came to, it came to where more is seen and nothing more of its number
ends-later : {S : Type 0} (t : Topology) (left : S → Option (List ℕ)) (faults place : S → ℕ) (limit n : ℕ) (start : List Entry) (seen later : List Posted) (task : Task S) (wanted : Bool) (told : List Told) (backs : List (S × FeedTold)) →
    IsPrefix seen later → posted_by n later ≡ posted_by n seen →
    Ends t left faults place limit n start seen task wanted told backs → Ends t left faults place limit n start later task wanted told backs
ends-later t left faults place limit n start seen later task wanted told backs p same ends = record {
  done = run-later t left faults place limit n start seen later task wanted told backs p same ends.done;
  front = (let f : TellsOwnFront t limit seen n start task.number task.lines told = ends.front in
      record { front = f.front; back = f.back; lines_are = f.lines_are; job = f.job; number_is = f.number_is; tells = tells-own-later t limit seen later n start f.job p [] 0 f.front told f.tells });
  back = ends.back;
}

-- ---- no job, and one

pub none-end : {S : Type 0} (t : Topology) (left : S → Option (List ℕ)) (faults place : S → ℕ) (limit : ℕ) (lock : Lock) (seat : Caller) → IsSeatOf lock seat → AllEnd {S = S} t left faults place limit lock seat [] seat []
none-end {S = S} t left faults place limit lock seat is = record {
  is_seat = is;
  keeps = λ n has. has;
  seen = prefix_self seat.seen;
  runs = [];
  tasks_are = refl;
  dones_are = refl;
  each = All-nil (CameTo t left faults place limit seat.seen seat.seen);
  within = All-nil (λ (run : Run S). (seat.number ≤ run.number) × (run.number < seat.number + seat.span));
  differ = refl;
  uses = All-nil (λ (run : Run S). Contains seat.used run.number);
  others = λ n has. inr refl;
}

number-cases : (old new : Caller) (n : ℕ) (b : Bool) → (n == old.number) ≡ b → SawMore old new → Contains old.used n → Contains (old.number ∷ []) n ⊎ (posted_by n new.seen ≡ posted_by n old.seen)
number-cases old new n true is saw has = inl (let e : n ≡ old.number = (grind (arith, nat_tests, is)) in (0, omega arith, sym e))
number-cases old new n false is saw has = inr (saw.others n has (λ e. let x : (n == old.number) ≡ true = (grind (arith, nat_tests, e)) in cc))

pub one-end : {S : Type 0} (t : Topology) (left : S → Option (List ℕ)) (faults place : S → ℕ) (limit : ℕ) (lock : Lock) (old new : Caller) (task : Task S) (done : JobDone S) →
    IsSeatOf lock old → Contains old.used old.number → 0 < old.span → SawMore old new → done.number ≡ task.number →
    Ends t left faults place limit old.number (own_of old.number old.seen) new.seen task done.wanted_memory done.told done.feeds.items →
    AllEnd t left faults place limit lock old (task ∷ []) new (done ∷ [])
one-end {S = S} t left faults place limit lock old new task done is uses some saw number ends =
    let run : Run S = record { number = old.number; task = task; done = done } in
    record {
      is_seat = saw-seat lock old new saw is;
      keeps = λ n has. subst (λ (s : Caller). HasNumber s n) (sym saw.same) has;
      seen = saw.seen;
      runs = run ∷ [];
      tasks_are = refl;
      dones_are = refl;
      each = All-cons (CameTo t left faults place limit old.seen new.seen) run [] (record { number = number; ends = ends }) (All-nil (CameTo t left faults place limit old.seen new.seen));
      within = All-cons (λ (run : Run S). (old.number ≤ run.number) × (run.number < old.number + old.span)) run [] (omega arith, omega (arith, some))
          (All-nil (λ (run : Run S). (old.number ≤ run.number) × (run.number < old.number + old.span)));
      differ = refl;
      uses = All-cons (λ (run : Run S). Contains new.used run.number) run [] (subst (λ (s : Caller). Contains s.used old.number) (sym saw.same) uses) (All-nil (λ (run : Run S). Contains new.used run.number));
      others = λ n has. number-cases old new n (n == old.number) refl saw (subst (λ (s : Caller). Contains s.used n) saw.same has);
    }

-- ---- one job more

-- a seat that kept all numbers of its span but the last
abbrev pub lower_seat : Caller → Caller
lower_seat seat = record seat { span = seat.span - 1 }

has-last : (seat : Caller) (n : ℕ) → (0 < seat.span) → (seat.number ≤ n) × (n < seat.number + seat.span) → ((seat.number ≤ n) × (n < seat.number + (seat.span - 1))) ⊎ (n ≡ seat.number + (seat.span - 1))
has-last seat n some h = last-by (nat_lt n (seat.number + (seat.span - 1))) refl
  where
    last-by : (b : Bool) → nat_lt n (seat.number + (seat.span - 1)) ≡ b → ((seat.number ≤ n) × (n < seat.number + (seat.span - 1))) ⊎ (n ≡ seat.number + (seat.span - 1))
    last-by true e = inl (h.0, (grind (arith, nat_tests, e)))
    last-by false e = inr (let less : n < seat.number + seat.span = h.1 in let more : seat.number + (seat.span - 1) ≤ n = (grind (arith, nat_tests, e)) in omega (arith, less, more, some))

has-lower : (seat : Caller) (n : ℕ) → 0 < seat.span → HasNumber seat n → HasNumber (lower_seat seat) n ⊎ (n ≡ seat.number + (seat.span - 1))
has-lower seat n some (inl used) = inl (inl used)
has-lower seat n some (inr span) = ⊎_elim (λ (h : (seat.number ≤ n) × (n < seat.number + (seat.span - 1))). inl (inr h)) (λ (e : n ≡ seat.number + (seat.span - 1)). inr e) (has-last seat n some span)

-- a seat that took another in
pub record TookIn (mid other new : Caller) : Type 0 where
  pub both : new ≡ record mid { used = mid.used ++ numbers other; seen = longer mid.seen other.seen }
  pub mine : IsPrefix mid.seen new.seen
  pub theirs : IsPrefix other.seen new.seen
  pub own : KeepsOwn mid new
  pub brought : HasSameOf (numbers other) other.seen new.seen

number-joins : (mid other new : Caller) (n : ℕ) → TookIn mid other new → HasNumber mid n → HasNumber new n
number-joins mid other new n took (inl used) = inl (subst (λ (s : Caller). Contains s.used n) (sym took.both) (Contains-append_left mid.used (numbers other) n used))
number-joins mid other new n took (inr span) = inr (subst (λ (s : Caller). (s.number ≤ n) × (n < s.number + s.span)) (sym took.both) span)

number-comes : (mid other new : Caller) (n : ℕ) → TookIn mid other new → Contains (numbers other) n → Contains new.used n
number-comes mid other new n took has = subst (λ (s : Caller). Contains s.used n) (sym took.both) (Contains-append_right mid.used (numbers other) n has)

-- the one number of a seat that has seen more
numbers-one : (seat other : Caller) → SawMore (upper_seat 1 seat) other → numbers other ≡ (seat.number + (seat.span - 1)) ∷ (seat.number + (seat.span - 1)) ∷ []
numbers-one seat other saw = ap numbers saw.same

first-of : (m n : ℕ) → Contains (m ∷ m ∷ []) n → n ≡ m
first-of m n c = at c.0 c.1 c.2
  where
    at : (k : ℕ) → k < 2 → get_or (m ∷ m ∷ []) k n ≡ n → n ≡ m
    at zero less e = sym e
    at (suc zero) less e = sym e
    at (suc (suc k)) less e = absurd (omega (arith, less))

came-later : {S : Type 0} (t : Topology) (left : S → Option (List ℕ)) (faults place : S → ℕ) (limit : ℕ) (before seen later : List Posted) (run : Run S) → IsPrefix seen later →
    posted_by run.number later ≡ posted_by run.number seen → CameTo t left faults place limit before seen run → CameTo t left faults place limit before later run
came-later t left faults place limit before seen later run p same came = record {
  number = came.number;
  ends = ends-later t left faults place limit run.number (own_of run.number before) seen later run.task run.done.wanted_memory run.done.told run.done.feeds.items p same came.ends;
}

pub push-end : {S : Type 0} (t : Topology) (left : S → Option (List ℕ)) (faults place : S → ℕ) (limit : ℕ) (lock : Lock) (old mid other new : Caller) (tasks : List (Task S)) (task : Task S) (dones : List (JobDone S)) (done : JobDone S) →
    0 < old.span → AllEnd t left faults place limit lock (lower_seat old) tasks mid dones → SawMore (upper_seat 1 old) other → done.number ≡ task.number →
    Ends t left faults place limit (old.number + (old.span - 1)) (own_of (old.number + (old.span - 1)) old.seen) other.seen task done.wanted_memory done.told done.feeds.items →
    TookIn mid other new → AllEnd t left faults place limit lock old (tasks ++ task ∷ []) new (dones ++ done ∷ [])
push-end {S = S} t left faults place limit lock old mid other new tasks task dones done some all saw number ends took =
    let n : ℕ = old.number + (old.span - 1) in
    let run : Run S = record { number = n; task = task; done = done } in
    let own : Contains (numbers other) n = subst (λ (ns : List ℕ). Contains ns n) (sym (numbers-one old other saw)) (0, omega arith, refl) in
    let here : Contains new.used n = number-comes mid other new n took own in
    let P : Run S → Type 0 = λ run. (old.number ≤ run.number) × (run.number < old.number + old.span) in
    let differs : list_any (λ m. same_no m n) (numbers_of_runs all.runs) ≡ false =
    list_any_none (λ m. same_no m n) (numbers_of_runs all.runs)
    (All-map (λ m. same_no m n ≡ false) (λ (run : Run S). run.number) all.runs
    (λ k d less. let below : (get_or all.runs k d).number < n = (all.within k d less).1 in (grind (arith, nat_tests, below)))) in
    record {
      is_seat = subst (λ (s : Caller). IsSeatOf lock s) (sym took.both) all.is_seat;
      keeps = λ m has. ⊎_elim (λ (h : HasNumber (lower_seat old) m). number-joins mid other new m took (all.keeps m h))
          (λ (e : m ≡ n). inl (subst (λ (k : ℕ). Contains new.used k) (sym e) here)) (has-lower old m some has);
      seen = prefix_trans old.seen mid.seen new.seen all.seen took.mine;
      runs = all.runs ++ run ∷ [];
      tasks_are = ap (λ ts. ts ++ task ∷ []) all.tasks_are ∙ sym (map-append (λ (run : Run S). run.task) all.runs (run ∷ []));
      dones_are = ap (λ ds. ds ++ done ∷ []) all.dones_are ∙ sym (map-append (λ (run : Run S). run.done) all.runs (run ∷ []));
      each = All-append (CameTo t left faults place limit old.seen new.seen) all.runs (run ∷ [])
          (λ k d less. came-later t left faults place limit old.seen mid.seen new.seen (get_or all.runs k d) took.mine (took.own (get_or all.runs k d).number (all.uses k d less)) (all.each k d less))
          (All-cons (CameTo t left faults place limit old.seen new.seen) run []
          (came-later t left faults place limit old.seen other.seen new.seen run took.theirs (took.brought n own) (record { number = number; ends = ends }))
          (All-nil (CameTo t left faults place limit old.seen new.seen)));
      within = All-append P all.runs (run ∷ [])
          (λ k d less. ((all.within k d less).0, (let below : (get_or all.runs k d).number < n = (all.within k d less).1 in omega (arith, below))))
          (All-cons P run [] (omega arith, omega (arith, some)) (All-nil P));
      differ = ap (all_differ same_no) (map-append (λ (run : Run S). run.number) all.runs (run ∷ [])) ∙ all_differ-push same_no (numbers_of_runs all.runs) n all.differ differs;
      uses = All-append (λ (run : Run S). Contains new.used run.number) all.runs (run ∷ [])
          (λ k d less. subst (λ (s : Caller). Contains s.used (get_or all.runs k d).number) (sym took.both) (Contains-append_left mid.used (numbers other) (get_or all.runs k d).number (all.uses k d less)))
          (All-cons (λ (run : Run S). Contains new.used run.number) run [] here (All-nil (λ (run : Run S). Contains new.used run.number)));
      others = λ m has.
          let whole : Contains (numbers_of_runs all.runs ++ n ∷ []) m → Contains (numbers_of_runs (all.runs ++ run ∷ [])) m =
          subst (λ (ns : List ℕ). Contains ns m) (sym (map-append (λ (run : Run S). run.number) all.runs (run ∷ []))) in
          ⊎_elim
          (λ (kept : Contains mid.used m). ⊎_elim
          (λ (run-has : Contains (numbers_of_runs all.runs) m). inl (whole (Contains-append_left (numbers_of_runs all.runs) (n ∷ []) m run-has)))
          (λ (same : posted_by m mid.seen ≡ posted_by m old.seen). inr (took.own m kept ∙ same))
          (all.others m kept))
          (λ (came : Contains (numbers other) m).
          inl (subst (λ (k : ℕ). Contains (numbers_of_runs (all.runs ++ run ∷ [])) k) (sym (first-of n m (subst (λ (ns : List ℕ). Contains ns m) (numbers-one old other saw) came)))
          (subst (λ (ns : List ℕ). Contains ns n) (sym (map-append (λ (run : Run S). run.number) all.runs (run ∷ []))) (Contains-push (numbers_of_runs all.runs) n))))
          (Contains-append_cases mid.used (numbers other) m (subst (λ (s : Caller). Contains s.used m) took.both has));
    }

-- ---- the same of lists that are equal

pub none-ends : {S : Type 0} (lock : Lock) (left : S → Option (List ℕ)) (faults place : S → ℕ) (seat : Caller) (tasks : List (Task S)) (dones : List (JobDone S)) →
    tasks ≡ [] → dones ≡ [] → IsSeatOf lock seat → AllRun lock left faults place seat tasks seat dones
none-ends {S = S} lock left faults place seat tasks dones no-tasks no-dones is =
    subst (λ (ts : List (Task S)). AllRun lock left faults place seat ts seat dones) (sym no-tasks)
    (subst (λ (ds : List (JobDone S)). AllRun lock left faults place seat [] seat ds) (sym no-dones) (none-end lock.setup.basis.topology left faults place lock.setup.basis.limit lock seat is))

same-lists : {S : Type 0} (lock : Lock) (left : S → Option (List ℕ)) (faults place : S → ℕ) (old new : Caller) (tasks tasks' : List (Task S)) (dones dones' : List (JobDone S)) →
    tasks' ≡ tasks → dones' ≡ dones → AllRun lock left faults place old tasks new dones → AllRun lock left faults place old tasks' new dones'
same-lists {S = S} lock left faults place old new tasks tasks' dones dones' ts ds all =
    subst (λ (ts : List (Task S)). AllRun lock left faults place old ts new dones') (sym ts)
    (subst (λ (ds : List (JobDone S)). AllRun lock left faults place old tasks new ds) (sym ds) all)

pub one-ends : {S : Type 0} (lock : Lock) (left : S → Option (List ℕ)) (faults place : S → ℕ) (old new : Caller) (tasks rest : List (Task S)) (task : Task S) (dones room : List (JobDone S)) (done : JobDone S) →
    tasks ≡ rest ++ task ∷ [] → rest ≡ [] → dones ≡ room ++ done ∷ [] → room ≡ [] → AreReady lock faults old tasks → Contains old.used old.number → RanJob lock left faults place old new task done →
    AllRun lock left faults place old tasks new dones
one-ends lock left faults place old new tasks rest task dones room done parts no-rest adds empty ready uses ran =
    let len : length tasks ≡ 1 = ap length (parts ∙ ap (λ ts. ts ++ task ∷ []) no-rest) in
    let few = ready.span in
    same-lists lock left faults place old new (task ∷ []) tasks (done ∷ []) dones
    (parts ∙ ap (λ ts. ts ++ task ∷ []) no-rest) (adds ∙ ap (λ ds. ds ++ done ∷ []) empty)
    (one-end lock.setup.basis.topology left faults place lock.setup.basis.limit lock old new task done ready.is_seat uses (omega (arith, len, few)) ran.saw ran.number ran.ends)

pub push-ends : {S : Type 0} (lock : Lock) (left : S → Option (List ℕ)) (faults place : S → ℕ) (old low upper mid other new : Caller) (tasks front : List (Task S)) (task : Task S) (dones before : List (JobDone S)) (done : JobDone S) →
    tasks ≡ front ++ task ∷ [] → dones ≡ before ++ done ∷ [] → length tasks ≤ old.span → low ≡ lower_seat old → upper ≡ upper_seat 1 old →
    AllRun lock left faults place low front mid before → RanJob lock left faults place upper other task done → TookIn mid other new →
    AllRun lock left faults place old tasks new dones
push-ends {S = S} lock left faults place old low upper mid other new tasks front task dones before done parts adds few is-low is-upper all ran took =
    let len : length tasks ≡ length front + 1 = ap length parts ∙ length-append front (task ∷ []) in
    let ran' : RanJob lock left faults place (upper_seat 1 old) other task done = subst (λ (s : Caller). RanJob lock left faults place s other task done) is-upper ran in
    same-lists lock left faults place old new (front ++ task ∷ []) tasks (before ++ done ∷ []) dones parts adds
    (push-end lock.setup.basis.topology left faults place lock.setup.basis.limit lock old mid other new front task before done (omega (arith, len, few))
    (subst (λ (s : Caller). AllRun lock left faults place s front mid before) is-low all) ran'.saw ran'.number ran'.ends took)

-- ---- the last of a list

pub record Popped {X : Type 0} (P : X → Type 0) (xs front : List X) (last : X) : Type 0 where
  pub shorter : length front < length xs
  pub rest : All P front
  pub last_is : P last

-- what holds of each holds of the last and of those before it
pub popped : {X : Type 0} (P : X → Type 0) (xs front : List X) (last : X) → xs ≡ front ++ last ∷ [] → All P xs → Popped P xs front last
popped {X = X} P xs front last parts a =
    let both : All P (front ++ last ∷ []) = subst (λ (ys : List X). All P ys) parts a in
    let len : length xs ≡ length front + 1 = ap length parts ∙ length-append front (last ∷ []) in
    record {
      shorter = omega (arith, len);
      rest = all-front front both;
      last_is = at-last front both;
    }
  where
    all-front : (ys : List X) → All P (ys ++ last ∷ []) → All P ys
    all-front [] b = All-nil P
    all-front (y ∷ ys) b = All-cons P y ys (All-head P y (ys ++ last ∷ []) b) (all-front ys (All-tail P y (ys ++ last ∷ []) b))

    at-last : (ys : List X) → All P (ys ++ last ∷ []) → P last
    at-last [] b = All-head P last [] b
    at-last (y ∷ ys) b = at-last ys (All-tail P y (ys ++ last ∷ []) b)

-- ---- jobs that may run over a lock

pub jobs-ready : {S : Type 0} (site lock : Lock) (t : Topology) (faults : S → ℕ) (seat : Caller) (tasks : List (Task S)) → site ≡ lock → t ≡ lock.setup.basis.topology → IsSeatOf lock seat → length tasks ≤ seat.span →
    All (λ (task : Task S). All (IsFresh t faults) task.feeds) tasks → All (λ (task : Task S). AreApart task.feeds) tasks → AreReady site faults seat tasks
jobs-ready {S = S} site lock t faults seat tasks same is at span fresh apart =
    let ready : All (IsReady lock faults) tasks = λ k d i. record { fresh = subst (λ (u : Topology). All (IsFresh u faults) (get_or tasks k d).feeds) is (fresh k d i); apart = apart k d i } in
    subst (λ (l : Lock). AreReady l faults seat tasks) (sym same) (record { is_seat = at; span = span; ready = ready })

pub batch-ready : {S : Type 0} (lock : Lock) (faults : S → ℕ) (seat : Caller) (batch : Batch S) (tasks : List (Task S)) → batch.jobs.items ≡ tasks → AreReady lock faults seat tasks → HasRoom (length batch.jobs.items) batch.room →
    IsReadyBatch lock faults seat batch
batch-ready {S = S} lock faults seat batch tasks are ready room = record { jobs = subst (λ (ts : List (Task S)). AreReady lock faults seat ts) (sym are) ready; room = room }

-- the jobs before the last may run by the seat that is left, and the last by the one that was given
pub record RestReady {S : Type 0} (lock : Lock) (faults : S → ℕ) (low upper : Caller) (others : Batch S) (last : Task S) : Type 0 where
  pub rest : IsReadyBatch lock faults low others
  pub last_may : MayRun lock faults upper last

pub rest-ready : {S : Type 0} (site lock : Lock) (faults : S → ℕ) (old low upper : Caller) (batch others : Batch S) (last : Task S) → lock ≡ site → IsReadyBatch site faults old batch → batch.jobs.items ≡ others.jobs.items ++ last ∷ [] → others.room ≡ batch.room →
    low ≡ lower_seat old → upper ≡ upper_seat 1 old → RestReady lock faults low upper others last
rest-ready {S = S} site lock faults old low upper batch others last same ready parts room is-low is-upper =
    let f = popped (IsReady site faults) batch.jobs.items others.jobs.items last parts ready.jobs.ready in
    let less : length others.jobs.items < length batch.jobs.items = f.shorter in
    let is : low.span ≡ old.span - 1 = ap (λ (s : Caller). s.span) is-low in
    let enough : length batch.jobs.items ≤ old.span = ready.jobs.span in
    let fits : length batch.jobs.items ≤ vec_capacity batch.room = ready.room.1 in
    let kept : vec_capacity others.room ≡ vec_capacity batch.room = ap (λ (v : Vec (JobDone S)). vec_capacity v) room in
    subst (λ (l : Lock). RestReady l faults low upper others last) (sym same) (record {
      rest = record {
        jobs = record { is_seat = subst (λ (s : Caller). IsSeatOf site s) (sym is-low) ready.jobs.is_seat; span = omega (arith, is, enough, less); ready = f.rest };
        room = (ap (λ (v : Vec (JobDone S)). v.items) room ∙ ready.room.0, omega (arith, less, fits, kept));
      };
      last_may = (subst (λ (s : Caller). IsSeatOf site s) (sym is-upper) ready.jobs.is_seat, f.last_is);
    })
