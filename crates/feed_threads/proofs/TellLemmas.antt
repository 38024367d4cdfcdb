-- How what a job tells goes on by a line.
use Rattle.std.proofs.Common.{◌≡◌, ℕ, ◌+◌, ◌-◌, ◌≤◌, ◌==◌, Bool, true, List, [], ◌∷◌, ◌++◌, length, fold, take, Option, refl, ap, sym, ◌∙◌, arith, subst, append_assoc, eq-eqb}
use Rattle.std.proofs.lemmas.List.{append-nil, append_cancel_right, length-append}
use Rattle.std.proofs.lemmas.List.Elements.{filter-append}
use Rattle.std.proofs.Math.Seq.{take-append_seam}
use mathlib.Core.List.{IsPrefix}
use Rattle.dn_formats.specs.Lawful.{Job, given_along, link_entries, pin_after, entry_after, position_after}
use Rattle.dn_model.specs.Answer.{IsAnswer}
use Rattle.dn_model.specs.Entry.{entries}
use Rattle.dn_model.specs.Query.{Question}
use Rattle.dn_model.specs.declared.entry.Entry.{Entry}
use Rattle.dn_model.specs.declared.entry.Entry.TheVariants as entry
use Rattle.dn_model.specs.declared.entry.Posted.{Posted}
use Rattle.base.specs.declared.ids.RouterId.{RouterId}
use Rattle.dn_model.specs.declared.topology.Topology.{Topology}
use Rattle.dn_formats.specs.declared.script.Line.{Line}
use Rattle.dn_formats.specs.declared.script.Line.TheVariants as line
use Rattle.dn_formats.specs.declared.told.Outcome.{Outcome}
use Rattle.dn_formats.specs.declared.told.Outcome.TheVariants.{Answered, Unknown}
use Rattle.dn_formats.specs.declared.told.LinkOutcome.{LinkOutcome}
use Rattle.dn_formats.specs.declared.told.LinkOutcome.TheVariants.{At, Full, UnknownLink}
use Rattle.dn_formats.specs.declared.told.Told.{Told}
use Rattle.dn_formats.specs.declared.told.Told.TheVariants.{Asked, Linked}
use Rattle.version_lock.specs.Callers.{Caller, Lock, posted_of}
use Rattle.version_lock.specs.History.{posted_by}
use Rattle.feed_threads.specs.Seats.{own_of}
use Rattle.feed_threads.specs.Tells.{IsLinkOutcomeNow, IsOutcomeNow, IsOwnLinkOutcome, IsOwnOutcome, TellsOwn}

module _ (t : Topology) (limit : ℕ) (h : List Posted) (k : ℕ) (start : List Entry) (job : Job) where
  -- lines are told, and then more lines
  pub tells-append : (before : List Line) (last : ℕ) (lines : List Line) (tolds : List Told) (more : List Line) (tolds' : List Told) →
      TellsOwn t limit h k start job before last lines tolds → TellsOwn t limit h k start job (before ++ lines) (fold position_after last tolds) more tolds' →
      TellsOwn t limit h k start job before last (lines ++ more) (tolds ++ tolds')
  tells-append before last [] [] more tolds' told rest = subst (λ (b : List Line). TellsOwn t limit h k start job b last more tolds') (append-nil before) rest
  tells-append before last [] (x ∷ xs) more tolds' told rest = absurd told
  tells-append before last (line.Take l r c ∷ lines) tolds more tolds' told rest =
      tells-append (before ++ line.Take l r c ∷ []) last lines tolds more tolds' told
      (subst (λ (b : List Line). TellsOwn t limit h k start job b (fold position_after last tolds) more tolds') (sym (append_assoc before (line.Take l r c ∷ []) lines)) rest)
  tells-append before last (line.Ask l q ∷ lines) [] more tolds' told rest = absurd told
  tells-append before last (line.Ask l q ∷ lines) (Linked m n d o ∷ xs) more tolds' told rest = absurd told
  tells-append before last (line.Ask l q ∷ lines) (Asked m a o ∷ xs) more tolds' told rest = (
    told.0,
    told.1,
    told.2,
    tells-append (before ++ line.Ask l q ∷ []) (pin_after last o) lines xs more tolds' told.3
        (subst (λ (b : List Line). TellsOwn t limit h k start job b (fold position_after (pin_after last o) xs) more tolds') (sym (append_assoc before (line.Ask l q ∷ []) lines)) rest),
  )
  tells-append before last (line.Link l n d ∷ lines) [] more tolds' told rest = absurd told
  tells-append before last (line.Link l n d ∷ lines) (Asked m a o ∷ xs) more tolds' told rest = absurd told
  tells-append before last (line.Link l n d ∷ lines) (Linked m named is o ∷ xs) more tolds' told rest = (
    told.0,
    told.1,
    told.2,
    told.3,
    tells-append (before ++ line.Link l n d ∷ []) (entry_after last o) lines xs more tolds' told.4
        (subst (λ (b : List Line). TellsOwn t limit h k start job b (fold position_after (entry_after last o) xs) more tolds') (sym (append_assoc before (line.Link l n d ∷ []) lines)) rest),
  )

  pub tells-take : (before : List Line) (last : ℕ) (lines : List Line) (tolds : List Told) (l : ℕ) (r : RouterId) (count : Option ℕ) →
      TellsOwn t limit h k start job before last lines tolds → TellsOwn t limit h k start job before last (lines ++ line.Take l r count ∷ []) tolds
  tells-take before last lines tolds l r count told =
      subst (λ (ts : List Told). TellsOwn t limit h k start job before last (lines ++ line.Take l r count ∷ []) ts) (append-nil tolds)
      (tells-append before last lines tolds (line.Take l r count ∷ []) [] told tt)

  pub tells-ask : (before : List Line) (last : ℕ) (lines : List Line) (tolds : List Told) (l : ℕ) (q : Question) (o : Outcome) →
      IsOwnOutcome t limit h k start job (before ++ lines) (fold position_after last tolds) q o →
      TellsOwn t limit h k start job before last lines tolds → TellsOwn t limit h k start job before last (lines ++ line.Ask l q ∷ []) (tolds ++ Asked l q o ∷ [])
  tells-ask before last lines tolds l q o good told = tells-append before last lines tolds (line.Ask l q ∷ []) (Asked l q o ∷ []) told (refl, refl, good, tt)

  pub tells-link : (before : List Line) (last : ℕ) (lines : List Line) (tolds : List Told) (l : ℕ) (name : List ℕ) (down : Bool) (o : LinkOutcome) →
      IsOwnLinkOutcome t limit h k start job (before ++ lines) (fold position_after last tolds) name down o →
      TellsOwn t limit h k start job before last lines tolds → TellsOwn t limit h k start job before last (lines ++ line.Link l name down ∷ []) (tolds ++ Linked l name down o ∷ [])
  tells-link before last lines tolds l name down o good told = tells-append before last lines tolds (line.Link l name down ∷ []) (Linked l name down o ∷ []) told (refl, refl, refl, good, tt)

  -- takes at the end tell nothing more
  pub tells-untake : (before : List Line) (last : ℕ) (lines : List Line) (tolds : List Told) (l : ℕ) (r : RouterId) (count : Option ℕ) →
      TellsOwn t limit h k start job before last (lines ++ line.Take l r count ∷ []) tolds → TellsOwn t limit h k start job before last lines tolds
  tells-untake before last [] [] l r count told = tt
  tells-untake before last [] (x ∷ xs) l r count told = told
  tells-untake before last (line.Take m s c ∷ lines) tolds l r count told = tells-untake (before ++ line.Take m s c ∷ []) last lines tolds l r count told
  tells-untake before last (line.Ask m q ∷ lines) [] l r count told = told
  tells-untake before last (line.Ask m q ∷ lines) (Linked n name d o ∷ xs) l r count told = told
  tells-untake before last (line.Ask m q ∷ lines) (Asked n a o ∷ xs) l r count told =
      (told.0, told.1, told.2, tells-untake (before ++ line.Ask m q ∷ []) (pin_after last o) lines xs l r count told.3)
  tells-untake before last (line.Link m n d ∷ lines) [] l r count told = told
  tells-untake before last (line.Link m n d ∷ lines) (Asked j a o ∷ xs) l r count told = told
  tells-untake before last (line.Link m n d ∷ lines) (Linked j named is o ∷ xs) l r count told =
      (told.0, told.1, told.2, told.3, tells-untake (before ++ line.Link m n d ∷ []) (entry_after last o) lines xs l r count told.4)

-- ---- a query

-- the outcome of a query that was asked now is that over every longer history
pub outcome-own : (t : Topology) (limit : ℕ) (seen more : List Posted) (k : ℕ) (start : List Entry) (job : Job) (before : List Line) (last : ℕ) (q : Question) (o : Outcome) →
    IsOutcomeNow t seen q o → last ≤ length seen → own_of k seen ≡ start ++ given_along t job [] before →
    IsOwnOutcome t limit (seen ++ more) k start job before last q o
outcome-own t limit seen more k start job before last q (Unknown u) is below order = is
outcome-own t limit seen more k start job before last q (Answered n answer) is below order =
    let front : take n (seen ++ more) ≡ seen = ap (λ m. take m (seen ++ more)) is.1 ∙ take-append_seam seen more in (
      is.0,
      omega (arith, is.1, below),
      omega (arith, is.1, length-append seen more),
      ap (own_of k) front ∙ order,
      subst (λ (h : List Posted). IsAnswer t (entries h) q answer) (sym front) is.2,
    )

-- the last position stays within what is seen
pub pin-now : (t : Topology) (seen : List Posted) (last : ℕ) (q : Question) (o : Outcome) → IsOutcomeNow t seen q o → last ≤ length seen → pin_after last o ≤ length seen
pin-now t seen last q (Unknown u) is below = below
pin-now t seen last q (Answered n answer) is below = omega (arith, is.1)

-- ---- a link line

-- what a seat saw before its last entry has as many of its own as it had before
own-before : (k : ℕ) (old mid new : List Posted) (e : Entry) → new ≡ mid ++ record { seat = k; entry = e } ∷ [] →
    posted_by k new ≡ posted_by k old ++ record { seat = k; entry = e } ∷ [] → posted_by k mid ≡ posted_by k old
own-before k old mid new e ends own =
    let p : Posted = record { seat = k; entry = e } in
    let same : (k == k) ≡ true = eq-eqb k k refl in
    let here : posted_by k (p ∷ []) ≡ p ∷ [] = rw same refl in
    let whole : posted_by k new ≡ posted_by k mid ++ p ∷ [] =
    ap (posted_by k) ends ∙ filter-append (λ (x : Posted). x.seat == k) mid (p ∷ []) ∙ ap (λ ps. posted_by k mid ++ ps) here in
    append_cancel_right (posted_by k mid) (posted_by k old) (p ∷ []) (sym whole ∙ own)

-- what became of a link line now is so over every longer history
pub link-own : (lock : Lock) (old new : Caller) (more : List Posted) (start : List Entry) (job : Job) (number : ℕ) (before : List Line) (last : ℕ) (name : List ℕ) (down : Bool) (o : LinkOutcome) →
    job.number ≡ number → IsPrefix old.seen new.seen → IsLinkOutcomeNow lock number name down old new o → last ≤ length old.seen →
    own_of old.number old.seen ≡ start ++ given_along lock.setup.basis.topology job [] before →
    (o ≡ Full → job.kept_links ≤ length (link_entries lock.setup.basis.topology job.number before)) →
    IsOwnLinkOutcome lock.setup.basis.topology lock.setup.basis.limit (new.seen ++ more) old.number start job before last name down o
link-own lock old new more start job number before last name down UnknownLink same begins is below order few = is.0
link-own lock old new more start job number before last name down Full same begins is below order few =
    (is.0, few refl, omega (arith, is.2, length-append new.seen more))
link-own lock old new more start job number before last name down (At p) same begins is below order few =
    let a = is.applied in
    let e : Entry = entry.Link number is.link down in
    let x : Posted = posted_of old e in
    let mid : List Posted = a.before in
    let len : length new.seen ≡ length mid + 1 = ap length a.ends ∙ length-append mid (x ∷ []) in
    let longer : length mid ≡ length old.seen + length a.begins.0 = ap length (sym a.begins.1) ∙ length-append old.seen a.begins.0 in
    let whole : new.seen ++ more ≡ mid ++ x ∷ more = ap (λ (h : List Posted). h ++ more) a.ends ∙ append_assoc mid (x ∷ []) more in
    let here : p ≡ length new.seen = a.number in
    let upto : take p (new.seen ++ more) ≡ new.seen = ap (λ (n : ℕ). take n (new.seen ++ more)) here ∙ take-append_seam new.seen more in
    let behind : p - 1 ≡ length mid = omega (arith, here, len) in
    let front : take (p - 1) (new.seen ++ more) ≡ mid = ap (λ (n : ℕ). take n (new.seen ++ more)) behind ∙ ap (take (length mid)) whole ∙ take-append_seam mid (x ∷ more) in
    record {
      link = is.link;
      named = is.named;
      later = omega (arith, below, longer, len, here);
      entry = upto ∙ a.ends ∙ ap (λ (h : List Posted). h ++ x ∷ []) (sym front)
          ∙ ap (λ (n : ℕ). take (p - 1) (new.seen ++ more) ++ record { seat = old.number; entry = entry.Link n is.link down } ∷ []) (sym same);
      own = ap (own_of old.number) front ∙ ap entries (own-before old.number old.seen mid new.seen e a.ends a.own) ∙ order;
    }

pub entry-now : (lock : Lock) (old new : Caller) (number last : ℕ) (name : List ℕ) (down : Bool) (o : LinkOutcome) → IsPrefix old.seen new.seen → IsLinkOutcomeNow lock number name down old new o → last ≤ length old.seen →
    entry_after last o ≤ length new.seen
entry-now lock old new number last name down UnknownLink begins is below = (let longer : length new.seen ≡ length old.seen + length begins.0 = ap length (sym begins.1) ∙ length-append old.seen begins.0 in omega (arith, longer, below))
entry-now lock old new number last name down Full begins is below = (let longer : length new.seen ≡ length old.seen + length begins.0 = ap length (sym begins.1) ∙ length-append old.seen begins.0 in omega (arith, longer, below))
entry-now lock old new number last name down (At p) begins is below = (let here : p ≡ length new.seen = is.applied.number in omega (arith, here))
