-- What a job tells of its queries and its link lines, by its own entries alone.
use Rattle.std.specs.Prelude.{ℕ, ◌≡◌, ◌≤◌, ◌<◌, ◌-◌, Bool, List, [], ◌∷◌, ◌++◌, length, take, None, Some, IsSome}
use Rattle.dn_formats.specs.Lawful.{Job, given_along, link_entries, pin_after, entry_after}
use Rattle.dn_model.specs.Answer.{IsAnswer}
use Rattle.dn_model.specs.Entry.{entries}
use Rattle.dn_model.specs.Lookup.{link_of}
use Rattle.dn_model.specs.Query.{Question, unknown_of}
use Rattle.base.specs.declared.ids.LinkId.{LinkId}
use Rattle.dn_model.specs.declared.entry.Entry.{Entry}
use Rattle.dn_model.specs.declared.entry.Entry.TheVariants as entry
use Rattle.dn_model.specs.declared.entry.Posted.{Posted}
use Rattle.dn_model.specs.declared.topology.Topology.{Topology}
use Rattle.dn_formats.specs.declared.script.Line.{Line}
use Rattle.dn_formats.specs.declared.script.Line.TheVariants.{Take, Ask, Link}
use Rattle.dn_formats.specs.declared.told.Outcome.{Outcome}
use Rattle.dn_formats.specs.declared.told.Outcome.TheVariants.{Answered, Unknown}
use Rattle.dn_formats.specs.declared.told.LinkOutcome.{LinkOutcome}
use Rattle.dn_formats.specs.declared.told.LinkOutcome.TheVariants.{At, Full, UnknownLink}
use Rattle.dn_formats.specs.declared.told.Told.{Told}
use Rattle.dn_formats.specs.declared.told.Told.TheVariants.{Asked, Linked}
use Rattle.version_lock.specs.Callers.{Applied, Caller, Lock}
use Rattle.feed_threads.specs.Seats.{own_of}

-- ---- what a call adds

-- the outcome of a query that was asked where this was seen of the history: all of it is the pin
abbrev pub IsOutcomeNow : Topology → List Posted → Question → Outcome → Type 0
IsOutcomeNow t seen q (Unknown u) = unknown_of t q ≡ Some u
IsOutcomeNow t seen q (Answered n answer) = (unknown_of t q ≡ None) × (n ≡ length seen)
    × IsAnswer t (entries seen) q answer

-- one more is told, of this line and this query, with such an outcome
pub record Adds (old new : List Told) (l : ℕ) (q : Question) (IsGood : Outcome → Type 0) : Type 0 where
  pub outcome : Outcome
  pub added : new ≡ old ++ Asked l q outcome ∷ []
  pub good : IsGood outcome

-- a link line's entry was applied under a seat's number, for the job of this number
pub record IsAppliedLink (lock : Lock) (job_number : ℕ) (name : List ℕ) (down : Bool) (old new : Caller)
    (p : ℕ) : Type 0 where
  pub link : LinkId
  pub named : link_of lock.setup.basis.topology name ≡ Some link
  pub applied : Applied (entry.Link job_number link down) lock.setup.basis.limit old new p

-- What became of a link line of the job of this number, whose seat has then seen more: the network has no such link; or
-- its entry is the last that the seat sees, and that is its position; or the history is full. Where it has no entry the
-- seat's own entries are those that it had.
abbrev pub IsLinkOutcomeNow : Lock → ℕ → List ℕ → Bool → Caller → Caller → LinkOutcome → Type 0
IsLinkOutcomeNow lock job_number name down old new UnknownLink =
    (link_of lock.setup.basis.topology name ≡ None) × (own_of old.number new.seen ≡ own_of old.number old.seen)
IsLinkOutcomeNow lock job_number name down old new (At p) = IsAppliedLink lock job_number name down old new p
IsLinkOutcomeNow lock job_number name down old new Full =
    IsSome (link_of lock.setup.basis.topology name) × (own_of old.number new.seen ≡ own_of old.number old.seen)
    × (lock.setup.basis.limit ≤ length new.seen)

-- ---- what is told of a job

module _ (t : Topology) (limit : ℕ) (history : List Posted) (number : ℕ) (start : List Entry) (job : Job) where
  -- What is told of a query after some lines, where the last position was `last`: its first unknown name; or the answer
  -- over the first entries of the history, up to its pin, among which those of the seat of this number are those that
  -- it had before and what the job's lines gave since.
  abbrev pub IsOwnOutcome : List Line → ℕ → Question → Outcome → Type 0
  IsOwnOutcome before last q (Unknown u) = unknown_of t q ≡ Some u
  IsOwnOutcome before last q (Answered n answer) =
      (unknown_of t q ≡ None) × (last ≤ n) × (n ≤ length history)
      × (own_of number (take n history) ≡ start ++ given_along t job [] before)
      × IsAnswer t (entries (take n history)) q answer

  -- A link line's entry stands at a position past the last one, under the seat's number, and the seat's own before it
  -- are those that it had and what the job's lines gave since.
  pub record IsOwnLinkAt (before : List Line) (last : ℕ) (name : List ℕ) (down : Bool) (p : ℕ) : Type 0 where
    pub link : LinkId
    pub named : link_of t name ≡ Some link
    pub later : last < p
    pub entry : take p history ≡
        take (p - 1) history ++ record { seat = number; entry = entry.Link job.number link down } ∷ []
    pub own : own_of number (take (p - 1) history) ≡ start ++ given_along t job [] before

  -- What is told of a link line after some lines: that there is no such link, or the position of its entry; or that the
  -- history was full and took no link entry of the job from here on.
  abbrev pub IsOwnLinkOutcome : List Line → ℕ → List ℕ → Bool → LinkOutcome → Type 0
  IsOwnLinkOutcome before last name down UnknownLink = link_of t name ≡ None
  IsOwnLinkOutcome before last name down (At p) = IsOwnLinkAt before last name down p
  IsOwnLinkOutcome before last name down Full =
      IsSome (link_of t name) × (job.kept_links ≤ length (link_entries t job.number before))
      × (limit ≤ length history)

  -- what is told of the lines that are left: one outcome for each query and link line, in order, each with its line
  abbrev pub TellsOwn : List Line → ℕ → List Line → List Told → Type 0
  TellsOwn before last [] [] = Unit {0}
  TellsOwn before last [] (told ∷ rest) = ⊥
  TellsOwn before last (Take l q count ∷ lines) tolds = TellsOwn (before ++ Take l q count ∷ []) last lines tolds
  TellsOwn before last (Ask l query ∷ lines) [] = ⊥
  TellsOwn before last (Ask l query ∷ lines) (Linked m name down outcome ∷ rest) = ⊥
  TellsOwn before last (Ask l query ∷ lines) (Asked m asked outcome ∷ rest) =
      (m ≡ l) × (asked ≡ query) × IsOwnOutcome before last query outcome
      × TellsOwn (before ++ Ask l query ∷ []) (pin_after last outcome) lines rest
  TellsOwn before last (Link l name down ∷ lines) [] = ⊥
  TellsOwn before last (Link l name down ∷ lines) (Asked m asked outcome ∷ rest) = ⊥
  TellsOwn before last (Link l name down ∷ lines) (Linked m named is_down outcome ∷ rest) =
      (m ≡ l) × (named ≡ name) × (is_down ≡ down) × IsOwnLinkOutcome before last name down outcome
      × TellsOwn (before ++ Link l name down ∷ []) (entry_after last outcome) lines rest

-- What is told of a job that may have wanted memory: that of a front of its lines, so of its script's first queries and
-- link lines, for some feeds and some count of link entries.
pub record TellsOwnFront (t : Topology) (limit : ℕ) (history : List Posted) (number : ℕ) (start : List Entry)
    (job_number : ℕ) (lines : List Line) (tolds : List Told) : Type 0 where
  pub front : List Line
  pub back : List Line
  pub lines_are : lines ≡ front ++ back
  pub job : Job
  pub number_is : job.number ≡ job_number
  pub tells : TellsOwn t limit history number start job [] 0 front tolds
