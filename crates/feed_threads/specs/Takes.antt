-- What taking frames of one feed does.
use Rattle.std.specs.Prelude.{ℕ, ◌≡◌, ◌≤◌, ◌<◌, ◌+◌, ◌*◌, ◌-◌, Bool, true, false, All, List, [], ◌++◌, length, take}
use Rattle.std.specs.Prelude.{Option, None, Some, Result, IfOk, OnOk, OnErr, is_none}
use Rattle.feed_model.specs.Steps.{FrameStep, entries_by, updates}
use Rattle.dn_model.specs.declared.entry.Entry.{Entry}
use Rattle.dn_model.specs.declared.entry.Op.{Op}
use Rattle.dn_model.specs.declared.entry.Posted.{Posted}
use Rattle.base.specs.declared.ids.RouterId.{RouterId}
use Rattle.dn_model.specs.declared.topology.Topology.{Topology}
use Rattle.feed_model.specs.declared.feed_told.FeedEnd.{FeedEnd}
use Rattle.feed_model.specs.declared.feed_told.FeedTold.{FeedTold}
use Rattle.route_feed.specs.FeedReader.{IsFeedUpdate, Reader}
use Rattle.version_lock.specs.Callers.{Caller, IsSeatOf, Lock}
use Rattle.version_store.specs.Kept.{IsTaken}
use Rattle.feed_threads.specs.Feeds.{Feed, end_of_feed, HandsOut, ReadsOn, Stands}
use Rattle.fast_pins.specs.Known.{Known}
use Rattle.feed_threads.specs.Seats.{own_of, SawMore}
use Rattle.feed_threads.specs.Shown.{IsShown, ShowsOn}

-- no frame comes after a feed's end
abbrev pub IsLater : Option FeedEnd → List FrameStep → Type 0
IsLater None later = Unit {0}
IsLater (Some end) later = later ≡ []

-- how many frames a count takes: so many, or fewer where the feed has ended; without a count all, so that it has ended
abbrev pub IsCount : Option ℕ → ℕ → Option FeedEnd → Type 0
IsCount (Some n) len None = len ≡ n
IsCount (Some n) len (Some end) = len ≤ n
IsCount None len None = ⊥
IsCount None len (Some end) = Unit {0}

-- no more frames than a count asks for
abbrev pub IsWithin : Option ℕ → ℕ → Type 0
IsWithin None len = Unit {0}
IsWithin (Some n) len = len ≤ n

-- The history took the updates of one frame: all of them, and the feed goes on; or only the first of them, since it was
-- full, and `kept` then says how many of the feed it took.
abbrev pub HasTaken : ℕ → ℕ → Bool → Option ℕ → FeedTold → List Posted → List Posted → List (RouterId × Op) → Type 0
HasTaken limit number true kept told seen-before seen ops =
    (kept ≡ None) × (own_of number seen ≡ own_of number seen-before ++ entries_by told.feed_no ops)
HasTaken limit number false kept told seen-before seen ops =
    (n : ℕ) × (n < length ops) × (kept ≡ Some (told.updates - (length ops - n))) × (limit ≤ length seen)
    × (own_of number seen ≡ own_of number seen-before ++ entries_by told.feed_no (take n ops))

-- The history took the first so many of a feed's updates, none between them left out.
pub record TookFirst (number feed_no : ℕ) (seen-before seen : List Posted) (ops : List (RouterId × Op)) : Type 0 where
  pub n : ℕ
  pub few : n ≤ length ops
  pub grows : own_of number seen ≡ own_of number seen-before ++ entries_by feed_no (take n ops)

-- a reader passed at least 28 bytes for each update of these frames, and stays within its limit
pub record Passes {S : Type 0} (old new : Reader S) (more : List FrameStep) : Type 0 where
  pub fits : old.passed + 28 * length (updates more) ≤ new.passed
  pub within : old.passed ≤ old.limit → new.passed ≤ new.limit

-- an entry may be applied by this seat: it is the lock's, and its store takes the entry
abbrev pub MayAdd : Lock → Caller → Entry → Type 0
MayAdd lock seat entry = IsSeatOf lock seat × IsTaken lock.setup.basis.topology entry

-- updates may be applied by this seat: it is the lock's, and they can come of a feed of its network
abbrev pub MayPost : Lock → Caller → List (RouterId × Op) → Type 0
MayPost lock seat ops = IsSeatOf lock seat × All (IsFeedUpdate lock.setup.basis.topology) ops

-- the same of updates that a feed's reader has just handed out, where the feed goes on
abbrev pub MayPostOf : {S : Type 0} → Lock → Caller → Feed S → List (RouterId × Op) → Type 0
MayPostOf lock seat feed ops = MayPost lock seat ops × (length ops ≤ feed.reader.told.updates) × (feed.kept ≡ None)

-- frames of a feed may be taken by this seat: it is the lock's, and the feed is of one of the network's routers
abbrev pub MayTake : {S : Type 0} → Lock → Caller → Feed S → Type 0
MayTake lock seat feed = IsSeatOf lock seat × (feed.reader.told.router.0 < length lock.setup.basis.topology.routers)

-- the same by a seat which shows what it applies
abbrev pub MayShow : {S : Type 0} → Lock → Caller → Option Known → Feed S → Type 0
MayShow lock seat shown feed = MayTake lock seat feed × IsShown lock.setup.basis.topology seat.seen shown

-- one frame was taken, and the answer is whether the feed goes on: then its reader has passed more of its limit
abbrev pub IsStep : {S E : Type 0} → Result Bool E → Feed S → Feed S → Type 0
IsStep result old new =
    IfOk result (λ more. more ≡ is_none (end_of_feed new))
    × IfOk result (λ more. more ≡ true →
    (old.reader.passed < new.reader.passed) × (new.reader.passed ≤ new.reader.limit))
    × (new.reader.limit ≡ old.reader.limit)

module _ {S : Type 0} (t : Topology) (left : S → Option (List ℕ)) (faults place : S → ℕ) (limit number : ℕ) where
  -- A feed gave these frames more, while the history was seen from `seen-before` to `seen`; the entries of this number,
  -- the job's own, grew there by the updates that the history took of them. Past its end a feed gives nothing.
  pub record Gives (old new : Feed S) (seen-before seen : List Posted) (more : List FrameStep) : Type 0 where
    pub ops : List (RouterId × Op)
    pub stands : (start : Reader S) (steps : List FrameStep) (ops-before : List (RouterId × Op)) →
        Stands t left faults place limit seen-before start old steps ops-before →
        Stands t left faults place limit seen start new (steps ++ more) (ops-before ++ ops)
    pub grows : own_of number seen ≡ own_of number seen-before ++ entries_by old.reader.told.feed_no ops
    pub whole : new.kept ≡ None → ops ≡ updates more
    pub passes : Passes old.reader new.reader more
    pub later : IsLater (end_of_feed old) more
    pub ended : (end : FeedEnd) → end_of_feed old ≡ Some end → (new ≡ old) × (ops ≡ [])
    pub feed_no : new.reader.told.feed_no ≡ old.reader.told.feed_no
    pub router : new.reader.told.router ≡ old.reader.told.router

  -- A feed that no full history broke off gave these frames more, as many as the count says or fewer, and then memory
  -- was wanting: the job's own entries grew by the first of their updates, so that no later update stands where an
  -- earlier one is missing. Past its end a feed gives nothing.
  pub record GivesFirst (count : Option ℕ) (old new : Feed S) (seen-before seen : List Posted) : Type 0 where
    pub kept : old.kept ≡ None
    pub unbroken : new.kept ≡ None
    pub more : List FrameStep
    pub within : IsWithin count (length more)
    pub later : IsLater (end_of_feed old) more
    pub ended : (end : FeedEnd) → end_of_feed old ≡ Some end → new ≡ old
    pub reads : (start : Reader S) (steps : List FrameStep) →
        HandsOut t left faults place start old.reader steps →
        HandsOut t left faults place start new.reader (steps ++ more)
    pub took : TookFirst number old.reader.told.feed_no seen-before seen (updates more)

  -- some frames more, as the count says
  pub record TakesSome (count : Option ℕ) (old new : Feed S) (seen-before seen : List Posted) : Type 0 where
    pub more : List FrameStep
    pub adds : Gives old new seen-before seen more
    pub counted : IsCount count (length more) (end_of_feed new)

  -- some frames more, however many
  pub record TakesAny (old new : Feed S) (seen-before seen : List Posted) : Type 0 where
    pub more : List FrameStep
    pub adds : Gives old new seen-before seen more

module _ {S : Type 0} (lock : Lock) (left : S → Option (List ℕ)) (faults place : S → ℕ) where
  -- A call took frames of a feed by this seat, as the count says, or memory was wanting at one of them.
  pub record Takes {A E : Type 0} (result : Result A E) (count : Option ℕ) (old new : Caller)
      (feed feed' : Feed S) : Type 0 where
    pub saw : SawMore old new
    pub reads : ReadsOn lock.setup.basis.topology left faults place feed.reader feed'.reader
    pub taken : OnOk result (TakesSome lock.setup.basis.topology left faults place lock.setup.basis.limit
        old.number count feed feed' old.seen new.seen)
    pub first : OnErr result (GivesFirst lock.setup.basis.topology left faults place lock.setup.basis.limit
        old.number count feed feed' old.seen new.seen)

  -- the same, and a beginning of what the seat has seen then is shown
  pub record TakesShown {A E : Type 0} (result : Result A E) (count : Option ℕ) (old new : Caller)
      (shown shown' : Option Known) (feed feed' : Feed S) : Type 0 where
    pub takes : Takes result count old new feed feed'
    pub shows : ShowsOn lock.setup.basis.topology new.seen shown shown'
