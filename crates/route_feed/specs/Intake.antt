-- Bytes on their way from a source into frames.
use Rattle.std.specs.Prelude.{◌≡◌, ℕ, ◌+◌, ◌≤◌, ◌<◌, List, [], ◌++◌, length, Option, None, Some, Result, Ok, Err}
use Rattle.dn_io.specs.Faults.{Rose}
use Rattle.dn_io.specs.Told.{with_front, NothingLeft}
use Rattle.feed_model.specs.Frames.{BeginsFrame, IsFrameFront, rest_kind, lost_cause, NoRest, CutFrame}
use Rattle.base.specs.declared.memory.OutOfMemory.{OutOfMemory}
use Rattle.feed_model.specs.declared.feed_told.FeedEnd.{FeedEnd}
use Rattle.feed_model.specs.declared.feed_told.FeedEnd.TheVariants.{End, CutShort, Lost, TooLong, Full, Faulted}
use Rattle.route_feed.specs.declared.intake.Got.{Got}
use Rattle.route_feed.specs.declared.intake.Got.TheVariants as got
use Rattle.route_feed.specs.declared.intake.Progress.{Progress}
use Rattle.route_feed.specs.declared.intake.Progress.TheVariants.{Going, Whole, Ended}

-- a source, how many of its bytes are looked at, how many were passed as frames, the bytes held for the next frames,
-- and those that were read after them
pub record Inflow (S : Type 0) : Type 0 where
  pub source : S
  pub limit : ℕ
  pub passed : ℕ
  pub held : List ℕ
  pub pending : List ℕ

-- how many bytes were read
abbrev pub taken : {S : Type 0} → Inflow S → ℕ
taken i = i.passed + length i.held + length i.pending

-- no byte is lost: what is held, pending and left together is as before
pub record Keeps {S : Type 0} (old new : Inflow S) (before after : Option (List ℕ)) : Type 0 where
  pub limit : new.limit ≡ old.limit
  pub passed : new.passed ≡ old.passed
  pub bytes : with_front (new.held ++ new.pending) after ≡ with_front (old.held ++ old.pending) before

-- what a read came to: the piece, what the source has left, and its count of faults before and after
abbrev pub HasGot : Got → List ℕ → Option (List ℕ) → ℕ → ℕ → Type 0
HasGot got.Bytes piece left before after = (0 < length piece) × (after ≡ before)
HasGot got.Nothing piece left before after = (piece ≡ []) × NothingLeft left × (after ≡ before)
HasGot got.Failed piece left before after = (piece ≡ []) × Rose before after

abbrev pub GetsTo : Result Got OutOfMemory → List ℕ → Option (List ℕ) → ℕ → ℕ → Type 0
GetsTo (Ok g) piece left before after = HasGot g piece left before after
GetsTo (Err e) piece left before after = (piece ≡ []) × (after ≡ before)

-- how a feed ends, from what is held, what its source has left, and its count of faults before and after
abbrev pub LeadsToEnd : {S : Type 0} → FeedEnd → Inflow S → Option (List ℕ) → ℕ → ℕ → Type 0
LeadsToEnd End i left before after = (after ≡ before) × (taken i ≤ i.limit) × (i.pending ≡ []) × (rest_kind i.held ≡ NoRest) × IsFrameFront i.held × NothingLeft left
LeadsToEnd (CutShort offset) i left before after =
    (after ≡ before) × (taken i ≤ i.limit) × (i.pending ≡ []) × (rest_kind i.held ≡ CutFrame) × IsFrameFront i.held × NothingLeft left × (offset ≡ i.passed)
LeadsToEnd (Lost offset cause) i left before after =
    (after ≡ before) × (taken i ≤ i.limit) × (i.pending ≡ []) × (lost_cause (rest_kind i.held) ≡ Some cause) × (offset ≡ i.passed)
LeadsToEnd TooLong i left before after = (after ≡ before) × (i.passed + length i.held ≡ i.limit) × (length i.pending ≡ 1) × IsFrameFront i.held
LeadsToEnd Faulted i left before after = Rose before after × (taken i ≤ i.limit) × (i.pending ≡ []) × IsFrameFront i.held
LeadsToEnd Full i left before after = ⊥

-- the same of a whole frame that is held, and of bytes that came without one
abbrev pub Leads : {S : Type 0} → Progress → Inflow S → Option (List ℕ) → ℕ → ℕ → Type 0
Leads Going i left before after = (after ≡ before) × (taken i ≤ i.limit)
Leads Whole i left before after = (after ≡ before) × (taken i ≤ i.limit) × (i.pending ≡ []) × BeginsFrame i.held
Leads (Ended end) i left before after = LeadsToEnd end i left before after

abbrev pub LeadsTo : {S : Type 0} → Result Progress OutOfMemory → Inflow S → Option (List ℕ) → ℕ → ℕ → Type 0
LeadsTo (Ok progress) i left before after = Leads progress i left before after
LeadsTo (Err e) i left before after = (after ≡ before) × (taken i ≤ i.limit)

-- with no end told there is a whole frame
abbrev pub FillsOk : {S : Type 0} → Option FeedEnd → Inflow S → Option (List ℕ) → ℕ → ℕ → Type 0
FillsOk None i left before after = (after ≡ before) × (taken i ≤ i.limit) × (i.pending ≡ []) × BeginsFrame i.held
FillsOk (Some end) i left before after = LeadsToEnd end i left before after

abbrev pub FillsTo : {S : Type 0} → Result (Option FeedEnd) OutOfMemory → Inflow S → Option (List ℕ) → ℕ → ℕ → Type 0
FillsTo (Ok end) i left before after = FillsOk end i left before after
FillsTo (Err e) i left before after = (after ≡ before) × (taken i ≤ i.limit)

-- bytes came: more of them were read than before
abbrev pub Grows : Result Progress OutOfMemory → ℕ → ℕ → Type 0
Grows (Ok Going) before after = before < after
Grows (Ok Whole) before after = Unit {0}
Grows (Ok (Ended end)) before after = Unit {0}
Grows (Err e) before after = Unit {0}
