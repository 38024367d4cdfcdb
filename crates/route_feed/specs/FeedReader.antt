-- What a reader of a feed means, and what its answers say of the feed's bytes.
use Rattle.std.specs.Prelude.{◌≡◌, ◌≢◌, ℕ, ◌+◌, ◌*◌, ◌<◌, ◌≤◌, List, [], ◌∷◌, ◌++◌, length, All, map, sum, Option, None, Some, Result, Ok, Err}
use Rattle.dn_io.specs.Faults.{Rose}
use Rattle.dn_io.specs.Told.{with_front, NothingLeft}
use Rattle.dn_model.specs.Entry.{IsTargetOf}
use Rattle.dn_model.specs.declared.entry.Op.{Op}
use Rattle.dn_model.specs.declared.entry.Op.TheVariants.{Set, SetBy, Clear, Object, NoObject}
use Rattle.feed_model.specs.Feed.{AreSteps, IsReading, IsFaultedReading, IsToTableOf, tables_of}
use Rattle.feed_model.specs.Frames.{Frame, IsFrame, frames_text}
use Rattle.feed_model.specs.Steps.{FrameStep, Accepted, Refused, updates, refusals, skipped_of, told_of}
use Rattle.base.specs.declared.ids.RouterId.{RouterId}
use Rattle.base.specs.declared.memory.OutOfMemory.{OutOfMemory}
use Rattle.dn_model.specs.declared.topology.Topology.{Topology}
use Rattle.feed_model.specs.declared.feed_told.FeedEnd.{FeedEnd}
use Rattle.feed_model.specs.declared.feed_told.FeedEnd.TheVariants as ends
use Rattle.feed_model.specs.declared.feed_told.FeedTold.{FeedTold}
use Rattle.route_feed.specs.declared.feed_step.FeedStep.{FeedStep}
use Rattle.route_feed.specs.declared.feed_step.FeedStep.TheVariants as answers

-- A reader: its source, how many of the feed's bytes it looks at, how many bytes the frames took that it handed out,
-- the bytes that it has read after them, what it tells, and the numbers of its device's tables, or none as long as it
-- hasn't looked them up.
pub record Reader (S : Type 0) : Type 0 where
  pub source : S
  pub limit : ℕ
  pub passed : ℕ
  pub held : List ℕ
  pub told : FeedTold
  pub tables : List ℕ

-- the tables that a reader looked up are all of its device's
abbrev pub KnowsTables : Topology → RouterId → List ℕ → Type 0
KnowsTables t r tables = tables ≢ [] → tables ≡ tables_of t r

-- what is told after these steps, before an end
abbrev pub told_so_far : ℕ → RouterId → List FrameStep → FeedTold
told_so_far feed_no router steps = record {
  feed_no = feed_no;
  router = router;
  updates = length (updates steps);
  skipped = sum (map skipped_of steps);
  refused = refusals steps;
  end = None;
}

-- what is told after these steps and this end
abbrev pub told_at_end : ℕ → RouterId → List FrameStep → FeedEnd → FeedTold
told_at_end feed_no router steps end =
    told_of (record { feed_no = feed_no; router = router; steps = steps; kept = length (updates steps); end = end })

-- A reader in the midst of a feed of these bytes: it handed out these steps, those of the frames at the front. What it
-- holds comes next, and then what its source has left. It read no byte past its limit.
pub record IsAt {S : Type 0} (t : Topology) (reader : Reader S) (left : Option (List ℕ)) (bytes : List ℕ) (steps : List FrameStep) : Type 0 where
  pub frames : List Frame
  pub each : All IsFrame frames
  pub come_to : AreSteps t reader.told.router 0 frames steps
  pub passed : reader.passed ≡ length (frames_text frames)
  pub whole : Some bytes ≡ with_front (frames_text frames ++ reader.held) left
  pub within : reader.passed + length reader.held ≤ reader.limit
  pub counted : reader.told ≡ told_so_far reader.told.feed_no reader.told.router steps
  pub knows : KnowsTables t reader.told.router reader.tables

-- a front of the bytes was read, at most one more than the limit, and the rest is left
abbrev pub IsReadFrom : List ℕ → ℕ → Option (List ℕ) → Type 0
IsReadFrom bytes limit left = (front : List ℕ) × (length front ≤ limit + 1) × (Some bytes ≡ with_front front left)

-- a reader past its end: these steps and this end are the reading of the bytes
pub record HasEnded {S : Type 0} (t : Topology) (reader : Reader S) (left : Option (List ℕ)) (bytes : List ℕ) (steps : List FrameStep) (end : FeedEnd) : Type 0 where
  pub reading : IsReading t reader.told.router bytes reader.limit steps end
  pub counted : reader.told ≡ told_at_end reader.told.feed_no reader.told.router steps end
  pub read : IsReadFrom bytes reader.limit left

-- a reader whose source failed: these steps are those of the bytes that were read
pub record HasFaulted {S : Type 0} (t : Topology) (reader : Reader S) (left : Option (List ℕ)) (bytes : List ℕ) (steps : List FrameStep) : Type 0 where
  pub front : List ℕ
  pub reading : IsFaultedReading t reader.told.router front steps
  pub counted : reader.told ≡ told_at_end reader.told.feed_no reader.told.router steps ends.Faulted
  pub within : length front ≤ reader.limit
  pub whole : Some bytes ≡ with_front front left

-- What an answer says of a feed of these bytes, of which these steps were handed out before. At `End` and `CutShort`
-- nothing is left in the source.
abbrev pub IsAnswered : {S : Type 0} → Topology → FeedStep → Reader S → Option (List ℕ) → List ℕ → List FrameStep → Type 0
IsAnswered t (answers.Ops ops skipped) reader left bytes steps = IsAt t reader left bytes (steps ++ Accepted ops skipped ∷ [])
IsAnswered t (answers.Refused offset at cause) reader left bytes steps =
    IsAt t reader left bytes (steps ++ Refused (record { offset = offset; at = at; cause = cause }) ∷ [])
IsAnswered t answers.End reader left bytes steps = HasEnded t reader left bytes steps ends.End × NothingLeft left
IsAnswered t (answers.CutShort offset) reader left bytes steps = HasEnded t reader left bytes steps (ends.CutShort offset) × NothingLeft left
IsAnswered t (answers.Lost offset cause) reader left bytes steps = HasEnded t reader left bytes steps (ends.Lost offset cause)
IsAnswered t answers.TooLong reader left bytes steps = HasEnded t reader left bytes steps ends.TooLong
IsAnswered t answers.Faulted reader left bytes steps = HasFaulted t reader left bytes steps

-- the same of an answer, where want of memory leaves the reader where it is
abbrev pub IsOutcome : {S : Type 0} → Topology → Result FeedStep OutOfMemory → Reader S → Option (List ℕ) → List ℕ → List FrameStep → Type 0
IsOutcome t (Ok step) reader left bytes steps = IsAnswered t step reader left bytes steps
IsOutcome t (Err e) reader left bytes steps = IsAt t reader left bytes steps

-- the end that an answer tells
abbrev pub end_of : FeedStep → Option FeedEnd
end_of (answers.Ops ops skipped) = None
end_of (answers.Refused offset at cause) = None
end_of answers.End = Some ends.End
end_of (answers.CutShort offset) = Some (ends.CutShort offset)
end_of (answers.Lost offset cause) = Some (ends.Lost offset cause)
end_of answers.TooLong = Some ends.TooLong
end_of answers.Faulted = Some ends.Faulted

-- how the source's count of faults moves with an answer that isn't given again: it rises exactly at `Faulted`
abbrev pub FaultsAtStep : FeedStep → ℕ → ℕ → Type 0
FaultsAtStep (answers.Ops ops skipped) old new = new ≡ old
FaultsAtStep (answers.Refused offset at cause) old new = new ≡ old
FaultsAtStep answers.End old new = new ≡ old
FaultsAtStep (answers.CutShort offset) old new = new ≡ old
FaultsAtStep (answers.Lost offset cause) old new = new ≡ old
FaultsAtStep answers.TooLong old new = new ≡ old
FaultsAtStep answers.Faulted old new = Rose old new

abbrev pub FaultsAt : Result FeedStep OutOfMemory → ℕ → ℕ → Type 0
FaultsAt (Ok step) old new = FaultsAtStep step old new
FaultsAt (Err e) old new = new ≡ old

-- what an answer that isn't given again adds to what was told
abbrev pub told_after : FeedTold → FeedStep → FeedTold
told_after told (answers.Ops ops skipped) = record told { updates = told.updates + length ops; skipped = told.skipped + skipped }
told_after told (answers.Refused offset at cause) = record told { refused = told.refused ++ record { offset = offset; at = at; cause = cause } ∷ [] }
told_after told answers.End = record told { end = Some ends.End }
told_after told (answers.CutShort offset) = record told { end = Some (ends.CutShort offset) }
told_after told (answers.Lost offset cause) = record told { end = Some (ends.Lost offset cause) }
told_after told answers.TooLong = record told { end = Some ends.TooLong }
told_after told answers.Faulted = record told { end = Some ends.Faulted }

abbrev pub told_then : FeedTold → Result FeedStep OutOfMemory → FeedTold
told_then told (Ok step) = told_after told step
told_then told (Err e) = told

-- an end that a reader answers: any but that of a full history
abbrev pub IsReadersEnd : Option FeedEnd → Type 0
IsReadersEnd None = Unit {0}
IsReadersEnd (Some ends.End) = Unit {0}
IsReadersEnd (Some (ends.CutShort offset)) = Unit {0}
IsReadersEnd (Some (ends.Lost offset cause)) = Unit {0}
IsReadersEnd (Some ends.TooLong) = Unit {0}
IsReadersEnd (Some ends.Faulted) = Unit {0}
IsReadersEnd (Some ends.Full) = ⊥

-- A frame that is handed out takes bytes within the limit, at least 28 for each of its updates; an end takes none.
abbrev pub Advances : {S : Type 0} → FeedStep → Reader S → Reader S → Type 0
Advances (answers.Ops ops skipped) old new = (old.passed < new.passed) × (new.passed ≤ new.limit) × (old.passed + 28 * length ops ≤ new.passed)
Advances (answers.Refused offset at cause) old new = (old.passed < new.passed) × (new.passed ≤ new.limit)
Advances answers.End old new = new.passed ≡ old.passed
Advances (answers.CutShort offset) old new = new.passed ≡ old.passed
Advances (answers.Lost offset cause) old new = new.passed ≡ old.passed
Advances answers.TooLong old new = new.passed ≡ old.passed
Advances answers.Faulted old new = new.passed ≡ old.passed

-- an update that a feed gives: a route of this network that is set, or one that is cleared
abbrev pub IsFeedOp : Topology → Op → Type 0
IsFeedOp t (Set p m target) = IsTargetOf t target
IsFeedOp t (SetBy p m id) = ⊥
IsFeedOp t (Clear p m) = Unit {0}
IsFeedOp t (Object id target) = ⊥
IsFeedOp t (NoObject id) = ⊥

-- the same with the router whose table it changes, which is in the network
abbrev pub IsFeedUpdate : Topology → RouterId × Op → Type 0
IsFeedUpdate t u = (u.0.0 < length t.routers) × IsFeedOp t u.1

-- the updates that are handed out can come of this network
abbrev pub AreOpsOf : Topology → FeedStep → Type 0
AreOpsOf t (answers.Ops ops skipped) = All (IsFeedUpdate t) ops
AreOpsOf t (answers.Refused offset at cause) = Unit {0}
AreOpsOf t answers.End = Unit {0}
AreOpsOf t (answers.CutShort offset) = Unit {0}
AreOpsOf t (answers.Lost offset cause) = Unit {0}
AreOpsOf t answers.TooLong = Unit {0}
AreOpsOf t answers.Faulted = Unit {0}

-- the updates that are handed out are to tables of this device
abbrev pub AreOwnOps : Topology → RouterId → FeedStep → Type 0
AreOwnOps t r (answers.Ops ops skipped) = All (IsToTableOf t r) ops
AreOwnOps t r (answers.Refused offset at cause) = Unit {0}
AreOwnOps t r answers.End = Unit {0}
AreOwnOps t r (answers.CutShort offset) = Unit {0}
AreOwnOps t r (answers.Lost offset cause) = Unit {0}
AreOwnOps t r answers.TooLong = Unit {0}
AreOwnOps t r answers.Faulted = Unit {0}
