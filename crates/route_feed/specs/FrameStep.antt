-- What an answer of a feed's reader says of one frame.
use Rattle.std.specs.Prelude.{◌≡◌, ℕ, ◌+◌, ◌*◌, ◌≤◌, ◌++◌, List, length, Option, None, Some, Result, Ok, Err}
use Rattle.feed_model.specs.Feed.{IsStepBy, Gathered, with_message}
use Rattle.feed_model.specs.Frames.{Frame, IsFrame, frame_text}
use Rattle.feed_model.specs.Steps.{FrameStep, Accepted, Refused}
use Rattle.base.specs.declared.ids.RouterId.{RouterId}
use Rattle.base.specs.declared.memory.OutOfMemory.{OutOfMemory}
use Rattle.dn_model.specs.declared.topology.Topology.{Topology}
use Rattle.feed_model.specs.declared.feed_told.FeedTold.{FeedTold}
use Rattle.feed_model.specs.declared.payload.Item.{Item}
use Rattle.feed_model.specs.declared.payload.Refused.{Refused as Refusal}
use Rattle.route_feed.specs.FeedReader.{told_after}
use Rattle.route_feed.specs.Intake.{Inflow}
use Rattle.route_feed.specs.declared.feed_step.FeedStep.{FeedStep}
use Rattle.route_feed.specs.declared.feed_step.FeedStep.TheVariants as answers

-- one more message was taken in, or refused
abbrev pub IsTaken : Topology → RouterId → Gathered → Item → Gathered → Option Refusal → Type 0
IsTaken t r old item new None = with_message t r old item.at item.what ≡ Ok new
IsTaken t r old item new (Some refused) = with_message t r old item.at item.what ≡ Err refused

-- how many messages have an update or were passed over
abbrev pub count : Gathered → ℕ
count g = length g.ops + g.skipped

-- the answer is what this frame, at this offset, comes to, where the routes of these tables and the main one are read
abbrev pub ComesTo : List ℕ → Topology → RouterId → ℕ → Frame → FeedStep → Type 0
ComesTo tables t r offset frame (answers.Ops ops skipped) = IsStepBy tables t r offset frame (Accepted ops skipped)
ComesTo tables t r offset frame (answers.Refused o at cause) =
    IsStepBy tables t r offset frame (Refused (record { offset = o; at = at; cause = cause }))
ComesTo tables t r offset frame answers.End = ⊥
ComesTo tables t r offset frame (answers.CutShort o) = ⊥
ComesTo tables t r offset frame (answers.Lost o cause) = ⊥
ComesTo tables t r offset frame answers.TooLong = ⊥
ComesTo tables t r offset frame answers.Faulted = ⊥

-- what an answer says of a frame, if it is of one
abbrev pub frame_step : FeedStep → Option FrameStep
frame_step (answers.Ops ops skipped) = Some (Accepted ops skipped)
frame_step (answers.Refused o at cause) = Some (Refused (record { offset = o; at = at; cause = cause }))
frame_step answers.End = None
frame_step (answers.CutShort o) = None
frame_step (answers.Lost o cause) = None
frame_step answers.TooLong = None
frame_step answers.Faulted = None

-- the answer is of a frame with at most so many updates and messages passed over
abbrev pub IsOfFrame : ℕ → FeedStep → Type 0
IsOfFrame most (answers.Ops ops skipped) = length ops + skipped ≤ most
IsOfFrame most (answers.Refused o at cause) = Unit {0}
IsOfFrame most answers.End = ⊥
IsOfFrame most (answers.CutShort o) = ⊥
IsOfFrame most (answers.Lost o cause) = ⊥
IsOfFrame most answers.TooLong = ⊥
IsOfFrame most answers.Faulted = ⊥

-- each update of the answer takes at least 28 of so many bytes: a route message has no fewer
abbrev pub HasRoom : ℕ → FeedStep → Type 0
HasRoom bytes (answers.Ops ops skipped) = 28 * length ops ≤ bytes
HasRoom bytes (answers.Refused o at cause) = Unit {0}
HasRoom bytes answers.End = Unit {0}
HasRoom bytes (answers.CutShort o) = Unit {0}
HasRoom bytes (answers.Lost o cause) = Unit {0}
HasRoom bytes answers.TooLong = Unit {0}
HasRoom bytes answers.Faulted = Unit {0}

-- the frame at the front of what is held was handed out, counted and passed; of its routes those of these tables and of
-- the main one are read
pub record Hands {S : Type 0} (tables : List ℕ) (t : Topology) (old new : Inflow S) (told_old told_new : FeedTold)
    (step : FeedStep) : Type 0 where
  pub frame : Frame
  pub fits : IsFrame frame
  pub begins : old.held ≡ frame_text frame ++ new.held
  pub comes_to : ComesTo tables t told_old.router old.passed frame step
  pub passed : new.passed ≡ old.passed + length (frame_text frame)
  pub source : new.source ≡ old.source
  pub limit : new.limit ≡ old.limit
  pub pending : new.pending ≡ old.pending
  pub told : told_new ≡ told_after told_old step
  pub of_frame : IsOfFrame (length frame.payload) step
  pub room : HasRoom (length frame.payload) step

abbrev pub HandsTo : {S : Type 0} → List ℕ → Topology → Result FeedStep OutOfMemory → Inflow S → Inflow S → FeedTold →
    FeedTold → Type 0
HandsTo tables t (Ok step) old new told_old told_new = Hands tables t old new told_old told_new step
HandsTo tables t (Err e) old new told_old told_new = (new ≡ old) × (told_new ≡ told_old)
