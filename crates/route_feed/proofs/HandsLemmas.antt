-- Handing out the frame at the front.
use Rattle.std.proofs.Common.{◌≡◌, ◌≢◌, ℕ, ◌+◌, ◌≤◌, List, ◌++◌, length, Some, Result, Ok, Err, IfOk, refl, ap, sym, ◌∙◌, subst, arith, inl, inr}
use Rattle.feed_model.proofs.RoomLemmas.{accepted-room}
use Rattle.feed_model.specs.Frames.{Frame, frame_text}
use Rattle.feed_model.specs.Feed.{IsStepBy, step_of}
use Rattle.feed_model.specs.Payload.{IsPayload}
use Rattle.feed_model.specs.Steps.{FrameStep, Accepted, Refused}
use Rattle.base.specs.declared.ids.RouterId.{RouterId}
use Rattle.base.specs.declared.memory.OutOfMemory.{OutOfMemory}
use Rattle.feed_model.specs.declared.payload.Payload.{Payload}
use Rattle.feed_model.specs.FrameCauses.{frame_type}
use Rattle.dn_model.specs.declared.topology.Topology.{Topology}
use Rattle.feed_model.specs.declared.feed_told.FeedTold.{FeedTold}
use Rattle.fpm_frame.specs.Answers.{HoldsFrame}
use Rattle.fpm_frame.specs.Held.{PassesFrame, Held}
use Rattle.route_feed.specs.FeedReader.{told_after}
use Rattle.route_feed.specs.FrameStep.{ComesTo, frame_step, IsOfFrame, HasRoom, Hands}
use Rattle.route_feed.specs.Intake.{Inflow}
use Rattle.route_feed.specs.declared.feed_step.FeedStep.{FeedStep}
use Rattle.route_feed.specs.declared.feed_step.FeedStep.TheVariants as answers

abbrev pub held_of : {S : Type 0} → Inflow S → Held
held_of i = record { offset = i.passed; held = i.held }

-- an answer that a frame comes to has room in the frame's payload
has_room : (tables : List ℕ) (t : Topology) (r : RouterId) (offset : ℕ) (f : Frame) (step : FeedStep) → ComesTo tables t r offset f step → HasRoom (length f.payload) step
has_room tables t r offset f (answers.Ops ops skipped) h = accepted-room tables t r offset f ops skipped h
has_room tables t r offset f (answers.Refused o at cause) h = tt
has_room tables t r offset f answers.End h = tt
has_room tables t r offset f (answers.CutShort o) h = tt
has_room tables t r offset f (answers.Lost o cause) h = tt
has_room tables t r offset f answers.TooLong h = tt
has_room tables t r offset f answers.Faulted h = tt

pub hands : {S : Type 0} (tables : List ℕ) (t : Topology) (old new : Inflow S) (told_old told_new : FeedTold) (step : FeedStep) (offset : ℕ) (f : Frame) →
    (offset ≡ old.passed) × HoldsFrame old.held f → ComesTo tables t told_old.router offset f step → IsOfFrame (length f.payload) step →
    PassesFrame (held_of old) (held_of new) → new.source ≡ old.source → new.limit ≡ old.limit → new.pending ≡ old.pending →
    told_new ≡ told_after told_old step → Hands tables t old new told_old told_new step
hands tables t old new told_old told_new step offset f (at, holds) comes few passes source limit pending told =
    let after : held_of new ≡ record { offset = old.passed + length (frame_text f); held = holds.begins.0 } = passes f holds.begins.0 holds.fits holds.begins.1 in
    let rest : new.held ≡ holds.begins.0 = ap (λ h. h.held) after in
    record {
      frame = f;
      fits = holds.fits;
      begins = holds.begins.1 ∙ ap (λ x. frame_text f ++ x) (sym rest);
      comes_to = subst (λ (o : ℕ). ComesTo tables t told_old.router o f step) at comes;
      passed = ap (λ h. h.offset) after;
      source = source;
      limit = limit;
      pending = pending;
      told = told;
      of_frame = few;
      room = has_room tables t told_old.router offset f step comes;
    }

-- a frame's updates and messages passed over are no more than a larger number
pub at_most : (few many : ℕ) (step : FeedStep) → few ≤ many → IsOfFrame few step → IsOfFrame many step
at_most few many (answers.Ops ops skipped) h k = omega arith
at_most few many (answers.Refused o at cause) h k = tt
at_most few many answers.End h k = k
at_most few many (answers.CutShort o) h k = k
at_most few many (answers.Lost o cause) h k = k
at_most few many answers.TooLong h k = k
at_most few many answers.Faulted h k = k

-- an answer that says what a frame comes to
pub comes : (tables : List ℕ) (t : Topology) (r : RouterId) (offset : ℕ) (f : Frame) (s : FrameStep) (step : FeedStep) → frame_step step ≡ Some s → IsStepBy tables t r offset f s → ComesTo tables t r offset f step
comes tables t r offset f s (answers.Ops ops skipped) e is = let same : s ≡ Accepted ops skipped = cc in subst (λ (x : FrameStep). IsStepBy tables t r offset f x) same is
comes tables t r offset f s (answers.Refused o at cause) e is =
    let same : s ≡ Refused (record { offset = o; at = at; cause = cause }) = cc in subst (λ (x : FrameStep). IsStepBy tables t r offset f x) same is
comes tables t r offset f s answers.End e is = cc
comes tables t r offset f s (answers.CutShort o) e is = cc
comes tables t r offset f s (answers.Lost o cause) e is = cc
comes tables t r offset f s answers.TooLong e is = cc
comes tables t r offset f s answers.Faulted e is = cc

-- the answer that a netlink frame's payload says
pub says : (tables : List ℕ) (t : Topology) (r : RouterId) (offset kind : ℕ) (bytes : List ℕ) (p : Payload) (step : FeedStep) → kind ≡ 1 → IsPayload tables bytes p →
    frame_step step ≡ Some (step_of t r offset p) → ComesTo tables t r offset (record { kind = kind; payload = bytes }) step
says tables t r offset kind bytes p step k h e =
    comes tables t r offset (record { kind = kind; payload = bytes }) (step_of t r offset p) step e
    (inl (record { netlink = k; payload = p; says = h; comes_to = refl }))

-- the answer to a frame of another kind
pub other : (tables : List ℕ) (t : Topology) (r : RouterId) (offset kind : ℕ) (bytes : List ℕ) → kind ≢ 1 →
    ComesTo tables t r offset (record { kind = kind; payload = bytes }) (answers.Refused offset 0 frame_type)
other tables t r offset kind bytes k = inr (record { other = k; refused = refl })

-- the same of answers that may want memory
pub at_most-ok : (few many : ℕ) (r : Result FeedStep OutOfMemory) → few ≤ many → IfOk r (IsOfFrame few) → IfOk r (IsOfFrame many)
at_most-ok few many (Ok step) h k = at_most few many step h k
at_most-ok few many (Err e) h k = k

pub says-ok : (tables : List ℕ) (t : Topology) (r : RouterId) (offset kind : ℕ) (bytes : List ℕ) (p : Payload) (answer : Result FeedStep OutOfMemory) → kind ≡ 1 → IsPayload tables bytes p →
    IfOk answer (λ step. frame_step step ≡ Some (step_of t r offset p)) → IfOk answer (ComesTo tables t r offset (record { kind = kind; payload = bytes }))
says-ok tables t r offset kind bytes p (Ok step) k h e = says tables t r offset kind bytes p step k h e
says-ok tables t r offset kind bytes p (Err x) k h e = e
