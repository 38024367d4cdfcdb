-- What a cutter of frames answers, by what it holds.
use Rattle.std.specs.Prelude.{◌≡◌, ℕ, ◌++◌, List, Some}
use Rattle.feed_model.specs.Frames.{Frame, frame_text, IsFrame, IsFrameFront, rest_kind, lost_cause, NoRest, CutFrame}
use Rattle.fpm_frame.specs.Held.{Held}
use Rattle.fpm_frame.specs.declared.cutter.Next.{Next}
use Rattle.fpm_frame.specs.declared.cutter.Next.TheVariants as next
use Rattle.fpm_frame.specs.declared.cutter.Finish.{Finish}
use Rattle.fpm_frame.specs.declared.cutter.Finish.TheVariants as finish

-- what is held begins with the text of this frame
pub record HoldsFrame (held : List ℕ) (f : Frame) : Type 0 where
  pub fits : IsFrame f
  pub begins : (more : List ℕ) × (held ≡ frame_text f ++ more)

-- a frame where one begins; more where the front of one stands; lost where its header loses the framing
abbrev pub AnswersNext : Held → Next → Type 0
AnswersNext c (next.Frame offset kind payload) = (offset ≡ c.offset) × HoldsFrame c.held (record { kind = kind; payload = payload.now })
AnswersNext c next.More = IsFrameFront c.held
AnswersNext c (next.Lost offset cause) = (offset ≡ c.offset) × (lost_cause (rest_kind c.held) ≡ Some cause)

-- the header at the front loses the framing
abbrev pub LosesFraming : List ℕ → Type 0
LosesFraming held = (cause : ℕ) × (lost_cause (rest_kind held) ≡ Some cause)

abbrev pub IsFrameThere : Next → Type 0
IsFrameThere (next.Frame offset kind payload) = Unit {0}
IsFrameThere next.More = ⊥
IsFrameThere (next.Lost offset cause) = ⊥

abbrev pub IsMoreWanted : Next → Type 0
IsMoreWanted (next.Frame offset kind payload) = ⊥
IsMoreWanted next.More = Unit {0}
IsMoreWanted (next.Lost offset cause) = ⊥

abbrev pub IsFramingLost : Next → Type 0
IsFramingLost (next.Frame offset kind payload) = ⊥
IsFramingLost next.More = ⊥
IsFramingLost (next.Lost offset cause) = Unit {0}

-- after a whole frame where nothing is left, else inside a frame
abbrev pub AnswersFinish : Held → Finish → Type 0
AnswersFinish c finish.End = rest_kind c.held ≡ NoRest
AnswersFinish c (finish.CutShort offset) = (offset ≡ c.offset) × (rest_kind c.held ≡ CutFrame)
