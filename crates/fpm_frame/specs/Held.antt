-- What a cutter of frames holds of its stream.
use Rattle.std.specs.Prelude.{◌≡◌, ℕ, ◌+◌, List, ◌++◌, length}
use Rattle.feed_model.specs.Frames.{Frame, frame_text, IsFrame}

-- how many bytes of the stream were passed, and the bytes that were fed and not passed
pub record Held : Type 0 where
  pub offset : ℕ
  pub held : List ℕ

-- a piece comes to the end of what is held
abbrev pub fed : Held → List ℕ → Held
fed c piece = record { offset = c.offset; held = c.held ++ piece }

-- the frame at the front goes from what is held to what was passed
abbrev pub PassesFrame : Held → Held → Type 0
PassesFrame old new = (f : Frame) (more : List ℕ) → IsFrame f → old.held ≡ frame_text f ++ more →
    new ≡ record { offset = old.offset + length (frame_text f); held = more }
