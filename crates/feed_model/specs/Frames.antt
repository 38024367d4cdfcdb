-- Frames of a stream of the forwarding plane manager (FRR's fpm/fpm.h, message header, version 1).
use Rattle.std.specs.Prelude.{◌≡◌, ℕ, ◌+◌, ◌<◌, ◌≤◌, ◌==◌, nat_lt, if◌then◌else◌, List, [], ◌∷◌, ◌++◌, length, All, Option, Some, None}
use Rattle.std.specs.List.{flat_map}
use Rattle.std.specs.Int.{w16, to_be_bytes, from_be_bytes}
use Rattle.feed_model.specs.FrameCauses.{bad_version, bad_frame_length}

-- a frame: the kind of its payload (0 none, 1 netlink, 2 protobuf), and the payload
pub record Frame : Type 0 where
  pub kind : ℕ
  pub payload : List ℕ

-- the frame's bytes: the version 1, the kind, the length with these four bytes in network order, the payload
abbrev pub frame_text : Frame → List ℕ
frame_text f = 1 ∷ f.kind ∷ to_be_bytes w16 (4 + length f.payload) ++ f.payload

-- kind and length fit their fields
pub record IsFrame (f : Frame) : Type 0 where
  pub kind_fits : f.kind < 256
  pub length_fits : length f.payload ≤ 65531

-- a whole frame stands at the front
abbrev pub BeginsFrame : List ℕ → Type 0
BeginsFrame bytes = (f : Frame) × (more : List ℕ) × IsFrame f × (bytes ≡ frame_text f ++ more)

-- some bytes are wanting to a whole frame, all of it where nothing is there
abbrev pub IsFrameFront : List ℕ → Type 0
IsFrameFront bytes = (f : Frame) × (more : List ℕ) × IsFrame f × (0 < length more) × (bytes ++ more ≡ frame_text f)

-- what stands where no whole frame does: nothing, the front of a frame, or a header that loses the framing
pub data FrameRest : Type 0 where
  NoRest : FrameRest
  CutFrame : FrameRest
  BadVersion : FrameRest
  BadFrameLength : FrameRest

-- after the version: a length below that of the header is bad once it is there
abbrev pub rest_after_version : List ℕ → FrameRest
rest_after_version (kind ∷ high ∷ low ∷ payload) =
    if nat_lt (from_be_bytes w16 (high ∷ low ∷ [])) 4 then BadFrameLength else CutFrame
rest_after_version bytes = CutFrame

abbrev pub rest_kind : List ℕ → FrameRest
rest_kind [] = NoRest
rest_kind (version ∷ bytes) = if version == 1 then rest_after_version bytes else BadVersion

-- the number of the cause by which a rest loses the framing
abbrev pub lost_cause : FrameRest → Option ℕ
lost_cause NoRest = None
lost_cause CutFrame = None
lost_cause BadVersion = Some bad_version
lost_cause BadFrameLength = Some bad_frame_length

-- the texts of frames, one after another
abbrev pub frames_text : List Frame → List ℕ
frames_text frames = flat_map frame_text frames

-- the bytes are these frames, and then a rest that begins with no frame
pub record Frames (bytes : List ℕ) (frames : List Frame) (rest : List ℕ) : Type 0 where
  pub whole : bytes ≡ frames_text frames ++ rest
  pub each : All IsFrame frames
  pub left : BeginsFrame rest → ⊥
