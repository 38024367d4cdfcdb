-- The lengths that the header says and that are there.
use Rattle.std.proofs.Common.{◌≡◌, ◌-◌, ◌+◌, ◌*◌, ℕ, List, [], ◌∷◌, ◌++◌, take, drop, refl, arith}
use Rattle.std.specs.Int.{w16, from_be_bytes}
use Rattle.feed_model.specs.Frames.{Frame, frame_text, IsFrame}
use Rattle.fpm_frame.specs.Answers.{HoldsFrame}
use Rattle.feed_model.proofs.FramesLemmas.{cut_frame, whole_frame}
use Rattle.fpm_frame.proofs.cutter.framed.Goals as goal

holds_by : (kind high low : ℕ) (bytes : List ℕ) →
    (let f : Frame = record { kind = kind; payload = take (from_be_bytes w16 (high ∷ low ∷ []) - 4) bytes } in
    IsFrame f × (1 ∷ kind ∷ high ∷ low ∷ bytes ≡ frame_text f ++ drop (from_be_bytes w16 (high ∷ low ∷ []) - 4) bytes)) →
    HoldsFrame (1 ∷ kind ∷ high ∷ low ∷ bytes) (record { kind = kind; payload = take (high * 256 + low - 4) bytes })
holds_by kind high low bytes whole = record { fits = whole.0; begins = (drop (high * 256 + low - 4) bytes, whole.1) }

pub returns-then-bytes-length : goal.returns-then-bytes-length
returns-then-bytes-length c = cut_frame c.args.kind c.args.high c.args.low c.args.bytes.now (omega arith) (omega arith) (omega arith) (omega arith)

pub returns-else-bytes-length : goal.returns-else-bytes-length
returns-else-bytes-length c =
    let says : c.from_be_bytes-length.result ≡ c.args.high * 256 + c.args.low = c.from_be_bytes-length.ensures in
    rw says (
      refl,
      holds_by c.args.kind c.args.high c.args.low c.args.bytes.now
          (whole_frame c.args.kind c.args.high c.args.low c.args.bytes.now (omega arith) (omega arith) (omega arith) (omega arith) (omega arith)),
    )
