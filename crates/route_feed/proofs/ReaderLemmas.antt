-- What a reader's answers say of the feed's bytes.
use Rattle.std.proofs.Common.{◌≡◌, ℕ, ◌+◌, ◌-◌, ◌<◌, ◌≤◌, true, false, nat_lt, List, ◌++◌, length, take, Option, None, Some, refl, ap, sym, ◌∙◌, arith, length-append, append_assoc}
use Rattle.std.specs.List.{All}
use Rattle.std.proofs.Math.Seq.{take-append-add, take-append_seam}
use Rattle.std.proofs.lemmas.Bool.Decides.{nat_tests}
use Rattle.std.proofs.lemmas.List.{take_all}
use Rattle.dn_io.specs.Told.{with_front}
use Rattle.feed_model.specs.Feed.{AreSteps, IsReading, ending}
use Rattle.feed_model.specs.Frames.{Frame, IsFrame, IsFrameFront, FrameRest, NoRest, CutFrame, frames_text, rest_kind, lost_cause}
use Rattle.feed_model.specs.Steps.{FrameStep}
use Rattle.base.specs.declared.ids.RouterId.{RouterId}
use Rattle.dn_model.specs.declared.topology.Topology.{Topology}
use Rattle.feed_model.specs.declared.feed_told.FeedTold.{FeedTold}
use Rattle.feed_model.specs.declared.feed_told.FeedEnd.{FeedEnd}
use Rattle.feed_model.specs.declared.feed_told.FeedEnd.TheVariants as ends
use Rattle.feed_model.proofs.FeedLemmas.{lost_ending}
use Rattle.feed_model.proofs.FramesLemmas.{front-not_frame, front-not_lost, lost-not_frame, lost-stays}
use Rattle.route_feed.specs.FeedReader.{Reader, told_so_far, told_at_end}
use Rattle.route_feed.specs.Intake.{Inflow}

-- the reader of this intake, which tells this and has looked these tables up
abbrev pub reader_of : {S : Type 0} → Inflow S → FeedTold → List ℕ → Reader S
reader_of i told tables = record {
  source = i.source;
  limit = i.limit;
  passed = i.passed;
  held = i.held ++ i.pending;
  told = told;
  tables = tables;
}

front_of_front : (xs ys : List ℕ) (o : Option (List ℕ)) → with_front (xs ++ ys) o ≡ with_front xs (with_front ys o)
front_of_front xs ys None = refl
front_of_front xs ys (Some zs) = ap Some (append_assoc xs ys zs)

-- what stands before more of a frame's front is a frame's front
pub front_before : (xs ys : List ℕ) → IsFrameFront (xs ++ ys) → IsFrameFront xs
front_before xs ys (f, more, fits, some, e) =
    (f, ys ++ more, fits, omega (arith, length-append ys more), sym (append_assoc xs ys more) ∙ e)

-- what is told to be all bytes is all bytes
pub told_rest : (bytes front : List ℕ) (left : Option (List ℕ)) → Some bytes ≡ with_front front left → (rest : List ℕ) × (left ≡ Some rest) × (bytes ≡ front ++ rest)
told_rest bytes front None e = cc
told_rest bytes front (Some rest) e = (rest, refl, cc)

-- the bytes are those of the frames, then those held and pending, then those left
pub now_whole : (bytes ft : List ℕ) (held pending : List ℕ) (before after all : Option (List ℕ)) (more : List ℕ) →
    Some bytes ≡ with_front (ft ++ more) before → with_front (held ++ pending) after ≡ with_front more before → Some bytes ≡ with_front (ft ++ (held ++ pending)) after
now_whole bytes ft held pending before after all more e k =
    e ∙ front_of_front ft more before ∙ ap (with_front ft) (sym k) ∙ sym (front_of_front ft (held ++ pending) after)

-- what was told with an end is what is told at that end
pub told_end : (told : FeedTold) (steps : List FrameStep) (end : FeedEnd) → told ≡ told_so_far told.feed_no told.router steps →
    record told { end = Some end } ≡ told_at_end told.feed_no told.router steps end
told_end told steps end e = ap (λ (x : FeedTold). record x { end = Some end }) e

not_longer : (limit n : ℕ) → n ≤ limit → nat_lt limit n ≡ false
not_longer limit n h = grind (arith, nat_tests)

is_longer : (limit n : ℕ) → limit < n → nat_lt limit n ≡ true
is_longer limit n h = grind (arith, nat_tests)

-- a feed with nothing left
pub reading_whole : (t : Topology) (r : RouterId) (bytes held : List ℕ) (limit : ℕ) (frames : List Frame) (steps : List FrameStep) (end : FeedEnd) →
    All IsFrame frames → AreSteps t r 0 frames steps → bytes ≡ frames_text frames ++ held → length bytes ≤ limit → IsFrameFront held →
    end ≡ ending (rest_kind held) (length (frames_text frames)) false → IsReading t r bytes limit steps end
reading_whole t r bytes held limit frames steps end each come e short front is =
    let all : take limit bytes ≡ bytes = take_all limit bytes short in
    record {
      frames = frames;
      rest = held;
      cut = record { whole = all ∙ e; each = each; left = front-not_frame held front };
      come_to = come;
      ends = is ∙ ap (ending (rest_kind held) (length (frames_text frames))) (sym (not_longer limit (length bytes) short));
    }

take_past : (xs ys : List ℕ) (limit : ℕ) → length xs ≤ limit → take limit (xs ++ ys) ≡ xs ++ take (limit - length xs) ys
take_past xs ys limit h =
    let n : length xs + (limit - length xs) ≡ limit = omega arith in
    ap (λ k. take k (xs ++ ys)) (sym n) ∙ take-append-add xs ys (limit - length xs)

-- a feed that lost its framing
pub reading_lost : (t : Topology) (r : RouterId) (bytes held rest : List ℕ) (limit cause : ℕ) (frames : List Frame) (steps : List FrameStep) →
    All IsFrame frames → AreSteps t r 0 frames steps → bytes ≡ frames_text frames ++ held ++ rest → length (frames_text frames ++ held) ≤ limit →
    lost_cause (rest_kind held) ≡ Some cause → IsReading t r bytes limit steps (ends.Lost (length (frames_text frames)) cause)
reading_lost t r bytes held rest limit cause frames steps each come e within lost =
    let more : List ℕ = take (limit - length (frames_text frames ++ held)) rest in
    let front : take limit bytes ≡ frames_text frames ++ (held ++ more) =
    ap (take limit) e ∙ take_past (frames_text frames ++ held) rest limit within ∙ append_assoc (frames_text frames) held more in
    let still : lost_cause (rest_kind (held ++ more)) ≡ Some cause = ap lost_cause (lost-stays held more cause lost) ∙ lost in
    record {
      frames = frames;
      rest = held ++ more;
      cut = record { whole = front; each = each; left = lost-not_frame (held ++ more) cause still };
      come_to = come;
      ends = lost_ending (rest_kind (held ++ more)) cause (length (frames_text frames)) (nat_lt limit (length bytes)) still;
    }

too_long : (k : FrameRest) (o : ℕ) → lost_cause k ≡ None → ends.TooLong ≡ ending k o true
too_long NoRest o e = refl
too_long CutFrame o e = refl
too_long _ o e = cc

-- a feed that goes on past its limit
pub reading_long : (t : Topology) (r : RouterId) (bytes held rest : List ℕ) (limit : ℕ) (frames : List Frame) (steps : List FrameStep) →
    All IsFrame frames → AreSteps t r 0 frames steps → bytes ≡ frames_text frames ++ held ++ rest → length (frames_text frames ++ held) ≡ limit →
    0 < length rest → IsFrameFront held → IsReading t r bytes limit steps ends.TooLong
reading_long t r bytes held rest limit frames steps each come e at some front =
    let whole : take limit bytes ≡ frames_text frames ++ held =
    ap (take limit) e ∙ ap (λ n. take n (frames_text frames ++ held ++ rest)) (sym at) ∙ take-append_seam (frames_text frames ++ held) rest in
    let count : length bytes ≡ limit + length rest = ap length e ∙ length-append (frames_text frames ++ held) rest ∙ ap (λ n. n + length rest) at in
    let longer : nat_lt limit (length bytes) ≡ true = is_longer limit (length bytes) (omega arith) in
    record {
      frames = frames;
      rest = held;
      cut = record { whole = whole; each = each; left = front-not_frame held front };
      come_to = come;
      ends = too_long (rest_kind held) (length (frames_text frames)) (front-not_lost held front)
          ∙ ap (ending (rest_kind held) (length (frames_text frames))) (sym longer);
    }
