-- What the answers of `next_frame` say of a feed's bytes, from what its intake did.
use Rattle.std.proofs.Common.{◌≡◌, ℕ, ◌+◌, ◌<◌, ◌≤◌, false, List, [], ◌∷◌, ◌++◌, length, map, sum, Option, None, Some, Result, Ok, Err, refl, ap, sym, ◌∙◌, subst, arith, length-append, append_assoc, add-zero}
use Rattle.std.specs.List.{All}
use Rattle.std.specs.Result.{IsErr}
use Rattle.std.proofs.lemmas.Bool.{false≢true}
use Rattle.std.proofs.lemmas.Grind.{flat_map-append}
use Rattle.std.proofs.lemmas.List.{append-nil}
use Rattle.std.proofs.lemmas.List.Sums.{sum-map, sum_by-append}
use Rattle.std.proofs.lemmas.List.Elements.{All-append, All-nil, All-cons}
use Rattle.dn_io.specs.Told.{with_front, NothingLeft}
use Rattle.feed_model.specs.Feed.{AreSteps, IsStep, IsStepBy, IsReading, ending, tables_of}
use Rattle.feed_model.specs.Frames.{Frame, IsFrame, IsFrameFront, frame_text, frames_text, rest_kind, lost_cause}
use Rattle.feed_model.specs.Steps.{FrameStep, Accepted, Refused, updates, refusals, skipped_of, ops_of, refused_of}
use Rattle.base.specs.declared.ids.RouterId.{RouterId}
use Rattle.dn_model.specs.declared.topology.Topology.{Topology}
use Rattle.dn_model.specs.declared.entry.Op.{Op}
use Rattle.feed_model.specs.declared.feed_told.FeedTold.{FeedTold}
use Rattle.feed_model.specs.declared.feed_told.RefusedFrame.{RefusedFrame}
use Rattle.feed_model.specs.declared.feed_told.FeedEnd.{FeedEnd}
use Rattle.feed_model.specs.declared.feed_told.FeedEnd.TheVariants as ends
use Rattle.base.specs.declared.memory.OutOfMemory.{OutOfMemory}
use Rattle.feed_model.proofs.FeedLemmas.{steps_push, is_kept}
use Rattle.feed_model.proofs.FramesLemmas.{front-not_frame, front-not_lost, frames_text-push}
use Rattle.route_feed.specs.FeedReader.{Reader, IsAt, HasEnded, HasFaulted, IsAnswered, IsOutcome, KnowsTables, told_so_far, told_after, end_of}
use Rattle.route_feed.specs.FrameStep.{Hands, HandsTo}
use Rattle.route_feed.specs.Intake.{Inflow, Keeps, LeadsToEnd, FillsOk, taken}
use Rattle.route_feed.specs.declared.feed_step.FeedStep.{FeedStep}
use Rattle.route_feed.specs.declared.feed_step.FeedStep.TheVariants as answers
use Rattle.route_feed.proofs.ReaderLemmas.{reader_of, told_rest, now_whole, told_end, reading_whole, reading_lost, reading_long}

-- where a reader stands after its intake read on: the frames handed out, the bytes after them, and what is left
record Stands {S : Type 0} (t : Topology) (told : FeedTold) (j : Inflow S) (after : Option (List ℕ)) (bytes : List ℕ) (steps : List FrameStep) : Type 0 where
  frames : List Frame
  each : All IsFrame frames
  come_to : AreSteps t told.router 0 frames steps
  passed : j.passed ≡ length (frames_text frames)
  whole : Some bytes ≡ with_front (frames_text frames ++ (j.held ++ j.pending)) after
  rest : List ℕ
  left : after ≡ Some rest
  bytes_are : bytes ≡ frames_text frames ++ (j.held ++ j.pending) ++ rest
  counted : told ≡ told_so_far told.feed_no told.router steps

stands : {S : Type 0} (t : Topology) (tables : List ℕ) (told : FeedTold) (i j : Inflow S) (before after : Option (List ℕ)) (bytes : List ℕ) (steps : List FrameStep) →
    Keeps i j before after → IsAt t (reader_of i told tables) before bytes steps → Stands t told j after bytes steps
stands t tables told i j before after bytes steps k a =
    let whole : Some bytes ≡ with_front (frames_text a.frames ++ (j.held ++ j.pending)) after =
    now_whole bytes (frames_text a.frames) j.held j.pending before after after (i.held ++ i.pending) a.whole k.bytes in
    let split : (rest : List ℕ) × (after ≡ Some rest) × (bytes ≡ frames_text a.frames ++ (j.held ++ j.pending) ++ rest) =
    told_rest bytes (frames_text a.frames ++ (j.held ++ j.pending)) after whole in
    record {
      frames = a.frames;
      each = a.each;
      come_to = a.come_to;
      passed = k.passed ∙ a.passed;
      whole = whole;
      rest = split.0;
      left = split.1;
      bytes_are = split.2;
      counted = a.counted;
    }

-- how many bytes were read
read_so_far : (ft held pending : List ℕ) → length (ft ++ (held ++ pending)) ≡ length ft + length held + length pending
read_so_far ft held pending = omega (arith, length-append ft (held ++ pending), length-append held pending)

nothing_pending : (ft held pending rest : List ℕ) → pending ≡ [] → ft ++ (held ++ pending) ++ rest ≡ ft ++ held ++ rest
nothing_pending ft held pending rest p = ap (λ x. ft ++ (held ++ x) ++ rest) p ∙ ap (λ x. ft ++ x ++ rest) (append-nil held)

nothing_more : (ft held pending rest : List ℕ) → pending ≡ [] → rest ≡ [] → ft ++ (held ++ pending) ++ rest ≡ ft ++ held
nothing_more ft held pending rest p z =
    nothing_pending ft held pending rest p ∙ ap (λ x. ft ++ held ++ x) z ∙ append-nil (ft ++ held)

-- the parts of an end that every end has
ended_with : {S : Type 0} (t : Topology) (tables : List ℕ) (told : FeedTold) (j : Inflow S) (after : Option (List ℕ)) (bytes : List ℕ) (steps : List FrameStep) (end : FeedEnd) →
    Stands t told j after bytes steps → taken j ≤ j.limit + 1 → IsReading t told.router bytes j.limit steps end →
    HasEnded t (reader_of j (record told { end = Some end }) tables) after bytes steps end
ended_with t tables told j after bytes steps end s within reading = record {
  reading = reading;
  counted = told_end told steps end s.counted;
  read = (
    frames_text s.frames ++ (j.held ++ j.pending),
    (let p : j.passed ≡ length (frames_text s.frames) = s.passed in omega (arith, read_so_far (frames_text s.frames) j.held j.pending)),
    s.whole,
  );
}

none_left : (after : Option (List ℕ)) (rest : List ℕ) → after ≡ Some rest → NothingLeft after → rest ≡ []
none_left None rest e n = cc
none_left (Some x) rest e n = let same : x ≡ rest = cc in sym same ∙ n

ended_whole : {S : Type 0} (t : Topology) (tables : List ℕ) (told : FeedTold) (j : Inflow S) (after : Option (List ℕ)) (bytes : List ℕ) (steps : List FrameStep) (end : FeedEnd) →
    Stands t told j after bytes steps → taken j ≤ j.limit → j.pending ≡ [] → IsFrameFront j.held → NothingLeft after →
    end ≡ ending (rest_kind j.held) j.passed false → HasEnded t (reader_of j (record told { end = Some end }) tables) after bytes steps end × NothingLeft after
ended_whole t tables told j after bytes steps end s within fed front nothing is =
    let rest_none : s.rest ≡ [] = none_left after s.rest s.left nothing in
    let all : bytes ≡ frames_text s.frames ++ j.held = s.bytes_are ∙ nothing_more (frames_text s.frames) j.held j.pending s.rest fed rest_none in
    let p : j.passed ≡ length (frames_text s.frames) = s.passed in
    let count : length bytes ≡ length (frames_text s.frames) + length j.held = ap length all ∙ length-append (frames_text s.frames) j.held in
    let none : length j.pending ≡ 0 = ap length fed in
    let short : length bytes ≤ j.limit = omega arith in (
      ended_with t tables told j after bytes steps end s (omega arith)
          (reading_whole t told.router bytes j.held j.limit s.frames steps end s.each s.come_to all short front (is ∙ ap (λ n. ending (rest_kind j.held) n false) p)),
      nothing,
    )

ended_lost : {S : Type 0} (t : Topology) (tables : List ℕ) (told : FeedTold) (j : Inflow S) (after : Option (List ℕ)) (bytes : List ℕ) (steps : List FrameStep) (cause : ℕ) →
    Stands t told j after bytes steps → taken j ≤ j.limit → j.pending ≡ [] → lost_cause (rest_kind j.held) ≡ Some cause →
    HasEnded t (reader_of j (record told { end = Some (ends.Lost j.passed cause) }) tables) after bytes steps (ends.Lost j.passed cause)
ended_lost t tables told j after bytes steps cause s within fed lost =
    let all : bytes ≡ frames_text s.frames ++ j.held ++ s.rest = s.bytes_are ∙ nothing_pending (frames_text s.frames) j.held j.pending s.rest fed in
    let p : j.passed ≡ length (frames_text s.frames) = s.passed in
    let count : length (frames_text s.frames ++ j.held) ≡ length (frames_text s.frames) + length j.held = length-append (frames_text s.frames) j.held in
    let short : length (frames_text s.frames ++ j.held) ≤ j.limit = omega arith in
    ended_with t tables told j after bytes steps (ends.Lost j.passed cause) s (omega arith)
    (subst (λ (n : ℕ). IsReading t told.router bytes j.limit steps (ends.Lost n cause)) (sym p)
    (reading_lost t told.router bytes j.held s.rest j.limit cause s.frames steps s.each s.come_to all short lost))

ended_long : {S : Type 0} (t : Topology) (tables : List ℕ) (told : FeedTold) (j : Inflow S) (after : Option (List ℕ)) (bytes : List ℕ) (steps : List FrameStep) →
    Stands t told j after bytes steps → j.passed + length j.held ≡ j.limit → length j.pending ≡ 1 → IsFrameFront j.held →
    HasEnded t (reader_of j (record told { end = Some ends.TooLong }) tables) after bytes steps ends.TooLong
ended_long t tables told j after bytes steps s at one front =
    let ft : List ℕ = frames_text s.frames in
    let all : bytes ≡ ft ++ j.held ++ (j.pending ++ s.rest) =
    s.bytes_are ∙ ap (λ x. x ++ s.rest) (sym (append_assoc ft j.held j.pending)) ∙ append_assoc (ft ++ j.held) j.pending s.rest in
    let p : j.passed ≡ length ft = s.passed in
    let count : length (ft ++ j.held) ≡ length ft + length j.held = length-append ft j.held in
    let more : length (j.pending ++ s.rest) ≡ length j.pending + length s.rest = length-append j.pending s.rest in
    let exact : length (ft ++ j.held) ≡ j.limit = omega arith in
    let some : 0 < length (j.pending ++ s.rest) = omega arith in
    ended_with t tables told j after bytes steps ends.TooLong s (omega arith)
    (reading_long t told.router bytes j.held (j.pending ++ s.rest) j.limit s.frames steps s.each s.come_to all exact some front)

ended_fault : {S : Type 0} (t : Topology) (tables : List ℕ) (told : FeedTold) (j : Inflow S) (after : Option (List ℕ)) (bytes : List ℕ) (steps : List FrameStep) →
    Stands t told j after bytes steps → taken j ≤ j.limit → j.pending ≡ [] → IsFrameFront j.held →
    HasFaulted t (reader_of j (record told { end = Some ends.Faulted }) tables) after bytes steps
ended_fault t tables told j after bytes steps s within fed front =
    let ft : List ℕ = frames_text s.frames in
    let p : j.passed ≡ length ft = s.passed in
    let count : length (ft ++ j.held) ≡ length ft + length j.held = length-append ft j.held in
    let same : ft ++ (j.held ++ j.pending) ≡ ft ++ j.held = ap (λ x. ft ++ (j.held ++ x)) fed ∙ ap (λ x. ft ++ x) (append-nil j.held) in
    record {
      front = ft ++ j.held;
      reading = record {
        frames = s.frames;
        rest = j.held;
        cut = record { whole = refl; each = s.each; left = front-not_frame j.held front };
        come_to = s.come_to;
        kept = is_kept (rest_kind j.held) (front-not_lost j.held front);
      };
      counted = told_end told steps ends.Faulted s.counted;
      within = omega arith;
      whole = s.whole ∙ ap (λ x. with_front x after) same;
    }

-- each end, by what the intake found
at_end : {S : Type 0} (t : Topology) (tables : List ℕ) (told : FeedTold) (j : Inflow S) (step : FeedStep) (end : FeedEnd) (after : Option (List ℕ)) (f g : ℕ) (bytes : List ℕ) (steps : List FrameStep) →
    Stands t told j after bytes steps → LeadsToEnd end j after f g → end_of step ≡ Some end →
    IsAnswered t step (reader_of j (record told { end = Some end }) tables) after bytes steps
at_end t tables told j (answers.Ops ops n) end after f g bytes steps s h e = cc
at_end t tables told j (answers.Refused o m c) end after f g bytes steps s h e = cc
at_end t tables told j answers.End end after f g bytes steps s h e =
    let same : ends.End ≡ end = cc in
    let l = subst (λ (x : FeedEnd). LeadsToEnd x j after f g) (sym same) h in
    subst (λ (x : FeedEnd). IsAnswered t answers.End (reader_of j (record told { end = Some x }) tables) after bytes steps) same
    (ended_whole t tables told j after bytes steps ends.End s l.1 l.2 l.4 l.5 (ap (λ k. ending k j.passed false) (sym l.3)))
at_end t tables told j (answers.CutShort o) end after f g bytes steps s h e =
    let same : ends.CutShort o ≡ end = cc in
    let l = subst (λ (x : FeedEnd). LeadsToEnd x j after f g) (sym same) h in
    subst (λ (x : FeedEnd). IsAnswered t (answers.CutShort o) (reader_of j (record told { end = Some x }) tables) after bytes steps) same
    (ended_whole t tables told j after bytes steps (ends.CutShort o) s l.1 l.2 l.4 l.5 (ap ends.CutShort l.6 ∙ ap (λ k. ending k j.passed false) (sym l.3)))
at_end t tables told j (answers.Lost o c) end after f g bytes steps s h e =
    let same : ends.Lost o c ≡ end = cc in
    let l = subst (λ (x : FeedEnd). LeadsToEnd x j after f g) (sym same) h in
    let where_ : ends.Lost j.passed c ≡ ends.Lost o c = ap (λ n. ends.Lost n c) (sym l.4) in
    subst (λ (x : FeedEnd). IsAnswered t (answers.Lost o c) (reader_of j (record told { end = Some x }) tables) after bytes steps) same
    (subst (λ (x : FeedEnd). HasEnded t (reader_of j (record told { end = Some x }) tables) after bytes steps x) where_
    (ended_lost t tables told j after bytes steps c s l.1 l.2 l.3))
at_end t tables told j answers.TooLong end after f g bytes steps s h e =
    let same : ends.TooLong ≡ end = cc in
    let l = subst (λ (x : FeedEnd). LeadsToEnd x j after f g) (sym same) h in
    subst (λ (x : FeedEnd). IsAnswered t answers.TooLong (reader_of j (record told { end = Some x }) tables) after bytes steps) same
    (ended_long t tables told j after bytes steps s l.1 l.2 l.3)
at_end t tables told j answers.Faulted end after f g bytes steps s h e =
    let same : ends.Faulted ≡ end = cc in
    let l = subst (λ (x : FeedEnd). LeadsToEnd x j after f g) (sym same) h in
    subst (λ (x : FeedEnd). IsAnswered t answers.Faulted (reader_of j (record told { end = Some x }) tables) after bytes steps) same
    (ended_fault t tables told j after bytes steps s l.1 l.2 l.3)

-- a reader that found an end answers and tells it
pub ended : {S : Type 0} (t : Topology) (tables : List ℕ) (i j : Inflow S) (told told_new : FeedTold) (step : FeedStep) (end : FeedEnd) (found : Option FeedEnd) (before after : Option (List ℕ)) (f g : ℕ) →
    Keeps i j before after → found ≡ Some end → FillsOk found j after f g → end_of step ≡ Some end → told_new ≡ record told { end = Some end } →
    (bytes : List ℕ) (steps : List FrameStep) → IsAt t (reader_of i told tables) before bytes steps → IsAnswered t step (reader_of j told_new tables) after bytes steps
ended t tables i j told told_new step end found before after f g k is fills e new bytes steps a =
    subst (λ (x : FeedTold). IsAnswered t step (reader_of j x tables) after bytes steps) (sym new)
    (at_end t tables told j step end after f g bytes steps (stands t tables told i j before after bytes steps k a)
    (subst (λ (x : Option FeedEnd). FillsOk x j after f g) is fills) e)

-- the messages passed over, with those of one more frame
sum_push : (steps : List FrameStep) (s : FrameStep) → sum (map skipped_of (steps ++ s ∷ [])) ≡ sum (map skipped_of steps) + skipped_of s
sum_push steps s =
    omega (arith, sum-map skipped_of (steps ++ s ∷ []), sum_by-append skipped_of steps (s ∷ []), sum-map skipped_of steps, sum-map skipped_of (s ∷ []))

-- what is told after one more accepted frame, and after one more refused one
told_ops : (n : ℕ) (r : RouterId) (steps : List FrameStep) (ops : List (RouterId × Op)) (skipped : ℕ) →
    told_after (told_so_far n r steps) (answers.Ops ops skipped) ≡ told_so_far n r (steps ++ Accepted ops skipped ∷ [])
told_ops n r steps ops skipped =
    let u : length (updates (steps ++ Accepted ops skipped ∷ [])) ≡ length (updates steps) + length ops =
    ap length (flat_map-append ops_of steps (Accepted ops skipped ∷ [])) ∙ length-append (updates steps) (ops ++ []) ∙ ap (λ xs. length (updates steps) + length xs) (append-nil ops) in
    let k : sum (map skipped_of (steps ++ Accepted ops skipped ∷ [])) ≡ sum (map skipped_of steps) + skipped = sum_push steps (Accepted ops skipped) in
    let q : refusals (steps ++ Accepted ops skipped ∷ []) ≡ refusals steps =
    flat_map-append refused_of steps (Accepted ops skipped ∷ []) ∙ append-nil (refusals steps) in
    rw (u, k, q) refl

told_refused : (n : ℕ) (r : RouterId) (steps : List FrameStep) (o m c : ℕ) →
    let refused : RefusedFrame = record { offset = o; at = m; cause = c } in
    told_after (told_so_far n r steps) (answers.Refused o m c) ≡ told_so_far n r (steps ++ Refused refused ∷ [])
told_refused n r steps o m c =
    let refused : RefusedFrame = record { offset = o; at = m; cause = c } in
    let u : length (updates (steps ++ Refused refused ∷ [])) ≡ length (updates steps) =
    ap length (flat_map-append ops_of steps (Refused refused ∷ []) ∙ append-nil (updates steps)) in
    let k : sum (map skipped_of (steps ++ Refused refused ∷ [])) ≡ sum (map skipped_of steps) + 0 = sum_push steps (Refused refused) in
    let q : refusals (steps ++ Refused refused ∷ []) ≡ refusals steps ++ refused ∷ [] = flat_map-append refused_of steps (Refused refused ∷ []) in
    rw (u, k, q, add-zero) refl

-- the reader after one more frame
one_more : {S : Type 0} (t : Topology) (tables : List ℕ) (told : FeedTold) (j k : Inflow S) (after : Option (List ℕ)) (bytes : List ℕ) (steps : List FrameStep) (frame : Frame) (s : FrameStep) (told_new : FeedTold) →
    Stands t told j after bytes steps → taken j ≤ j.limit → IsFrame frame → j.held ≡ frame_text frame ++ k.held → k.passed ≡ j.passed + length (frame_text frame) →
    k.limit ≡ j.limit → k.pending ≡ j.pending → tables ≡ tables_of t told.router → IsStepBy tables t told.router j.passed frame s →
    told_new.router ≡ told.router →
    told_new ≡ told_so_far told_new.feed_no told_new.router (steps ++ s ∷ []) →
    IsAt t (reader_of k told_new tables) after bytes (steps ++ s ∷ [])
one_more t tables told j k after bytes steps frame s told_new at within fits begins passed limit pending all comes router counted =
    let ft : List ℕ = frames_text at.frames in
    let pushed : frames_text (at.frames ++ frame ∷ []) ≡ ft ++ frame_text frame = frames_text-push at.frames frame in
    let p : j.passed ≡ length ft = at.passed in
    let start : IsStep t told.router (0 + length ft) frame s =
    subst (λ (n : ℕ). IsStep t told.router n frame s) (let q : j.passed ≡ 0 + length ft = omega arith in q)
    (subst (λ (ts : List ℕ). IsStepBy ts t told.router j.passed frame s) all comes) in
    let come : AreSteps t told.router 0 (at.frames ++ frame ∷ []) (steps ++ s ∷ []) = steps_push t told.router 0 at.frames steps frame s at.come_to start in
    let text : ft ++ (j.held ++ j.pending) ≡ frames_text (at.frames ++ frame ∷ []) ++ (k.held ++ k.pending) =
    ap (λ x. ft ++ (x ++ j.pending)) begins ∙ ap (λ x. ft ++ x) (append_assoc (frame_text frame) k.held j.pending)
    ∙ sym (append_assoc ft (frame_text frame) (k.held ++ j.pending)) ∙ ap (λ x. x ++ (k.held ++ j.pending)) (sym pushed)
    ∙ ap (λ x. frames_text (at.frames ++ frame ∷ []) ++ (k.held ++ x)) (sym pending) in
    let held : length j.held ≡ length (frame_text frame) + length k.held = ap length begins ∙ length-append (frame_text frame) k.held in
    let same_pending : length k.pending ≡ length j.pending = ap length pending in
    let more : length (k.held ++ k.pending) ≡ length k.held + length k.pending = length-append k.held k.pending in
    record {
      frames = at.frames ++ frame ∷ [];
      each = All-append IsFrame at.frames (frame ∷ []) at.each (All-cons IsFrame frame [] fits (All-nil IsFrame));
      come_to = subst (λ (r : RouterId). AreSteps t r 0 (at.frames ++ frame ∷ []) (steps ++ s ∷ [])) (sym router) come;
      passed = passed ∙ ap (λ n. n + length (frame_text frame)) p ∙ sym (ap length pushed ∙ length-append ft (frame_text frame));
      whole = at.whole ∙ ap (λ x. with_front x after) text;
      within = omega arith;
      counted = counted;
      knows = λ some. all ∙ ap (tables_of t) (sym router);
    }

-- the reader that handed nothing out
still : {S : Type 0} (t : Topology) (tables : List ℕ) (told : FeedTold) (j : Inflow S) (after : Option (List ℕ)) (bytes : List ℕ) (steps : List FrameStep) →
    Stands t told j after bytes steps → taken j ≤ j.limit → KnowsTables t told.router tables → IsAt t (reader_of j told tables) after bytes steps
still t tables told j after bytes steps at within knows = record {
  frames = at.frames;
  each = at.each;
  come_to = at.come_to;
  passed = at.passed;
  whole = at.whole;
  within = omega (arith, length-append j.held j.pending);
  counted = at.counted;
  knows = knows;
}

by_step : {S : Type 0} (t : Topology) (tables : List ℕ) (told told_new : FeedTold) (j k : Inflow S) (step : FeedStep) (after : Option (List ℕ)) (bytes : List ℕ) (steps : List FrameStep) →
    Stands t told j after bytes steps → taken j ≤ j.limit → tables ≡ tables_of t told.router → Hands tables t j k told told_new step → IsAnswered t step (reader_of k told_new tables) after bytes steps
by_step t tables told told_new j k (answers.Ops ops n) after bytes steps at within all h =
    let count : told_after told (answers.Ops ops n) ≡ told_so_far told.feed_no told.router (steps ++ Accepted ops n ∷ []) =
    ap (λ (x : FeedTold). told_after x (answers.Ops ops n)) at.counted ∙ told_ops told.feed_no told.router steps ops n in
    subst (λ (x : FeedTold). IsAt t (reader_of k x tables) after bytes (steps ++ Accepted ops n ∷ [])) (sym h.told)
    (one_more t tables told j k after bytes steps h.frame (Accepted ops n) (told_after told (answers.Ops ops n)) at within h.fits h.begins h.passed h.limit h.pending all h.comes_to refl count)
by_step t tables told told_new j k (answers.Refused o m c) after bytes steps at within all h =
    let count : told_after told (answers.Refused o m c) ≡ told_so_far told.feed_no told.router (steps ++ Refused (record { offset = o; at = m; cause = c }) ∷ []) =
    ap (λ (x : FeedTold). told_after x (answers.Refused o m c)) at.counted ∙ told_refused told.feed_no told.router steps o m c in
    subst (λ (x : FeedTold). IsAt t (reader_of k x tables) after bytes (steps ++ Refused (record { offset = o; at = m; cause = c }) ∷ [])) (sym h.told)
    (one_more t tables told j k after bytes steps h.frame (Refused (record { offset = o; at = m; cause = c })) (told_after told (answers.Refused o m c)) at within h.fits h.begins h.passed h.limit h.pending all h.comes_to refl count)
by_step t tables told told_new j k answers.End after bytes steps at within all h = absurd h.comes_to
by_step t tables told told_new j k (answers.CutShort o) after bytes steps at within all h = absurd h.comes_to
by_step t tables told told_new j k (answers.Lost o c) after bytes steps at within all h = absurd h.comes_to
by_step t tables told told_new j k answers.TooLong after bytes steps at within all h = absurd h.comes_to
by_step t tables told told_new j k answers.Faulted after bytes steps at within all h = absurd h.comes_to

by_result : {S : Type 0} (t : Topology) (tables : List ℕ) (told told_new : FeedTold) (j k : Inflow S) (left : S → Option (List ℕ)) (r : Result FeedStep OutOfMemory) (bytes : List ℕ) (steps : List FrameStep) →
    Stands t told j (left j.source) bytes steps → taken j ≤ j.limit → tables ≡ tables_of t told.router → HandsTo tables t r j k told told_new → IsOutcome t r (reader_of k told_new tables) (left k.source) bytes steps
by_result t tables told told_new j k left (Ok step) bytes steps at within all h =
    subst (λ (o : Option (List ℕ)). IsAnswered t step (reader_of k told_new tables) o bytes steps) (ap left (sym h.source))
    (by_step t tables told told_new j k step (left j.source) bytes steps at within all h)
by_result {S} t tables told told_new j k left (Err e) bytes steps at within all h =
    subst (λ (x : FeedTold). IsAt t (reader_of k x tables) (left k.source) bytes steps) (sym h.1)
    (subst (λ (x : Inflow S). IsAt t (reader_of x told tables) (left x.source) bytes steps) (sym h.0)
    (still t tables told j (left j.source) bytes steps at within (λ some. all)))

-- a reader that held a whole frame, and then knew its device's tables, hands it out
pub handed : {S : Type 0} (t : Topology) (before tables : List ℕ) (i j k : Inflow S) (told told_new : FeedTold) (left : S → Option (List ℕ)) (r : Result FeedStep OutOfMemory) (found : Option FeedEnd) (f g : ℕ) →
    Keeps i j (left i.source) (left j.source) → found ≡ None → FillsOk found j (left j.source) f g →
    (KnowsTables t told.router before → tables ≡ tables_of t told.router) → HandsTo tables t r j k told told_new →
    (bytes : List ℕ) (steps : List FrameStep) → IsAt t (reader_of i told before) (left i.source) bytes steps → IsOutcome t r (reader_of k told_new tables) (left k.source) bytes steps
handed t before tables i j k told told_new left r found f g keep is fills known h bytes steps a =
    let whole = subst (λ (x : Option FeedEnd). FillsOk x j (left j.source) f g) is fills in
    by_result t tables told told_new j k left r bytes steps (stands t before told i j (left i.source) (left j.source) bytes steps keep a) whole.1 (known a.knows) h

outcome-err : {S : Type 0} (t : Topology) (r : Result FeedStep OutOfMemory) (reader : Reader S) (left : Option (List ℕ)) (bytes : List ℕ) (steps : List FrameStep) →
    IsErr r → IsAt t reader left bytes steps → IsOutcome t r reader left bytes steps
outcome-err t (Ok step) reader left bytes steps is at = absurd (false≢true is)
outcome-err t (Err e) reader left bytes steps is at = at

-- a reader that held a whole frame, and then wanted memory for its device's tables, stands where it was
pub wanting : {S : Type 0} (t : Topology) (old new : List ℕ) (i j : Inflow S) (told : FeedTold) (r : Result FeedStep OutOfMemory) (found : Option FeedEnd) (before after : Option (List ℕ)) (f g : ℕ) →
    Keeps i j before after → found ≡ None → FillsOk found j after f g → new ≡ old → IsErr r →
    (bytes : List ℕ) (steps : List FrameStep) → IsAt t (reader_of i told old) before bytes steps → IsOutcome t r (reader_of j told new) after bytes steps
wanting t old new i j told r found before after f g keep is fills same err bytes steps a =
    let whole = subst (λ (x : Option FeedEnd). FillsOk x j after f g) is fills in
    outcome-err t r (reader_of j told new) after bytes steps err
    (subst (λ (tables : List ℕ). IsAt t (reader_of j told tables) after bytes steps) (sym same)
    (still t old told j after bytes steps (stands t old told i j before after bytes steps keep a) whole.1 a.knows))
