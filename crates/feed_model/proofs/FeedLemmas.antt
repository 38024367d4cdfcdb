-- What frames come to, one after another: the steps of one more frame, and that the steps are determined.
use Rattle.std.proofs.Common.{◌≡◌, ℕ, ◌+◌, Bool, List, [], ◌∷◌, ◌++◌, length, take, None, Some, refl, ap, sym, ◌∙◌, subst, arith, length-append, add-zero, inl, inr}
use Rattle.feed_model.specs.Feed.{AreSteps, IsStep, step_of, IsReading, IsFaultedReading, IsKept, ending}
use Rattle.feed_model.specs.Frames.{Frame, FrameRest, NoRest, CutFrame, BadVersion, BadFrameLength, frame_text, frames_text, lost_cause}
use Rattle.feed_model.specs.Steps.{FrameStep}
use Rattle.base.specs.declared.ids.RouterId.{RouterId}
use Rattle.dn_model.specs.declared.topology.Topology.{Topology}
use Rattle.feed_model.specs.declared.feed_told.FeedEnd.{FeedEnd}
use Rattle.feed_model.specs.declared.feed_told.FeedEnd.TheVariants.{Lost}
use Rattle.feed_model.proofs.FramesLemmas.{Frames-same}

next_offset : (o : ℕ) (f : Frame) (fs : List Frame) → o + length (frames_text (f ∷ fs)) ≡ o + length (frame_text f) + length (frames_text fs)
next_offset o f fs = omega (arith, length-append (frame_text f) (frames_text fs))

-- one more frame, after those before it
pub steps_push : (t : Topology) (r : RouterId) (o : ℕ) (fs : List Frame) (ss : List FrameStep) (f : Frame) (s : FrameStep) →
    AreSteps t r o fs ss → IsStep t r (o + length (frames_text fs)) f s → AreSteps t r o (fs ++ f ∷ []) (ss ++ s ∷ [])
steps_push t r o [] [] f s all one = (subst (λ (n : ℕ). IsStep t r n f s) (add-zero o) one, tt)
steps_push t r o [] (x ∷ ss) f s all one = absurd all
steps_push t r o (g ∷ fs) [] f s all one = absurd all
steps_push t r o (g ∷ fs) (x ∷ ss) f s all one =
    (all.0, steps_push t r (o + length (frame_text g)) fs ss f s all.1 (subst (λ (n : ℕ). IsStep t r n f s) (next_offset o g fs) one))

-- a frame comes to one thing
step_once : (t : Topology) (r : RouterId) (o : ℕ) (f : Frame) (x y : FrameStep) → IsStep t r o f x → IsStep t r o f y → x ≡ y
step_once t r o f x y (inl a) (inl b) =
    a.comes_to ∙ ap (step_of t r o) (a.says ∙ sym b.says) ∙ sym b.comes_to
step_once t r o f x y (inl a) (inr b) = absurd (b.other a.netlink)
step_once t r o f x y (inr a) (inl b) = absurd (a.other b.netlink)
step_once t r o f x y (inr a) (inr b) = a.refused ∙ sym b.refused

-- frames come to one list of steps
pub steps_once : (t : Topology) (r : RouterId) (o : ℕ) (fs : List Frame) (xs ys : List FrameStep) → AreSteps t r o fs xs → AreSteps t r o fs ys → xs ≡ ys
steps_once t r o [] [] [] a b = refl
steps_once t r o [] (x ∷ xs) ys a b = absurd a
steps_once t r o [] [] (y ∷ ys) a b = absurd b
steps_once t r o (f ∷ fs) [] ys a b = absurd a
steps_once t r o (f ∷ fs) (x ∷ xs) [] a b = absurd b
steps_once t r o (f ∷ fs) (x ∷ xs) (y ∷ ys) a b =
    let first : x ≡ y = step_once t r o f x y a.0 b.0 in
    let rest : xs ≡ ys = steps_once t r (o + length (frame_text f)) fs xs ys a.1 b.1 in
    cc

-- a feed has one reading
pub reading_once : (t : Topology) (r : RouterId) (bytes : List ℕ) (limit : ℕ) (xs ys : List FrameStep) (e f : FeedEnd) →
    IsReading t r bytes limit xs e → IsReading t r bytes limit ys f → (xs ≡ ys) × (e ≡ f)
reading_once t r bytes limit xs ys e f a b =
    let same : (a.frames ≡ b.frames) × (a.rest ≡ b.rest) = Frames-same (take limit bytes) a.frames b.frames a.rest b.rest a.cut b.cut in
    let mine : AreSteps t r 0 b.frames xs = subst (λ (fs : List Frame). AreSteps t r 0 fs xs) same.0 a.come_to in
    (steps_once t r 0 b.frames xs ys mine b.come_to, a.ends ∙ rw (same.0, same.1) (sym b.ends))

-- a feed that failed has one reading
pub faulted_once : (t : Topology) (r : RouterId) (bytes : List ℕ) (xs ys : List FrameStep) → IsFaultedReading t r bytes xs → IsFaultedReading t r bytes ys → xs ≡ ys
faulted_once t r bytes xs ys a b =
    let same : (a.frames ≡ b.frames) × (a.rest ≡ b.rest) = Frames-same bytes a.frames b.frames a.rest b.rest a.cut b.cut in
    let mine : AreSteps t r 0 b.frames xs = subst (λ (fs : List Frame). AreSteps t r 0 fs xs) same.0 a.come_to in
    steps_once t r 0 b.frames xs ys mine b.come_to

-- a rest that loses the framing ends the feed, whatever follows
pub lost_ending : (k : FrameRest) (cause o : ℕ) (longer : Bool) → lost_cause k ≡ Some cause → Lost o cause ≡ ending k o longer
lost_ending NoRest cause o longer e = cc
lost_ending CutFrame cause o longer e = cc
lost_ending BadVersion cause o longer e = cc
lost_ending BadFrameLength cause o longer e = cc

pub is_kept : (k : FrameRest) → lost_cause k ≡ None → IsKept k
is_kept NoRest e = tt
is_kept CutFrame e = tt
is_kept BadVersion e = cc
is_kept BadFrameLength e = cc
