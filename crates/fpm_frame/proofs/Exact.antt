-- What `next` answers is determined by what is held.
use Rattle.std.proofs.Common.{◌≡◌, ℕ, ◌↔◌, List, None}
use Rattle.feed_model.specs.Frames.{Frame, BeginsFrame, IsFrameFront, rest_kind, lost_cause}
use Rattle.feed_model.proofs.FramesLemmas.{front-not_frame, front-not_lost, lost-not_frame}
use Rattle.fpm_frame.specs.Held.{Held}
use Rattle.fpm_frame.specs.Answers.{HoldsFrame, AnswersNext, LosesFraming, IsFrameThere, IsMoreWanted, IsFramingLost}
use Rattle.fpm_frame.specs.declared.cutter.Next.{Next}
use Rattle.fpm_frame.specs.declared.cutter.Next.TheVariants as next

begins_by : (held : List ℕ) (f : Frame) → HoldsFrame held f → BeginsFrame held
begins_by held f h = (f, h.begins.0, h.fits, h.begins.1)

front-not_losing : (held : List ℕ) → IsFrameFront held → LosesFraming held → ⊥
front-not_losing held front (cause, lost) = let none : lost_cause (rest_kind held) ≡ None = front-not_lost held front in cc

pub exact-frame : (c : Held) (r : Next) → AnswersNext c r → IsFrameThere r ↔ BeginsFrame c.held
exact-frame c (next.Frame offset kind payload) a = ((λ _. begins_by c.held _ a.1), (λ _. tt))
exact-frame c next.More a = ((λ h. absurd h), (λ h. front-not_frame c.held a h))
exact-frame c (next.Lost offset cause) a = ((λ h. absurd h), (λ h. lost-not_frame c.held cause a.1 h))

pub exact-more : (c : Held) (r : Next) → AnswersNext c r → IsMoreWanted r ↔ IsFrameFront c.held
exact-more c (next.Frame offset kind payload) a = ((λ h. absurd h), (λ h. front-not_frame c.held h (begins_by c.held _ a.1)))
exact-more c next.More a = ((λ _. a), (λ _. tt))
exact-more c (next.Lost offset cause) a = ((λ h. absurd h), (λ h. front-not_losing c.held h (cause, a.1)))

pub exact-lost : (c : Held) (r : Next) → AnswersNext c r → IsFramingLost r ↔ LosesFraming c.held
exact-lost c (next.Frame offset kind payload) a = ((λ h. absurd h), (λ (cause, lost). lost-not_frame c.held cause lost (begins_by c.held _ a.1)))
exact-lost c next.More a = ((λ h. absurd h), (λ h. front-not_losing c.held a h))
exact-lost c (next.Lost offset cause) a = ((λ _. (cause, a.1)), (λ _. tt))
