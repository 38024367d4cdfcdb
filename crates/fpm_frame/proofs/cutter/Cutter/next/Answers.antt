-- The answer to the bytes held is determined by them.
use Rattle.std.proofs.Common.{◌↔◌, subst, ℕ, List}
use Rattle.feed_model.specs.Frames.{BeginsFrame, IsFrameFront}
use Rattle.fpm_frame.specs.Answers.{IsFrameThere, IsMoreWanted, IsFramingLost, LosesFraming}
use Rattle.fpm_frame.proofs.Exact.{exact-frame, exact-more, exact-lost}
use Rattle.fpm_frame.proofs.cutter.Cutter.next.Goals as goal

pub returns-clause-frame : goal.returns-clause-frame
returns-clause-frame c =
    let exact : List ℕ → Type 0 = λ held. IsFrameThere c.front.result ↔ BeginsFrame held in
    subst exact c.held.ensures (exact-frame _ c.front.result c.front.ensures)

pub returns-clause-more : goal.returns-clause-more
returns-clause-more c =
    let exact : List ℕ → Type 0 = λ held. IsMoreWanted c.front.result ↔ IsFrameFront held in
    subst exact c.held.ensures (exact-more _ c.front.result c.front.ensures)

pub returns-clause-lost : goal.returns-clause-lost
returns-clause-lost c =
    let exact : List ℕ → Type 0 = λ held. IsFramingLost c.front.result ↔ LosesFraming held in
    subst exact c.held.ensures (exact-lost _ c.front.result c.front.ensures)
