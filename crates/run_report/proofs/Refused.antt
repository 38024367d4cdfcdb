-- The line of a refused frame, added piece by piece.
use Rattle.std.proofs.Common.{◌≡◌, ℕ, List, ◌++◌, codes, decimal, ap, ◌∙◌, append_assoc}
use Rattle.feed_model.specs.FrameCauses.{cause_text}
use Rattle.dn_formats.specs.Report.{refused_line}
use Rattle.feed_model.specs.declared.feed_told.RefusedFrame.{RefusedFrame}

regroup : (o a b c d e f g h i : List ℕ) → (((((o ++ (a ++ b)) ++ (c ++ d)) ++ (e ++ f)) ++ g) ++ h) ++ i ≡ o ++ ((((((((a ++ b) ++ c) ++ d) ++ e) ++ f) ++ g) ++ h) ++ i)
regroup o a b c d e f g h i = simp append_assoc

pub refused_added : (before p q r s t after : List ℕ) (at cause : ℕ) (frame : RefusedFrame) → at ≡ frame.at → cause ≡ frame.cause
    → p ≡ before ++ (codes "refused offset " ++ decimal frame.offset) → q ≡ p ++ (codes " message " ++ decimal at)
    → r ≡ q ++ (codes " cause " ++ decimal cause) → s ≡ r ++ codes " " → t ≡ s ++ cause_text frame.cause
    → after ≡ t ++ codes "\n" → after ≡ before ++ refused_line frame
refused_added before p q r s t after at cause frame is_at is_cause is_p is_q is_r is_s is_t is_after =
    is_after ∙ ap (λ (x : List ℕ). x ++ codes "\n") (is_t ∙ ap (λ (x : List ℕ). x ++ cause_text frame.cause) (is_s ∙ ap (λ (x : List ℕ). x ++ codes " ")
    (is_r ∙ ap (λ (n : ℕ). q ++ (codes " cause " ++ decimal n)) is_cause ∙ ap (λ (x : List ℕ). x ++ (codes " cause " ++ decimal frame.cause))
    (is_q ∙ ap (λ (n : ℕ). p ++ (codes " message " ++ decimal n)) is_at ∙ ap (λ (x : List ℕ). x ++ (codes " message " ++ decimal frame.at)) is_p))))
    ∙ regroup before (codes "refused offset ") (decimal frame.offset) (codes " message ") (decimal frame.at) (codes " cause ") (decimal frame.cause) (codes " ") (cause_text frame.cause) (codes "\n")
