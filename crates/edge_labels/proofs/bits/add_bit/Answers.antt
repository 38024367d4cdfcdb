use Rattle.std.proofs.Common.{◌||◌, ◌∙◌, Bool, eqb, ap, refl, arith, rules}
use Rattle.edge_labels.proofs.BitsLemmas.{changed-bits}
use Rattle.edge_labels.proofs.bits.add_bit.Goals as goal

pub returns-clause-ok : goal.returns-clause-ok
returns-clause-ok c = λ b.
    changed-bits _ _ c.reach.new.chunks _ c.args.a _ (λ (t old : Bool). t || old) (λ b. refl) (omega (arith, c.in_ok-reach.ensures.many)) c.in_ok-change.ensures.changed (λ x y r. search rules) b
    ∙ ap (λ t. eqb b c.args.a || t) (c.reach.ensures.bits b)
