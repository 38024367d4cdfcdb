use Rattle.std.proofs.Common.{◌&&◌, not, Bool, refl, arith, rules}
use Rattle.edge_labels.proofs.BitsLemmas.{changed-bits, cleared-past}
use Rattle.edge_labels.proofs.bits.clear_bit.Goals as goal

pub returns-then-place-len-clause-ok : goal.returns-then-place-len-clause-ok
returns-then-place-len-clause-ok c = cleared-past c.args.chunks.now c.args.a (omega arith)

pub returns-clause-ok : goal.returns-clause-ok
returns-clause-ok c = changed-bits _ _ c.args.chunks.now _ c.args.a _ (λ (t old : Bool). not t && old) (λ b. refl) (omega arith) c.in_ok-change.ensures.changed (λ x y r. search rules)
