use Rattle.std.proofs.Common.{◌+◌, ◌++◌, ◌∙◌, sym, ap, append-nil, refl}
use Rattle.edge_labels.specs.Atoms.{numbers}
use Rattle.edge_labels.proofs.MemberLemmas.{numbers-none, pushed-no, pushed-yes}
use Rattle.edge_labels.proofs.bits.push_chunk.Goals as goal
use Rattle.edge_labels.proofs.bits.push_chunk.Goals.{then-has+in_ok-push, else-has}

pub loop-k-init : goal.loop-k-init
loop-k-init c = sym (ap (λ xs. numbers c.args.atoms.now.items ++ xs) (numbers-none c.args.chunk.now c.args.base) ∙ append-nil (numbers c.args.atoms.now.items))

pub loop-k-preserved : goal.loop-k-preserved
loop-k-preserved c = elim c.if-has.branch [
  | then-has+in_ok-push w ↦ pushed-yes c.args.chunk.now c.args.base c.loop-k.k c.args.atoms.now.items c.loop-k.atoms.items c.if-has.atoms.items (record { 0 = c.args.base + c.loop-k.k }) (sym c.has.ensures ∙ w.if-has.true) refl (ap (λ v. v.items) w.atoms-is ∙ w.in_ok-push.ensures.items) c.loop-k.invariant
  | else-has w ↦ ap (λ v. numbers v.items) w.atoms-is ∙ pushed-no c.args.chunk.now c.args.base c.loop-k.k c.args.atoms.now.items c.loop-k.atoms.items (sym c.has.ensures ∙ w.if-has.false) c.loop-k.invariant
]
