use Rattle.std.proofs.Common.{refl}
use Rattle.edge_labels.specs.Atoms.{numbers}
use Rattle.edge_labels.proofs.SetLemmas.{adds-at, adds-end, adds-first}
use Rattle.edge_labels.proofs.atom_set.AtomSet.of.Goals as goal

pub loop-atom-init : goal.loop-atom-init
loop-atom-init c = adds-first _ _ (numbers c.args.atoms.now) _ c.empty-set.ensures refl (λ a. refl)

pub loop-atom-preserved : goal.loop-atom-preserved
loop-atom-preserved c = adds-at c.args.atoms.now c.loop-atom.atom-index _ _ _ _ c.loop-atom-test.true c.in_ok-insert.ensures.ok c.loop-atom.invariant

pub returns : goal.returns
returns c = adds-end c.args.atoms.now c.loop-atom.atom-index _ _ c.loop-atom-test.false c.loop-atom.invariant
