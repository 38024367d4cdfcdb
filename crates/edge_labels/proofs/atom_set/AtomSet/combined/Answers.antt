use Rattle.edge_labels.specs.Bits.{holds}
use Rattle.edge_labels.proofs.SetLemmas.{sets-combined}
use Rattle.edge_labels.proofs.atom_set.AtomSet.combined.Goals as goal

pub returns : goal.returns
returns c = sets-combined c.self.inside.chunks c.other.inside.chunks c.in_ok-chunks.chunks c.args.self.now c.args.other.now (holds c.args.operation) c.self.view_is c.other.view_is c.in_ok-chunks.ensures.bits
