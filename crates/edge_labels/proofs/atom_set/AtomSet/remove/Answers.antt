use Rattle.std.proofs.Common.{ℕ, Bool, eqb, not, ◌&&◌}
use Rattle.edge_labels.proofs.SetLemmas.{on-err, set-changed, set-same}
use Rattle.edge_labels.proofs.atom_set.AtomSet.remove.Goals as goal

pub returns-in_err-clear_bit-clause-err : goal.returns-in_err-clear_bit-clause-err
returns-in_err-clear_bit-clause-err c = on-err c.from_residual.result (set-same c.self.inside.chunks c.clear_bit.new.chunks c.args.self.now c.self.view_is c.in_err-clear_bit.ensures.err)

pub returns-clause-ok : goal.returns-clause-ok
returns-clause-ok c = set-changed c.self.inside.chunks c.clear_bit.new.chunks c.args.self.now (λ (a : ℕ) (b : Bool). not (eqb a c.args.atom.0) && b) c.self.view_is c.in_ok-clear_bit.ensures.ok
