use Rattle.std.proofs.Common.{ℕ, Bool, eqb, ◌||◌}
use Rattle.edge_labels.proofs.SetLemmas.{on-err, set-changed, set-same}
use Rattle.edge_labels.proofs.atom_set.AtomSet.insert.Goals as goal

pub returns-in_err-add_bit-clause-err : goal.returns-in_err-add_bit-clause-err
returns-in_err-add_bit-clause-err c = on-err c.from_residual.result (set-same c.self.inside.chunks c.add_bit.new.chunks c.args.self.now c.self.view_is c.in_err-add_bit.ensures.err)

pub returns-clause-ok : goal.returns-clause-ok
returns-clause-ok c = set-changed c.self.inside.chunks c.add_bit.new.chunks c.args.self.now (λ (a : ℕ) (b : Bool). eqb a c.args.atom.0 || b) c.self.view_is c.in_ok-add_bit.ensures.ok
