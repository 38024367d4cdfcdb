use Rattle.std.proofs.Common.{◌<◌, ◌≤◌, subst}
use Rattle.net_engine.proofs.ShownRows.{count-shown, low-shown, past-shown}
use Rattle.net_engine.proofs.shown.ShownLabelView.atom_of.Goals as goal

pub returns-clause-inside : goal.returns-clause-inside
returns-clause-inside c = subst (λ n. c.atom_of.result < n) (count-shown c.self.inside.kept c.args.self.now c.self.inside.down c.self.view_is) c.atom_of.ensures.inside

pub returns-clause-from : goal.returns-clause-from
returns-clause-from c d = subst (λ n. n ≤ c.args.a) (low-shown c.self.inside.kept c.args.self.now c.self.inside.down c.self.view_is c.atom_of.result d c.atom_of.ensures.inside) (c.atom_of.ensures.from d)

pub returns-clause-to : goal.returns-clause-to
returns-clause-to c d = subst (λ n. c.args.a < n) (past-shown c.self.inside.kept c.args.self.now c.self.inside.down c.self.view_is c.atom_of.result d c.atom_of.ensures.inside) (c.atom_of.ensures.to d)
