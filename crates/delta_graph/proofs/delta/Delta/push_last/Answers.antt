use Rattle.std.proofs.Common.{◌++◌, ◌∷◌, [], ◌∙◌, ap, subst}
use Rattle.base.specs.Delta.{AreChanges}
use Rattle.delta_graph.proofs.Pushing.{pushed-last}
use Rattle.delta_graph.proofs.delta.Delta.push_last.Goals as goal

pub invariant_of-self-2 : goal.invariant_of-self-2
invariant_of-self-2 c = (pushed-last c.args.self.now c.push.new.self.items c.args.change (subst AreChanges c.self.view_is c.self.invariant) c.requires.change c.requires.apart c.requires.behind (c.in_ok-push.ensures.items ∙ ap (λ ys. ys ++ c.args.change ∷ []) c.self.view_is)).form

pub returns-clause-ok : goal.returns-clause-ok
returns-clause-ok c = pushed-last c.args.self.now c.push.new.self.items c.args.change (subst AreChanges c.self.view_is c.self.invariant) c.requires.change c.requires.apart c.requires.behind (c.in_ok-push.ensures.items ∙ ap (λ ys. ys ++ c.args.change ∷ []) c.self.view_is)
