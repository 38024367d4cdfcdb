use Rattle.std.proofs.Common.{◌∙◌}
use Rattle.delta_graph.proofs.Pushing.{goes-first-joined, pushed-at}
use Rattle.delta_graph.proofs.delta.Delta.put.Goals as goal

pub join_right-to-requires-clause-order : goal.join_right-to-requires-clause-order
join_right-to-requires-clause-order c = goes-first-joined c.args.self.now c.deref-2.result.now c.place_of-place.result c.args.change c.join_left-from.result.1 (c.deref-2.ensures.value ∙ c.self.view_is) c.place_of-place.ensures.form c.requires.ends c.requires.apart c.place_of-place.ensures.after c.join_left-from.ensures.router c.join_left-from.ensures.hi

pub invariant_of-self-2 : goal.invariant_of-self-2
invariant_of-self-2 c = (pushed-at c.args.self.now c.self.inside.changes.items c.deref.result.now c.deref-2.result.now c.replace.new.changes.items c.args.change c.join_left-from.result.1 c.join_right-to.result.1 c.place_of-place.result c.join_left-from.result.0 c.join_right-to.result.0 c.self.view_is c.deref.ensures.value c.deref-2.ensures.value c.place_of-place.ensures.form c.requires.apart c.join_left-from.ensures c.join_right-to.ensures c.in_ok-replace.ensures.ok).form

pub returns-clause-ok : goal.returns-clause-ok
returns-clause-ok c = pushed-at c.args.self.now c.self.inside.changes.items c.deref.result.now c.deref-2.result.now c.replace.new.changes.items c.args.change c.join_left-from.result.1 c.join_right-to.result.1 c.place_of-place.result c.join_left-from.result.0 c.join_right-to.result.0 c.self.view_is c.deref.ensures.value c.deref-2.ensures.value c.place_of-place.ensures.form c.requires.apart c.join_left-from.ensures c.join_right-to.ensures c.in_ok-replace.ensures.ok
