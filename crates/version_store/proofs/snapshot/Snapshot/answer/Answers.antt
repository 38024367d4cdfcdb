use Rattle.std.proofs.Common.{◌+◌, ◌≤◌, length, subst}
use Rattle.std.specs.Arc.{arc_value}
use Rattle.dn_model.specs.Entry.{entries}
use Rattle.row_answers.specs.Looks.{most_looks}
use Rattle.version_store.specs.Kept.{Past}
use Rattle.version_store.specs.Prefixes.{most_rows}
use Rattle.version_store.proofs.Rows.{cost_few, looks_few}
use Rattle.version_store.proofs.snapshot.Snapshot.answer.Goals as goal

pub returns-in-Ok-clause-looks : goal.returns-in-Ok-clause-looks
returns-in-Ok-clause-looks g c =
    let P : Past → Type 0 = λ p. c.answer.new.steps ≤ c.args.steps.now + most_looks c.args.query.now.ask (most_rows (entries p.history)) (length p.topology.routers) in
    subst P c.self.view_is (looks_few (arc_value c.self.inside.topology) (entries (arc_value c.self.inside.history).value) c.self.inside.picture c.args.query.now.ask c.args.steps.now c.answer.new.steps c.self.invariant.shows c.answer.ensures.looks)

pub returns-in-Ok-clause-cost : goal.returns-in-Ok-clause-cost
returns-in-Ok-clause-cost g c =
    cost_few (entries c.args.self.now.history) c.args.query.now.ask c.args.steps.now c.answer.new.steps (length c.args.self.now.topology.routers) (returns-in-Ok-clause-looks g c)

pub returns-in-Err-clause-looks : goal.returns-in-Err-clause-looks
returns-in-Err-clause-looks g c =
    let P : Past → Type 0 = λ p. c.answer.new.steps ≤ c.args.steps.now + most_looks c.args.query.now.ask (most_rows (entries p.history)) (length p.topology.routers) in
    subst P c.self.view_is (looks_few (arc_value c.self.inside.topology) (entries (arc_value c.self.inside.history).value) c.self.inside.picture c.args.query.now.ask c.args.steps.now c.answer.new.steps c.self.invariant.shows c.answer.ensures.looks)

pub returns-in-Err-clause-cost : goal.returns-in-Err-clause-cost
returns-in-Err-clause-cost g c =
    cost_few (entries c.args.self.now.history) c.args.query.now.ask c.args.steps.now c.answer.new.steps (length c.args.self.now.topology.routers) (returns-in-Err-clause-looks g c)
