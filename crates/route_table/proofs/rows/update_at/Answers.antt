use Rattle.std.proofs.Common.{◌≡◌, ℕ, IfOk, OnErr, get_or, rules}
use Rattle.route_table.specs.Rows.{slot_in}
use Rattle.route_table.specs.Slots.{IsUpdatedIn}
use Rattle.route_table.specs.declared.rows.PrefixRow.{PrefixRow}
use Rattle.route_table.proofs.Changing.{over-others, unmade, update-made}
use Rattle.route_table.proofs.rows.update_at.Goals as goal

pub returns-clause-ok : goal.returns-clause-ok
returns-clause-ok c =
    let made : (d : PrefixRow) → IfOk c.in_ok-change.field-0 (λ first. IsUpdatedIn (slot_in c.args.lane.index (get_or c.args.rows.now c.args.place d)) (slot_in c.args.lane.index c.in_ok-change.ensures.changed.value) c.args.update.now.alone c.args.update.now.op first) = λ d. let k = c.in_ok-change.ensures.changed.called d in search rules in
    update-made c.in_ok-change.field-0 c.args.lane.index c.args.rows.now c.change.new.self c.args.place c.args.update.now.alone c.args.update.now.op c.in_ok-change.ensures.changed.value c.requires.inside made c.in_ok-change.ensures.changed.list

pub returns-clause-others : goal.returns-clause-others
returns-clause-others c =
    let same : (d : PrefixRow) (k : ℕ) → (k ≡ c.args.lane.index → ⊥) → slot_in k c.in_ok-change.ensures.changed.value ≡ slot_in k (get_or c.args.rows.now c.args.place d) = λ d. let k = c.in_ok-change.ensures.changed.called d in search rules in
    over-others c.args.lane.index c.args.rows.now c.change.new.self c.args.place c.in_ok-change.ensures.changed.value c.requires.inside same c.in_ok-change.ensures.changed.list

pub returns-clause-err : goal.returns-clause-err
returns-clause-err c =
    let same : (d : PrefixRow) → OnErr c.in_ok-change.field-0 (c.in_ok-change.ensures.changed.value ≡ get_or c.args.rows.now c.args.place d) = λ d. let k = c.in_ok-change.ensures.changed.called d in search rules in
    unmade c.in_ok-change.field-0 c.args.rows.now c.change.new.self c.args.place c.in_ok-change.ensures.changed.value same c.in_ok-change.ensures.changed.list
