use Rattle.std.proofs.Common.{map, arith}
use Rattle.std.specs.String.{string_bytes}
use Rattle.std.proofs.lemmas.Result.{err_from_is_err_and}
use Rattle.dn_run.specs.PartsRead.{parts_texts}
use Rattle.dn_run.proofs.PartsLemmas.{parts_start, parts_step, parts_stop, parts_end}
use Rattle.dn_run.proofs.parts.read_parts.Goals as goal

pub loop-part-init : goal.loop-part-init
loop-part-init c = (
  rw (c.new.ensures.items, c.new-2.ensures.items) (parts_start (map string_bytes c.args.parts.now)),
  rw c.new.ensures.items (omega arith),
  rw c.new-2.ensures.items (omega arith),
)

pub returns-in_err-add-clause-refused : goal.returns-in_err-add-clause-refused
returns-in_err-add-clause-refused c =
    let p = err_from_is_err_and c.from_residual.result c.from_residual.ensures.1 in
    rw (p.1, p.2) (parts_stop string_bytes c.args.parts.now c.loop-part.part-index c.part-item.result (parts_texts c.loop-part.said) _ (omega arith) c.part-item.is c.loop-part.invariant.0 (rw c.as_str.ensures.value at c.in_err-add.ensures.refused))

pub loop-part-preserved : goal.loop-part-preserved
loop-part-preserved c = (
  parts_step string_bytes c.args.parts.now c.loop-part.part-index c.part-item.result (parts_texts c.loop-part.said) (parts_texts c.add.new.self) (omega arith) c.part-item.is c.loop-part.invariant.0 (rw c.as_str.ensures.value at c.in_ok-add.ensures.ok),
  c.in_ok-add.ensures.few.0,
  c.in_ok-add.ensures.few.1,
)

pub returns-clause-ok : goal.returns-clause-ok
returns-clause-ok c = parts_end string_bytes c.args.parts.now c.loop-part.part-index (parts_texts c.loop-part.said) (omega arith) c.loop-part.invariant.0
