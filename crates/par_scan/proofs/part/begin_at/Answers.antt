use Rattle.std.proofs.Common.{◌∙◌, sym, arith}
use Rattle.label_view.proofs.InRow.{some_row}
use Rattle.par_scan.proofs.PartRows.{begin-at, begin-end}
use Rattle.par_scan.proofs.part.begin_at.Goals as goal

pub returns-then-place-atoms : goal.returns-then-place-atoms
returns-then-place-atoms g c = c.bounds.ensures.low some_row ∙ sym (begin-at (g.V.LabelView.rows c.args.view.now) c.args.place some_row (omega (arith, c.if-place-atoms.true, c.atoms.ensures.value)))

pub returns : goal.returns
returns g c = sym (begin-end (g.V.LabelView.rows c.args.view.now) c.args.place (omega (arith, c.if-place-atoms.false, c.atoms.ensures.value)))
