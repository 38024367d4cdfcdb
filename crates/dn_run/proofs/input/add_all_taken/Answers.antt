use Rattle.std.proofs.Common.{◌++◌, ◌∷◌, [], ◌∙◌, ap, arith, sym, subst, take}
use Rattle.std.proofs.lemmas.List.{take_more}
use Rattle.dn_run.proofs.TakenLemmas.{AddsTaken, adds-line}
use Rattle.dn_run.proofs.input.add_all_taken.Goals as goal

pub loop-line-preserved : goal.loop-line-preserved
loop-line-preserved c =
    subst (λ lines. AddsTaken c.args.taken.now.items c.add_taken.new.taken.items lines) (sym (take_more c.args.lines.now c.loop-line.line-index c.line-item.result (omega arith) ∙ ap (λ l. take c.loop-line.line-index c.args.lines.now ++ l ∷ []) (sym c.line-item.is)))
    (adds-line c.args.taken.now.items c.loop-line.taken.items c.add_taken.new.taken.items (take c.loop-line.line-index c.args.lines.now) c.line-item.result c.loop-line.invariant c.in_ok-add_taken.ensures)
