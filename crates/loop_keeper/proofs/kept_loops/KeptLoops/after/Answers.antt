use Rattle.std.proofs.Common.{List, sym, subst}
use Rattle.loop_keeper.specs.Kept.{AreKept, Kept}
use Rattle.loop_keeper.proofs.kept_loops.KeptLoops.after.Goals as goal

pub returns-clause-kept : goal.returns-clause-kept
returns-clause-kept g c = λ before kept delta.
    let P : List Kept → Type 0 = λ v. AreKept before v in
    c.in_ok-advance.ensures.kept before (subst P (sym c.in_ok-loops.ensures) kept) delta
