use Rattle.std.proofs.Common.{ℕ, List, subst}
use Rattle.std.specs.Prelude.{IfOk}
use Rattle.base.specs.Cycles.{AreCycles}
use Rattle.base.specs.declared.ids.RouterId.{RouterId}
use Rattle.base.specs.declared.target.Target.{Target}
use Rattle.loop_keeper.specs.Kept.{AreKept, Kept}
use Rattle.loop_keeper.proofs.kept_loops.KeptLoops.answer.Goals as goal

pub returns : goal.returns
returns c =
    let P : List Kept → Type 0 = λ v. IfOk c.cycles_of.result (λ cycles. (does : RouterId → ℕ → Target) → AreKept does v → AreCycles does cycles) in
    subst P c.self.view_is c.cycles_of.ensures
