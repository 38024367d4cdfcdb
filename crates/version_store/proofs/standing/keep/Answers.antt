use Rattle.std.proofs.Common.{List, ℕ, subst}
use Rattle.std.specs.Prelude.{OnOk}
use Rattle.base.specs.Delta.{IsDelta}
use Rattle.base.specs.Forwarding.{does}
use Rattle.base.specs.declared.forwarding_row.ForwardingRow.{ForwardingRow}
use Rattle.base.specs.declared.ids.RouterId.{RouterId}
use Rattle.base.specs.declared.target.Target.{Target}
use Rattle.loop_keeper.specs.Kept.{AreKept}
use Rattle.version_store.proofs.standing.keep.Goals as goal

pub returns : goal.returns
returns g c =
    subst
    (λ (rows : List ForwardingRow). OnOk c.advance-2.result ((before : RouterId → ℕ → Target) → AreKept before c.args.loops.now → IsDelta before (does rows) c.args.delta.now → AreKept (does rows) c.advance-2.new.self))
    c.in_ok-shown.ensures.rows
    c.advance-2.ensures.kept
