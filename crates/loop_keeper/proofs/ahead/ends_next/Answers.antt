use Rattle.std.proofs.Common.{sym, subst}
use Rattle.base.specs.Forwarding.{does}
use Rattle.base.specs.declared.ids.RouterId.{RouterId}
use Rattle.base.proofs.DeltaParts.{same-router}
use Rattle.loop_keeper.specs.Ahead.{EndsOn}
use Rattle.loop_keeper.proofs.ReadAhead.{finds-ended}
use Rattle.loop_keeper.proofs.ahead.ends_next.Goals as goal

pub returns-clause-none : goal.returns-clause-none
returns-clause-none g c = λ is tells found.
    let P : RouterId → Type 0 = λ v. EndsOn (does (g.V.LabelView.rows c.args.view.now)) v c.args.change.now.run in
    finds-ended (g.V.LabelView.rows c.args.view.now) c.args.change.now c.in-To.far c.in-To.field-1 found tells c.in-To.is
    (subst P (sym (same-router c.in-To.far c.args.ahead.now.router c.if-far-ahead.false)) (c.ends_on.ensures.ends is))
