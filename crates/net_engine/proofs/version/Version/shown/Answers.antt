use Rattle.std.proofs.Common.{◌∙◌, List, ap, length, subst, sym}
use Rattle.base.specs.declared.forwarding_row.ForwardingRow.{ForwardingRow}
use Rattle.base.specs.declared.ids.LinkId.{LinkId}
use Rattle.what_if.specs.Restricted.{rows_without}
use Rattle.net_engine.specs.Seen.{IsSound, kept_in}
use Rattle.net_engine.specs.Version.{Kept, forwarding_of}
use Rattle.net_engine.specs.declared.state.State.{State}
use Rattle.net_engine.proofs.RowsKept.{form-kept, rows-shown}
use Rattle.net_engine.proofs.version.Version.shown.Goals as goal

pub kept_rows-requires-clause-paired : goal.kept_rows-requires-clause-paired
kept_rows-requires-clause-paired c = (subst (λ (s : State). IsSound s) (sym c.deref.ensures) c.self.invariant).paired

pub kept_rows-requires-clause-form : goal.kept_rows-requires-clause-form
kept_rows-requires-clause-form c = form-kept c.deref.result.now (subst (λ (s : State). IsSound s) (sym c.deref.ensures) c.self.invariant)

pub returns-clause-routers : goal.returns-clause-routers
returns-clause-routers c =
    c.of.ensures.routers ∙ c.in_ok-kept.ensures.routers ∙ (subst (λ (s : State). IsSound s) (sym c.deref.ensures) c.self.invariant).routers
    ∙ ap (λ (v : Kept). length v.topology.routers) (ap kept_in c.deref.ensures ∙ c.self.view_is)

pub returns-clause-rows : goal.returns-clause-rows
returns-clause-rows c =
    c.of.ensures.rows
    ∙ ap (λ (ls : List LinkId). rows_without ls c.in_ok-kept.kept.rows) (c.in_ok-down.ensures ∙ ap (λ (s : State). s.down) (c.deref-2.ensures ∙ sym c.deref.ensures))
    ∙ ap (λ (rows : List ForwardingRow). rows_without c.deref.result.now.down rows) c.in_ok-kept.ensures.rows
    ∙ rows-shown c.deref.result.now ∙ ap forwarding_of (ap kept_in c.deref.ensures ∙ c.self.view_is)
