use Rattle.std.proofs.Common.{◌≡◌, ◌<◌, subst, sym, ◌∙◌, ap}
use Rattle.base.specs.Forwarding.{target_of}
use Rattle.base.specs.declared.forwarding_row.ForwardingRow.{ForwardingRow}
use Rattle.net_engine.specs.Shown.{View}
use Rattle.net_engine.proofs.RowsKept.{place-kept, row-kept}
use Rattle.net_engine.proofs.kept_rows.KeptRowsLabelView.target.Goals as goal

pub target-requires-clause-place : goal.target-requires-clause-place
target-requires-clause-place c = subst (λ n. c.args.i < n) (sym c.self.invariant.labelled.there) (place-kept c.self.inside.routers c.self.inside.atoms c.self.inside.labels c.args.self.now c.args.i c.self.view_is c.requires.place)

pub target-requires-clause-router : goal.target-requires-clause-router
target-requires-clause-router c = subst (λ n. c.args.r.0 < n) (sym (ap (λ (v : View). v.routers) c.self.view_is) ∙ sym c.self.invariant.same) c.requires.router

pub returns : goal.returns
returns c d = row-kept (λ (row : ForwardingRow). c.target.result ≡ target_of row c.args.r) c.self.inside.routers c.self.inside.atoms c.self.inside.labels c.args.self.now c.args.i d c.self.view_is (place-kept c.self.inside.routers c.self.inside.atoms c.self.inside.labels c.args.self.now c.args.i c.self.view_is c.requires.place) c.target.ensures
