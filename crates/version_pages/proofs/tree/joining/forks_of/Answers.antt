use Rattle.std.proofs.Common.{◌+◌, ap}
use Rattle.version_pages.specs.Shape.{Shape, IsUnder}
use Rattle.version_pages.proofs.Cut.{ok-map}
use Rattle.version_pages.proofs.tree.joining.forks_of.Goals as goal

pub returns-clause-under : goal.returns-clause-under
returns-clause-under g c =
    let lower : IsUnder (c.args.height + 1) c.in_ok-lower.lower = record { level = ap (λ (s : Shape _). s.height + 1) c.in_ok-lower.ensures.fork; deep = c.in_ok-lower.ensures.deep } in
    let upper : IsUnder (c.args.height + 1) c.in_ok-upper.upper = record { level = ap (λ (s : Shape _). s.height + 1) c.in_ok-upper.ensures.fork; deep = c.in_ok-upper.ensures.deep } in
    ok-map c.both_of.result _ _ c.both_of.ensures.under (λ row all. all (c.args.height + 1) lower upper)
