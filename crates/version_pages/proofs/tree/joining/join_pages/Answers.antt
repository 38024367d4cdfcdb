use Rattle.std.proofs.Common.{◌≡◌, ◌+◌, ap, sym, subst, arith}
use Rattle.std.proofs.lemmas.Grind.{common_steps}
use Rattle.version_pages.specs.Shape.{IsUnder}
use Rattle.version_pages.proofs.Cut.{ok-map}
use Rattle.version_pages.proofs.tree.joining.join_pages.Goals as goal

pub returns-clause-under : goal.returns-clause-under
returns-clause-under g c =
    let one : c.in_ok-clone.field-0 ≡ c.args.first.now = grind (arith, common_steps) in
    let two : c.in_ok-clone-2.field-0 ≡ c.args.second.now = grind (arith, common_steps) in
    let first : IsUnder 1 c.args.first.now = record { level = ap (λ n. n + 1) c.requires.first; deep = c.height-first.ensures.deep } in
    let second : IsUnder 1 c.args.second.now = record { level = ap (λ n. n + 1) c.requires.second; deep = c.height-second.ensures.deep } in
    ok-map c.both_of.result _ _ c.both_of.ensures.under (λ row all. all 1 (subst (IsUnder 1) (sym one) first) (subst (IsUnder 1) (sym two) second))
