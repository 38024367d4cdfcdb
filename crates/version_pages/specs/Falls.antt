-- Each child of a fork is lower than the fork.
use Rattle.std.specs.Prelude.{ℕ, ◌≡◌, ◌+◌, ◌*◌, ◌≤◌, max, List, [], ◌∷◌, All}
use Rattle.std.proofs.Common.{arith}
use Rattle.std.proofs.lemmas.List.Elements.{All-head, All-tail}
use denote.Param.Weighed.{most}
use Rattle.std.specs.declared.clone.Clone as clone
use Rattle.base.specs.declared.keyed.Keyed.{Ghosts}
use Rattle.version_pages.specs.declared.tree.Node.{Node}
use Rattle.version_pages.specs.declared.tree.Node.TheVariants.{Page, Fork}
use Rattle.version_pages.specs.declared.tree.Kid.TheDeep.{deep-Node}
use Rattle.version_pages.specs.Shape.{Shape, IsUnder}
use Rattle.version_pages.specs.Nodes.{shape_of, IsKept}

most-under : {T : Type 0} (height : ℕ) (kids : List (Shape T)) → All (IsUnder height) kids → most (λ (k : Shape T). 2 * k.height + 1 + 1) kids ≤ 2 * height
most-under height [] h = omega arith
most-under height (k ∷ ks) h =
    let here : IsUnder height k = All-head (IsUnder height) k ks h in
    let level : k.height + 1 ≡ height = here.level in
    let rest : most (λ (s : Shape _). 2 * s.height + 1 + 1) ks ≤ 2 * height = most-under height ks (All-tail (IsUnder height) k ks h) in
    omega arith

-- no child is as deep as the node is high
pub deep_le-height : {T : Type 0} (keyed : Ghosts T) (cloned : clone.Ghosts T) (n : Node T) → IsKept n → max (deep-Node T keyed cloned n) 0 ≤ 2 * (shape_of n).height
deep_le-height keyed cloned (Page items) h = omega arith
deep_le-height keyed cloned (Fork kids height ends density) h = let m = most-under height kids.items h.0.under in omega (arith, m)
