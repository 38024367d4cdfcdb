use Rattle.std.proofs.Common.{◌≡◌, ◌+◌, ◌-◌, [], ◌++◌, ◌∙◌, ap, sym, subst, length, length-append, take, drop, arith}
use Rattle.std.specs.List.{All}
use Rattle.std.proofs.lemmas.List.{take_rest}
use Rattle.std.proofs.lemmas.List.Elements.{All-drop, All-take}
use Rattle.version_pages.specs.Nodes.{shape_of, IsKept}
use Rattle.version_pages.specs.Shape.{items_of, joined, AreKids, IsUnder}
use Rattle.version_pages.proofs.Cut.{ok-map, prepended-in}
use Rattle.version_pages.proofs.Grows.{kid-level}
use Rattle.version_pages.proofs.tree.joining.+prepend.Goals as goal

pub forks_of-requires-clause-under : goal.forks_of-requires-clause-under
forks_of-requires-clause-under g t c =
    let kept : AreKids c.in-Fork.height c.in-Fork.kids.items = (subst IsKept c.in-Fork.is c.behind-second.invariant).0 in
    let level : c.index.result.now.height + 1 ≡ c.in-Fork.height = kid-level _ _ _ _ kept (omega (arith, kept.two)) c.index.ensures in
    let none : All (IsUnder c.in-Fork.height) (take 0 c.deref-2.result.now) = All-take (IsUnder c.in-Fork.height) 0 c.deref-2.result.now (subst (All (IsUnder c.in-Fork.height)) (sym c.deref-2.ensures.value) kept.under) in
    let seam : All (IsUnder c.in-Fork.height) c.in_ok-seam.seam.items = subst (λ n. All (IsUnder n) c.in_ok-seam.seam.items) level c.in_ok-seam.ensures.under in
    let rest : All (IsUnder c.in-Fork.height) (drop 1 c.in-Fork.kids.items) = All-drop (IsUnder c.in-Fork.height) 1 c.in-Fork.kids.items kept.under in
    subst (All (IsUnder c.in-Fork.height)) (sym c.deref-5.ensures.value) (c.in_ok-row.ensures.under c.in-Fork.height none (subst (All (IsUnder c.in-Fork.height)) (sym c.deref-3.ensures.value) seam) (subst (All (IsUnder c.in-Fork.height)) (sym (take_rest c.deref-4.result.now 1 ∙ ap (drop 1) c.deref-4.ensures.value)) rest))

pub forks_of-requires-clause-few : goal.forks_of-requires-clause-few
forks_of-requires-clause-few g t c =
    let kept : AreKids c.in-Fork.height c.in-Fork.kids.items = (subst IsKept c.in-Fork.is c.behind-second.invariant).0 in
    let e : joined c.in-Fork.kids.items ≡ c.args.second.now.items = ap items_of (ap shape_of (sym c.in-Fork.is) ∙ c.behind-second.view_is ∙ c.deref.ensures ∙ c.second.view_is) in
    let made : joined c.in_ok-row.row.items ≡ [] ++ joined c.in_ok-seam.seam.items ++ joined (drop 1 c.in-Fork.kids.items) = c.in_ok-row.ensures.items ∙ ap (λ t. [] ++ joined t ++ joined (take (length c.deref-4.result.now - 1) (drop 1 c.deref-4.result.now))) c.deref-3.ensures.value ∙ ap (λ t. [] ++ joined c.in_ok-seam.seam.items ++ joined t) (take_rest c.deref-4.result.now 1 ∙ ap (drop 1) c.deref-4.ensures.value) in
    let whole : joined c.in_ok-row.row.items ≡ c.args.first.now.items ++ c.args.second.now.items = prepended-in c.in-Fork.kids.items c.in_ok-seam.seam.items c.in_ok-row.row.items c.index.result.now c.args.second.now.items c.args.first.now.items e (omega (arith, kept.two)) c.index.ensures c.in_ok-seam.ensures.items made in
    omega (arith, ap length (ap joined c.deref-5.ensures.value ∙ whole), length-append c.args.first.now.items c.args.second.now.items, c.requires.few)

pub returns-clause-items : goal.returns-clause-items
returns-clause-items g t c =
    let kept : AreKids c.in-Fork.height c.in-Fork.kids.items = (subst IsKept c.in-Fork.is c.behind-second.invariant).0 in
    let e : joined c.in-Fork.kids.items ≡ c.args.second.now.items = ap items_of (ap shape_of (sym c.in-Fork.is) ∙ c.behind-second.view_is ∙ c.deref.ensures ∙ c.second.view_is) in
    let made : joined c.in_ok-row.row.items ≡ [] ++ joined c.in_ok-seam.seam.items ++ joined (drop 1 c.in-Fork.kids.items) = c.in_ok-row.ensures.items ∙ ap (λ t. [] ++ joined t ++ joined (take (length c.deref-4.result.now - 1) (drop 1 c.deref-4.result.now))) c.deref-3.ensures.value ∙ ap (λ t. [] ++ joined c.in_ok-seam.seam.items ++ joined t) (take_rest c.deref-4.result.now 1 ∙ ap (drop 1) c.deref-4.ensures.value) in
    let whole : joined c.in_ok-row.row.items ≡ c.args.first.now.items ++ c.args.second.now.items = prepended-in c.in-Fork.kids.items c.in_ok-seam.seam.items c.in_ok-row.row.items c.index.result.now c.args.second.now.items c.args.first.now.items e (omega (arith, kept.two)) c.index.ensures c.in_ok-seam.ensures.items made in
    ok-map c.forks_of.result _ _ c.forks_of.ensures.items (λ row h. h ∙ ap joined c.deref-5.ensures.value ∙ whole)
