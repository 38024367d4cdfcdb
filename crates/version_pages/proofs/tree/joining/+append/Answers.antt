use Rattle.std.proofs.Common.{◌≡◌, ◌+◌, ◌-◌, ◌<◌, ◌++◌, ◌∙◌, ap, sym, subst, length, length-append, take, arith}
use Rattle.std.specs.List.{All}
use Rattle.std.proofs.lemmas.List.Elements.{All-take}
use Rattle.version_pages.specs.Nodes.{shape_of, IsKept}
use Rattle.version_pages.specs.Shape.{items_of, joined, AreKids, IsUnder}
use Rattle.version_pages.proofs.Cut.{appended-in, ok-map}
use Rattle.version_pages.proofs.Grows.{kid-level}
use Rattle.version_pages.proofs.tree.joining.+append.Goals as goal

pub forks_of-requires-clause-under : goal.forks_of-requires-clause-under
forks_of-requires-clause-under g t c =
    let kept : AreKids c.in-Fork.height c.in-Fork.kids.items = (subst IsKept c.in-Fork.is c.behind-first.invariant).0 in
    let child : c.len-last.result - 1 < length c.in-Fork.kids.items = omega (arith, kept.two) in
    let level : c.index.result.now.height + 1 ≡ c.in-Fork.height = kid-level _ _ _ _ kept child c.index.ensures in
    let front : All (IsUnder c.in-Fork.height) (take (c.len-last.result - 1) c.in-Fork.kids.items) = All-take (IsUnder c.in-Fork.height) (c.len-last.result - 1) c.in-Fork.kids.items kept.under in
    let seam : All (IsUnder c.in-Fork.height) c.in_ok-seam.seam.items = subst (λ n. All (IsUnder n) c.in_ok-seam.seam.items) level c.in_ok-seam.ensures.under in
    subst (All (IsUnder c.in-Fork.height)) (sym c.deref-4.ensures.value) (c.in_ok-row.ensures.under c.in-Fork.height (subst (λ t. All (IsUnder c.in-Fork.height) (take (c.len-last.result - 1) t)) (sym c.deref-2.ensures.value) front) (subst (All (IsUnder c.in-Fork.height)) (sym c.deref-3.ensures.value) seam) c.opened.ensures.under)

pub forks_of-requires-clause-few : goal.forks_of-requires-clause-few
forks_of-requires-clause-few g t c =
    let kept : AreKids c.in-Fork.height c.in-Fork.kids.items = (subst IsKept c.in-Fork.is c.behind-first.invariant).0 in
    let e : joined c.in-Fork.kids.items ≡ c.args.first.now.items = ap items_of (ap shape_of (sym c.in-Fork.is) ∙ c.behind-first.view_is ∙ c.deref.ensures ∙ c.first.view_is) in
    let made : joined c.in_ok-row.row.items ≡ joined (take (c.len-last.result - 1) c.in-Fork.kids.items) ++ joined c.in_ok-seam.seam.items ++ joined c.opened.result.1.now = c.in_ok-row.ensures.items ∙ ap (λ t. joined (take (c.len-last.result - 1) t) ++ joined c.deref-3.result.now ++ joined c.opened.result.1.now) c.deref-2.ensures.value ∙ ap (λ t. joined (take (c.len-last.result - 1) c.in-Fork.kids.items) ++ joined t ++ joined c.opened.result.1.now) c.deref-3.ensures.value in
    let whole : joined c.in_ok-row.row.items ≡ c.args.first.now.items ++ c.args.second.now.items = appended-in c.in-Fork.kids.items c.in_ok-seam.seam.items c.opened.result.1.now c.in_ok-row.row.items (c.len-last.result - 1) c.index.result.now c.opened.result.0.now c.args.first.now.items c.args.second.now.items e (omega (arith, kept.two)) c.index.ensures c.in_ok-seam.ensures.items c.opened.ensures.items made in
    omega (arith, ap length (ap joined c.deref-4.ensures.value ∙ whole), length-append c.args.first.now.items c.args.second.now.items, c.requires.few)

pub returns-clause-items : goal.returns-clause-items
returns-clause-items g t c =
    let kept : AreKids c.in-Fork.height c.in-Fork.kids.items = (subst IsKept c.in-Fork.is c.behind-first.invariant).0 in
    let e : joined c.in-Fork.kids.items ≡ c.args.first.now.items = ap items_of (ap shape_of (sym c.in-Fork.is) ∙ c.behind-first.view_is ∙ c.deref.ensures ∙ c.first.view_is) in
    let made : joined c.in_ok-row.row.items ≡ joined (take (c.len-last.result - 1) c.in-Fork.kids.items) ++ joined c.in_ok-seam.seam.items ++ joined c.opened.result.1.now = c.in_ok-row.ensures.items ∙ ap (λ t. joined (take (c.len-last.result - 1) t) ++ joined c.deref-3.result.now ++ joined c.opened.result.1.now) c.deref-2.ensures.value ∙ ap (λ t. joined (take (c.len-last.result - 1) c.in-Fork.kids.items) ++ joined t ++ joined c.opened.result.1.now) c.deref-3.ensures.value in
    let whole : joined c.in_ok-row.row.items ≡ c.args.first.now.items ++ c.args.second.now.items = appended-in c.in-Fork.kids.items c.in_ok-seam.seam.items c.opened.result.1.now c.in_ok-row.row.items (c.len-last.result - 1) c.index.result.now c.opened.result.0.now c.args.first.now.items c.args.second.now.items e (omega (arith, kept.two)) c.index.ensures c.in_ok-seam.ensures.items c.opened.ensures.items made in
    ok-map c.forks_of.result _ _ c.forks_of.ensures.items (λ row h. h ∙ ap joined c.deref-4.ensures.value ∙ whole)
