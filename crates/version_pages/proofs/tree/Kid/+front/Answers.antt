use Rattle.std.proofs.Common.{◌≡◌, ◌≤◌, ◌++◌, ◌∙◌, ap, sym, length, take, arith}
use Rattle.version_pages.specs.Nodes.{shape_of}
use Rattle.version_pages.specs.Shape.{items_of, joined}
use Rattle.version_pages.proofs.Cut.{front-at, front-in, ok-map}
use Rattle.version_pages.proofs.Inserted.{place-in}
use Rattle.version_pages.proofs.tree.Kid.+front.Goals as goal

pub returns-then-j-eq0 : goal.returns-then-j-eq0
returns-then-j-eq0 g t c =
    let e : joined c.in-Fork.kids.items ≡ c.args.self.now.items = ap items_of (ap shape_of (sym c.in-Fork.is) ∙ c.behind-self.view_is ∙ c.deref.ensures ∙ c.self.view_is) in
    ok-map c.group.result _ _ c.group.ensures (λ kid h. h ∙ ap (λ t. joined (take c.find-k.result.0 t)) c.deref-then-j-eq0.ensures.value ∙ front-at c.in-Fork.kids.items c.args.self.now.items c.args.i c.find-k.result.0 e (omega (arith, c.find-k.ensures.place, c.if-j-eq0.true)))

pub returns-in-Fork : goal.returns-in-Fork
returns-in-Fork g t c =
    let e : joined c.in-Fork.kids.items ≡ c.args.self.now.items = ap items_of (ap shape_of (sym c.in-Fork.is) ∙ c.behind-self.view_is ∙ c.deref.ensures ∙ c.self.view_is) in
    let inside : c.find-k.result.1 ≤ length c.index.result.now.items = place-in _ _ _ _ _ _ e c.find-k.ensures c.index.ensures (omega (arith, c.requires.inside)) in
    ok-map c.join.result _ _ c.join.ensures (λ kid h. h ∙ ap (λ t. t ++ c.in_ok-part-in-Fork.part.items) (c.in_ok-before-in-Fork.ensures ∙ ap (λ t. joined (take c.find-k.result.0 t)) c.deref-in-Fork.ensures.value) ∙ ap (λ t. joined (take c.find-k.result.0 c.in-Fork.kids.items) ++ t) c.in_ok-part-in-Fork.ensures ∙ front-in c.in-Fork.kids.items c.args.self.now.items c.args.i c.find-k.result.0 e c.find-k.result.1 c.index.result.now c.find-k.ensures.child c.index.ensures c.find-k.ensures.place inside)
