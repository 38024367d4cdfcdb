use Rattle.std.proofs.Common.{◌≡◌, ◌+◌, ◌-◌, ◌<◌, ◌≤◌, ◌^◌, ◌++◌, ◌∙◌, ap, sym, length, length-append, length-drop, take, drop, arith}
use Rattle.std.proofs.lemmas.List.{take_rest}
use Rattle.version_pages.specs.Nodes.{shape_of}
use Rattle.version_pages.specs.Shape.{Shape, items_of, joined}
use Rattle.version_pages.proofs.Cut.{back-at, back-in, back-last, ok-map, rest-few}
use Rattle.version_pages.proofs.Inserted.{place-in}
use Rattle.version_pages.proofs.tree.Kid.+back.Goals as goal

pub group-requires-clause-few : goal.group-requires-clause-few
group-requires-clause-few g t c =
    let e : joined c.in-Fork.kids.items ≡ c.args.self.now.items = ap items_of (ap shape_of (sym c.in-Fork.is) ∙ c.behind-self.view_is ∙ c.deref.ensures ∙ c.self.view_is) in
    let few : length c.args.self.now.items < 2 ^ 62 = omega (arith, c.self.invariant, ap (λ (s : Shape _). length (items_of s)) c.self.view_is) in
    let rest : take (length c.deref-then-j-eq0.result.now - c.find-k.result.0) (drop c.find-k.result.0 c.deref-then-j-eq0.result.now) ≡ drop c.find-k.result.0 c.in-Fork.kids.items = take_rest c.deref-then-j-eq0.result.now c.find-k.result.0 ∙ ap (drop c.find-k.result.0) c.deref-then-j-eq0.ensures.value in
    omega (arith, ap (λ t. length (joined t)) rest, rest-few c.in-Fork.kids.items c.find-k.result.0, ap length e, few)

pub returns-then-j-eq0 : goal.returns-then-j-eq0
returns-then-j-eq0 g t c =
    let e : joined c.in-Fork.kids.items ≡ c.args.self.now.items = ap items_of (ap shape_of (sym c.in-Fork.is) ∙ c.behind-self.view_is ∙ c.deref.ensures ∙ c.self.view_is) in
    let rest : take (length c.deref-then-j-eq0.result.now - c.find-k.result.0) (drop c.find-k.result.0 c.deref-then-j-eq0.result.now) ≡ drop c.find-k.result.0 c.in-Fork.kids.items = take_rest c.deref-then-j-eq0.result.now c.find-k.result.0 ∙ ap (drop c.find-k.result.0) c.deref-then-j-eq0.ensures.value in
    ok-map c.group.result _ _ c.group.ensures (λ kid h. h ∙ ap joined rest ∙ back-at c.in-Fork.kids.items c.args.self.now.items c.args.i c.find-k.result.0 e (omega (arith, c.find-k.ensures.place, c.if-j-eq0.true)))

pub returns-then-k-len : goal.returns-then-k-len
returns-then-k-len g t c =
    let e : joined c.in-Fork.kids.items ≡ c.args.self.now.items = ap items_of (ap shape_of (sym c.in-Fork.is) ∙ c.behind-self.view_is ∙ c.deref.ensures ∙ c.self.view_is) in
    let inside : c.find-k.result.1 ≤ length c.index.result.now.items = place-in _ _ _ _ _ _ e c.find-k.ensures c.index.ensures (omega (arith, c.requires.inside)) in
    c.in_ok-part-in-Fork.ensures ∙ back-last c.in-Fork.kids.items c.args.self.now.items c.args.i c.find-k.result.0 e c.find-k.result.1 c.index.result.now c.find-k.ensures.child c.index.ensures c.find-k.ensures.place inside (omega (arith, c.if-k-len.true))

pub group-requires-in-Fork-clause-few : goal.group-requires-in-Fork-clause-few
group-requires-in-Fork-clause-few g t c =
    let e : joined c.in-Fork.kids.items ≡ c.args.self.now.items = ap items_of (ap shape_of (sym c.in-Fork.is) ∙ c.behind-self.view_is ∙ c.deref.ensures ∙ c.self.view_is) in
    let few : length c.args.self.now.items < 2 ^ 62 = omega (arith, c.self.invariant, ap (λ (s : Shape _). length (items_of s)) c.self.view_is) in
    let rest : take (length c.deref-in-Fork.result.now - (c.find-k.result.0 + 1)) (drop (c.find-k.result.0 + 1) c.deref-in-Fork.result.now) ≡ drop (c.find-k.result.0 + 1) c.in-Fork.kids.items = take_rest c.deref-in-Fork.result.now (c.find-k.result.0 + 1) ∙ ap (drop (c.find-k.result.0 + 1)) c.deref-in-Fork.ensures.value in
    omega (arith, ap (λ t. length (joined t)) rest, rest-few c.in-Fork.kids.items (c.find-k.result.0 + 1), ap length e, few)

pub join-requires : goal.join-requires
join-requires g t c =
    let e : joined c.in-Fork.kids.items ≡ c.args.self.now.items = ap items_of (ap shape_of (sym c.in-Fork.is) ∙ c.behind-self.view_is ∙ c.deref.ensures ∙ c.self.view_is) in
    let few : length c.args.self.now.items < 2 ^ 62 = omega (arith, c.self.invariant, ap (λ (s : Shape _). length (items_of s)) c.self.view_is) in
    let inside : c.find-k.result.1 ≤ length c.index.result.now.items = place-in _ _ _ _ _ _ e c.find-k.ensures c.index.ensures (omega (arith, c.requires.inside)) in
    let rest : take (length c.deref-in-Fork.result.now - (c.find-k.result.0 + 1)) (drop (c.find-k.result.0 + 1) c.deref-in-Fork.result.now) ≡ drop (c.find-k.result.0 + 1) c.in-Fork.kids.items = take_rest c.deref-in-Fork.result.now (c.find-k.result.0 + 1) ∙ ap (drop (c.find-k.result.0 + 1)) c.deref-in-Fork.ensures.value in
    let both : c.in_ok-part-in-Fork.part.items ++ c.in_ok-behind-in-Fork.behind.items ≡ drop c.args.i c.args.self.now.items = ap (λ t. t ++ c.in_ok-behind-in-Fork.behind.items) c.in_ok-part-in-Fork.ensures ∙ ap (λ t. drop c.find-k.result.1 c.index.result.now.items ++ t) (c.in_ok-behind-in-Fork.ensures ∙ ap joined rest) ∙ back-in c.in-Fork.kids.items c.args.self.now.items c.args.i c.find-k.result.0 e c.find-k.result.1 c.index.result.now c.find-k.ensures.child c.index.ensures c.find-k.ensures.place inside in
    record { few = omega (arith, ap length both, length-append c.in_ok-part-in-Fork.part.items c.in_ok-behind-in-Fork.behind.items, length-drop c.args.i c.args.self.now.items, few) }

pub returns-in-Fork : goal.returns-in-Fork
returns-in-Fork g t c =
    let e : joined c.in-Fork.kids.items ≡ c.args.self.now.items = ap items_of (ap shape_of (sym c.in-Fork.is) ∙ c.behind-self.view_is ∙ c.deref.ensures ∙ c.self.view_is) in
    let inside : c.find-k.result.1 ≤ length c.index.result.now.items = place-in _ _ _ _ _ _ e c.find-k.ensures c.index.ensures (omega (arith, c.requires.inside)) in
    let rest : take (length c.deref-in-Fork.result.now - (c.find-k.result.0 + 1)) (drop (c.find-k.result.0 + 1) c.deref-in-Fork.result.now) ≡ drop (c.find-k.result.0 + 1) c.in-Fork.kids.items = take_rest c.deref-in-Fork.result.now (c.find-k.result.0 + 1) ∙ ap (drop (c.find-k.result.0 + 1)) c.deref-in-Fork.ensures.value in
    let both : c.in_ok-part-in-Fork.part.items ++ c.in_ok-behind-in-Fork.behind.items ≡ drop c.args.i c.args.self.now.items = ap (λ t. t ++ c.in_ok-behind-in-Fork.behind.items) c.in_ok-part-in-Fork.ensures ∙ ap (λ t. drop c.find-k.result.1 c.index.result.now.items ++ t) (c.in_ok-behind-in-Fork.ensures ∙ ap joined rest) ∙ back-in c.in-Fork.kids.items c.args.self.now.items c.args.i c.find-k.result.0 e c.find-k.result.1 c.index.result.now c.find-k.ensures.child c.index.ensures c.find-k.ensures.place inside in
    ok-map c.join.result _ _ c.join.ensures (λ kid h. h ∙ both)
