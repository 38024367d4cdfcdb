use Rattle.std.proofs.Common.{◌≡◌, ◌+◌, ◌<◌, ◌∙◌, ap, sym, subst, length, length-append, take, arith}
use Rattle.version_pages.specs.Shape.{Shape, items_of, joined, AreEnds, AreHalves, IsPartedAt}
use Rattle.version_pages.proofs.Ending.{place-few}
use Rattle.version_pages.proofs.Ends.{ends-at}
use Rattle.version_pages.proofs.Parted.{parted-at}
use Rattle.version_pages.proofs.tree.split.part.Goals as goal

pub overflow_add-start : goal.overflow_add-start
overflow_add-start g c =
    let kids = c.reserve-2.ensures.items in
    let child : c.args.k < length c.reserve-2.new.self.items = omega (arith, ap length kids, c.requires.child) in
    let halves : AreHalves c.split_off.new.self c.in_ok-upper.upper c.index_mut-kid.result.now = c.in_ok-upper.ensures.halves in
    let long : c.kid.inside.len ≡ length c.split_off.new.self.items = c.kid.invariant.0 ∙ ap (λ (s : Shape _). length (items_of s)) c.kid.view_is in
    omega (arith, long, c.requires.start, place-few _ _ _ child c.index_mut-kid.ensures.value, ap length halves.items, length-append (items_of c.split_off.new.self) (items_of c.in_ok-upper.upper), c.requires.few, ap (λ t. length (joined (take c.args.k t))) kids, ap (λ t. length (joined t)) kids)

pub returns-clause-parted : goal.returns-clause-parted
returns-clause-parted g c =
    let kids = c.reserve-2.ensures.items in
    let child : c.args.k < length c.reserve-2.new.self.items = omega (arith, ap length kids, c.requires.child) in
    let long : c.kid.inside.len ≡ length c.split_off.new.self.items = c.kid.invariant.0 ∙ ap (λ (s : Shape _). length (items_of s)) c.kid.view_is in
    subst (λ t. IsPartedAt t c.put_kid.new.kids.items c.args.k c.kid.inside.len) kids
    (parted-at c.reserve-2.new.self.items _ _ _ c.index_mut-kid.result.now c.split_off.new.self c.in_ok-upper.upper child c.index_mut-kid.ensures.value c.in_ok-upper.ensures.halves c.put_kid.ensures long)

pub returns-clause-ends : goal.returns-clause-ends
returns-clause-ends g c =
    let kids = c.reserve-2.ensures.items in
    let child : c.args.k < length c.reserve-2.new.self.items = omega (arith, ap length kids, c.requires.child) in
    let long : c.kid.inside.len ≡ length c.split_off.new.self.items = c.kid.invariant.0 ∙ ap (λ (s : Shape _). length (items_of s)) c.kid.view_is in
    let at : AreEnds c.reserve.new.self.items c.reserve-2.new.self.items = subst (λ t. AreEnds t c.reserve-2.new.self.items) (sym c.reserve.ensures.items) (subst (AreEnds c.args.ends.now.items) (sym kids) c.requires.ends) in
    let sum : c.args.start + c.kid.inside.len ≡ length (joined (take c.args.k c.reserve-2.new.self.items)) + length (items_of c.split_off.new.self) = omega (arith, long, c.requires.start, ap (λ t. length (joined (take c.args.k t))) kids) in
    ends-at _ _ c.reserve-2.new.self.items _ _ _ c.index_mut-kid.result.now c.split_off.new.self c.in_ok-upper.upper at child c.index_mut-kid.ensures.value c.in_ok-upper.ensures.halves c.put_kid.ensures c.put_end.ensures sum
