use Rattle.std.proofs.Common.{◌≡◌, ◌+◌, ◌-◌, ◌∙◌, ap, sym, subst, length, length-append, get_or, arith}
use Rattle.std.proofs.lemmas.List.{get_or_default, length-take-le}
use Rattle.version_pages.specs.Nodes.{shape_of, IsKept}
use Rattle.version_pages.specs.Shape.{items_of, joined, AreEnds, AreKids}
use Rattle.version_pages.proofs.Appended.{append-last}
use Rattle.version_pages.proofs.Ends.{ends-last}
use Rattle.version_pages.proofs.Grows.{kids-set}
use Rattle.version_pages.proofs.tree.+extend.Goals as goal

pub Tree::extend_alone-returns-in-Fork-clause-items : goal.Tree::extend_alone-returns-in-Fork-clause-items
Tree::extend_alone-returns-in-Fork-clause-items g t c =
    let e : joined c.in-Fork.kids.items ≡ c.args.self.now.items = ap items_of (ap shape_of (sym c.in-Fork.is) ∙ c.self.view_is) in
    let kept : AreKids c.in-Fork.height c.in-Fork.kids.items = (subst IsKept c.in-Fork.is c.self.invariant).0 in
    let last : c.len-end.result - 1 + 1 ≡ length c.in-Fork.kids.items = omega (arith, kept.two) in
    append-last c.in-Fork.kids.items c.args.self.now.items _ _ _ _ e c.index_mut-kid.ensures.value last c.extend_alone-count.ensures.items

pub Tree::extend_alone-invariant_of-self : goal.Tree::extend_alone-invariant_of-self
Tree::extend_alone-invariant_of-self g t c =
    let both : AreKids c.in-Fork.height c.in-Fork.kids.items × AreEnds c.in-Fork.ends.items c.in-Fork.kids.items = subst IsKept c.in-Fork.is c.self.invariant in
    let last : c.len-end.result - 1 + 1 ≡ length c.in-Fork.kids.items = omega (arith, both.0.two) in
    let is = c.index_mut-kid.ensures.value in
    let long : length c.extend_alone-count.new.self.items ≡ length c.index_mut-kid.result.now.items + c.extend_alone-count.result = ap length c.extend_alone-count.ensures.items ∙ length-append _ _ ∙ ap (λ n. length c.index_mut-kid.result.now.items + n) (length-take-le _ _ c.extend_alone-count.ensures.within) in
    let sum : c.index_mut.result.now + c.extend_alone-count.result ≡ get_or c.in-Fork.ends.items (c.len-end.result - 1) 0 + c.extend_alone-count.result = ap (λ n. n + c.extend_alone-count.result) (c.index_mut.ensures.value ∙ get_or_default c.in-Fork.ends.items (c.len-end.result - 1) c.index_mut.result.now 0 (omega (arith, both.1.count, last))) in
    (kids-set _ _ _ c.index_mut-kid.result.now _ both.0 (omega (arith, last)) is c.extend_alone-count.ensures.level c.extend_alone-count.ensures.deep, ends-last _ _ _ _ _ c.index_mut-kid.result.now _ both.1 last is long sum)
