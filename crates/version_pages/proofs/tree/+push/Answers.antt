use Rattle.std.proofs.Common.{◌≡◌, ◌+◌, ◌-◌, ◌<◌, ◌∙◌, ap, sym, subst, length, get_or, arith}
use Rattle.std.proofs.lemmas.List.{get_or_default}
use Rattle.std.proofs.lemmas.List.Edits.{length-insert}
use Rattle.version_pages.specs.declared.growth.Growth.TheVariants.{Before}
use Rattle.version_pages.specs.Nodes.{shape_of, IsKept}
use Rattle.version_pages.specs.Shape.{items_of, joined, AreEnds, AreKids, IsAt}
use Rattle.version_pages.proofs.Edits.{err-kept}
use Rattle.version_pages.proofs.Ending.{at-end}
use Rattle.version_pages.proofs.Ends.{ends-last, ends-same}
use Rattle.version_pages.proofs.Grows.{grown-in, kids-set}
use Rattle.version_pages.proofs.Joined.{same-in}
use Rattle.version_pages.proofs.tree.+push.Goals as goal

pub Tree::push_alone-returns-in-Fork-clause-items : goal.Tree::push_alone-returns-in-Fork-clause-items
Tree::push_alone-returns-in-Fork-clause-items g t c =
    let e : joined c.in-Fork.kids.items ≡ c.args.self.now.items = ap items_of (ap shape_of (sym c.in-Fork.is) ∙ c.self.view_is) in
    let kept : AreKids c.in-Fork.height c.in-Fork.kids.items = (subst IsKept c.in-Fork.is c.self.invariant).0 in
    let last : c.len-last.result - 1 + 1 ≡ length c.in-Fork.kids.items = omega (arith, kept.two) in
    let is = c.index_mut-kid.ensures.value in
    let at : IsAt c.in-Fork.kids.items (length c.args.self.now.items) (c.len-last.result - 1) (length (items_of c.index_mut-kid.result.now)) = at-end _ _ _ _ e last is in
    grown-in c.in-Fork.kids.items _ _ _ _ _ _ (Before c.args.value) e at is (omega arith) c.in_ok-push_alone-in-Fork.ensures.items

pub Tree::push_alone-returns-in_err-push_alone-in-Fork-clause-items : goal.Tree::push_alone-returns-in_err-push_alone-in-Fork-clause-items
Tree::push_alone-returns-in_err-push_alone-in-Fork-clause-items g t c =
    let e : joined c.in-Fork.kids.items ≡ c.args.self.now.items = ap items_of (ap shape_of (sym c.in-Fork.is) ∙ c.self.view_is) in
    let is = c.index_mut-kid.ensures.value in
    let kept : AreKids c.in-Fork.height c.in-Fork.kids.items = (subst IsKept c.in-Fork.is c.self.invariant).0 in
    err-kept c.from_residual.result _ _ _ c.from_residual.ensures.0 (same-in c.in-Fork.kids.items (c.len-last.result - 1) c.index_mut-kid.result.now c.push_alone.new.self (omega (arith, kept.two)) (c.in_err-push_alone-in-Fork.ensures.items ∙ ap items_of is) ∙ e)

pub Tree::push_alone-invariant_of-self-in_err-push_alone-in-Fork : goal.Tree::push_alone-invariant_of-self-in_err-push_alone-in-Fork
Tree::push_alone-invariant_of-self-in_err-push_alone-in-Fork g t c =
    let both : AreKids c.in-Fork.height c.in-Fork.kids.items × AreEnds c.in-Fork.ends.items c.in-Fork.kids.items = subst IsKept c.in-Fork.is c.self.invariant in
    let l : c.len-last.result - 1 < length c.in-Fork.kids.items = omega (arith, both.0.two) in
    let is = c.index_mut-kid.ensures.value in
    (kids-set _ _ _ c.index_mut-kid.result.now _ both.0 l is c.push_alone.ensures.level c.push_alone.ensures.deep, ends-same _ _ _ c.index_mut-kid.result.now _ both.1 l is (ap length c.in_err-push_alone-in-Fork.ensures.items))

pub Tree::push_alone-invariant_of-self-in-Fork : goal.Tree::push_alone-invariant_of-self-in-Fork
Tree::push_alone-invariant_of-self-in-Fork g t c =
    let both : AreKids c.in-Fork.height c.in-Fork.kids.items × AreEnds c.in-Fork.ends.items c.in-Fork.kids.items = subst IsKept c.in-Fork.is c.self.invariant in
    let last : c.len-last.result - 1 + 1 ≡ length c.in-Fork.kids.items = omega (arith, both.0.two) in
    let is = c.index_mut-kid.ensures.value in
    let long : length c.push_alone.new.self.items ≡ length c.index_mut-kid.result.now.items + 1 = ap length c.in_ok-push_alone-in-Fork.ensures.items ∙ length-insert _ _ _ (omega arith) in
    let sum : c.index_mut.result.now + 1 ≡ get_or c.in-Fork.ends.items (c.len-last.result - 1) 0 + 1 = ap (λ n. n + 1) (c.index_mut.ensures.value ∙ get_or_default c.in-Fork.ends.items (c.len-last.result - 1) c.index_mut.result.now 0 (omega (arith, both.1.count, last))) in
    (kids-set _ _ _ c.index_mut-kid.result.now _ both.0 (omega (arith, last)) is c.push_alone.ensures.level c.push_alone.ensures.deep, ends-last _ _ _ _ _ c.index_mut-kid.result.now _ both.1 last is long sum)
