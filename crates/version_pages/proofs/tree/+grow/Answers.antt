use Rattle.std.proofs.Common.{◌≡◌, ◌+◌, ◌-◌, ◌<◌, ◌≤◌, ◌^◌, ◌∙◌, ap, sym, subst, length, get_or, set, take, drop, ◌++◌, arith, rules}
use Rattle.std.proofs.lemmas.List.{take_at}
use Rattle.std.proofs.lemmas.Grind.{common_steps}
use Rattle.version_pages.specs.declared.tree.TheConstants.{WIDE}
use Rattle.version_pages.specs.Growth.{grown, CanGrow}
use Rattle.version_pages.specs.Keys.{first_key}
use Rattle.version_pages.specs.Nodes.{shape_of, IsKept}
use Rattle.version_pages.specs.Shape.{Shape, fork_shape, items_of, joined, AreEnds, AreKids, AreLonger, IsAt}
use Rattle.version_pages.proofs.FirstKeys.{grown-key}
use Rattle.version_pages.proofs.Edits.{err-kept}
use Rattle.version_pages.proofs.Ends.{ends-few, ends-grown, ends-same}
use Rattle.version_pages.proofs.Joined.{same-in}
use Rattle.version_pages.proofs.Grows.{can-at, grown-in, length-grown, kid-few, kid-level, kids-ready, kids-set}
use Rattle.version_pages.proofs.tree.+grow.Goals as goal

pub Tree::grow-invariant_of-self : goal.Tree::grow-invariant_of-self
Tree::grow-invariant_of-self g t c =
    let kept : AreKids c.in-Fork.height c.in-Fork.kids.items = (subst IsKept c.in-Fork.is c.self.invariant).0 in
    let room : 0 < WIDE - length c.in-Fork.kids.items = subst (λ (s : Shape _). 0 < s.room) (sym (ap shape_of (sym c.in-Fork.is) ∙ c.self.view_is)) c.requires.room in
    (kids-ready _ _ _ kept room c.ready.ensures.least c.ready.ensures.most c.ready.ensures.under, c.ready.ensures.ends)

pub Tree::grow-returns-in-Fork-clause-items : goal.Tree::grow-returns-in-Fork-clause-items
Tree::grow-returns-in-Fork-clause-items g t c =
    let e : joined c.ready.new.kids.items ≡ c.args.self.now.items = c.ready.ensures.same ∙ ap items_of (ap shape_of (sym c.in-Fork.is) ∙ c.self.view_is) in
    let at : IsAt c.ready.new.kids.items c.args.i c.in_ok-k-in-Fork.k c.in_ok-k-in-Fork.j = c.in_ok-k-in-Fork.ensures.child in
    let is = c.index_mut-kid.ensures.value in
    grown-in c.ready.new.kids.items _ c.args.i c.in_ok-k-in-Fork.k c.in_ok-k-in-Fork.j _ _ c.args.growth e at is (can-at _ _ _ _ _ _ c.args.growth e at is c.requires.inside) c.in_ok-grow-in-Fork.ensures.items

pub Tree::grow-returns-in_err-grow-in-Fork-clause-items : goal.Tree::grow-returns-in_err-grow-in-Fork-clause-items
Tree::grow-returns-in_err-grow-in-Fork-clause-items g t c =
    let e : joined c.ready.new.kids.items ≡ c.args.self.now.items = c.ready.ensures.same ∙ ap items_of (ap shape_of (sym c.in-Fork.is) ∙ c.self.view_is) in
    let at : IsAt c.ready.new.kids.items c.args.i c.in_ok-k-in-Fork.k c.in_ok-k-in-Fork.j = c.in_ok-k-in-Fork.ensures.child in
    err-kept c.from_residual-in_err-grow-in-Fork.result _ _ _ c.from_residual-in_err-grow-in-Fork.ensures.0 (same-in c.ready.new.kids.items c.in_ok-k-in-Fork.k c.index_mut-kid.result.now c.grow.new.self at.child (c.in_err-grow-in-Fork.ensures.items ∙ ap items_of c.index_mut-kid.ensures.value) ∙ e)

pub Tree::grow-invariant_of-self-in_err-grow-in-Fork : goal.Tree::grow-invariant_of-self-in_err-grow-in-Fork
Tree::grow-invariant_of-self-in_err-grow-in-Fork g t c =
    let kept : AreKids c.in-Fork.height c.in-Fork.kids.items = (subst IsKept c.in-Fork.is c.self.invariant).0 in
    let room : 0 < WIDE - length c.in-Fork.kids.items = subst (λ (s : Shape _). 0 < s.room) (sym (ap shape_of (sym c.in-Fork.is) ∙ c.self.view_is)) c.requires.room in
    let new : AreKids c.in-Fork.height c.ready.new.kids.items = kids-ready _ _ _ kept room c.ready.ensures.least c.ready.ensures.most c.ready.ensures.under in
    let at : IsAt c.ready.new.kids.items c.args.i c.in_ok-k-in-Fork.k c.in_ok-k-in-Fork.j = c.in_ok-k-in-Fork.ensures.child in
    let is = c.index_mut-kid.ensures.value in (
      kids-set _ _ _ c.index_mut-kid.result.now _ new at.child is c.grow.ensures.level c.grow.ensures.deep,
      ends-same _ _ _ c.index_mut-kid.result.now _ c.ready.ensures.ends at.child is (ap length c.in_err-grow-in-Fork.ensures.items),
    )

pub Tree::grow-lengthen-requires-clause-few : goal.Tree::grow-lengthen-requires-clause-few
Tree::grow-lengthen-requires-clause-few g t c =
    let e : joined c.ready.new.kids.items ≡ c.args.self.now.items = c.ready.ensures.same ∙ ap items_of (ap shape_of (sym c.in-Fork.is) ∙ c.self.view_is) in
    λ n d l. omega (arith, ends-few c.ready.new.ends.items c.ready.new.kids.items n d c.ready.ensures.ends (omega (arith, ap length c.deref_mut.ensures.value, l)), ap (λ t. get_or t n d) c.deref_mut.ensures.value, ap length e, c.requires.few)

pub Tree::grow-invariant_of-self-in-Fork : goal.Tree::grow-invariant_of-self-in-Fork
Tree::grow-invariant_of-self-in-Fork g t c =
    let kept : AreKids c.in-Fork.height c.in-Fork.kids.items = (subst IsKept c.in-Fork.is c.self.invariant).0 in
    let room : 0 < WIDE - length c.in-Fork.kids.items = subst (λ (s : Shape _). 0 < s.room) (sym (ap shape_of (sym c.in-Fork.is) ∙ c.self.view_is)) c.requires.room in
    let new : AreKids c.in-Fork.height c.ready.new.kids.items = kids-ready _ _ _ kept room c.ready.ensures.least c.ready.ensures.most c.ready.ensures.under in
    let at : IsAt c.ready.new.kids.items c.args.i c.in_ok-k-in-Fork.k c.in_ok-k-in-Fork.j = c.in_ok-k-in-Fork.ensures.child in
    let is = c.index_mut-kid.ensures.value in
    let e : joined c.ready.new.kids.items ≡ c.args.self.now.items = c.ready.ensures.same ∙ ap items_of (ap shape_of (sym c.in-Fork.is) ∙ c.self.view_is) in
    let can : CanGrow c.args.growth c.index_mut-kid.result.now.items c.in_ok-k-in-Fork.j = can-at _ _ _ _ _ _ c.args.growth e at is c.requires.inside in
    let long : length c.grow.new.self.items ≡ length c.index_mut-kid.result.now.items + 1 = ap length c.in_ok-grow-in-Fork.ensures.items ∙ length-grown c.args.growth _ _ can in
    let more : AreLonger c.ready.new.ends.items c.lengthen.new.ends c.in_ok-k-in-Fork.k (length c.ready.new.ends.items) 1 = subst (λ t. AreLonger t c.lengthen.new.ends c.in_ok-k-in-Fork.k (length t) 1) c.deref_mut.ensures.value c.lengthen.ensures in
    let all : take c.ready.new.ends.len (c.lengthen.new.ends ++ drop (length c.lengthen.new.ends) c.ready.new.ends.items) ≡ c.lengthen.new.ends = take_at _ _ _ (omega (arith, more.count, ap length c.deref_mut.ensures.value, c.deref_mut.ensures.len)) in (
      kids-set _ _ _ c.index_mut-kid.result.now _ new at.child is c.grow.ensures.level c.grow.ensures.deep,
      subst (λ t. AreEnds t (set c.ready.new.kids.items c.in_ok-k-in-Fork.k c.grow.new.self)) (sym all) (ends-grown _ _ _ _ _ c.index_mut-kid.result.now _ c.ready.ensures.ends more at.child is long),
    )

pub Tree::grow-grow-requires : goal.Tree::grow-grow-requires
Tree::grow-grow-requires g t c κs within =
    let e : joined c.ready.new.kids.items ≡ c.args.self.now.items = c.ready.ensures.same ∙ ap items_of (ap shape_of (sym c.in-Fork.is) ∙ c.self.view_is) in
    let at : IsAt c.ready.new.kids.items c.args.i c.in_ok-k-in-Fork.k c.in_ok-k-in-Fork.j = c.in_ok-k-in-Fork.ensures.child in
    let is = c.index_mut-kid.ensures.value in
    let can : CanGrow c.args.growth c.index_mut-kid.result.now.items c.in_ok-k-in-Fork.j = can-at _ _ _ _ _ _ c.args.growth e at is c.requires.inside in
    let kept : AreKids c.in-Fork.height c.in-Fork.kids.items = (subst IsKept c.in-Fork.is c.self.invariant).0 in
    let shape : fork_shape c.in-Fork.height c.in-Fork.kids.items ≡ c.args.self.now = ap shape_of (sym c.in-Fork.is) ∙ c.self.view_is in
    let room : 0 < WIDE - length c.in-Fork.kids.items = subst (λ (s : Shape _). 0 < s.room) (sym shape) c.requires.room in
    let new : AreKids c.in-Fork.height c.ready.new.kids.items = kids-ready _ _ _ kept room c.ready.ensures.least c.ready.ensures.most c.ready.ensures.under in
    let level : c.index_mut-kid.result.now.height + 1 ≡ c.in-Fork.height = kid-level _ _ _ _ new at.child is in
    let high : c.in-Fork.height ≡ c.args.self.now.height = ap (λ (s : Shape _). s.height) shape in
    let few : length c.index_mut-kid.result.now.items ≤ length (joined c.ready.new.kids.items) = kid-few _ _ _ at.child is in
    let all : length (joined c.ready.new.kids.items) + 1 < 2 ^ 62 = omega (arith, ap length e, c.requires.few) in
    let roomy : 0 < c.index_mut-kid.result.now.room = rw is (c.in_ok-k-in-Fork.ensures.room c.index_mut-kid.result.now) in
    (search rules, (search rules, (can, (roomy, omega arith))))

pub Kid::grow-key_after-self-inside-requires : goal.Kid::grow-key_after-self-inside-requires
Kid::grow-key_after-self-inside-requires g t c =
    let a : c.in-Some.tree.now ≡ c.args.self.now = grind (arith, common_steps) in
    let noted : c.self.inside.key ≡ first_key g.T.Keyed.key_of c.args.self.now.items = c.self.invariant.1 ∙ ap (λ (s : Shape _). first_key g.T.Keyed.key_of (items_of s)) c.self.view_is in
    let made : c.grow.new.self.items ≡ grown c.args.growth c.args.self.now.items c.args.i = c.in_ok-grow.ensures.items ∙ ap (λ (s : Shape _). grown c.args.growth (items_of s) c.args.i) a in
    grown-key g.T.Keyed.key_of c.args.growth c.args.self.now.items c.grow.new.self.items c.args.i c.self.inside.key noted c.requires.inside made
