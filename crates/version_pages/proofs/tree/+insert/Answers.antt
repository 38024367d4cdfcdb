use Rattle.std.proofs.Common.{◌≡◌, ◌+◌, ◌-◌, ◌<◌, ◌≤◌, ◌^◌, ◌∙◌, ap, sym, subst, length, get_or, set, take, drop, ◌++◌, arith, rules}
use Rattle.std.proofs.lemmas.List.{take_at}
use Rattle.version_pages.specs.declared.tree.TheConstants.{WIDE}
use Rattle.version_pages.specs.Nodes.{shape_of, IsKept}
use Rattle.version_pages.specs.Shape.{Shape, fork_shape, items_of, joined, AreEnds, AreKids, AreLonger, IsAt}
use Rattle.version_pages.proofs.Edits.{on-err}
use Rattle.version_pages.proofs.Ends.{ends-few, ends-grown, ends-same}
use Rattle.version_pages.proofs.Grows.{kid-few, kid-level, kids-ready, kids-set}
use Rattle.version_pages.proofs.Inserted.{length-put, place-in, put-in}
use Rattle.version_pages.proofs.Joined.{same-in}
use Rattle.version_pages.proofs.tree.+insert.Goals as goal

pub Tree::insert_some-invariant_of-self-in_err-k-in-Fork : goal.Tree::insert_some-invariant_of-self-in_err-k-in-Fork
Tree::insert_some-invariant_of-self-in_err-k-in-Fork g t c =
    let kept : AreKids c.in-Fork.height c.in-Fork.kids.items = (subst IsKept c.in-Fork.is c.self.invariant).0 in
    let room : 0 < WIDE - length c.in-Fork.kids.items = subst (λ (s : Shape _). 0 < s.room) (sym (ap shape_of (sym c.in-Fork.is) ∙ c.self.view_is)) c.requires.room in
    (kids-ready _ _ _ kept room c.ready.ensures.least c.ready.ensures.most c.ready.ensures.under, c.ready.ensures.ends)

pub Tree::insert_some-insert_some-requires : goal.Tree::insert_some-insert_some-requires
Tree::insert_some-insert_some-requires g t c κs within =
    let kept : AreKids c.in-Fork.height c.in-Fork.kids.items = (subst IsKept c.in-Fork.is c.self.invariant).0 in
    let shape : fork_shape c.in-Fork.height c.in-Fork.kids.items ≡ c.args.self.now = ap shape_of (sym c.in-Fork.is) ∙ c.self.view_is in
    let room : 0 < WIDE - length c.in-Fork.kids.items = subst (λ (s : Shape _). 0 < s.room) (sym shape) c.requires.room in
    let new : AreKids c.in-Fork.height c.ready.new.kids.items = kids-ready _ _ _ kept room c.ready.ensures.least c.ready.ensures.most c.ready.ensures.under in
    let e : joined c.ready.new.kids.items ≡ c.args.self.now.items = c.ready.ensures.same ∙ ap items_of shape in
    let at : IsAt c.ready.new.kids.items c.args.i c.in_ok-k-in-Fork.k c.in_ok-k-in-Fork.j = c.in_ok-k-in-Fork.ensures.child in
    let is = c.index_mut-kid.ensures.value in
    let inside : c.in_ok-k-in-Fork.j ≤ length c.index_mut-kid.result.now.items = place-in _ _ _ _ _ _ e at is c.requires.inside in
    let level : c.index_mut-kid.result.now.height + 1 ≡ c.in-Fork.height = kid-level _ _ _ _ new at.child is in
    let high : c.in-Fork.height ≡ c.args.self.now.height = ap (λ (s : Shape _). s.height) shape in
    let few : length c.index_mut-kid.result.now.items ≤ length (joined c.ready.new.kids.items) = kid-few _ _ _ at.child is in
    let all : length (joined c.ready.new.kids.items) + 64 < 2 ^ 62 = omega (arith, ap length e, c.requires.few) in
    let roomy : 0 < c.index_mut-kid.result.now.room = rw is (c.in_ok-k-in-Fork.ensures.room c.index_mut-kid.result.now) in
    (search rules, (search rules, (c.requires.some, (inside, (roomy, omega arith)))))

pub Tree::insert_some-invariant_of-self-in_err-count-in-Fork : goal.Tree::insert_some-invariant_of-self-in_err-count-in-Fork
Tree::insert_some-invariant_of-self-in_err-count-in-Fork g t c =
    let kept : AreKids c.in-Fork.height c.in-Fork.kids.items = (subst IsKept c.in-Fork.is c.self.invariant).0 in
    let room : 0 < WIDE - length c.in-Fork.kids.items = subst (λ (s : Shape _). 0 < s.room) (sym (ap shape_of (sym c.in-Fork.is) ∙ c.self.view_is)) c.requires.room in
    let new : AreKids c.in-Fork.height c.ready.new.kids.items = kids-ready _ _ _ kept room c.ready.ensures.least c.ready.ensures.most c.ready.ensures.under in
    let at : IsAt c.ready.new.kids.items c.args.i c.in_ok-k-in-Fork.k c.in_ok-k-in-Fork.j = c.in_ok-k-in-Fork.ensures.child in
    let is = c.index_mut-kid.ensures.value in
    (kids-set _ _ _ c.index_mut-kid.result.now _ new at.child is c.insert_some.ensures.level c.insert_some.ensures.deep, ends-same _ _ _ c.index_mut-kid.result.now _ c.ready.ensures.ends at.child is (ap length c.in_err-count-in-Fork.ensures.same))

pub Tree::insert_some-returns-in_err-count-in-Fork-clause-same : goal.Tree::insert_some-returns-in_err-count-in-Fork-clause-same
Tree::insert_some-returns-in_err-count-in-Fork-clause-same g t c =
    let e : joined c.ready.new.kids.items ≡ c.args.self.now.items = c.ready.ensures.same ∙ ap items_of (ap shape_of (sym c.in-Fork.is) ∙ c.self.view_is) in
    let at : IsAt c.ready.new.kids.items c.args.i c.in_ok-k-in-Fork.k c.in_ok-k-in-Fork.j = c.in_ok-k-in-Fork.ensures.child in
    on-err c.from_residual-in_err-count-in-Fork.result _ (same-in c.ready.new.kids.items c.in_ok-k-in-Fork.k c.index_mut-kid.result.now c.insert_some.new.self at.child (c.in_err-count-in-Fork.ensures.same ∙ ap items_of c.index_mut-kid.ensures.value) ∙ e)

pub Tree::insert_some-lengthen-requires-clause-few : goal.Tree::insert_some-lengthen-requires-clause-few
Tree::insert_some-lengthen-requires-clause-few g t c =
    let e : joined c.ready.new.kids.items ≡ c.args.self.now.items = c.ready.ensures.same ∙ ap items_of (ap shape_of (sym c.in-Fork.is) ∙ c.self.view_is) in
    let most : c.in_ok-count-in-Fork.count ≤ 64 = c.in_ok-count-in-Fork.ensures.most in
    λ n d l. omega (arith, ends-few c.ready.new.ends.items c.ready.new.kids.items n d c.ready.ensures.ends (omega (arith, ap length c.deref_mut.ensures.value, l)), ap (λ t. get_or t n d) c.deref_mut.ensures.value, ap length e, c.requires.few, most)

pub Tree::insert_some-invariant_of-self-in-Fork : goal.Tree::insert_some-invariant_of-self-in-Fork
Tree::insert_some-invariant_of-self-in-Fork g t c =
    let kept : AreKids c.in-Fork.height c.in-Fork.kids.items = (subst IsKept c.in-Fork.is c.self.invariant).0 in
    let room : 0 < WIDE - length c.in-Fork.kids.items = subst (λ (s : Shape _). 0 < s.room) (sym (ap shape_of (sym c.in-Fork.is) ∙ c.self.view_is)) c.requires.room in
    let new : AreKids c.in-Fork.height c.ready.new.kids.items = kids-ready _ _ _ kept room c.ready.ensures.least c.ready.ensures.most c.ready.ensures.under in
    let at : IsAt c.ready.new.kids.items c.args.i c.in_ok-k-in-Fork.k c.in_ok-k-in-Fork.j = c.in_ok-k-in-Fork.ensures.child in
    let is = c.index_mut-kid.ensures.value in
    let e : joined c.ready.new.kids.items ≡ c.args.self.now.items = c.ready.ensures.same ∙ ap items_of (ap shape_of (sym c.in-Fork.is) ∙ c.self.view_is) in
    let inside : c.in_ok-k-in-Fork.j ≤ length c.index_mut-kid.result.now.items = place-in _ _ _ _ _ _ e at is c.requires.inside in
    let long : length c.insert_some.new.self.items ≡ length c.index_mut-kid.result.now.items + c.in_ok-count-in-Fork.count = length-put _ _ _ _ _ inside c.in_ok-count-in-Fork.ensures.within c.in_ok-count-in-Fork.ensures.items in
    let more : AreLonger c.ready.new.ends.items c.lengthen.new.ends c.in_ok-k-in-Fork.k (length c.ready.new.ends.items) c.in_ok-count-in-Fork.count = subst (λ t. AreLonger t c.lengthen.new.ends c.in_ok-k-in-Fork.k (length t) c.in_ok-count-in-Fork.count) c.deref_mut.ensures.value c.lengthen.ensures in
    let all : take c.ready.new.ends.len (c.lengthen.new.ends ++ drop (length c.lengthen.new.ends) c.ready.new.ends.items) ≡ c.lengthen.new.ends = take_at _ _ _ (omega (arith, more.count, ap length c.deref_mut.ensures.value, c.deref_mut.ensures.len)) in (
      kids-set _ _ _ c.index_mut-kid.result.now _ new at.child is c.insert_some.ensures.level c.insert_some.ensures.deep,
      subst (λ t. AreEnds t (set c.ready.new.kids.items c.in_ok-k-in-Fork.k c.insert_some.new.self)) (sym all) (ends-grown _ _ _ _ _ c.index_mut-kid.result.now _ c.ready.ensures.ends more at.child is long),
    )

pub Tree::insert_some-returns-in-Fork-clause-items : goal.Tree::insert_some-returns-in-Fork-clause-items
Tree::insert_some-returns-in-Fork-clause-items g t c =
    let e : joined c.ready.new.kids.items ≡ c.args.self.now.items = c.ready.ensures.same ∙ ap items_of (ap shape_of (sym c.in-Fork.is) ∙ c.self.view_is) in
    let at : IsAt c.ready.new.kids.items c.args.i c.in_ok-k-in-Fork.k c.in_ok-k-in-Fork.j = c.in_ok-k-in-Fork.ensures.child in
    let is = c.index_mut-kid.ensures.value in
    let inside : c.in_ok-k-in-Fork.j ≤ length c.index_mut-kid.result.now.items = place-in _ _ _ _ _ _ e at is c.requires.inside in
    put-in c.ready.new.kids.items _ c.args.i c.in_ok-k-in-Fork.k c.in_ok-k-in-Fork.j _ e at.child is at.place _ c.args.i c.in_ok-k-in-Fork.j _ at.place inside inside c.in_ok-count-in-Fork.ensures.items
