use Rattle.std.proofs.Common.{◌≡◌, ◌+◌, ◌-◌, ◌<◌, ◌≤◌, ◌^◌, ◌∙◌, ap, sym, subst, length, length-append, get_or, arith, rules}
use Rattle.std.proofs.lemmas.List.{get_or_default, length-take-le}
use Rattle.version_pages.specs.declared.tree.TheConstants.{WIDE}
use Rattle.version_pages.specs.Nodes.{shape_of, IsKept}
use Rattle.version_pages.specs.Shape.{Shape, fork_shape, items_of, joined, AreKids}
use Rattle.version_pages.proofs.Appended.{append-last}
use Rattle.version_pages.proofs.Edits.{on-err}
use Rattle.version_pages.proofs.Ends.{ends-few, ends-last, ends-same}
use Rattle.version_pages.proofs.Grows.{kid-few, kid-level, kids-ready, kids-set}
use Rattle.version_pages.proofs.Joined.{same-in}
use Rattle.version_pages.proofs.tree.+pages.Goals as goal

pub Tree::add_pages-invariant_of-self-in_err-ready_end-in-Fork : goal.Tree::add_pages-invariant_of-self-in_err-ready_end-in-Fork
Tree::add_pages-invariant_of-self-in_err-ready_end-in-Fork g t c =
    let kept : AreKids c.in-Fork.height c.in-Fork.kids.items = (subst IsKept c.in-Fork.is c.self.invariant).0 in
    let room : 0 < WIDE - length c.in-Fork.kids.items = subst (λ (s : Shape _). 0 < s.room) (sym (ap shape_of (sym c.in-Fork.is) ∙ c.self.view_is)) c.requires.room in
    (kids-ready _ _ _ kept room c.ready_end.ensures.least c.ready_end.ensures.most c.ready_end.ensures.under, c.ready_end.ensures.ends)

pub Tree::add_pages-add_pages-requires : goal.Tree::add_pages-add_pages-requires
Tree::add_pages-add_pages-requires g t c κs within =
    let kept : AreKids c.in-Fork.height c.in-Fork.kids.items = (subst IsKept c.in-Fork.is c.self.invariant).0 in
    let shape : fork_shape c.in-Fork.height c.in-Fork.kids.items ≡ c.args.self.now = ap shape_of (sym c.in-Fork.is) ∙ c.self.view_is in
    let room : 0 < WIDE - length c.in-Fork.kids.items = subst (λ (s : Shape _). 0 < s.room) (sym shape) c.requires.room in
    let new : AreKids c.in-Fork.height c.ready_end.new.kids.items = kids-ready _ _ _ kept room c.ready_end.ensures.least c.ready_end.ensures.most c.ready_end.ensures.under in
    let e : joined c.ready_end.new.kids.items ≡ c.args.self.now.items = c.ready_end.ensures.same ∙ ap items_of shape in
    let last : c.len-last.result - 1 + 1 ≡ length c.ready_end.new.kids.items = omega (arith, new.two) in
    let child : c.len-last.result - 1 < length c.ready_end.new.kids.items = omega (arith, last) in
    let is = c.index_mut-kid.ensures.value in
    let level : c.index_mut-kid.result.now.height + 1 ≡ c.in-Fork.height = kid-level _ _ _ _ new child is in
    let high : c.in-Fork.height ≡ c.args.self.now.height = ap (λ (s : Shape _). s.height) shape in
    let few : length c.index_mut-kid.result.now.items ≤ length (joined c.ready_end.new.kids.items) = kid-few _ _ _ child is in
    let all : length (joined c.ready_end.new.kids.items) + 16384 < 2 ^ 62 = omega (arith, ap length e, c.requires.few) in
    let at : length c.ready_end.new.kids.items - 1 ≡ c.len-last.result - 1 = omega (arith, last) in
    let roomy : 0 < c.index_mut-kid.result.now.room = rw is (rw (← at) (c.in_ok-ready_end-in-Fork.ensures.room c.index_mut-kid.result.now)) in
    let higher : 0 < c.index_mut-kid.result.now.height = omega (arith, level, c.if-height-eq1.false) in
    (search rules, (search rules, (c.requires.some, (c.requires.most, (roomy, (higher, omega arith))))))

pub Tree::add_pages-invariant_of-self-in_err-count-in-Fork : goal.Tree::add_pages-invariant_of-self-in_err-count-in-Fork
Tree::add_pages-invariant_of-self-in_err-count-in-Fork g t c =
    let kept : AreKids c.in-Fork.height c.in-Fork.kids.items = (subst IsKept c.in-Fork.is c.self.invariant).0 in
    let room : 0 < WIDE - length c.in-Fork.kids.items = subst (λ (s : Shape _). 0 < s.room) (sym (ap shape_of (sym c.in-Fork.is) ∙ c.self.view_is)) c.requires.room in
    let new : AreKids c.in-Fork.height c.ready_end.new.kids.items = kids-ready _ _ _ kept room c.ready_end.ensures.least c.ready_end.ensures.most c.ready_end.ensures.under in
    let child : c.len-last.result - 1 < length c.ready_end.new.kids.items = omega (arith, new.two) in
    let is = c.index_mut-kid.ensures.value in
    (kids-set _ _ _ c.index_mut-kid.result.now _ new child is c.add_pages.ensures.level c.add_pages.ensures.deep, ends-same _ _ _ c.index_mut-kid.result.now _ c.ready_end.ensures.ends child is (ap length c.in_err-count-in-Fork.ensures.same))

pub Tree::add_pages-returns-in_err-count-in-Fork-clause-same : goal.Tree::add_pages-returns-in_err-count-in-Fork-clause-same
Tree::add_pages-returns-in_err-count-in-Fork-clause-same g t c =
    let kept : AreKids c.in-Fork.height c.in-Fork.kids.items = (subst IsKept c.in-Fork.is c.self.invariant).0 in
    let e : joined c.ready_end.new.kids.items ≡ c.args.self.now.items = c.ready_end.ensures.same ∙ ap items_of (ap shape_of (sym c.in-Fork.is) ∙ c.self.view_is) in
    let child : c.len-last.result - 1 < length c.ready_end.new.kids.items = omega (arith, kept.two, c.ready_end.ensures.least) in
    on-err c.from_residual-in_err-count-in-Fork.result _ (same-in c.ready_end.new.kids.items (c.len-last.result - 1) c.index_mut-kid.result.now c.add_pages.new.self child (c.in_err-count-in-Fork.ensures.same ∙ ap items_of c.index_mut-kid.ensures.value) ∙ e)

pub Tree::add_pages-overflow_add-index_mut : goal.Tree::add_pages-overflow_add-index_mut
Tree::add_pages-overflow_add-index_mut g t c =
    let kept : AreKids c.in-Fork.height c.in-Fork.kids.items = (subst IsKept c.in-Fork.is c.self.invariant).0 in
    let e : joined c.ready_end.new.kids.items ≡ c.args.self.now.items = c.ready_end.ensures.same ∙ ap items_of (ap shape_of (sym c.in-Fork.is) ∙ c.self.view_is) in
    let child : c.len-last.result - 1 < length c.ready_end.new.ends.items = omega (arith, kept.two, c.ready_end.ensures.least, c.ready_end.ensures.ends.count) in
    omega (arith, ends-few _ _ (c.len-last.result - 1) c.index_mut.result.now c.ready_end.ensures.ends child, c.index_mut.ensures.value, ap length e, c.requires.few, c.requires.most, c.in_ok-count-in-Fork.ensures.within)

pub Tree::add_pages-invariant_of-self-in-Fork : goal.Tree::add_pages-invariant_of-self-in-Fork
Tree::add_pages-invariant_of-self-in-Fork g t c =
    let kept : AreKids c.in-Fork.height c.in-Fork.kids.items = (subst IsKept c.in-Fork.is c.self.invariant).0 in
    let room : 0 < WIDE - length c.in-Fork.kids.items = subst (λ (s : Shape _). 0 < s.room) (sym (ap shape_of (sym c.in-Fork.is) ∙ c.self.view_is)) c.requires.room in
    let new : AreKids c.in-Fork.height c.ready_end.new.kids.items = kids-ready _ _ _ kept room c.ready_end.ensures.least c.ready_end.ensures.most c.ready_end.ensures.under in
    let last : c.len-last.result - 1 + 1 ≡ length c.ready_end.new.kids.items = omega (arith, new.two) in
    let is = c.index_mut-kid.ensures.value in
    let long : length c.add_pages.new.self.items ≡ length c.index_mut-kid.result.now.items + c.in_ok-count-in-Fork.count = ap length c.in_ok-count-in-Fork.ensures.items ∙ length-append _ _ ∙ ap (λ n. length c.index_mut-kid.result.now.items + n) (length-take-le _ _ c.in_ok-count-in-Fork.ensures.within) in
    let sum : c.index_mut.result.now + c.in_ok-count-in-Fork.count ≡ get_or c.ready_end.new.ends.items (c.len-last.result - 1) 0 + c.in_ok-count-in-Fork.count = ap (λ n. n + c.in_ok-count-in-Fork.count) (c.index_mut.ensures.value ∙ get_or_default c.ready_end.new.ends.items (c.len-last.result - 1) c.index_mut.result.now 0 (omega (arith, c.ready_end.ensures.ends.count, last))) in
    (kids-set _ _ _ c.index_mut-kid.result.now _ new (omega (arith, last)) is c.add_pages.ensures.level c.add_pages.ensures.deep, ends-last _ _ _ _ _ c.index_mut-kid.result.now _ c.ready_end.ensures.ends last is long sum)

pub Tree::add_pages-returns-in-Fork-clause-items : goal.Tree::add_pages-returns-in-Fork-clause-items
Tree::add_pages-returns-in-Fork-clause-items g t c =
    let kept : AreKids c.in-Fork.height c.in-Fork.kids.items = (subst IsKept c.in-Fork.is c.self.invariant).0 in
    let e : joined c.ready_end.new.kids.items ≡ c.args.self.now.items = c.ready_end.ensures.same ∙ ap items_of (ap shape_of (sym c.in-Fork.is) ∙ c.self.view_is) in
    let last : c.len-last.result - 1 + 1 ≡ length c.ready_end.new.kids.items = omega (arith, kept.two, c.ready_end.ensures.least) in
    append-last c.ready_end.new.kids.items c.args.self.now.items _ _ _ _ e c.index_mut-kid.ensures.value last c.in_ok-count-in-Fork.ensures.items
