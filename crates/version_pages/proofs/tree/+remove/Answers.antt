use Rattle.std.proofs.Common.{◌≡◌, ◌+◌, ◌≤◌, ◌++◌, ◌∙◌, ap, sym, subst, length, set, take, drop, arith}
use Rattle.std.proofs.lemmas.List.{length-set, take_at}
use Rattle.std.proofs.lemmas.Grind.{common_steps}
use Rattle.version_pages.specs.Keys.{first_key}
use Rattle.version_pages.specs.Nodes.{shape_of, IsKept}
use Rattle.version_pages.specs.Shape.{Shape, items_of, joined, AreEnds, AreKids}
use Rattle.version_pages.proofs.Edits.{same-kept}
use Rattle.version_pages.proofs.Gone.{gone-in, gone-key, gone-long, none-in, set-few}
use Rattle.version_pages.proofs.Grows.{kids-set}
use Rattle.version_pages.proofs.tree.+remove.Goals as goal

pub Kid::remove_inside-key_after-self-inside-requires : goal.Kid::remove_inside-key_after-self-inside-requires
Kid::remove_inside-key_after-self-inside-requires g t c =
    let a : c.in-Some.tree.now ≡ c.args.self.now = grind (arith, common_steps) in
    let noted : c.self.inside.key ≡ first_key g.T.Keyed.key_of c.in-Some.tree.now.items = c.self.invariant.1 ∙ ap (λ (s : Shape _). first_key g.T.Keyed.key_of (items_of s)) (c.self.view_is ∙ sym a) in
    gone-key g.T.Keyed.key_of c.in-Some.tree.now.items c.remove_inside.new.self.items c.args.i (c.args.i + c.args.count) c.in_ok-left.left c.self.inside.key noted (omega (arith, ap (λ (s : Shape _). length (items_of s)) a, c.requires.inside)) c.in_ok-left.ensures.gone c.in_ok-left.ensures.none

pub Tree::remove_inside-note_ends-requires-clause-few : goal.Tree::remove_inside-note_ends-requires-clause-few
Tree::remove_inside-note_ends-requires-clause-few g t c =
    let e : joined c.in-Fork.kids.items ≡ c.args.self.now.items = ap items_of (ap shape_of (sym c.in-Fork.is) ∙ c.self.view_is) in
    let inside : c.find-k.result.1 + c.args.count ≤ length (items_of c.index_mut-kid.result.now) = omega (arith, c.if-not-has_inside.ensures) in
    let long : length (items_of c.remove_inside-left.new.self) ≤ length (items_of c.index_mut-kid.result.now) = gone-long (items_of c.index_mut-kid.result.now) (items_of c.remove_inside-left.new.self) c.find-k.result.1 (c.find-k.result.1 + c.args.count) c.remove_inside-left.result (omega arith) inside c.remove_inside-left.ensures.gone c.remove_inside-left.ensures.none c.remove_inside-left.ensures.same in
    omega (arith, set-few c.in-Fork.kids.items c.find-k.result.0 c.index_mut-kid.result.now c.remove_inside-left.new.self c.find-k.ensures.child c.index_mut-kid.ensures.value long, ap length e, c.requires.few)

pub Tree::remove_inside-invariant_of-self-in-Fork : goal.Tree::remove_inside-invariant_of-self-in-Fork
Tree::remove_inside-invariant_of-self-in-Fork g t c =
    let both : AreKids c.in-Fork.height c.in-Fork.kids.items × AreEnds c.in-Fork.ends.items c.in-Fork.kids.items = subst IsKept c.in-Fork.is c.self.invariant in
    let all : take c.in-Fork.ends.len (c.note_ends.new.ends ++ drop (length c.note_ends.new.ends) c.in-Fork.ends.items) ≡ c.note_ends.new.ends = take_at _ _ _ (omega (arith, c.note_ends.ensures.count, length-set c.in-Fork.kids.items c.find-k.result.0 c.remove_inside-left.new.self, both.1.count, ap length c.deref_mut.ensures.value, c.deref_mut.ensures.len)) in
    (kids-set _ _ _ c.index_mut-kid.result.now _ both.0 c.find-k.ensures.child c.index_mut-kid.ensures.value c.remove_inside-left.ensures.level c.remove_inside-left.ensures.deep, subst (λ t. AreEnds t (set c.in-Fork.kids.items c.find-k.result.0 c.remove_inside-left.new.self)) (sym all) c.note_ends.ensures)

pub Tree::remove_inside-returns-in-Fork-clause-gone : goal.Tree::remove_inside-returns-in-Fork-clause-gone
Tree::remove_inside-returns-in-Fork-clause-gone g t c =
    let e : joined c.in-Fork.kids.items ≡ c.args.self.now.items = ap items_of (ap shape_of (sym c.in-Fork.is) ∙ c.self.view_is) in
    let inside : c.find-k.result.1 + c.args.count ≤ length (items_of c.index_mut-kid.result.now) = grind (arith, common_steps, c.has_inside.ensures, c.if-not-has_inside.false) in
    gone-in c.in-Fork.kids.items c.args.self.now.items c.args.i c.find-k.result.0 c.find-k.result.1 c.args.count c.index_mut-kid.result.now c.remove_inside-left.new.self c.remove_inside-left.result e c.find-k.ensures.child c.index_mut-kid.ensures.value c.find-k.ensures.place inside c.remove_inside-left.ensures.gone

pub Tree::remove_inside-returns-in-Fork-clause-none : goal.Tree::remove_inside-returns-in-Fork-clause-none
Tree::remove_inside-returns-in-Fork-clause-none g t c =
    let e : joined c.in-Fork.kids.items ≡ c.args.self.now.items = ap items_of (ap shape_of (sym c.in-Fork.is) ∙ c.self.view_is) in
    none-in c.in-Fork.kids.items c.args.self.now.items c.find-k.result.0 c.index_mut-kid.result.now c.remove_inside-left.new.self c.remove_inside-left.result e c.find-k.ensures.child c.index_mut-kid.ensures.value c.remove_inside-left.ensures.none

pub Tree::remove_inside-returns-in-Fork-clause-same : goal.Tree::remove_inside-returns-in-Fork-clause-same
Tree::remove_inside-returns-in-Fork-clause-same g t c =
    let e : joined c.in-Fork.kids.items ≡ c.args.self.now.items = ap items_of (ap shape_of (sym c.in-Fork.is) ∙ c.self.view_is) in
    same-kept c.in-Fork.kids.items c.args.self.now.items c.find-k.result.0 c.index_mut-kid.result.now c.remove_inside-left.new.self c.remove_inside-left.result e c.index_mut-kid.ensures.value c.find-k.ensures.child c.remove_inside-left.ensures.same
