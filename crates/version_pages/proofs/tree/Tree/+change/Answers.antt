use Rattle.std.proofs.Common.{◌≡◌, ap, sym, subst, ◌∙◌, ◌<◌, length, arith, get_or, set}
use Rattle.std.proofs.lemmas.Grind.{common_steps}
use Rattle.version_pages.specs.Nodes.{shape_of, IsKept}
use Rattle.version_pages.specs.Shape.{Shape, items_of, joined, AreEnds, AreKids}
use Rattle.version_pages.proofs.Edits.{changed-in, changed-long, same-kept}
use Rattle.version_pages.proofs.Ends.{ends-same}
use Rattle.version_pages.proofs.Grows.{deep-long, kids-set}
use Rattle.version_pages.proofs.tree.Tree.+change.Goals as goal

pub returns-in-Fork-clause-changed : goal.returns-in-Fork-clause-changed
returns-in-Fork-clause-changed g t c =
    let e : joined c.in-Fork.kids.items ≡ c.args.self.now.items = ap items_of (ap shape_of (sym c.in-Fork.is) ∙ c.self.view_is) in
    let a : c.in-Some.child.now ≡ c.index_mut-kid.result.now = grind (arith, common_steps) in
    let in' : c.args.i < length (joined c.in-Fork.kids.items) = omega (arith, ap length e, c.requires.inside) in
    changed-in _ _ c.in-Fork.kids.items _ c.find-k.result.0 _ c.find-k.result.1 _ _ _ e c.index_mut-kid.ensures.value c.find-k.ensures.child c.find-k.ensures.place (c.find-k.ensures.inside _ in') (rw a at c.change-answer.ensures.changed)

pub returns-in-Fork-clause-same : goal.returns-in-Fork-clause-same
returns-in-Fork-clause-same g t c =
    let e : joined c.in-Fork.kids.items ≡ c.args.self.now.items = ap items_of (ap shape_of (sym c.in-Fork.is) ∙ c.self.view_is) in
    let a : c.in-Some.child.now ≡ c.index_mut-kid.result.now = grind (arith, common_steps) in
    same-kept c.in-Fork.kids.items _ c.find-k.result.0 _ _ _ e c.index_mut-kid.ensures.value c.find-k.ensures.child (rw a at c.change-answer.ensures.same)

pub returns-clause-changed : goal.returns-clause-changed
returns-clause-changed g t c =
    let e : c.in-Page.items.items ≡ c.args.self.now.items = ap items_of (ap shape_of (sym c.in-Page.is) ∙ c.self.view_is) in
    record {
      value = c.call_at.new.value;
      called = λ d. let v : c.index_mut.result.now ≡ get_or c.args.self.now.items c.args.i d = grind (arith, common_steps, c.index_mut.ensures.value) in rw v at c.call_at.ensures;
      list = ap (λ l. set l c.args.i c.call_at.new.value) e;
    }

pub invariant_of-self-in-Fork : goal.invariant_of-self-in-Fork
invariant_of-self-in-Fork g t c =
    let both : AreKids c.in-Fork.height c.in-Fork.kids.items × AreEnds c.in-Fork.ends.items c.in-Fork.kids.items = subst IsKept c.in-Fork.is c.self.invariant in
    let a : c.in-Some.child.now ≡ c.index_mut-kid.result.now = grind (arith, common_steps) in
    let is = c.index_mut-kid.ensures.value in
    let level : c.change-answer.new.self.height ≡ c.index_mut-kid.result.now.height = c.change-answer.ensures.level ∙ ap (λ (s : Shape _). s.height) a in
    let long : length c.change-answer.new.self.items ≡ length c.index_mut-kid.result.now.items = changed-long _ _ _ _ _ _ c.change-answer.ensures.changed c.change-answer.ensures.same ∙ ap (λ (s : Shape _). length (items_of s)) a in
    (kids-set _ _ _ c.index_mut-kid.result.now _ both.0 c.find-k.ensures.child is level (deep-long _ _ long level), ends-same _ _ _ c.index_mut-kid.result.now _ both.1 c.find-k.ensures.child is long)
