use Rattle.std.proofs.Common.{◌≡◌, ap, sym, subst, ◌∙◌, length, arith}
use Rattle.std.proofs.lemmas.Grind.{common_steps}
use Rattle.version_pages.specs.Keys.{first_key}
use Rattle.version_pages.specs.Nodes.{shape_of, IsKept}
use Rattle.version_pages.specs.Shape.{Shape, items_of, joined, AreEnds, AreKids}
use Rattle.version_pages.proofs.Edits.{run-changed-in, run-key, run-long, same-kept}
use Rattle.version_pages.proofs.Ends.{ends-same}
use Rattle.version_pages.proofs.Grows.{deep-long, kids-set}
use Rattle.version_pages.proofs.tree.Tree.+change_run.Goals as goal

pub returns-in-Fork-clause-changed : goal.returns-in-Fork-clause-changed
returns-in-Fork-clause-changed g t c =
    let e : joined c.in-Fork.kids.items ≡ c.args.self.now.items = ap items_of (ap shape_of (sym c.in-Fork.is) ∙ c.self.view_is) in
    let a : c.in-Some.child.now ≡ c.index_mut-kid.result.now = grind (arith, common_steps) in
    run-changed-in _ _ c.in-Fork.kids.items _ c.find-k.result.0 _ c.find-k.result.1 _ _ _ e c.index_mut-kid.ensures.value c.find-k.ensures.child c.find-k.ensures.place (rw a at c.change_run-answer.ensures.changed)

pub returns-in-Fork-clause-same : goal.returns-in-Fork-clause-same
returns-in-Fork-clause-same g t c =
    let e : joined c.in-Fork.kids.items ≡ c.args.self.now.items = ap items_of (ap shape_of (sym c.in-Fork.is) ∙ c.self.view_is) in
    let a : c.in-Some.child.now ≡ c.index_mut-kid.result.now = grind (arith, common_steps) in
    same-kept c.in-Fork.kids.items _ c.find-k.result.0 _ _ _ e c.index_mut-kid.ensures.value c.find-k.ensures.child (rw a at c.change_run-answer.ensures.same)

pub invariant_of-self-in-Fork : goal.invariant_of-self-in-Fork
invariant_of-self-in-Fork g t c =
    let both : AreKids c.in-Fork.height c.in-Fork.kids.items × AreEnds c.in-Fork.ends.items c.in-Fork.kids.items = subst IsKept c.in-Fork.is c.self.invariant in
    let a : c.in-Some.child.now ≡ c.index_mut-kid.result.now = grind (arith, common_steps) in
    let is = c.index_mut-kid.ensures.value in
    let level : c.change_run-answer.new.self.height ≡ c.index_mut-kid.result.now.height = c.change_run-answer.ensures.level ∙ ap (λ (s : Shape _). s.height) a in
    let long : length c.change_run-answer.new.self.items ≡ length c.index_mut-kid.result.now.items = run-long _ _ _ _ _ _ c.change_run-answer.ensures.changed c.change_run-answer.ensures.same ∙ ap (λ (s : Shape _). length (items_of s)) a in
    (kids-set _ _ _ c.index_mut-kid.result.now _ both.0 c.find-k.ensures.child is level (deep-long _ _ long level), ends-same _ _ _ c.index_mut-kid.result.now _ both.1 c.find-k.ensures.child is long)

pub key_after-kid-inside-requires : goal.key_after-kid-inside-requires
key_after-kid-inside-requires g t c =
    let a : c.in-Some.child.now ≡ c.index_mut-kid.result.now = grind (arith, common_steps) in
    let noted : c.kid.inside.key ≡ first_key g.T.Keyed.key_of c.in-Some.child.now.items = c.kid.invariant.1 ∙ ap (λ (s : Shape _). first_key g.T.Keyed.key_of (items_of s)) (c.kid.view_is ∙ sym a) in
    run-key _ _ g.T.Keyed.key_of _ _ c.find-k.result.1 _ _ c.change_run-answer.ensures.changed c.change_run-answer.ensures.same noted
