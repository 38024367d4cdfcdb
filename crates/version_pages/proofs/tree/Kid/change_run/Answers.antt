use Rattle.std.proofs.Common.{◌≡◌, ap, sym, ◌∙◌, arith}
use Rattle.std.proofs.lemmas.Grind.{common_steps}
use Rattle.version_pages.specs.Keys.{first_key}
use Rattle.version_pages.specs.Shape.{Shape, items_of}
use Rattle.version_pages.proofs.Edits.{run-key}
use Rattle.version_pages.proofs.tree.Kid.change_run.Goals as goal

pub key_after-self-inside-requires : goal.key_after-self-inside-requires
key_after-self-inside-requires g c =
    let a : c.in-Some.tree.now ≡ c.args.self.now = grind (arith, common_steps) in
    let noted : c.self.inside.key ≡ first_key g.T.Keyed.key_of c.in-Some.tree.now.items = c.self.invariant.1 ∙ ap (λ (s : Shape _). first_key g.T.Keyed.key_of (items_of s)) (c.self.view_is ∙ sym a) in
    run-key _ _ g.T.Keyed.key_of _ _ c.args.i _ _ c.change_run-answer.ensures.changed c.change_run-answer.ensures.same noted
