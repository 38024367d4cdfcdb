use Rattle.std.proofs.Common.{◌∙◌, sym, subst}
use Rattle.std.proofs.lemmas.Bool.{false≢true}
use Rattle.std.specs.Prelude.{Contains}
use Rattle.loop_check.specs.Following.{is_among}
use Rattle.loop_keeper.specs.Kept.{Kept}
use Rattle.loop_keeper.proofs.Segments.{any-none}
use Rattle.loop_keeper.proofs.editing.has_router_at.Goals as goal

pub returns-in-Some : goal.returns-in-Some
returns-in-Some c = λ f d rs l m.
    let P : Kept → Type 0 = λ v. Contains v.cycles rs in
    any-none (λ v. is_among v c.args.router) c.in-Some.segment.now.cycles rs (sym c.has_router.ensures ∙ f) (subst P (sym (c.in-Some.ensures.element d)) m)

pub returns-in-None : goal.returns-in-None
returns-in-None c = λ f d rs l m. absurd (false≢true (c.in-None.ensures.inside.1 l))
