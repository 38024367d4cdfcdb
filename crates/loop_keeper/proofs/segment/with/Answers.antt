use Rattle.std.proofs.Common.{◌≡◌, ◌∙◌, List, ap, sym, subst, ◌++◌, ◌∷◌, []}
use Rattle.std.specs.Prelude.{Contains}
use Rattle.base.specs.declared.ids.RouterId.{RouterId}
use Rattle.loop_keeper.proofs.Segments.{with-new, with-there}
use Rattle.loop_keeper.proofs.segment.with.Goals as goal

pub returns-then-has_cycle : goal.returns-then-has_cycle
returns-then-has_cycle c =
    let P : List RouterId → Type 0 = λ v. Contains c.args.cycles.now v in
    with-there c.args.one.now c.args.cycles.now c.in_ok-more.more.items (subst P c.routers.ensures (c.has_cycle.ensures.yes c.if-has_cycle.true)) c.in_ok-more.ensures

pub returns : goal.returns
returns c =
    let P : List RouterId → Type 0 = λ v. Contains c.args.cycles.now v in
    let Q : List (List RouterId) → Type 0 = λ v. c.push.new.self.items ≡ v in
    with-new c.args.one.now c.args.cycles.now c.push.new.self.items (λ m. c.has_cycle.ensures.refused c.if-has_cycle.false (subst P (sym c.routers.ensures) m))
    (c.in_ok-push.ensures.items ∙ ap (λ (v : List (List RouterId)). v ++ c.in_ok-copy.field-0 ∷ []) c.in_ok-more.ensures ∙ ap (λ (v : List RouterId). c.args.cycles.now ++ v ∷ []) c.in_ok-copy.ensures)
