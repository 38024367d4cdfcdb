use Rattle.std.proofs.Common.{◌≡◌, List, drop, fold, sym, ◌∙◌, ap, Some}
use Rattle.fast_pins.specs.Known.{Known}
use Rattle.fast_pins.proofs.Shown.{claims, last_shown, if_ok, at_ok}
use Rattle.fast_pins.proofs.shelf.show.Goals as goal

pub publish_as-shelf-requires : goal.publish_as-shelf-requires
publish_as-shelf-requires g c next is =
    let pending = if_ok c.append.result _ _ c.append.ensures.pending (sym c.is_err.ensures.value ∙ c.if-is_err.false) in
    let now = c.append.new.self.desk.shown.value in
    let old = drop c.args.shelf.behind c.args.shelf.log.items in
    let it : next ≡ c.args.edition = is ∙ (ap (λ (l : List Known). fold (λ (x : Known) (y : Known). y) now l) pending ∙ last_shown now old c.args.edition) in
    claims _ _ now next (ap (λ d. d.shown.value.origin) c.append.ensures.desk ∙ (c.requires.origin ∙ sym (ap (λ (k : Known). k.origin) it)))

pub returns-in-Ok-clause-shown : goal.returns-in-Ok-clause-shown
returns-in-Ok-clause-shown g c =
    let pending = if_ok c.append.result _ _ c.append.ensures.pending (sym c.is_err.ensures.value ∙ c.if-is_err.false) in
    let now = c.append.new.self.desk.shown.value in
    let old = drop c.args.shelf.behind c.args.shelf.log.items in
    let values = at_ok c.publish_as-shelf.result.1 _ _ c.publish_as-shelf.ensures.values _ c.in-Ok.is in
    values.0 ∙ (ap (λ (l : List Known). fold (λ (x : Known) (y : Known). y) now l) pending ∙ last_shown now old c.args.edition)

pub returns-in-Ok-clause-view : goal.returns-in-Ok-clause-view
returns-in-Ok-clause-view g c =
    let rule = at_ok c.publish_as-shelf.result.1 _ _ c.publish_as-shelf.ensures.rule _ c.in-Ok.is in
    rule ∙ ap (λ (k : Known). Some k.origin) (returns-in-Ok-clause-shown g c)
