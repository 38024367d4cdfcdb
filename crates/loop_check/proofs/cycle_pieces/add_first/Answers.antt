use Rattle.std.proofs.Common.{◌∙◌}
use Rattle.loop_check.proofs.ShareParts.{added-new}
use Rattle.loop_check.proofs.cycle_pieces.add_first.Goals as goal

pub returns : goal.returns
returns c =
    added-new c.args.cycle.now c.args.known.now.entries c.insert.new.self.entries c.in_ok-routers.routers c.args.share c.requires.unknown
    (c.in_ok-routers.ensures.items_if_clones_equal (λ x y h. h) ∙ c.as_slice.ensures.value) c.in_ok-_none.ensures.entries c.requires.share
