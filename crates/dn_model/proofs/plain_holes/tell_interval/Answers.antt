use Rattle.dn_model.proofs.HolesLower.{holes-lower}
use Rattle.dn_model.proofs.plain_holes.tell_interval.Goals as goal

pub returns-clause-told : goal.returns-clause-told
returns-clause-told c = holes-lower _ _ c.args.first c.interval_below-low.result c.args.past c.args.holes.now.items c.tell_hole.new.holes.items c.interval_below-low.ensures.lower c.interval_below-low.ensures.alike c.requires.holes c.in_ok-tell_hole.ensures
