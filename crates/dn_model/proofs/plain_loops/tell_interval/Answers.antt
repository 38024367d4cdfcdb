use Rattle.dn_model.proofs.CyclesLower.{cycles-lower}
use Rattle.dn_model.proofs.Moments.{in-none}
use Rattle.dn_model.proofs.plain_loops.tell_interval.Goals as goal

pub returns-clause-told : goal.returns-clause-told
returns-clause-told c = cycles-lower _ _ c.interval_below-low.result c.args.past c.args.cycles.now.items c.tell_address.new.cycles.items (in-none c.args.net.now) c.interval_below-low.ensures.lower c.interval_below-low.ensures.alike c.requires.cycles c.in_ok-tell_address.ensures
