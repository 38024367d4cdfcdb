use Rattle.topology.proofs.Values.{has_text-links}
use Rattle.topology.proofs.taken.has_link_name.Goals as goal

pub returns : goal.returns
returns c = rw (has_text-links c.args.name.now c.args.links.now) c.is_among_link_names.ensures
