use Rattle.topology.proofs.Values.{ends_pushed}
use Rattle.topology.proofs.steps.push_some_link.Goals as goal

pub returns-clause-held : goal.returns-clause-held
returns-clause-held c = ends_pushed c.args.links.now c.push.new.self c.args.link c.args.taken.now c.add.new.self c.add-2.new.self c.requires c.in_ok-add.ensures c.in_ok-add-2.ensures c.in_ok-push.ensures.ok
