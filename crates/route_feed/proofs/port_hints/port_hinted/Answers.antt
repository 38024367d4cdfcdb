use Rattle.route_feed.proofs.HintLemmas.{guess_within}
use Rattle.route_feed.proofs.port_hints.port_hinted.Goals as goal

-- what was guessed is what is there
pub returns-in-Some-clause-within : goal.returns-in-Some-clause-within
returns-in-Some-clause-within c = guess_within c.args.topology.now c.args.router c.args.index c.in-Some.port c.in-Some.ensures
