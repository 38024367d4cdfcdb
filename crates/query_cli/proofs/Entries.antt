-- Laws of lists of calls that the world of files cites.
use Rattle.dn_io.proofs.CallsLemmas.{with_state-out, IsOutAt-below, state_at-out}

pub ruleset entries = (with_state-out, IsOutAt-below, state_at-out)
