use Rattle.std.proofs.Common.{◌≡◌, ◌∷◌, drop}
use Rattle.base.specs.Cycles.{go_round}
use Rattle.base.specs.Walk.{at_address}
use Rattle.dn_model.specs.Network.{does_in}
use Rattle.dn_model.proofs.plain_cycle.do_go_round.Given as goal

-- what is left decides
abbrev pub invariant-loop-router : goal.invariant-loop-router
invariant-loop-router l =
    go_round (at_address (does_in l.net) l.a) l.first (l.last ∷ drop l.router-index l.others)
    ≡ go_round (at_address (does_in l.net) l.a) l.first (l.first ∷ l.others)
