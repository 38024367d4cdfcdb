use Rattle.std.proofs.Common.{◌≡◌, fold, filter, drop}
use Rattle.base.specs.Cidr.{covers}
use Rattle.dn_model.specs.Table.{better, best}
use Rattle.dn_model.proofs.plain.plain_best.Given as goal

-- the first so far, and those that are left, make the route of all
abbrev pub invariant-loop-route : goal.invariant-loop-route
invariant-loop-route l = fold better l.first (filter (λ r. covers r.prefix l.a) (drop l.route-index l.routes)) ≡ best l.routes l.a
