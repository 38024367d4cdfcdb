use Rattle.route_table.proofs.Around.{NoneFrom}
use Rattle.route_table.proofs.table.RouteTable.best.Given as goal

-- no route of the lengths that were looked at covers the address
abbrev pub invariant-loop-len : goal.invariant-loop-len
invariant-loop-len l = NoneFrom l.self l.a l.len
