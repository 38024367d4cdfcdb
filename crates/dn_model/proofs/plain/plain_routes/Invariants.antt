use Rattle.std.proofs.Common.{◌≡◌, [], fold, drop}
use Rattle.dn_model.specs.Table.{after_op, ops_on}
use Rattle.dn_model.specs.Tables.{replaces_prefix}
use Rattle.dn_model.proofs.plain.plain_routes.Given as goal

-- the routes so far, and the updates that are left, make the table
abbrev pub invariant-loop-entry : goal.invariant-loop-entry
invariant-loop-entry l = fold (after_op l.alone) l.routes.items (ops_on l.t l.router (drop l.entry-index l.entries)) ≡ fold (after_op (replaces_prefix l.t l.router)) [] (ops_on l.t l.router l.entries)
