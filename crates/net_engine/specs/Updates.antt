-- Updates of one router's routes, and what an entry's are.
use Rattle.std.specs.Prelude.{ℕ, Bool, false, List, [], ◌≡◌, ◌<◌, length, slice_index_or}
use Rattle.base.specs.declared.ids.RouterId.{RouterId}
use Rattle.dn_model.specs.Entry.{IsTargetOf, is_bound_of}
use Rattle.dn_model.specs.Table.{after_table_op}
use Rattle.dn_model.specs.Tables.{replaces_prefix}
use Rattle.dn_model.specs.declared.entry.Op.{Op}
use Rattle.dn_model.specs.declared.entry.Op.TheVariants as ops
use Rattle.dn_model.specs.declared.entry.Route.{Route}
use Rattle.dn_model.specs.declared.table_op.TableOp.{TableOp}
use Rattle.dn_model.specs.declared.table_op.TableOp.TheVariants.{Put, Clear}
use Rattle.dn_model.specs.declared.topology.Topology.{Topology}
use Rattle.dn_model.specs.declared.way.Way.{Way}
use Rattle.dn_model.specs.declared.way.Way.TheVariants.{Straight, By}
use Rattle.net_engine.specs.declared.update.Update.{Update}

-- the routes of an update's router, among those of all
abbrev pub its_routes : Update → List (List Route) → List Route
its_routes u tables = slice_index_or tables u.router.0 []

-- what an update makes of its router's routes
abbrev pub after_update : Update → List Route → List Route
after_update u routes = after_table_op u.table.alone routes u.table.op

-- an update of a router's routes, as the router replaces them
abbrev pub update_at : Topology → RouterId → TableOp → Update
update_at t r op = record { router = r; table = record { op = op; alone = replaces_prefix t r } }

-- what an update of a router does to its routes: nothing that is followed does more
abbrev pub IsUpdateOf : Topology → RouterId → Op → Update → Type 0
IsUpdateOf t r (ops.Set p m target) u = u ≡ update_at t r (Put p m (Straight target))
IsUpdateOf t r (ops.SetBy p m id) u = ⊥
IsUpdateOf t r (ops.Clear p m) u = u ≡ update_at t r (Clear p m)
IsUpdateOf t r (ops.Object id target) u = ⊥
IsUpdateOf t r (ops.NoObject id) u = ⊥

-- what a way says is the network's
abbrev pub IsWayOf : Topology → Way → Type 0
IsWayOf t (Straight target) = IsTargetOf t target
IsWayOf t (By id) = Unit {0}

-- what a table op puts is the network's
abbrev pub IsTableOpOf : Topology → TableOp → Type 0
IsTableOpOf t (Put p m w) = IsWayOf t w
IsTableOpOf t (Clear p m) = Unit {0}

-- an update of one of a network's routers
pub record IsOwnUpdate (t : Topology) (u : Update) : Type 0 where
  pub router : u.router.0 < length t.routers
  pub op : IsTableOpOf t u.table.op

-- an update puts a route
abbrev pub IsPut : TableOp → Type 0
IsPut (Put p m w) = Unit {0}
IsPut (Clear p m) = ⊥

-- whether an update puts a route whose prefix begins at an address, or ends before it
abbrev pub puts_end : ℕ → TableOp → Bool
puts_end a (Put p m w) = is_bound_of p a
puts_end a (Clear p m) = false
