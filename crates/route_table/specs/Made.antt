-- An update that was made in the slot of its prefix, and in rows.
use Rattle.std.specs.Prelude.{ℕ, Bool, List, Option, None, Some, Result, Contains, IfNone, IfOk, IfSome, IsPermutation, OnErr, ◌≡◌, ◌≤◌, false, true}
use Rattle.base.specs.Cidr.{Cidr}
use Rattle.dn_model.specs.Table.{after_table_op, is_of_prefix, prefix_of_op}
use Rattle.dn_model.specs.declared.table_op.TableOp.{TableOp}
use Rattle.dn_model.specs.declared.entry.Route.{Route}
use Rattle.dn_model.specs.declared.way.Way.{Way}
use Rattle.route_table.specs.Ascending.{IsFound}
use Rattle.route_table.specs.Own.{SetsOrHas, TellsNew}
use Rattle.route_table.specs.Rows.{AreWhole, KeepsRoutes, slots_in, tables_in}
use Rattle.route_table.specs.Searches.{IsBaseBefore}
use Rattle.route_table.specs.Slots.{PrefixRoutes, key_of, routes_of, slot_key}
use Rattle.base.specs.declared.memory.OutOfMemory.{OutOfMemory}
use Rattle.route_table.specs.declared.rows.PrefixRow.{PrefixRow}
use Rattle.route_table.specs.declared.table_update.TableUpdate.{TableUpdate}
use Rattle.route_table.specs.declared.update.Made.{Made}

-- the route of a prefix with the least metric
pub record IsLeastOf (routes : List Route) (p : Cidr) (b : Route) : Type 0 where
  pub among : Contains routes b
  pub prefix : b.prefix ≡ p
  pub least : (r : Route) → Contains routes r → is_of_prefix p r ≡ true → b.metric ≤ r.metric

-- what it does; none exactly where there is no route of the prefix
abbrev pub IsFirstIn : List Route → Cidr → Option Way → Type 0
IsFirstIn routes p None = (r : Route) → Contains routes r → is_of_prefix p r ≡ false
IsFirstIn routes p (Some t) = (b : Route) × IsLeastOf routes p b × (b.way ≡ t)

-- The routes are what the update makes of them; its prefix's slot has this place; and what the prefix's route with the least
-- metric did, and does.
pub record IsMade (old new : List PrefixRoutes) (alone : Bool) (op : TableOp) (place : ℕ) (base : Option ℕ) (before first : Option Way) : Type 0 where
  pub routes : IsPermutation (routes_of new) (after_table_op alone (routes_of old) op)
  pub found : IsFound slot_key new (key_of (prefix_of_op op)) place
  pub base_is : IfSome base (IsBaseBefore new place)
  pub before_is : IsFirstIn (routes_of old) (prefix_of_op op) before
  pub first_is : IsFirstIn (routes_of new) (prefix_of_op op) first
  pub had : SetsOrHas (routes_of old) op

-- What an update of one of four tables makes of their rows, and what is answered of it: nothing where it changes nothing.
-- Where memory is wanting all is as before. The other tables have the routes that they had.
pub record IsMaking (lane : ℕ) (old new : List PrefixRow) (lengths : List Bool) (u : TableUpdate) (result : Result (Option Made) OutOfMemory) : Type 0 where
  pub made : IfOk result (λ made. IfSome made (λ m. IsMade (slots_in lane old) (slots_in lane new) u.alone u.op m.place m.base m.before m.first))
  pub same : IfOk result (λ made. IfNone made (new ≡ old))
  pub unmade : IfOk result (λ made. IfNone made (IsPermutation (routes_of (slots_in lane old)) (after_table_op u.alone (routes_of (slots_in lane old)) u.op)))
  pub err : OnErr result (new ≡ old)
  pub others : KeepsRoutes lane old new
  pub whole : AreWhole new lengths
  pub is_new : IfOk result (λ made. IfSome made (λ m. TellsNew (tables_in old) u.op m.is_new))
  pub known : IfOk result (λ made. IfNone made (TellsNew (tables_in old) u.op false))
