-- What a topology is, and how its routers, links and interfaces are found.
use Rattle.std.specs.Prelude.{ℕ, Bool, true, List, [], ◌∷◌, ◌++◌, length, nat_le, nat_lt, ◌&&◌, ◌==◌, not, map, slice_get, if◌then◌else◌, false}
use Rattle.std.specs.List.{list_all}
use Rattle.std.specs.Option.{option_map_or}
use Rattle.base.specs.Name.{is_name_text}
use Rattle.base.specs.declared.ids.RouterId.{RouterId}
use Rattle.dn_model.specs.declared.topology.RouterTable.{RouterTable}
use Rattle.dn_model.specs.declared.topology.TopoEnd.{TopoEnd}
use Rattle.dn_model.specs.declared.topology.TopoLink.{TopoLink}
use Rattle.base.specs.Name.{same_text}
use Rattle.base.specs.Lists.{all_differ}

-- the device whose table a router is, by all tables
abbrev pub device_in : List RouterTable → RouterId → RouterId
device_in tables r = option_map_or (λ table. table.device) (slice_get tables r.0) r

-- whether two ends are the same interface of the same device
abbrev pub same_end : List RouterTable → TopoEnd → TopoEnd → Bool
same_end tables a b = ((device_in tables a.router).0 == (device_in tables b.router).0) && (a.index == b.index)

-- both ends of each link
abbrev pub all_ends : List TopoLink → List TopoEnd
all_ends [] = []
all_ends (l ∷ ls) = l.first ∷ l.second ∷ all_ends ls

-- an interface of one of this many routers
abbrev pub is_end_of : ℕ → TopoEnd → Bool
is_end_of routers e = nat_lt e.router.0 routers && nat_le 1 e.index && nat_le e.index 2147483647

-- a link of one of this many routers to another
abbrev pub is_link_of : ℕ → TopoLink → Bool
is_link_of routers l = is_name_text l.name && is_end_of routers l.first && is_end_of routers l.second && not (l.first.router.0 == l.second.router.0)

-- whether two tables are one
abbrev pub same_table : RouterTable → RouterTable → Bool
same_table x y = (x.device.0 == y.device.0) && (x.number == y.number)

-- the main table of a device, which no VRF stands before, or the table of a VRF of a device: one of its own number, 1 to
-- 2^32 - 1 but for 254
abbrev pub is_table_at : List RouterTable → ℕ → RouterTable → Bool
is_table_at earlier i table =
    if table.device.0 == i then (table.number == 254) && list_all (λ other. other.number == 254) earlier
    else option_map_or (λ of. (of.device.0 == table.device.0)) (slice_get earlier table.device.0) false
    && not (table.number == 254) && nat_le 1 table.number

-- each of these tables, of which so many stand before the first, is one
abbrev pub are_tables_from : List RouterTable → List RouterTable → Bool
are_tables_from earlier [] = true
are_tables_from earlier (table ∷ more) = is_table_at earlier (length earlier) table && are_tables_from (earlier ++ table ∷ []) more

-- what a topology consists of: the names of its routers, whose table each of them is, its links and its edges
pub record Parts : Type 0 where
  pub routers : List (List ℕ)
  pub tables : List RouterTable
  pub links : List TopoLink
  pub edges : List TopoEnd

-- each router has its table
abbrev pub are_tables : ℕ → List RouterTable → Bool
are_tables routers tables = (length tables == routers) && are_tables_from [] tables && all_differ same_table tables

-- names of routers differ, no two of them are one table, names of links differ, no interface stands twice, no link leads
-- back to its own router
abbrev pub is_sound_topology : Parts → Bool
is_sound_topology p =
    are_tables (length p.routers) p.tables
    && nat_le (length p.routers) 1024 && nat_le (length p.links) 4096 && nat_le (length p.edges) 16384
    && list_all is_name_text p.routers && all_differ same_text p.routers
    && list_all (is_link_of (length p.routers)) p.links && all_differ same_text (map (λ l. l.name) p.links)
    && list_all (is_end_of (length p.routers)) p.edges && all_differ (same_end p.tables) (all_ends p.links ++ p.edges)
