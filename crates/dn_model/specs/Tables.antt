-- Whose routing table each router of a network is: a device's main table, or the table of one of its VRFs.
use Rattle.std.specs.Prelude.{ℕ, Bool, true, false, ◌&&◌, ◌==◌, Option, None, slice_get, position, option_map, if◌then◌else◌}
use Rattle.std.specs.Option.{option_map_or}
use Rattle.dn_model.specs.Topology.{Parts, device_in}
use Rattle.base.specs.declared.ids.RouterId.{RouterId}
use Rattle.dn_model.specs.declared.topology.Topology.{Topology}
use Rattle.dn_model.specs.declared.topology.Replace.{Replace}
use Rattle.dn_model.specs.declared.topology.Replace.TheVariants.{Key, Prefix}

-- the device of a router; a device is its own, and so is a router that isn't there
abbrev pub device_of : Topology → RouterId → RouterId
device_of t r = device_in t.tables r

abbrev pub is_prefix : Replace → Bool
is_prefix Key = false
is_prefix Prefix = true

-- whether a route that is set takes the place of all routes of its prefix, and not only of the one of its metric
abbrev pub replaces_prefix : Topology → RouterId → Bool
replaces_prefix t r = option_map_or (λ table. is_prefix table.replace) (slice_get t.tables r.0) false

-- the router that is this table of a device: 254 is the device
abbrev pub router_of_table : Topology → RouterId → ℕ → Option RouterId
router_of_table t device number =
    option_map (λ i. record { 0 = i }) (position (λ table. (table.device.0 == device.0) && (table.number == number)) t.tables)

-- the VRF of a device whose table has this number; 254 is the device's own
abbrev pub vrf_of : Topology → RouterId → ℕ → Option RouterId
vrf_of t device number = if number == 254 then None else router_of_table t device number

-- the lists that a topology consists of
abbrev pub parts : Topology → Parts
parts t = record { routers = t.routers; tables = t.tables; links = t.links; edges = t.edges }
