-- The faults of each list of entries, and the refusals at one entry.
use Rattle.std.specs.Prelude.{ℕ, ◌+◌, Bool, List, [], ◌||◌, length, is_none}
use Rattle.toml.specs.Data.{Data, Members}
use Rattle.dn_model.specs.declared.topology.RouterTable.{RouterTable}
use Rattle.dn_model.specs.declared.topology.TopoLink.{TopoLink}
use Rattle.dn_formats.specs.declared.mark.Mark.{Mark}
use Rattle.dn_formats.specs.declared.topology_fault.TopoFault.{TopoFault}
use Rattle.dn_formats.specs.declared.topology_fault.TopoPart.TheVariants as part
use Rattle.dn_formats.specs.declared.topology_fault.TopoRefused.{TopoRefused}
use Rattle.dn_formats.specs.TopologyText.{name_in, router_in, table_in, faults_along, vrf_rows, link_rows, edge_rows, mark_rows}
use Rattle.topology.specs.Reading.{IsRefusalAt, first_at_link, first_at_edge, first_at_mark}
use Rattle.topology.specs.Taken.{Taken}

-- the faults of the entries of `vrf`, `link`, `edge` and `router`
abbrev pub vrf_faults : List (List ℕ) → List Data → List TopoFault
vrf_faults devices = faults_along part.Vrf (vrf_rows devices) []

abbrev pub link_faults : List (List ℕ) → List RouterTable → List Data → List TopoFault
link_faults routers tables = faults_along part.Link (link_rows routers tables) []

abbrev pub edge_faults : List (List ℕ) → List RouterTable → List TopoLink → List Data → List TopoFault
edge_faults routers tables links = faults_along part.Edge (edge_rows routers tables links) []

abbrev pub mark_faults : List (List ℕ) → List Data → List TopoFault
mark_faults routers = faults_along part.Router (mark_rows routers) []

-- a refusal at an entry of `link`, `edge` or `router`, by what stands before the entry
abbrev pub IsLinkRefused : List (List ℕ) → Taken → List TopoLink → Data → TopoRefused → Type 0
IsLinkRefused routers taken links entry =
    IsRefusalAt part.Link (length links + 1) (first_at_link routers taken links entry)

abbrev pub IsEdgeRefused : List (List ℕ) → Taken → ℕ → Data → TopoRefused → Type 0
IsEdgeRefused routers taken count entry = IsRefusalAt part.Edge (count + 1) (first_at_edge routers taken count entry)

abbrev pub IsMarkRefused : List (List ℕ) → List Mark → Data → TopoRefused → Type 0
IsMarkRefused routers marks entry = IsRefusalAt part.Router (length marks + 1) (first_at_mark routers marks entry)

-- whether a table of a VRF lacks one of its values
abbrev pub lacks_vrf_value : Members → Bool
lacks_vrf_value ms = is_none (router_in ms) || is_none (table_in ms) || is_none (name_in ms)
