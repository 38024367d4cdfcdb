-- What the reader of a topology answers, entry by entry.
use Rattle.std.specs.Prelude.{◌≡◌, ℕ, ◌≤◌, Bool, List, [], ◌∷◌, ◌++◌, length, map, Option, None, Some, option_map, Err, if◌then◌else◌}
use Rattle.toml.specs.Data.{Data, Members}
use Rattle.dn_model.specs.declared.topology.RouterTable.{RouterTable}
use Rattle.dn_model.specs.declared.topology.TopoEnd.{TopoEnd}
use Rattle.dn_model.specs.declared.topology.TopoLink.{TopoLink}
use Rattle.dn_formats.specs.declared.mark.Mark.{Mark}
use Rattle.dn_formats.specs.declared.topology_fault.TopoFault.{TopoFault}
use Rattle.dn_formats.specs.declared.topology_fault.TopoPart.{TopoPart}
use Rattle.dn_formats.specs.declared.topology_fault.TopoPart.TheVariants as Part
use Rattle.dn_formats.specs.declared.topology_fault.TopoPart.TheVariants.{Vrf, Link, Edge, Router}
use Rattle.dn_formats.specs.declared.topology_fault.TopoRefused.{TopoRefused}
use Rattle.dn_formats.specs.declared.topology_fault.TopoRefused.TheVariants.{Fault, OutOfMemory}
use Rattle.dn_formats.specs.TopologyText.{said_by, vrf_causes, link_causes, edge_causes, mark_causes, faults_along, router_rows, vrf_rows, link_rows, edge_rows, mark_rows, routers_said, names_with, tables_with, links_said, edges_said, marks_said, Sections, names_said, unmarked_tables}
use Rattle.topology.specs.Taken.{Taken}
use Rattle.topology.specs.declared.all_routers.Routers.{Routers}

-- the cause of the first row that stands
abbrev pub first_standing : {A : Type 0} → List (ℕ × (A → Bool)) → A → Option ℕ
first_standing [] x = None
first_standing (row ∷ rows) x = if row.1 x then Some row.0 else first_standing rows x

abbrev pub fault_at : TopoPart → ℕ → ℕ → TopoFault
fault_at part entry cause = record { part = part; entry = entry; cause = cause }

-- a refusal at an entry: the fault of the first cause there, or want of memory
abbrev pub IsRefusalAt : TopoPart → ℕ → Option ℕ → TopoRefused → Type 0
IsRefusalAt part entry cause (Fault fault) = option_map (fault_at part entry) cause ≡ Some fault
IsRefusalAt part entry cause OutOfMemory = Unit {0}

abbrev pub first_of : List TopoFault → Option TopoFault
first_of [] = None
first_of (fault ∷ more) = Some fault

-- a refusal of a list of entries: the first of its faults, or want of memory
abbrev pub IsFirstFault : List TopoFault → TopoRefused → Type 0
IsFirstFault faults (Fault fault) = first_of faults ≡ Some fault
IsFirstFault faults OutOfMemory = Unit {0}

-- a refusal of a document, or of what is none
abbrev pub IsSaidRefusal : Option Members → TopoRefused → Type 0
IsSaidRefusal doc (Fault fault) = said_by doc ≡ Err fault
IsSaidRefusal doc OutOfMemory = Unit {0}

-- the first cause at an entry of each list, by what stands before the entry
abbrev pub first_at_vrf : List (List ℕ) → List (List ℕ) → List RouterTable → Data → Option ℕ
first_at_vrf devices names tables = first_standing (vrf_causes devices (length names) names tables)

abbrev pub first_at_link : List (List ℕ) → Taken → List TopoLink → Data → Option ℕ
first_at_link routers taken links =
    first_standing (link_causes routers taken.tables (length links) (map (λ l. l.name) links) taken.ends)

abbrev pub first_at_edge : List (List ℕ) → Taken → ℕ → Data → Option ℕ
first_at_edge routers taken count = first_standing (edge_causes routers taken.tables count taken.ends)

abbrev pub first_at_mark : List (List ℕ) → List Mark → Data → Option ℕ
first_at_mark routers marks = first_standing (mark_causes routers marks)

-- entries without a fault, and what they say
pub record SayRouters (entries : List Data) (names : List (List ℕ)) : Type 0 where
  pub faultless : faults_along Part.Routers router_rows [] entries ≡ []
  pub said : names ≡ routers_said entries
  pub few : length names ≤ 1024

pub record SayVrfs (devices : List (List ℕ)) (entries : List Data) (names : List (List ℕ)) (tables : List RouterTable)
    : Type 0 where
  pub faultless : faults_along Vrf (vrf_rows devices) [] entries ≡ []
  pub named : names ≡ names_with devices entries
  pub said : tables ≡ tables_with devices entries
  pub few : length names ≤ 1024

pub record SayLinks (routers : List (List ℕ)) (tables : List RouterTable) (entries : List Data) (links : List TopoLink)
    : Type 0 where
  pub faultless : faults_along Link (link_rows routers tables) [] entries ≡ []
  pub said : links ≡ links_said routers entries

pub record SayEdges (routers : List (List ℕ)) (tables : List RouterTable) (links : List TopoLink) (entries : List Data)
    (edges : List TopoEnd) : Type 0 where
  pub faultless : faults_along Edge (edge_rows routers tables links) [] entries ≡ []
  pub said : edges ≡ edges_said routers entries

pub record SayMarks (routers : List (List ℕ)) (entries : List Data) (marks : List Mark) : Type 0 where
  pub faultless : faults_along Router (mark_rows routers) [] entries ≡ []
  pub said : marks ≡ marks_said routers entries

-- devices and VRFs without a fault: their names, and whose table each is
pub record SayAllRouters (lists : Sections) (all : Routers) : Type 0 where
  pub faultless : faults_along Part.Routers router_rows [] lists.routers
      ++ faults_along Vrf (vrf_rows (routers_said lists.routers)) [] lists.vrfs ≡ []
  pub named : all.names ≡ names_said lists
  pub said : all.tables ≡ unmarked_tables lists
  pub few : length all.names ≤ 1024
