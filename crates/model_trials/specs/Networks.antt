-- The networks of the trials.
use Rattle.std.specs.Prelude.{ℕ, List, [], ◌∷◌, ◌++◌, codes, false}
use Rattle.base.specs.declared.ids.RouterId.{RouterId}
use Rattle.dn_model.specs.Topology.{Parts}
use Rattle.dn_model.specs.declared.topology.Replace.{Replace}
use Rattle.dn_model.specs.declared.topology.Replace.TheVariants.{Key}
use Rattle.dn_model.specs.declared.topology.RouterTable.{RouterTable}
use Rattle.dn_model.specs.declared.topology.TopoEnd.{TopoEnd}
use Rattle.dn_model.specs.declared.topology.TopoLink.{TopoLink}

-- a router by its number
abbrev pub router : ℕ → RouterId
router i = record { 0 = i }

-- an interface of a router
abbrev pub end_at : ℕ → ℕ → TopoEnd
end_at i index = record { router = router i; index = index }

-- a link of this name
abbrev pub link_of : List ℕ → TopoEnd → TopoEnd → TopoLink
link_of name first second = record { name = name; first = first; second = second; unnumbered = false }

-- a table of a device
abbrev pub table_of : ℕ → ℕ → Replace → RouterTable
table_of device number replace = record { device = router device; number = number; replace = replace }

-- three routers, each a device
abbrev pub three_names : List (List ℕ)
three_names = codes "r1" ∷ codes "r2" ∷ codes "r3" ∷ []

-- their main tables; how the first one replaces routes
abbrev pub three_tables : Replace → List RouterTable
three_tables first = table_of 0 254 first ∷ table_of 1 254 Key ∷ table_of 2 254 Key ∷ []

-- a link between each two of them
abbrev pub three_links : List TopoLink
three_links =
    link_of (codes "a") (end_at 0 2) (end_at 1 2)
    ∷ link_of (codes "c") (end_at 0 3) (end_at 2 3)
    ∷ link_of (codes "b") (end_at 1 3) (end_at 2 2)
    ∷ []

-- the three of them
abbrev pub three : Replace → Parts
three first = record { routers = three_names; tables = three_tables first; links = three_links; edges = [] }

-- the same and a VRF of the first one
abbrev pub four_names : List (List ℕ)
four_names = three_names ++ codes "v1" ∷ []

-- the same and the VRF's table
abbrev pub four_tables : Replace → List RouterTable
four_tables first = three_tables first ++ table_of 0 10 Key ∷ []

-- the same and a link from the VRF to the second router
abbrev pub four_links : List TopoLink
four_links = three_links ++ link_of (codes "d") (end_at 3 5) (end_at 1 5) ∷ []

-- the three of them, and a VRF of the first one with a link of its own to the second
abbrev pub three_and_vrf : Replace → Parts
three_and_vrf first = record { routers = four_names; tables = four_tables first; links = four_links; edges = [] }
