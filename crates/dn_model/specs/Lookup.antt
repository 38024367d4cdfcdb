-- How names and interfaces are looked up in a topology.
use Rattle.std.specs.Prelude.{ℕ, List, [], ◌∷◌, ◌++◌, ◌+◌, ◌<◌, length, map, position, Option, option_map}
use Rattle.std.specs.Map.{lookup}
use Rattle.base.specs.declared.ids.RouterId.{RouterId}
use Rattle.base.specs.declared.ids.LinkId.{LinkId}
use Rattle.dn_model.specs.declared.topology.TopoEnd.{TopoEnd}
use Rattle.dn_model.specs.declared.topology.TopoLink.{TopoLink}
use Rattle.dn_model.specs.declared.topology.Topology.{Topology}
use Rattle.dn_model.specs.declared.ports.Port.{Port}
use Rattle.dn_model.specs.declared.ports.Port.TheVariants.{Link, Edge}
use Rattle.base.specs.Name.{same_text}
use Rattle.dn_model.specs.Topology.{same_end}

-- the router of a name: the first place in the list that has it
abbrev pub router_of : Topology → List ℕ → Option RouterId
router_of t name = option_map (λ i. record { 0 = i }) (position (λ n. same_text n name) t.routers)

-- the link of a name: the first place in the list that has it
abbrev pub link_of : Topology → List ℕ → Option LinkId
link_of t name = option_map (λ i. record { 0 = i }) (position (λ l. same_text l.name name) t.links)

-- both ends of a link, and beside each end what is there: the router at the other end
abbrev pub ports_of_link : LinkId → TopoLink → List (TopoEnd × Port)
ports_of_link id l =
    (l.first, Link l.second.router id l.unnumbered) ∷ (l.second, Link l.first.router id l.unnumbered) ∷ []

-- the same of each link of a list, whose first has the number i
abbrev pub ports_of_links : ℕ → List TopoLink → List (TopoEnd × Port)
ports_of_links i [] = []
ports_of_links i (l ∷ ls) = ports_of_link (record { 0 = i }) l ++ ports_of_links (i + 1) ls

-- each interface of the network, and what is there
abbrev pub ports_of : Topology → List (TopoEnd × Port)
ports_of t = ports_of_links 0 t.links ++ map (λ e. (e, Edge)) t.edges

-- what is at a router's interface of this number
abbrev pub port_of : Topology → RouterId → ℕ → Option Port
port_of t r index = lookup (same_end t.tables (record { router = r; index = index })) (ports_of t)

-- the router and the link at a port are in the topology
abbrev pub IsPortWithin : Topology → Port → Type 0
IsPortWithin t (Link far id unnumbered) = (far.0 < length t.routers) × (id.0 < length t.links)
IsPortWithin t Edge = Unit {0}
