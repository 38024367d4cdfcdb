-- The generated network and its script: eight routers in a ring, each with an edge.
use Rattle.std.specs.Prelude.{ℕ, zero, suc, ◌+◌, ◌%◌, ◌++◌, List, [], codes, decimal}

-- the routers are m0 to m7
abbrev pub made_routers : ℕ
made_routers = 8

-- a number between two texts
abbrev pub between : List ℕ → ℕ → List ℕ → List ℕ
between before i after = before ++ (decimal i ++ after)

-- the name of a router among others
abbrev pub router_text : ℕ → List ℕ
router_text i = between (codes "\"m") i (codes "\", ")

-- the link l0 joins m0 and m1, and so on around the ring: port 2 of its first router and port 3 of the next one
abbrev pub link_text : ℕ → List ℕ
link_text i =
    between (codes "[[link]]\nname = \"l") i (codes "\"\n")
    ++ (between (codes "ends = [\"m") i (codes ":2\", ") ++ between (codes "\"m") ((i + 1) % made_routers) (codes ":3\"]\n"))

-- each router has an edge at port 1
abbrev pub edge_text : ℕ → List ℕ
edge_text i = between (codes "[[edge]]\nat = \"m") i (codes ":1\"\n")

-- a line of the script
abbrev pub take_text : ℕ → List ℕ
take_text i = between (codes "take m") i (codes " all\n")

-- the texts of the numbers below this one, in order
unfoldable pub texts_below : (ℕ → List ℕ) → ℕ → List ℕ
texts_below text zero = []
texts_below text (suc i) = texts_below text i ++ text i

-- the topology file
abbrev pub topology_text : List ℕ
topology_text =
    codes "routers = [" ++ (texts_below router_text made_routers ++ (codes "]\n"
    ++ (texts_below link_text made_routers ++ texts_below edge_text made_routers)))

-- the script takes all feeds in order and then asks for loops
abbrev pub script_text : List ℕ
script_text = texts_below take_text made_routers ++ codes "loops\n"
