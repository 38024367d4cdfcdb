-- What a version of a network keeps, and the history that it stands for (Delta-net, NSDI 2017): atoms, with what each
-- router does with their addresses while all links are up and the rules that it has there; each router's routes; each
-- device's next-hop objects; and the links that are down.
use Rattle.std.specs.Prelude.{ℕ, Bool, List, [], Option, None, Some, length, map, slice_index_or, IsPermutation, ◌≡◌, ◌<◌, ◌^◌, ◌==◌, ◌||◌}
use Rattle.std.specs.List.{list_any}
use Rattle.std.specs.Map.{lookup}
use Rattle.dn_model.specs.Entry.{ends_of_set}
use Rattle.dn_model.specs.Standing.{StandsFor}
use Rattle.base.specs.Forwarding.{target_of}
use Rattle.base.specs.Links.{is_down, without}
use Rattle.base.specs.Rows.{holder}
use Rattle.dn_model.specs.Rules.{OwnersOf}
use Rattle.dn_model.specs.Downs.{downs}
use Rattle.dn_model.specs.Table.{Object, objects, table}
use Rattle.dn_model.specs.Tables.{device_of}
use Rattle.dn_model.specs.declared.entry.Entry.{Entry}
use Rattle.dn_model.specs.declared.entry.Route.{Route}
use Rattle.base.specs.declared.ids.LinkId.{LinkId}
use Rattle.base.specs.declared.ids.RouterId.{RouterId}
use Rattle.base.specs.declared.forwarding_row.ForwardingRow.{ForwardingRow}
use Rattle.dn_model.specs.declared.rule.Rule.{Rule}
use Rattle.base.specs.declared.target.Target.{Target}
use Rattle.base.specs.declared.target.Target.TheVariants.{NoRoute}
use Rattle.dn_model.specs.declared.topology.Topology.{Topology}
use Rattle.what_if.specs.Restricted.{row_without}

-- an atom: its addresses with what each router does with them, and each router's rules there
pub record Atom : Type 0 where
  pub row : ForwardingRow
  pub owners : List (List Rule)

abbrev pub first_of : Atom → ℕ
first_of x = x.row.low

abbrev pub past_of : Atom → ℕ
past_of x = x.row.past

-- the atom that has an address
abbrev pub atom_at : List Atom → ℕ → Option Atom
atom_at atoms a = holder first_of past_of atoms a

-- whether an atom begins at an address
abbrev pub begins_at : List Atom → ℕ → Bool
begins_at atoms a = list_any (λ x. x.row.low == a) atoms

abbrev pub rules_in : Option Atom → RouterId → List Rule
rules_in None r = []
rules_in (Some x) r = slice_index_or x.owners r.0 []

-- a router's rules at an address
abbrev pub rules_at : List Atom → RouterId → ℕ → List Rule
rules_at atoms r a = rules_in (atom_at atoms a) r

abbrev pub target_in_atom : Option Atom → RouterId → Target
target_in_atom None r = NoRoute
target_in_atom (Some x) r = target_of x.row r

-- what a router does with an address while all links are up
abbrev pub target_at : List Atom → RouterId → ℕ → Target
target_at atoms r a = target_in_atom (atom_at atoms a) r

-- the boundaries after a history: 0, and the two ends of each prefix that was ever set
abbrev pub is_boundary_after : List Entry → ℕ → Bool
is_boundary_after history a = (a == 0) || list_any (ends_of_set a) history

-- a network's atoms in order, its routers' routes and its devices' objects, each by the router's number, and the links
-- that are down
pub record Kept : Type 0 where
  pub topology : Topology
  pub atoms : List Atom
  pub routes : List (List Route)
  pub objects : List (List Object)
  pub down : List LinkId

-- what a router does with an address, with the links that are down
abbrev pub shown_at : Kept → RouterId → ℕ → Target
shown_at kept r a = without kept.down (target_at kept.atoms r a)

-- what each router does with the addresses of each atom, with the links that are down
abbrev pub forwarding_of : Kept → List ForwardingRow
forwarding_of kept = map (λ x. row_without kept.down x.row) kept.atoms

-- the objects of a router's device
abbrev pub objects_of : Kept → RouterId → List Object
objects_of kept r = slice_index_or kept.objects (device_of kept.topology r).0 []

-- What is kept stands for a history: its rows do; each router's routes are its table, in some order; the rules of each
-- router at each address are those of its routes that cover it; each device has its objects; the same links are down; and
-- the atoms begin at the history's boundaries.
pub record KeptStandsFor (kept : Kept) (history : List Entry) : Type 0 where
  pub rows : StandsFor kept.topology (forwarding_of kept) history
  pub routes : (r : RouterId) → IsPermutation (slice_index_or kept.routes r.0 []) (table kept.topology history r)
  pub owners : (r : RouterId) (a : ℕ) → r.0 < length kept.topology.routers → a < 2 ^ 32
      → OwnersOf (rules_at kept.atoms r a) (table kept.topology history r) a
  pub objects : (r : RouterId) (id : ℕ)
      → lookup (λ i. i == id) (objects_of kept r) ≡ lookup (λ i. i == id) (objects kept.topology history r)
  pub down : (l : LinkId) → is_down kept.down l ≡ is_down (downs history) l
  pub boundaries : (a : ℕ) → a < 2 ^ 32 → begins_at kept.atoms a ≡ is_boundary_after history a
