-- Queries, and the names that stand in them.
use Rattle.std.specs.Prelude.{ℕ, List, [], ◌∷◌, ◌++◌, ◌≡◌, ◌+◌, ◌<◌, ◌^◌, Bool, Option, None, Some, length, map, is_some, if◌then◌else◌}
use Rattle.dn_model.specs.Lookup.{router_of, link_of}
use Rattle.dn_model.specs.declared.query.Ask.{Ask}
use Rattle.dn_model.specs.declared.query.Ask.TheVariants.{Path, Reach, Uses, Loops, Blackholes, Waypoint, Delta}
use Rattle.dn_model.specs.declared.query.Unknown.{Unknown}
use Rattle.dn_model.specs.declared.query.Unknown.TheVariants.{Router, Link}
use Rattle.dn_model.specs.declared.topology.Topology.{Topology}

-- a query: what is asked, and the links that are taken as down for it
pub record Question : Type 0 where
  pub without : List (List ℕ)
  pub ask : Ask

-- a name in a query: a router's or a link's
pub data NameAsked : Type 0 where
  RouterName : List ℕ → NameAsked
  LinkName : List ℕ → NameAsked

-- the names in what is asked, from left to right
abbrev pub names_asked : Ask → List NameAsked
names_asked (Path n a) = RouterName n ∷ []
names_asked (Reach n m) = RouterName n ∷ RouterName m ∷ []
names_asked (Uses n) = LinkName n ∷ []
names_asked Loops = []
names_asked (Blackholes n) = RouterName n ∷ []
names_asked (Waypoint n m w) = RouterName n ∷ RouterName m ∷ RouterName w ∷ []
names_asked Delta = []

abbrev pub link_names : List (List ℕ) → List NameAsked
link_names names = map LinkName names

-- the names of a query, from left to right
abbrev pub names_of : Question → List NameAsked
names_of q = link_names q.without ++ names_asked q.ask

abbrev pub text_of_name : NameAsked → List ℕ
text_of_name (RouterName n) = n
text_of_name (LinkName n) = n

-- no link is taken as down for the changes of an update
abbrev pub IsAskedWithout : List (List ℕ) → Ask → Type 0
IsAskedWithout without (Path n a) = Unit {0}
IsAskedWithout without (Reach n m) = Unit {0}
IsAskedWithout without (Uses n) = Unit {0}
IsAskedWithout without Loops = Unit {0}
IsAskedWithout without (Blackholes n) = Unit {0}
IsAskedWithout without (Waypoint n m w) = Unit {0}
IsAskedWithout without Delta = without ≡ []

-- fewer than 2^32 names
pub record IsQuestion (q : Question) : Type 0 where
  pub few : length (names_of q) < 2 ^ 32
  pub without : IsAskedWithout q.without q.ask

-- whether the topology has a name
abbrev pub is_known : Topology → NameAsked → Bool
is_known t (RouterName n) = is_some (router_of t n)
is_known t (LinkName n) = is_some (link_of t n)

-- a name that the topology doesn't have, by its place
abbrev pub unknown_at : NameAsked → ℕ → Unknown
unknown_at (RouterName n) place = Router place
unknown_at (LinkName n) place = Link place

-- the first of these names, of which the first is at this place, that the topology doesn't have
abbrev pub first_unknown : Topology → ℕ → List NameAsked → Option Unknown
first_unknown t place [] = None
first_unknown t place (n ∷ ns) = if is_known t n then first_unknown t (place + 1) ns else Some (unknown_at n place)

-- the first name of a query, from the left and from 1, that the topology doesn't have
abbrev pub unknown_of : Topology → Question → Option Unknown
unknown_of t q = first_unknown t 1 (names_of q)
