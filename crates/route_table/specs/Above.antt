-- The shorter prefixes with routes that hold a prefix.
use Rattle.std.specs.Prelude.{ℕ, Bool, true, List, [], Option, None, Some, Contains, slice_index_or, ◌≡◌, ◌≢◌, ◌<◌, ◌≤◌, ◌/◌, ◌-◌, ◌^◌, ◌==◌}
use Rattle.base.specs.Cidr.{Cidr, covers}
use Rattle.dn_model.specs.declared.way.Way.{Way}
use Rattle.base.specs.declared.target.Target.TheVariants.{NoRoute}
use Rattle.dn_model.specs.declared.way.Way.TheVariants.{Straight}
use Rattle.route_table.specs.Targets.{IsFirst}
use Rattle.route_table.specs.Slots.{PrefixRoutes}

-- whether the prefix of this length around an address has another address too
abbrev pub shares : ℕ → ℕ → ℕ → Bool
shares a b len = (a / 2 ^ (32 - len)) == (b / 2 ^ (32 - len))

-- what a route does, or without one
abbrev pub done_by : Option Way → Way
done_by None = Straight NoRoute
done_by (Some t) = t

-- each prefix has a length that is marked
abbrev pub HasLength : List PrefixRoutes → List Bool → Type 0
HasLength slots lengths = (s : PrefixRoutes) → Contains slots s → slice_index_or lengths s.prefix.len true ≡ true

-- a slot with routes whose prefix is shorter than a prefix, and holds it
pub record IsAbove (p : Cidr) (s : PrefixRoutes) : Type 0 where
  pub some : s.targets ≢ []
  pub shorter : s.prefix.len < p.len
  pub holds : covers s.prefix p.base ≡ true

-- The first route of the longest such prefix does this; there is none where nothing is said.
abbrev pub IsFirstAbove : List PrefixRoutes → Cidr → Option Way → Type 0
IsFirstAbove slots p None = (s : PrefixRoutes) → Contains slots s → IsAbove p s → ⊥
IsFirstAbove slots p (Some t) = (s : PrefixRoutes) × Contains slots s × IsAbove p s × IsFirst s.targets (Some t) × ((x : PrefixRoutes) → Contains slots x → IsAbove p x → x.prefix.len ≤ s.prefix.len)

-- what is done by that route, or without one
abbrev pub IsDoneAbove : List PrefixRoutes → Cidr → Way → Type 0
IsDoneAbove slots p t = (first : Option Way) × IsFirstAbove slots p first × (t ≡ done_by first)
