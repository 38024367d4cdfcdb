-- A prefix's own addresses in a routing table: those that it has and no longer prefix with a route has. There its own routes
-- are in force, or, where it has none, those of the longest prefix with a route that holds it.
use Rattle.std.specs.Prelude.{ℕ, Bool, true, false, List, [], ◌∷◌, filter, length, nat_lt, not, ◌≡◌, ◌+◌, ◌<◌, ◌≤◌, ◌&&◌, ◌||◌, ◌==◌}
use Rattle.std.specs.List.{list_any}
use Rattle.base.specs.Cidr.{Cidr, covers, size}
use Rattle.dn_model.specs.Entry.{is_bound_of}
use Rattle.base.specs.Runs.{AreRuns}
use Rattle.dn_model.specs.Table.{is_of_prefix, way_in}
use Rattle.dn_model.specs.declared.table_op.TableOp.{TableOp}
use Rattle.dn_model.specs.declared.table_op.TableOp.TheVariants.{Put, Clear}
use Rattle.dn_model.specs.declared.entry.Route.{Route}
use Rattle.base.specs.declared.run.Run.{Run}
use Rattle.dn_model.specs.declared.way.Way.{Way}

-- whether a route's prefix is longer than so many bits, and has an address
abbrev pub is_longer_at : ℕ → ℕ → Route → Bool
is_longer_at len a r = nat_lt len r.prefix.len && covers r.prefix a

-- whether an address is one of a prefix's own
abbrev pub is_own : List Route → Cidr → ℕ → Bool
is_own routes p a = covers p a && not (list_any (is_longer_at p.len a) routes)

-- whether a prefix or that of a route begins at an address, or ends before it
abbrev pub is_end_in : List Route → Cidr → ℕ → Bool
is_end_in routes p a = is_bound_of p a || list_any (λ r. is_bound_of r.prefix a) routes

-- runs begin and end where the prefix does, or that of a route
abbrev pub EndAtEnds : List Route → Cidr → List Run → Type 0
EndAtEnds routes p [] = Unit {0}
EndAtEnds routes p (x ∷ runs) = (is_end_in routes p x.lo ≡ true) × (is_end_in routes p (x.hi + 1) ≡ true) × EndAtEnds routes p runs

-- the runs of a prefix's own addresses
pub record AreOwnRuns (routes : List Route) (p : Cidr) (runs : List Run) : Type 0 where
  pub runs_are : AreRuns runs (is_own routes p)
  pub ends : EndAtEnds routes p runs

-- A table was changed at a prefix: at its own addresses one and the same was done before, and this is done now; at all others
-- what was done still is.
pub record IsTurned (old new : List Route) (p : Cidr) (after : Way) : Type 0 where
  pub before : (a b : ℕ) → is_own new p a ≡ true → is_own new p b ≡ true → way_in old a ≡ way_in old b
  pub here : (a : ℕ) → is_own new p a ≡ true → way_in new a ≡ after
  pub away : (a : ℕ) → is_own new p a ≡ false → way_in new a ≡ way_in old a

-- an update sets a route, or its prefix has one
abbrev pub SetsOrHas : List Route → TableOp → Type 0
SetsOrHas routes (Put p m t) = Unit {0}
SetsOrHas routes (Clear p m) = list_any (is_of_prefix p) routes ≡ true

-- whether one of some tables has a route of a prefix
abbrev pub is_held : List (List Route) → Cidr → Bool
is_held tables p = list_any (λ routes. list_any (is_of_prefix p) routes) tables

-- what is told of an update: that it puts a route, whose prefix may be new to all of some tables; or that it puts one whose
-- prefix one of them has a route of, or clears
abbrev pub TellsNew : List (List Route) → TableOp → Bool → Type 0
TellsNew tables (Put p m w) true = Unit {0}
TellsNew tables (Put p m w) false = is_held tables p ≡ true
TellsNew tables (Clear p m) true = ⊥
TellsNew tables (Clear p m) false = Unit {0}

-- addresses in order, from `lo` up to, and without, `past`, at each of which a route's prefix begins
abbrev pub BeginWithin : List Route → ℕ → ℕ → List ℕ → Type 0
BeginWithin routes lo past [] = Unit {0}
BeginWithin routes lo past (a ∷ more) = (lo ≤ a) × (a < past) × (list_any (λ r. r.prefix.base == a) routes ≡ true) × BeginWithin routes (a + 1) past more

-- So many steps were taken at most: one for each of some addresses of a prefix at which longer prefixes with routes begin.
pub record IsPassed (routes : List Route) (p : Cidr) (was now : ℕ) : Type 0 where
  pub begun : List ℕ
  pub within : BeginWithin (filter (λ r. nat_lt p.len r.prefix.len) routes) p.base (p.base + size p) begun
  pub few : now ≤ was + length begun

-- So many steps were taken at most: two, and one for each of some different addresses of a prefix at which routes' prefixes
-- begin.
pub record IsLooked (routes : List Route) (p : Cidr) (was now : ℕ) : Type 0 where
  pub begun : List ℕ
  pub within : BeginWithin routes p.base (p.base + size p) begun
  pub few : now ≤ was + 2 + length begun
