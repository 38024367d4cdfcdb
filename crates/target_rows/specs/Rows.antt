-- How it is kept what routers do with atoms: for each atom a row of codes, one for each router.
use Rattle.std.specs.Prelude.{ℕ, List, length, map, take, drop, slice_index, ◌≡◌, ◌+◌, ◌*◌, ◌<◌, ◌≤◌, ◌^◌}
use Rattle.std.specs.List.{range_with_len}
use Rattle.base.specs.declared.target.Target.{Target}
use Rattle.base.specs.declared.target.Target.TheVariants.{NoRoute}
use Rattle.target_rows.specs.declared.codes.Edge.{Edge}
use Rattle.target_rows.specs.Codes.{edge_at}
use Rattle.target_rows.specs.Labels.{Labels}

-- the row of an atom: one code for each router
abbrev pub codes_of : ℕ → List ℕ → ℕ → List ℕ
codes_of routers codes a = take routers (drop (a * routers) codes)

-- the code of a router at an atom
abbrev pub code_at : ℕ → List ℕ → ℕ → ℕ → ℕ
code_at routers codes a r = slice_index codes (a * routers + r)

-- what codes stand for
abbrev pub targets_by : List Edge → List ℕ → List Target
targets_by edges codes = map (λ c. (edge_at edges c).target) codes

-- the labels that so many rows of codes stand for
unfoldable pub labels_of : ℕ → ℕ → List ℕ → List Edge → Labels
labels_of routers atoms codes edges = record {
  routers = routers;
  rows = map (λ a. targets_by edges (codes_of routers codes a)) (range_with_len 0 atoms);
}

-- a code of a router
pub record IsCodeOf (edges : List Edge) (r c : ℕ) : Type 0 where
  pub there : c < length edges
  pub router : (edge_at edges c).router ≡ r

-- each code in a row is one of the row's router, and no other router has a code
pub record AreRows (routers atoms : ℕ) (codes : List ℕ) (edges : List Edge) : Type 0 where
  pub long : length codes ≡ atoms * routers
  pub few : atoms ≤ 2 ^ 32
  pub own : (a r : ℕ) → a < atoms → r < routers → IsCodeOf edges r (code_at routers codes a r)
  pub within : (c : ℕ) → c < length edges → (edge_at edges c).router < routers

-- so far each router has its own code for no route, in order
pub record AreFirst (r : ℕ) (codes : List ℕ) (edges : List Edge) : Type 0 where
  pub long_codes : length codes ≡ r
  pub long_edges : length edges ≡ r
  pub each_code : (c : ℕ) → c < r → slice_index codes c ≡ c
  pub each_edge : (c : ℕ) → c < r → edge_at edges c ≡ record { router = c; target = NoRoute }
