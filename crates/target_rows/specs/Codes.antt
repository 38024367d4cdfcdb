-- Codes: each router with something that it does has a number, in order of appearance.
use Rattle.std.specs.Prelude.{ℕ, List, Option, Some, length, slice_index_or, ◌≡◌, ◌+◌, ◌<◌, ◌≤◌}
use Rattle.std.specs.BTreeMap.{is_at}
use Rattle.std.specs.Map.{lookup}
use Rattle.base.specs.declared.target.Target.TheVariants.{NoRoute}
use Rattle.target_rows.specs.declared.codes.Edge.{Edge}
use Rattle.target_rows.specs.contracts.codes.EdgeOrd.TheImpl.{cmp-value}

-- the edge of a code
abbrev pub edge_at : List Edge → ℕ → Edge
edge_at edges c = slice_index_or edges c (record { router = 0; target = NoRoute })

-- the code under an edge in an ordered map
unfoldable pub code_in : List (Edge × ℕ) → Edge → Option ℕ
code_in index e = lookup (is_at (cmp-value.it e)) index

-- each code stands under its edge, and nothing else stands there: so edges have one code each
pub record IsIndexed (edges : List Edge) (index : List (Edge × ℕ)) : Type 0 where
  pub sound : (c : ℕ) → c < length edges → code_in index (edge_at edges c) ≡ Some c
  pub exact : (e : Edge) (c : ℕ) → code_in index e ≡ Some c → (c < length edges) × (edge_at edges c ≡ e)

-- an edge has this code now, which may be one more, and the other codes stay
pub record IsCoded (old new : List Edge) (e : Edge) (code : ℕ) : Type 0 where
  pub many : length old ≤ length new
  pub few : length new ≤ length old + 1
  pub only : (c : ℕ) → length old ≤ c → c < length new → c ≡ code
  pub below : code < length new
  pub is : edge_at new code ≡ e
  pub same : (c : ℕ) → c < length old → edge_at new c ≡ edge_at old c
