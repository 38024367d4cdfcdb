-- How labels are kept: beside rows of codes by the atom's number, for each code the set of the atoms that have it.
use Rattle.std.specs.Prelude.{ℕ, List, [], length, nat_lt, slice_index_or, ◌≡◌, ◌==◌, ◌&&◌, ◌||◌, not, ◌<◌}
use Rattle.std.specs.List.{list_any}
use Rattle.edge_labels.specs.Atoms.{has_atom}
use Rattle.target_rows.specs.declared.codes.Edge.{Edge}
use Rattle.target_rows.specs.Codes.{edge_at}
use Rattle.target_rows.specs.Rows.{AreRows, code_at}

-- rows, edges and sets say the same
pub record AreKept (routers atoms : ℕ) (codes : List ℕ) (edges : List Edge) (sets : List (List ℕ)) (none : List ℕ) : Type 0 where
  pub rows : AreRows routers atoms codes edges
  pub each : length sets ≡ length edges
  pub labels : (c a : ℕ) → c < length edges → has_atom (slice_index_or sets c []) a ≡ (nat_lt a atoms && (code_at routers codes a (edge_at edges c).router == c))
  pub empty : none ≡ []

-- one set has an atom more, and all else stays
pub record AreJoined (old new : List (List ℕ)) (code atom : ℕ) : Type 0 where
  pub long : length new ≡ length old
  pub exact : (c a : ℕ) → has_atom (slice_index_or new c []) a ≡ (((c == code) && (a == atom)) || has_atom (slice_index_or old c []) a)

-- one set has an atom less, and all else stays
pub record AreLeft (old new : List (List ℕ)) (code atom : ℕ) : Type 0 where
  pub long : length new ≡ length old
  pub exact : (c a : ℕ) → has_atom (slice_index_or new c []) a ≡ (not ((c == code) && (a == atom)) && has_atom (slice_index_or old c []) a)

-- the sets of some codes have an atom more, and all else stays
pub record AreRowJoined (old new : List (List ℕ)) (row : List ℕ) (atom : ℕ) : Type 0 where
  pub long : length new ≡ length old
  pub exact : (c a : ℕ) → has_atom (slice_index_or new c []) a ≡ ((list_any (λ k. k == c) row && (a == atom)) || has_atom (slice_index_or old c []) a)

-- there are so many sets, of which the new ones are empty
pub record AreReached (old new : List (List ℕ)) (n : ℕ) : Type 0 where
  pub long : length new ≡ n
  pub exact : (c a : ℕ) → has_atom (slice_index_or new c []) a ≡ has_atom (slice_index_or old c []) a

-- so many sets, each of the one atom 0
pub record AreFirstSets (r : ℕ) (sets : List (List ℕ)) : Type 0 where
  pub long : length sets ≡ r
  pub each : (c a : ℕ) → c < r → has_atom (slice_index_or sets c []) a ≡ (a == 0)
