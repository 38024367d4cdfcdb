-- Black holes of ranges of addresses, and what is put together of them.
use Rattle.std.specs.Prelude.{ℕ, List, [], ◌∷◌, ◌≡◌, ◌≢◌, ◌+◌, ◌<◌, ◌≤◌, ◌^◌, IsTrue, Contains, if◌then◌else◌, length, slice_index_or}
use Rattle.base.specs.Holes.{HasHole, falls, is_cause}
use Rattle.base.specs.HolesFrom.{AreSomeHoles, is_hole_of}
use Rattle.base.specs.Runs.{AreRuns}
use Rattle.base.specs.declared.hole.Hole.{Hole}
use Rattle.base.specs.declared.ids.RouterId.{RouterId}
use Rattle.base.specs.declared.run.Run.{Run}
use Rattle.base.specs.declared.target.Target.{Target}
use Rattle.loop_check.specs.Bounds.{AreBounds, only_within}

-- a hole of the addresses between two bounds: the runs of those that fall there, of which there is one
pub record IsHoleWithin (low past n : ℕ) (does : RouterId → ℕ → Target) (first : RouterId) (h : Hole) : Type 0 where
  pub cause : IsTrue (is_cause h.cause)
  pub runs : AreRuns h.runs (only_within low past (falls n does first h.router h.cause))
  pub some : h.runs ≢ []

-- all holes of the addresses between two bounds
pub record AreHolesWithin (low past n : ℕ) (does : RouterId → ℕ → Target) (first : RouterId)
    (holes : List Hole) : Type 0 where
  pub each : (h : Hole) → Contains holes h → IsHoleWithin low past n does first h
  pub all : (last : RouterId) (cause : Target) (a : ℕ) → low ≤ a → a < past → a < 2 ^ 32
      → IsTrue (falls n does first last cause a) → HasHole holes last cause

-- the holes of the addresses between two bounds, for each two in order
pub record AreHolesByRange (at : ℕ → ℕ) (n : ℕ) (does : RouterId → ℕ → Target) (first : RouterId)
    (pieces : List (List Hole)) : Type 0 where
  pub each : (k : ℕ) (d : List Hole) → k < length pieces
      → AreHolesWithin (at k) (at (k + 1)) n does first (slice_index_or pieces k d)

-- the holes of all addresses, range by range
pub record AreHolePieces (n : ℕ) (does : RouterId → ℕ → Target) (first : RouterId)
    (pieces : List (List Hole)) : Type 0 where
  pub at : ℕ → ℕ
  pub bounds : AreBounds at
  pub end : at (length pieces) ≡ 2 ^ 32
  pub holes : AreHolesByRange at n does first pieces

-- the runs of the hole at a router by a cause; none if it isn't among these
abbrev pub hole_runs : RouterId → Target → List Hole → List Run
hole_runs last cause [] = []
hole_runs last cause (h ∷ hs) = if is_hole_of last cause h then h.runs else hole_runs last cause hs

-- holes of all addresses told beside others: the one at a router by a cause is among them
pub record TellsHoleAt (n : ℕ) (does : RouterId → ℕ → Target) (first last : RouterId) (cause : Target)
    (old new : List Hole) : Type 0 where
  pub form : AreSomeHoles n does first new
  pub told : HasHole new last cause
  pub kept : (x : Hole) → Contains old x → Contains new x

-- the same of each of these holes
pub record TellsHolesOf (n : ℕ) (does : RouterId → ℕ → Target) (first : RouterId)
    (piece old new : List Hole) : Type 0 where
  pub form : AreSomeHoles n does first new
  pub told : (h : Hole) → Contains piece h → HasHole new h.router h.cause
  pub kept : (x : Hole) → Contains old x → Contains new x
