-- What is found of the addresses between bounds.
use Rattle.std.specs.Prelude.{ℕ, Bool, List, ◌+◌, ◌<◌, ◌≤◌, ◌≡◌, ◌&&◌, length, slice_index_or}
use Rattle.base.specs.Rows.{is_within}
use Rattle.base.specs.Runs.{AreRuns}
use Rattle.base.specs.declared.run.Run.{Run}

-- whether an address is one of those from `low` up to, and without, `past`, and passes a test
abbrev pub only_within : ℕ → ℕ → (ℕ → Bool) → ℕ → Bool
only_within low past test a = is_within low past a && test a

-- addresses in order, from 0 on
pub record AreBounds (at : ℕ → ℕ) : Type 0 where
  pub first : at 0 ≡ 0
  pub rise : (k : ℕ) → at k ≤ at (k + 1)

-- the runs of the addresses between two bounds that pass a test, for each two in order
pub record AreRunsByRange (at : ℕ → ℕ) (test : ℕ → Bool) (pieces : List (List Run)) : Type 0 where
  pub each : (k : ℕ) (d : List Run) → k < length pieces
      → AreRuns (slice_index_or pieces k d) (only_within (at k) (at (k + 1)) test)
