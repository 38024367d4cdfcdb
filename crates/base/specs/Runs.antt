-- Sets of addresses as lists of runs.
use Rattle.std.specs.Prelude.{ℕ, Bool, List, [], ◌∷◌, ◌≡◌, ◌+◌, ◌-◌, ◌<◌, ◌≤◌, ◌^◌, nat_le, ◌&&◌, map, sum}
use Rattle.std.specs.List.{list_any}
use Rattle.base.specs.declared.run.Run.{Run}

-- whether a run has an address: it has those from `lo` to `hi`, both included
abbrev pub holds : ℕ → Run → Bool
holds a run = nat_le run.lo a && nat_le a run.hi

-- each is a run of addresses, they are in order, and no two touch
abbrev pub AreApart : List Run → Type 0
AreApart [] = Unit {0}
AreApart (x ∷ []) = (x.lo ≤ x.hi) × (x.hi < 2 ^ 32)
AreApart (x ∷ y ∷ rest) = (x.lo ≤ x.hi) × (x.hi + 1 < y.lo) × AreApart (y ∷ rest)

-- the runs of exactly the addresses that pass a test, in order, no two touching
pub record AreRuns (runs : List Run) (test : ℕ → Bool) : Type 0 where
  pub apart : AreApart runs
  pub exact : (a : ℕ) → a < 2 ^ 32 → list_any (holds a) runs ≡ test a

-- how many addresses a run has
abbrev pub run_length : Run → ℕ
run_length run = run.hi + 1 - run.lo

-- how many addresses runs that don't touch have
abbrev pub addresses_in : List Run → ℕ
addresses_in runs = sum (map run_length runs)
