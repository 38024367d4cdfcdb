-- Runs that are gathered in order of address.
use Rattle.std.specs.Prelude.{ℕ, List, [], ◌∷◌, ◌+◌, ◌-◌, ◌<◌, ◌≤◌, ◌^◌, nat_lt, if◌then◌else◌}
use Rattle.base.specs.Runs.{AreApart}
use Rattle.base.specs.declared.run.Run.{Run}

-- runs, and the address after their last
pub record Gathered : Type 0 where
  pub runs : List Run
  pub past : ℕ

-- the run of the addresses from `low` up to, and without, `past`, if there are any
abbrev pub run_between : ℕ → ℕ → List Run
run_between low past = if nat_lt low past then record { lo = low; hi = past - 1 } ∷ [] else []

-- each run ends before an address, and doesn't touch it
abbrev pub EndApartFrom : List Run → ℕ → Type 0
EndApartFrom [] low = Unit {0}
EndApartFrom (r ∷ rs) low = (r.hi + 1 < low) × EndApartFrom rs low

-- what is gathered: runs that are closed, and the last one, to which more addresses may be added
pub record AreGathered (closed : List Run) (low past : ℕ) : Type 0 where
  pub apart : AreApart closed
  pub before : EndApartFrom closed low
  pub order : low ≤ past
  pub bound : past ≤ 2 ^ 32
