-- The runs of addresses from one on: a part of the runs of a set of addresses.
use Rattle.std.specs.Prelude.{ℕ, Bool, List, [], ◌∷◌, ◌≡◌, ◌+◌, ◌-◌, ◌<◌, ◌≤◌, ◌^◌, ◌==◌, if◌then◌else◌}
use Rattle.std.specs.List.{list_any}
use Rattle.base.specs.Runs.{holds, AreApart}
use Rattle.base.specs.declared.ids.RouterId.{RouterId}
use Rattle.base.specs.declared.run.Run.{Run}
use Rattle.base.specs.declared.target.Target.{Target}

-- each router does the same with all addresses from `low` up to, and without, `past`
abbrev pub DoAlike : (RouterId → ℕ → Target) → ℕ → ℕ → Type 0
DoAlike does low past = (r : RouterId) (a : ℕ) → low ≤ a → a < past → does r a ≡ does r (past - 1)

-- a run put before others: one with the first of them where the two touch
abbrev pub with_run : Run → List Run → List Run
with_run run [] = run ∷ []
with_run run (next ∷ runs) =
    if run.hi + 1 == next.lo then record { lo = run.lo; hi = next.hi } ∷ runs else run ∷ next ∷ runs

-- no run begins before this address
abbrev pub StartFrom : ℕ → List Run → Type 0
StartFrom at [] = Unit {0}
StartFrom at (run ∷ runs) = at ≤ run.lo

-- the runs of the addresses from `at` on that pass a test
pub record AreRunsFrom (at : ℕ) (test : ℕ → Bool) (runs : List Run) : Type 0 where
  pub apart : AreApart runs
  pub start : StartFrom at runs
  pub exact : (a : ℕ) → at ≤ a → a < 2 ^ 32 → list_any (holds a) runs ≡ test a
