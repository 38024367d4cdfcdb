-- Counts of faults, as a source and a sink keep them.
use Rattle.std.specs.Prelude.{◌≡◌, ℕ, ◌<◌, ◌⊎◌}

-- The count rose: it is greater than before, or it stands at 2^64 - 1, the last value of a real counter.
abbrev pub Rose : ℕ → ℕ → Type 0
Rose old new = (old < new) ⊎ (new ≡ 18446744073709551615)
