-- Laws of what a writer holds.
use Rattle.std.proofs.Common.{◌≡◌, ℕ, List, ◌++◌, take, Option, Some, None, ap, ◌∙◌, append-nil}
use Rattle.std.specs.Io.KnownBytes.{Appends, Keeps}

-- a write that took nothing left what the writer holds
pub nothing_written : (old new : Option (List ℕ)) (piece : List ℕ) (n : ℕ) → n ≡ 0 → Appends old new (take n piece) → Keeps old new
nothing_written None new piece n none h = tt {0}
nothing_written (Some xs) None piece n none h = h
nothing_written (Some xs) (Some ys) piece n none h =
    h ∙ ap (λ k. xs ++ take k piece) none ∙ append-nil xs
