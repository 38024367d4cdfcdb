-- What a sink has of a text whose writing failed.
use Rattle.std.specs.Prelude.{ℕ, ◌≡◌, ◌≤◌, List, Option, length, take}
use Rattle.dn_io.specs.Told.{with_end}

-- a front of the text was added to what was written before, where the sink tells it
abbrev pub HasFront : Option (List ℕ) → Option (List ℕ) → List ℕ → Type 0
HasFront before after text = (n : ℕ) × (n ≤ length text) × (after ≡ with_end before (take n text))
