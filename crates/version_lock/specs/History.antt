-- The history of a lock, and what of it is whose.
use Rattle.std.specs.Prelude.{ℕ, List, length, ◌≡◌, ◌==◌, filter}
use Rattle.std.specs.List.{Contains}
use Rattle.dn_model.specs.declared.entry.Posted.{Posted}
use Rattle.version_lock.specs.declared.book.PostRefused.{PostRefused}
use Rattle.version_lock.specs.declared.book.PostRefused.TheVariants.{Full, OutOfMemory}

-- the entries that bear a number
abbrev pub posted_by : ℕ → List Posted → List Posted
posted_by number history = filter (λ posted. posted.seat == number) history

-- a refusal that comes where the history is as long as this limit, and says how long; want of memory may come always
abbrev pub IsRefusedAt : ℕ → List Posted → PostRefused → Type 0
IsRefusedAt limit history (Full n) = (n ≡ length history) × (n ≡ limit)
IsRefusedAt limit history OutOfMemory = Unit {0}

-- of each of these numbers, the second list has the same entries as the first
abbrev pub HasSameOf : List ℕ → List Posted → List Posted → Type 0
HasSameOf numbers before after = (n : ℕ) → Contains numbers n → posted_by n after ≡ posted_by n before
