-- What a job's seat sees of the history, and what of it is the job's own.
use Rattle.std.specs.Prelude.{ℕ, ◌≡◌, ◌≢◌, List, Contains}
use mathlib.Core.List.{IsPrefix}
use Rattle.dn_model.specs.Entry.{entries}
use Rattle.dn_model.specs.declared.entry.Entry.{Entry}
use Rattle.dn_model.specs.declared.entry.Posted.{Posted}
use Rattle.version_lock.specs.Callers.{Caller, IsSameSeat, Lock}
use Rattle.version_lock.specs.History.{posted_by}
use Rattle.version_store.specs.Kept.{Past}

-- the entries that bear a number, without it
abbrev pub own_of : ℕ → List Posted → List Entry
own_of number history = entries (posted_by number history)

-- A seat saw more of the history. Nothing else of it is another, and of its numbers but its own the entries are those
-- that it had seen.
pub record SawMore (old new : Caller) : Type 0 where
  pub same : IsSameSeat old new
  pub seen : IsPrefix old.seen new.seen
  pub others : (n : ℕ) → Contains old.used n → n ≢ old.number → posted_by n new.seen ≡ posted_by n old.seen

-- the same, and none of it is the seat's own
pub record LooksOn (old new : Caller) : Type 0 where
  pub saw : SawMore old new
  pub own : own_of old.number new.seen ≡ own_of old.number old.seen

-- a snapshot is of the lock's network, and of all that the seat has seen
pub record IsSeenBy (lock : Lock) (seat : Caller) (s : Past) : Type 0 where
  pub history : s.history ≡ seat.seen
  pub topology : s.topology ≡ lock.setup.basis.topology
