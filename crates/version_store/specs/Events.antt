-- Events of a network's history: an entry is posted, or the history so far is pinned.
use Rattle.std.specs.Prelude.{ℕ, List, [], ◌∷◌, ◌++◌, Option, None, Some, ◌≡◌}
use Rattle.std.specs.List.{filter_map}
use Rattle.dn_model.specs.declared.entry.Posted.{Posted}
use Rattle.dn_model.specs.declared.topology.Topology.{Topology}
use Rattle.version_lock.specs.History.{IsRefusedAt}
use Rattle.version_lock.specs.declared.book.PostRefused.{PostRefused}
use Rattle.version_lock.specs.declared.book.PostRefused.TheVariants as refusals
use Rattle.version_store.specs.Kept.{IsTaken, Ledger, Past, more, past_of}
use Rattle.version_store.specs.declared.play.Event.{Event}
use Rattle.version_store.specs.declared.play.Event.TheVariants.{Apply, Pin}

-- an entry that is posted is one that the store takes
abbrev pub IsEventOf : Topology → Event → Type 0
IsEventOf t (Apply e) = IsTaken t e
IsEventOf t Pin = Unit {0}

-- what an event adds to the history, under this seat's number
abbrev pub post_of : ℕ → Event → Option Posted
post_of seat (Apply e) = Some (record { seat = seat; entry = e })
post_of seat Pin = None

-- what events add to the history
abbrev pub posts : ℕ → List Event → List Posted
posts seat events = filter_map (post_of seat) events

-- a snapshot for each Pin, in order: it shows the store as it was before the events, with what the events before the Pin
-- have added
abbrev pub pins : Ledger → ℕ → List Event → List Past
pins s seat [] = []
pins s seat (Apply e ∷ events) = pins (more s (record { seat = seat; entry = e } ∷ [])) seat events
pins s seat (Pin ∷ events) = past_of s ∷ pins s seat events

-- An event was refused where the history is this: a Pin for want of memory alone, an entry for that too or because the
-- history is as long as the limit, and then the refusal says how long.
abbrev pub IsRefusedEvent : Ledger → Event → PostRefused → Type 0
IsRefusedEvent s (Apply e) refused = IsRefusedAt s.basis.limit s.history refused
IsRefusedEvent s Pin refused = refused ≡ refusals.OutOfMemory

-- one of the events was refused, and those before it have added what they add
pub record IsRefusedPlay (before after : Ledger) (seat : ℕ) (events : List Event) (refused : PostRefused) : Type 0 where
  pub done : List Event
  pub event : Event
  pub rest : List Event
  pub parts : events ≡ done ++ event ∷ rest
  pub history : after ≡ more before (posts seat done)
  pub cause : IsRefusedEvent after event refused
