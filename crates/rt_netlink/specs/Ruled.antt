-- What is answered of a message while it is read, by the table of what is refused and what is skipped.
use Rattle.std.specs.Prelude.{◌≡◌, ℕ, List, None, Some, Result, Ok, Err}
use Rattle.feed_model.specs.Payload.{Row, Ruling, Refuses, Skips, first_ruling, ruling_of}
use Rattle.rt_netlink.specs.declared.ruling.Ruling.{Ruling as Answer}
use Rattle.rt_netlink.specs.declared.ruling.Ruling.TheVariants as answer

-- the ruling that is answered
abbrev pub answered : Answer → Ruling
answered (answer.Refuses cause) = Refuses cause
answered (answer.Skips skip) = Skips skip

-- what these rows rule of a message, and what is known where none of them holds
abbrev pub Rules : {A : Type 0} → List Row → List ℕ → Result A Answer → (A → Type 0) → Type 0
Rules rows bytes (Ok x) P = (first_ruling rows bytes ≡ None) × P x
Rules rows bytes (Err ruling) P = first_ruling rows bytes ≡ Some (answered ruling)

-- the same of the whole table
abbrev pub RulesWhole : {A : Type 0} → List ℕ → List ℕ → Result A Answer → (A → Type 0) → Type 0
RulesWhole tables bytes (Ok x) P = (ruling_of tables bytes ≡ None) × P x
RulesWhole tables bytes (Err ruling) P = ruling_of tables bytes ≡ Some (answered ruling)
