-- What a store and a snapshot mean, and what they keep of a history.
use Rattle.std.specs.Prelude.{ℕ, List, [], ◌∷◌, ◌++◌, Option, IfSome, length, ◌≡◌, ◌≤◌}
use Rattle.std.specs.List.{All}
use Rattle.dn_model.specs.LastDelta.{IsDeltaOf}
use Rattle.dn_model.specs.Entry.{IsEntryOf, entries}
use Rattle.dn_model.specs.Standing.{StandsFor}
use Rattle.dn_model.specs.Table.{does_after}
use Rattle.net_engine.specs.Followed.{IsFollowed}
use Rattle.net_engine.specs.Version.{Kept, KeptStandsFor, forwarding_of}
use Rattle.base.specs.declared.change.Change.{Change}
use Rattle.dn_model.specs.declared.entry.Entry.{Entry}
use Rattle.dn_model.specs.declared.entry.Posted.{Posted}
use Rattle.dn_model.specs.declared.topology.Topology.{Topology}
use Rattle.loop_keeper.specs.Kept.{AreKept}
use Rattle.loop_keeper.specs.Kept.{Kept as KeptCycle}
use Rattle.version_lock.specs.declared.book.Basis.{Basis}
use Rattle.version_store.specs.Prefixes.{most_rows}
use Rattle.version_store.specs.declared.picture.Picture.{Picture}

-- a store: its network and limit, which stay, and the entries that were posted in it
pub record Ledger : Type 0 where
  pub basis : Basis
  pub history : List Posted

-- a snapshot: the network, and the history as it was
pub record Past : Type 0 where
  pub topology : Topology
  pub history : List Posted

-- a store with these entries more
abbrev pub more : Ledger → List Posted → Ledger
more s posted = record { basis = s.basis; history = s.history ++ posted }

-- what a snapshot of a store shows
abbrev pub past_of : Ledger → Past
past_of s = record { topology = s.basis.topology; history = s.history }

-- the entries of a history, and one more
abbrev pub entries_with : List Posted → Entry → List Entry
entries_with history e = entries history ++ e ∷ []

-- an entry that a store takes: one of its network that a version follows
abbrev pub IsTaken : Topology → Entry → Type 0
IsTaken t e = IsEntryOf t e × IsFollowed e

-- each entry of the history is one
abbrev pub AreOf : Topology → List Posted → Type 0
AreOf t history = All (λ posted. IsTaken t posted.entry) history

-- a version of this network that stands for these entries
pub record IsVersionOf (t : Topology) (history : List Entry) (version : Kept) : Type 0 where
  pub topology : version.topology ≡ t
  pub stands : KeptStandsFor version history

-- what stands after these entries: a version of this network, and all cycles that addresses go round then
pub record StandsWith (t : Topology) (history : List Entry) (version : Kept) (loops : List KeptCycle) : Type 0 where
  pub stands : IsVersionOf t history version
  pub kept : AreKept (does_after t history) loops

-- What a store keeps of a history that is as long as the limit at most: what stands after it, if the version is there, and
-- the changes that its last entry made.
pub record IsKeptOf (t : Topology) (limit : ℕ) (history : List Posted) (version : Option Kept) (loops : List KeptCycle)
    (changes : List Change) : Type 0 where
  pub few : length history ≤ limit
  pub own : AreOf t history
  pub stands : IfSome version (λ v. StandsWith t (entries history) v loops)
  pub delta : IsDeltaOf t (entries history) changes

-- What is read of what stands after these entries: rows of this network that stand for them, as many as any version has
-- that stands for them, and all cycles that addresses go round then.
pub record IsPictureOf (t : Topology) (history : List Entry) (picture : Picture) : Type 0 where
  pub routers : picture.rows.routers ≡ length t.routers
  pub stands : StandsFor t picture.rows.rows history
  pub same : (version : Kept) → KeptStandsFor version history → length picture.rows.rows ≡ length (forwarding_of version)
  pub few : length picture.rows.rows ≤ most_rows history
  pub loops : AreKept (does_after t history) picture.loops

-- what a snapshot keeps of a history: how many entries it has, its picture, and the changes that its last entry made
pub record IsPastOf (t : Topology) (history : List Posted) (number : ℕ) (picture : Picture) (changes : List Change) : Type 0 where
  pub counted : number ≡ length history
  pub shows : IsPictureOf t (entries history) picture
  pub delta : IsDeltaOf t (entries history) changes
