-- What the readers of a run's feeds are while the feeds are opened, read and given back.
use Rattle.std.specs.Prelude.{◌≡◌, ℕ, ◌+◌, ◌≤◌, ◌<◌, ◌==◌, ◌||◌, not, Bool, false, List, [], ◌∷◌, ◌++◌, All, length}
use Rattle.std.specs.Prelude.{map, Option, Some, IfSome, IsTrue}
use Rattle.std.specs.List.{list_any}
use Rattle.dn_io.specs.Calls.{Call, back_with, names_of, some_out, some_failed}
use Rattle.dn_io.specs.Files.{Files}
use Rattle.base.specs.Lists.{all_differ}
use Rattle.base.specs.declared.ids.RouterId.{RouterId}
use Rattle.dn_model.specs.declared.topology.Topology.{Topology}
use Rattle.dn_run.specs.Ending.{Ending, IfRuled, OrStops}
use Rattle.dn_run.specs.Jobs.{IsFresh, AreNumbered, routers_of_readers, same_router}
use Rattle.dn_run.specs.Limits.{feed_limit}
use Rattle.dn_run.specs.Run.{FeedParts, ScriptLines, OpenedFeed, FromFeeds, feed_files}
use Rattle.dn_run.specs.Stage.{AreAsked, is_fault}
use Rattle.route_feed.specs.FeedReader.{Reader}

-- the feeds of these sources: these bytes, where they are told, and what became of them by now
abbrev pub opened : {S : Type 0} → (S → ℕ) → (S → Option (List ℕ)) → List (Option (List ℕ)) → List S → List OpenedFeed
opened faults left [] sources = []
opened faults left (bytes ∷ more) [] = []
opened faults left (bytes ∷ more) (source ∷ sources) =
    record { bytes = bytes; state = back_with (faults source) (left source) } ∷ opened faults left more sources

-- these bytes, where they are told, are what is left in the readers' sources
abbrev pub AreLeft : {S : Type 0} → (S → Option (List ℕ)) → List (Reader S) → List (Option (List ℕ)) → Type 0
AreLeft left [] [] = Unit {0}
AreLeft left (r ∷ readers) (file ∷ files) =
    IfSome file (λ bytes. left r.source ≡ Some bytes) × AreLeft left readers files
AreLeft left readers files = ⊥

-- whether some source has failed
abbrev pub some_rose : {S : Type 0} → (S → ℕ) → List S → Bool
some_rose faults sources = list_any (λ source. not (faults source == 0)) sources

-- the sources of readers
abbrev pub sources_of : {S : Type 0} → List (Reader S) → List S
sources_of readers = map (λ r. r.source) readers

-- Readers of the feeds that are open, before any was read, and the routers of the feeds that are still to be opened.
pub record AreOpen {S : Type 0} (t : Topology) (faults : S → ℕ) (readers : List (Reader S))
    (routers : List RouterId) : Type 0 where
  pub fresh : All (IsFresh t faults) readers
  pub limits : All (λ r. r.limit ≡ feed_limit) readers
  pub numbered : AreNumbered 1 readers
  pub known : All (λ r. r.0 < length t.routers) routers
  pub apart : IsTrue (all_differ same_router (routers_of_readers readers ++ routers))
  pub few : length readers + length routers ≤ 64

-- The feeds that are still to be opened were opened and given back, and the run came to this: the names of their files
-- were asked for, all or the first of these, in order; every source was given back, and one failed, of these or of the
-- readers' sources, exactly where the verdict is a read fault. What it came to is due by the files and by what became
-- of the calls.
pub record Opens {S : Type 0} (t : Topology) (faults : S → ℕ) (left : S → Option (List ℕ)) (files : Option Files)
    (routers : List RouterId) (scripts : ScriptLines) (readers : List (Reader S)) (sources : List S) (feeds : FeedParts)
    (old new : List Call) (ending : Ending) : Type 0 where
  pub more : List Call
  pub appended : new ≡ old ++ more
  pub asked : AreAsked ending (names_of more) (feed_files feeds)
  pub given_back : some_out more ≡ false
  pub failed : IfRuled ending (λ verdict text. (some_rose faults sources || some_failed more) ≡ is_fault verdict)
  pub due_is : (bytes : List (Option (List ℕ))) → AreLeft left readers bytes →
      OrStops ending more (FromFeeds files t (routers_of_readers readers ++ routers) scripts
      (opened faults left bytes sources) feeds more ending)
