-- One of a job's feeds, by its place among them or by its router, gave frames.
use Rattle.std.specs.Prelude.{ℕ, ◌≡◌, ◌<◌, ◌==◌, Bool, List, ◌∷◌, ◌++◌, length, All, Option, None, Some}
use Rattle.std.specs.List.{AllZip, position}
use Rattle.dn_model.specs.declared.entry.Posted.{Posted}
use Rattle.base.specs.declared.ids.RouterId.{RouterId}
use Rattle.dn_model.specs.declared.topology.Topology.{Topology}
use Rattle.feed_threads.specs.Feeds.{Feed, ReadsOn}
use Rattle.feed_threads.specs.Takes.{GivesFirst, TakesSome}

-- whether a feed is this router's
abbrev pub is_feed_of : {S : Type 0} → RouterId → Feed S → Bool
is_feed_of router feed = feed.reader.told.router.0 == router.0

-- the routers of feeds are the network's
abbrev pub HaveRouters : {S : Type 0} → Topology → List (Feed S) → Type 0
HaveRouters t feeds = All (λ f. f.reader.told.router.0 < length t.routers) feeds

-- each feed has read on
abbrev pub ReadOn : {S : Type 0} → Topology → (S → Option (List ℕ)) → (S → ℕ) → (S → ℕ) → List (Feed S) →
    List (Feed S) → Type 0
ReadOn t left faults place olds news = AllZip (λ old new. ReadsOn t left faults place old.reader new.reader) olds news

-- the feed at this place went this step, and each other stayed as it was
pub record ChangesAt {S : Type 0} (Step : Feed S → Feed S → Type 0) (at : ℕ) (olds news : List (Feed S)) : Type 0 where
  pub front : List (Feed S)
  pub old : Feed S
  pub new : Feed S
  pub back : List (Feed S)
  pub olds_are : olds ≡ front ++ old ∷ back
  pub news_are : news ≡ front ++ new ∷ back
  pub at_place : length front ≡ at
  pub step : Step old new

module _ {S : Type 0} (t : Topology) (left : S → Option (List ℕ)) (faults place : S → ℕ) (limit : ℕ) where
  -- one of the feeds, at this place, gave frames
  abbrev pub TakesFrom : ℕ → ℕ → Option ℕ → List (Feed S) → List (Feed S) → List Posted → List Posted → Type 0
  TakesFrom number at count olds news seen-before seen =
      ChangesAt (λ old new. TakesSome t left faults place limit number count old new seen-before seen) at olds news

  -- the feed at this place gave frames; no place: none did, and nothing changed
  abbrev pub TakesAt : ℕ → Option ℕ → Option ℕ → List (Feed S) → List (Feed S) → List Posted → List Posted → Type 0
  TakesAt number None count olds news seen-before seen = (news ≡ olds) × (seen ≡ seen-before)
  TakesAt number (Some at) count olds news seen-before seen = TakesFrom number at count olds news seen-before seen

  -- one of the feeds, at this place, gave frames, and memory was wanting for one of their updates or for a frame
  abbrev pub FailsFrom : ℕ → ℕ → Option ℕ → List (Feed S) → List (Feed S) → List Posted → List Posted → Type 0
  FailsFrom number at count olds news seen-before seen =
      ChangesAt (λ old new. GivesFirst t left faults place limit number count old new seen-before seen) at olds news

  -- memory was wanting at the feed of this router, which the job has then
  pub record FailsOf (number : ℕ) (router : RouterId) (count : Option ℕ) (olds news : List (Feed S))
      (seen-before seen : List Posted) : Type 0 where
    pub at : ℕ
    pub found : position (is_feed_of router) olds ≡ Some at
    pub fails : FailsFrom number at count olds news seen-before seen
