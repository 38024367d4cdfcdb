-- Where a job's feed stands: what its reader handed out, and what the history took of that.
use Rattle.std.specs.Prelude.{All, ℕ, ◌≡◌, ◌<◌, ◌≤◌, List, [], ◌∷◌, ◌++◌, length, take, Option, None, Some}
use mathlib.Core.List.{IsPrefix}
use Rattle.feed_model.specs.Feed.{IsToTableOf}
use Rattle.feed_model.specs.Steps.{FrameStep, Accepted, Refused, updates}
use Rattle.dn_model.specs.declared.entry.Op.{Op}
use Rattle.dn_model.specs.declared.entry.Posted.{Posted}
use Rattle.base.specs.declared.ids.RouterId.{RouterId}
use Rattle.dn_model.specs.declared.topology.Topology.{Topology}
use Rattle.feed_model.specs.declared.feed_told.FeedEnd.{FeedEnd}
use Rattle.feed_model.specs.declared.feed_told.FeedEnd.TheVariants as ends
use Rattle.feed_model.specs.declared.feed_told.FeedTold.{FeedTold}
use Rattle.dn_io.specs.Told.{NothingLeft}
use Rattle.route_feed.specs.FeedReader.{Reader, IsAt, HasEnded, HasFaulted, told_so_far}
use Rattle.route_feed.specs.declared.feed_step.FeedStep.{FeedStep}
use Rattle.route_feed.specs.declared.feed_step.FeedStep.TheVariants as answers

-- A feed of a job: its reader, and, where a full history refused one of its updates, how many of them it had taken.
pub record Feed (S : Type 0) : Type 0 where
  pub reader : Reader S
  pub kept : Option ℕ

-- the end of a feed whose reader has this one: full, where the history was
abbrev pub end_with : Option ℕ → Option FeedEnd → Option FeedEnd
end_with None end = end
end_with (Some n) end = Some ends.Full

abbrev pub end_of_feed : {S : Type 0} → Feed S → Option FeedEnd
end_of_feed feed = end_with feed.kept feed.reader.told.end

-- the frames that an answer of a reader hands out: one, or at an end none
abbrev pub handed_out : FeedStep → List FrameStep
handed_out (answers.Ops ops skipped) = Accepted ops skipped ∷ []
handed_out (answers.Refused offset at cause) = Refused (record { offset = offset; at = at; cause = cause }) ∷ []
handed_out answers.End = []
handed_out (answers.CutShort offset) = []
handed_out (answers.Lost offset cause) = []
handed_out answers.TooLong = []
handed_out answers.Faulted = []

-- what a reader tells after these frames, with this end
abbrev pub told_upto : ℕ → RouterId → List FrameStep → Option FeedEnd → FeedTold
told_upto feed_no router steps end = record (told_so_far feed_no router steps) { end = end }

-- A reader that has handed out these frames of a feed of these bytes: in the midst of it, or past this end. At the ends
-- `End` and `CutShort` nothing is left in the source.
abbrev pub StandsBy : {S : Type 0} → Option FeedEnd → Topology → Reader S → Option (List ℕ) → List ℕ →
    List FrameStep → Type 0
StandsBy None t reader left bytes steps = IsAt t reader left bytes steps
StandsBy (Some ends.End) t reader left bytes steps = HasEnded t reader left bytes steps ends.End × NothingLeft left
StandsBy (Some (ends.CutShort o)) t reader left bytes steps =
    HasEnded t reader left bytes steps (ends.CutShort o) × NothingLeft left
StandsBy (Some (ends.Lost o cause)) t reader left bytes steps = HasEnded t reader left bytes steps (ends.Lost o cause)
StandsBy (Some ends.TooLong) t reader left bytes steps = HasEnded t reader left bytes steps ends.TooLong
StandsBy (Some ends.Full) t reader left bytes steps = ⊥
StandsBy (Some ends.Faulted) t reader left bytes steps = HasFaulted t reader left bytes steps

-- a source's count of faults: 0, save where the reader's end tells of one
abbrev pub CountsBy : Option FeedEnd → ℕ → Type 0
CountsBy None faults = faults ≡ 0
CountsBy (Some ends.End) faults = faults ≡ 0
CountsBy (Some (ends.CutShort o)) faults = faults ≡ 0
CountsBy (Some (ends.Lost o cause)) faults = faults ≡ 0
CountsBy (Some ends.TooLong) faults = faults ≡ 0
CountsBy (Some ends.Full) faults = ⊥
CountsBy (Some ends.Faulted) faults = 0 < faults

-- A full history broke a feed off: it took the updates of the frames before the last and not all of the last frame's,
-- and it has as many entries as the limit says.
pub record IsBroken (limit : ℕ) (seen : List Posted) (steps : List FrameStep) (n : ℕ) : Type 0 where
  pub before : List FrameStep
  pub last : FrameStep
  pub steps_are : steps ≡ before ++ last ∷ []
  pub at_least : length (updates before) ≤ n
  pub fewer : n < length (updates steps)
  pub full : limit ≤ length seen

-- a history took these updates of the frames: all, or the first so many, where it was full
abbrev pub TookOf : ℕ → List Posted → Option ℕ → List FrameStep → List (RouterId × Op) → Type 0
TookOf limit seen None steps ops = ops ≡ updates steps
TookOf limit seen (Some n) steps ops = (ops ≡ take n (updates steps)) × IsBroken limit seen steps n

-- The same where memory was wanting: the first of the updates, where no full history broke the feed off.
abbrev pub TookFront : ℕ → List Posted → Option ℕ → List FrameStep → List (RouterId × Op) → Type 0
TookFront limit seen None steps ops = IsPrefix ops (updates steps)
TookFront limit seen (Some n) steps ops = TookOf limit seen (Some n) steps ops

module _ {S : Type 0} (t : Topology) (left : S → Option (List ℕ)) (faults place : S → ℕ) where
  -- A reader that began as `start` has handed out these frames and tells of them. Its source has its place, its count
  -- of faults goes with the reader's end, and each update is to a table of its device. Where the source tells its bytes
  -- the frames are what they come to.
  pub record HandsOut (start now : Reader S) (steps : List FrameStep) : Type 0 where
    pub feed_no : now.told.feed_no ≡ start.told.feed_no
    pub router : now.told.router ≡ start.told.router
    pub limit : now.limit ≡ start.limit
    pub keeps_place : place now.source ≡ place start.source
    pub told : now.told ≡ told_upto now.told.feed_no now.told.router steps now.told.end
    pub counts : CountsBy now.told.end (faults now.source)
    pub own : All (IsToTableOf t now.told.router) (updates steps)
    pub stands : (bytes : List ℕ) → left start.source ≡ Some bytes →
        StandsBy now.told.end t now (left now.source) bytes steps

  -- A feed whose reader has handed out these frames, of which the history took these updates. The reader of a feed that
  -- a full history broke off reads no further: it has met no end of its own.
  pub record Stands (limit : ℕ) (seen : List Posted) (start : Reader S) (feed : Feed S) (steps : List FrameStep)
      (ops : List (RouterId × Op)) : Type 0 where
    pub reads : HandsOut start feed.reader steps
    pub took : TookOf limit seen feed.kept steps ops
    pub unended : (n : ℕ) → feed.kept ≡ Some n → feed.reader.told.end ≡ None

  -- the same where memory was wanting for one of the updates
  pub record StandsFront (limit : ℕ) (seen : List Posted) (start : Reader S) (feed : Feed S) (steps : List FrameStep)
      (ops : List (RouterId × Op)) : Type 0 where
    pub reads : HandsOut start feed.reader steps
    pub took : TookFront limit seen feed.kept steps ops
    pub unended : (n : ℕ) → feed.kept ≡ Some n → feed.reader.told.end ≡ None

  -- whatever a reader had handed out before, it has then handed out some frames more, and it is of the same router
  pub record ReadsOn (old new : Reader S) : Type 0 where
    pub more : List FrameStep
    pub on : (start : Reader S) (steps : List FrameStep) → HandsOut start old steps → HandsOut start new (steps ++ more)
    pub router : new.told.router ≡ old.told.router

-- what is told of a feed whose reader tells this: where the history was full, what it took, and that end
abbrev pub told_with : Option ℕ → FeedTold → FeedTold
told_with None told = told
told_with (Some n) told = record told { updates = n; end = Some ends.Full }
