-- What each frame of a feed comes to, and what is told of a feed.
use Rattle.std.specs.Prelude.{ℕ, List, [], ◌∷◌, map, sum, take, Some}
use Rattle.std.specs.List.{flat_map}
use Rattle.base.specs.declared.ids.RouterId.{RouterId}
use Rattle.dn_model.specs.declared.entry.Op.{Op}
use Rattle.dn_model.specs.declared.entry.Entry.{Entry}
use Rattle.dn_model.specs.declared.entry.Entry.TheVariants.{Route}
use Rattle.feed_model.specs.declared.feed_told.RefusedFrame.{RefusedFrame}
use Rattle.feed_model.specs.declared.feed_told.FeedEnd.{FeedEnd}
use Rattle.feed_model.specs.declared.feed_told.FeedTold.{FeedTold}

-- Accepted: the updates of the frame, each with the router whose table it changes, and how many messages it passed
-- over. Refused: where it begins in the feed, where its refused message begins in its payload, and the cause.
pub data FrameStep : Type 0 where
  Accepted : (ops : List (RouterId × Op)) (skipped : ℕ) → FrameStep
  Refused : (frame : RefusedFrame) → FrameStep

abbrev pub ops_of : FrameStep → List (RouterId × Op)
ops_of (Accepted ops skipped) = ops
ops_of (Refused frame) = []

abbrev pub skipped_of : FrameStep → ℕ
skipped_of (Accepted ops skipped) = skipped
skipped_of (Refused frame) = 0

abbrev pub refused_of : FrameStep → List RefusedFrame
refused_of (Accepted ops skipped) = []
refused_of (Refused frame) = frame ∷ []

-- the updates of accepted frames, in order
abbrev pub updates : List FrameStep → List (RouterId × Op)
updates steps = flat_map ops_of steps

-- the refused frames, in order
abbrev pub refusals : List FrameStep → List RefusedFrame
refusals steps = flat_map refused_of steps

-- A feed of a run, with what was read of it: its number from 1, the device whose feed it is, what each frame came to,
-- how many of its updates the history took, which are the first so many, and its end.
pub record FeedRead : Type 0 where
  pub feed_no : ℕ
  pub router : RouterId
  pub steps : List FrameStep
  pub kept : ℕ
  pub end : FeedEnd

-- the updates of a feed's first frames that the history took: no more than it took of the feed
abbrev pub kept_of : FeedRead → List FrameStep → List (RouterId × Op)
kept_of f steps = take f.kept (updates steps)

-- What is told of a feed: how many of its updates the history took, and what was passed over and refused in all of its
-- frames. So where the history was full, the frame that has the refused update is the last that counts.
abbrev pub told_of : FeedRead → FeedTold
told_of f = record {
  feed_no = f.feed_no;
  router = f.router;
  updates = f.kept;
  skipped = sum (map skipped_of f.steps);
  refused = refusals f.steps;
  end = Some f.end;
}

-- updates of the feed with this number as entries of the history
abbrev pub entries_by : ℕ → List (RouterId × Op) → List Entry
entries_by feed_no ops = map (λ u. Route u.0 feed_no u.1) ops

abbrev pub entries_of : FeedRead → List (RouterId × Op) → List Entry
entries_of f ops = entries_by f.feed_no ops
