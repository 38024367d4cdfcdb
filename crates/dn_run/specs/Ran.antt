-- What the jobs of a run came to, before their sources stand in the order of the feeds.
use Rattle.std.specs.Prelude.{ℕ, ◌≡◌, All, List, map, Option}
use Rattle.std.specs.List.{flat_map}
use Rattle.std.specs.List.Sorted.{IsPermutation}
use Rattle.feed_model.specs.Steps.{FeedRead}
use Rattle.feed_model.specs.declared.feed_told.FeedTold.{FeedTold}
use Rattle.dn_formats.specs.declared.told.JobTold.{JobTold}
use Rattle.dn_model.specs.Entry.{entries}
use Rattle.dn_model.specs.declared.entry.Posted.{Posted}
use Rattle.dn_model.specs.declared.topology.Topology.{Topology}
use Rattle.route_feed.specs.FeedReader.{Reader}
use Rattle.feed_threads.specs.AllJobs.{AreLawful, told_by}
use Rattle.feed_threads.specs.Jobs.{Task}
use Rattle.feed_threads.specs.declared.job.JobDone.{JobDone}
use Rattle.dn_run.specs.Jobs.{IsReadAs}
use Rattle.dn_run.specs.Law.{IsLawfulRun}
use Rattle.dn_run.specs.Limits.{history_limit}
use Rattle.dn_run.specs.Run.{ScriptLines}

-- the number of a reader's feed, and the place of its source
abbrev pub reader_tag : {S : Type 0} → (S → ℕ) → Reader S → ℕ × ℕ
reader_tag place r = (r.told.feed_no, place r.source)

-- the same of a source that came back
abbrev pub back_tag : {S : Type 0} → (S → ℕ) → S × FeedTold → ℕ × ℕ
back_tag place b = (b.1.feed_no, place b.0)

-- Jobs were run: their sources came back one job after another, and the history and what is told of each job are
-- lawful.
pub record ListRan {S : Type 0} (t : Topology) (left : S → Option (List ℕ)) (faults place : S → ℕ)
    (tasks : List (Task S)) (backs : List (S × FeedTold)) (history : List Posted) (told : List JobTold) : Type 0 where
  pub dones : List (JobDone S)
  pub backs_are : backs ≡ flat_map (λ done. done.feeds.items) dones
  pub told_are : told ≡ map told_by dones
  pub lawful : AreLawful t left faults place history_limit tasks history dones

-- The jobs were run and their sources came back in the order of the jobs: by functions of the readers, what came back
-- of each and what was read of it. The history is a lawful one of what was read, and so is what is told of each job.
pub record RanAs {S : Type 0} (t : Topology) (left : S → Option (List ℕ)) (faults : S → ℕ) (readers : List (Reader S))
    (backs : List (S × FeedTold)) (history : List Posted) (scripts : ScriptLines) (told : List JobTold) : Type 0 where
  pub back : Reader S → S × FeedTold
  pub feed : Reader S → FeedRead
  pub backs_are : IsPermutation (map back readers) backs
  pub each : All (λ r. IsReadAs t left faults r (back r).0 (back r).1 (feed r)) readers
  pub lawful : IsLawfulRun t (map feed readers) scripts (entries history) told
