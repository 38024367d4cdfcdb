-- What the jobs that read may take to other threads.
use denote.RattleType.{RattleType}
use denote.Param.Send.{IsSend, recorded_send, sendable, struct_send}
use denote.Struct.Declared.{shape}
use denote.Struct.Struct.{Struct}
use denote.Struct.Tuple.{Tuple}
use Rattle.std.proofs.Common.{[], ◌∷◌}
use Rattle.std.proofs.Crossing as heap
use Rattle.std.proofs.Crossing.{crosses}
use Rattle.base.proofs.list.List.TheSendSync as list
use Rattle.feed_model.specs.contracts.feed_told.FeedTold as FeedTold
use Rattle.feed_model.proofs.feed_told.FeedTold.TheSendSync as feed-told
use Rattle.dn_formats.proofs.told.Told.TheSendSync as told
use Rattle.dn_io.specs.declared.traits.Source as source
use Rattle.fast_pins.specs.contracts.reader.FastReader as FastReader
use Rattle.fast_pins.proofs.reader.FastReader.TheSendSync as reader
use Rattle.version_store.proofs.Crossing.{Snapshot-send, Snapshot-sync}
use Rattle.version_store.specs.contracts.shot.SnapshotShot.TheImpl as shot
use Rattle.version_store.specs.contracts.snapshot.Snapshot as Snapshot
use Rattle.feed_threads.specs.contracts.job.Job as Job
use Rattle.feed_threads.specs.contracts.job.JobDone as JobDone
use Rattle.feed_threads.specs.contracts.reader_job.Read as Read
use Rattle.feed_threads.specs.contracts.reader_jobs.Readers as Readers
use Rattle.feed_threads.proofs.job.Job.TheSendSync as job

reader-sends : IsSend (FastReader.the_row Snapshot.the_row shot.ghosts)
reader-sends = search (reader.the_send, Snapshot-send, Snapshot-sync, sendable, crosses) depth 40

pair-sends : (a b : RattleType) → IsSend a → IsSend b → IsSend (Tuple (a ∷ b ∷ []))
pair-sends a b sa sb = search sendable depth 40

module _ (T : RattleType) (sends : IsSend T) where
  done-sends : IsSend (JobDone.the_field T).row
  done-sends = struct_send (shape (JobDone.the_type T)) (
    search (sendable, crosses) depth 10,
    (search (told.the_send, list.the_send, sendable, crosses) depth 40, (heap.Vec-send (Tuple (T ∷ FeedTold.the_row ∷ [])) (pair-sends T FeedTold.the_row sends feed-told.the_send), (search (sendable, crosses) depth 10, tt))),
  )

  pub read-sends : IsSend (Read.the_row T)
  read-sends =
      recorded_send (Struct (shape (Read.the_type T))) (Read.the_type T).D (Read.the_type T).to (Read.the_type T).to_one (struct_send (shape (Read.the_type T)) (reader-sends, (done-sends, tt)))

  module _ (g : source.Ghosts T.Denot) where
    job-sends : IsSend (Job.the_row T g)
    job-sends = search (job.the_send, sendable, crosses) depth 40

    pub readers-send : IsSend (Readers.the_row T g)
    readers-send = search (job-sends, reader-sends, read-sends, sendable, crosses) depth 40
