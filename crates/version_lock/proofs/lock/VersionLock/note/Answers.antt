use Rattle.std.proofs.Common.{rules}
use Rattle.version_lock.specs.Rule.{setup_of}
use Rattle.version_lock.proofs.PartsKeep.{notes}
use Rattle.version_lock.proofs.lock.VersionLock.note.Goals as goal

pub split_seat-told-requires : goal.split_seat-told-requires
split_seat-told-requires g c = (
  search rules,
  search rules,
  notes g.B.Book.history g.B.Book.basis (setup_of g.B.Book.basis c.self.inside.desk.shared.key) _ _,
)
