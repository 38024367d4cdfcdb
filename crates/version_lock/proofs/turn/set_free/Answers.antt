use Rattle.std.proofs.Common.{rules}
use Rattle.version_lock.specs.Rule.{setup_of}
use Rattle.version_lock.proofs.Keeps.{frees}
use Rattle.version_lock.proofs.turn.set_free.Goals as goal

pub store-requires : goal.store-requires
store-requires g c = let b = c.requires.book in (
  search rules,
  search rules,
  frees g.B.Book.history g.B.Book.basis (setup_of g.B.Book.basis c.args.board.now.key) _ _ c.args.token.now.me b.0 b.1 c.requires.turn b.2 b.3,
)
