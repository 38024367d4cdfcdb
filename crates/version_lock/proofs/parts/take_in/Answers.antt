use Rattle.std.proofs.Common.{rules}
use Rattle.version_lock.specs.Rule.{setup_of}
use Rattle.version_lock.proofs.Keeps.{recalls}
use Rattle.version_lock.proofs.PartsKeep.{joins, remembered}
use Rattle.version_lock.proofs.parts.take_in.Goals as goal

pub join_seat-requires : goal.join_seat-requires
join_seat-requires g c = (
  search rules,
  search rules,
  search rules,
  search rules,
  joins g.B.Book.history g.B.Book.basis (setup_of g.B.Book.basis c.args.board.now.key) _ c.args.token.now.me.0 _ c.args.other.me.0 c.requires.free.0 c.requires.other_free.0,
)

pub load-requires : goal.load-requires
load-requires g c = (
  search rules,
  search rules,
  recalls g.B.Book.history g.B.Book.basis (setup_of g.B.Book.basis c.args.board.now.key) _ _ c.join_seat.new.seat.me,
)

pub returns-clause-mine : goal.returns-clause-mine
returns-clause-mine g c =
    (remembered c.args.token.now.me.0 c.args.other.me.0 _ c.join_seat.new.seat.me c.load.new.seat.me c.join_seat.ensures.2 c.load.ensures.2.0 c.load.ensures.2.1).0

pub returns-clause-theirs : goal.returns-clause-theirs
returns-clause-theirs g c =
    (remembered c.args.token.now.me.0 c.args.other.me.0 _ c.join_seat.new.seat.me c.load.new.seat.me c.join_seat.ensures.2 c.load.ensures.2.0 c.load.ensures.2.1).1

pub returns-clause-own : goal.returns-clause-own
returns-clause-own g c =
    (remembered c.args.token.now.me.0 c.args.other.me.0 _ c.join_seat.new.seat.me c.load.new.seat.me c.join_seat.ensures.2 c.load.ensures.2.0 c.load.ensures.2.1).2

pub returns-clause-brought : goal.returns-clause-brought
returns-clause-brought g c =
    (remembered c.args.token.now.me.0 c.args.other.me.0 _ c.join_seat.new.seat.me c.load.new.seat.me c.join_seat.ensures.2 c.load.ensures.2.0 c.load.ensures.2.1).3
