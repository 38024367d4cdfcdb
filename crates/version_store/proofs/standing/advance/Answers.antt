use Rattle.version_store.proofs.GoingOn.{delta-more}
use Rattle.version_store.proofs.Keeping.{standing-more}
use Rattle.version_store.proofs.standing.advance.Goals as goal

pub returns-clause-stands : goal.returns-clause-stands
returns-clause-stands c = λ t h is.
    standing-more t h c.args.entry.now c.args.version c.in_ok-next.next c.args.loops.now c.keep.new.loops c.in_ok-next.delta is c.in_ok-next.ensures.topology c.in_ok-next.ensures.stands c.in_ok-next.ensures.delta c.in_ok-keep.ensures

pub returns-clause-delta : goal.returns-clause-delta
returns-clause-delta c = λ t h is. delta-more t h c.args.entry.now c.args.version c.in_ok-next.delta is.stands c.in_ok-next.ensures.delta
