use Rattle.std.proofs.Common.{take, arith}
use Rattle.std.specs.Arc.{arc_value}
use Rattle.dn_model.specs.Entry.{entries}
use Rattle.version_store.proofs.GoingOn.{entry-read}
use Rattle.version_store.proofs.Keeping.{standing-read}
use Rattle.version_store.proofs.versions.standing_after.Goals as goal

pub advance-requires : goal.advance-requires
advance-requires c =
    entry-read (arc_value c.args.topology.now) (entries (take c.loop-i.i c.args.history.now)) c.args.history.now c.loop-i.i c.in-Some.posted.now c.loop-i.version c.loop-i.invariant.stands c.requires (omega arith) (c.in-Some.ensures.element _)

pub loop-i-preserved : goal.loop-i-preserved
loop-i-preserved c =
    standing-read (arc_value c.args.topology.now) c.args.history.now c.loop-i.i c.in-Some.posted.now c.loop-i.version c.in_ok-next.next c.loop-i.loops c.advance.new.loops (omega arith) (c.in-Some.ensures.element _)
    c.loop-i.invariant c.in_ok-next.ensures.stands
