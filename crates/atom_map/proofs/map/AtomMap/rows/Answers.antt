use Rattle.std.proofs.Common.{arith}
use Rattle.atom_map.proofs.Answered.{one-more-told}
use Rattle.atom_map.proofs.map.AtomMap.rows.Goals as goal

pub loop-i-preserved : goal.loop-i-preserved
loop-i-preserved c = one-more-told c.self.inside.rows c.loop-i.i c.read-row.result c.loop-i.rows.items c.push.new.self.items (omega arith) c.read-row.ensures c.loop-i.invariant c.in_ok-push.ensures.items
