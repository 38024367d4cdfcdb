use Rattle.std.proofs.Common.{arith}
use Rattle.topology.proofs.Values.{ends_next, tables_kept, ends_end}
use Rattle.topology.proofs.taken.ends_of_links.Goals as goal

pub loop-link-preserved : goal.loop-link-preserved
loop-link-preserved c = record {
  tables = tables_kept c.args.tables.now c.loop-link.taken c.add.new.self c.add-in-loop-link.new.self _ _ c.loop-link.invariant.tables c.in_ok-add.ensures c.in_ok-add-2.ensures;
  ends = ends_next c.args.links.now c.loop-link.link-index c.link-item.result c.loop-link.taken c.add.new.self c.add-in-loop-link.new.self (omega arith) c.link-item.is c.loop-link.invariant.ends c.in_ok-add.ensures c.in_ok-add-2.ensures;
}

pub returns : goal.returns
returns c = ends_end c.args.tables.now c.args.links.now c.loop-link.link-index c.loop-link.taken (omega arith) c.loop-link.invariant.tables c.loop-link.invariant.ends
