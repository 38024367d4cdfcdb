use Rattle.std.proofs.Common.{map, drop, arith}
use Rattle.atom_map.specs.Atoms.{atom_of}
use Rattle.atom_map.specs.Index.{first_below}
use Rattle.atom_map.proofs.Meeting.{one-more-below, no-more-below, all-below}
use Rattle.atom_map.proofs.search.atoms_below.Goals.{else-loop-i-test, then-loop-i-test+then-row-hi}
use Rattle.atom_map.proofs.search.atoms_below.Goals as goal

pub loop-i-preserved : goal.loop-i-preserved
loop-i-preserved c = one-more-below c.args.hi c.loop-i.i c.args.rows.now c.read-row.result c.loop-i.atoms.items c.push.new.self.items (map atom_of (first_below c.args.hi (drop c.args.from c.args.rows.now))) (omega arith) c.read-row.ensures c.if-row-hi.false c.loop-i.invariant c.in_ok-push.ensures.items

pub returns : goal.returns
returns c =
    elim c.loop-i-test.branch [
      | else-loop-i-test w ↦ all-below c.args.hi c.loop-i.i c.args.rows.now c.loop-i.atoms.items (map atom_of (first_below c.args.hi (drop c.args.from c.args.rows.now))) (omega arith) c.loop-i.invariant
      | then-loop-i-test+then-row-hi w ↦ no-more-below c.args.hi c.loop-i.i c.args.rows.now w.read-row.result c.loop-i.atoms.items (map atom_of (first_below c.args.hi (drop c.args.from c.args.rows.now))) (omega arith) w.read-row.ensures w.if-row-hi.true c.loop-i.invariant
    ]
