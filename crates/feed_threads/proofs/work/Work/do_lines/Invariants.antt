use Rattle.std.proofs.Common.{take}
use Rattle.feed_threads.specs.Works.{Does, IsAtWork, WorksOn}
use Rattle.feed_threads.proofs.work.Work.do_lines.Given as goal

-- the lines so far were done
abbrev pub invariant-loop-line : goal.invariant-loop-line
invariant-loop-line g l = record {
  at : IsAtWork l.desk l.self;
  on : WorksOn l.desk g.S.Source.left g.S.Source.faults g.S.Source.place l.fn.self l.self;
  does : Does l.desk g.S.Source.left g.S.Source.faults g.S.Source.place l.fn.self l.self (take l.line-index l.lines);
}
