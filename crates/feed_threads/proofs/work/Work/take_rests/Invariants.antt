use Rattle.std.proofs.Common.{◌≡◌, take}
use Rattle.feed_threads.specs.Tracks.{rests_of}
use Rattle.feed_threads.specs.Works.{Does, IsAtWork, WorksOn}
use Rattle.feed_threads.proofs.work.Work.take_rests.Given as goal

-- the rest was taken of the feeds that the lines so far name
abbrev pub invariant-loop-line : goal.invariant-loop-line
invariant-loop-line g l = record {
  at : IsAtWork l.desk l.self;
  on : WorksOn l.desk g.S.Source.left g.S.Source.faults g.S.Source.place l.fn.self l.self;
  does : Does l.desk g.S.Source.left g.S.Source.faults g.S.Source.place l.fn.self l.self (rests_of (take l.line-index l.lines));
  told : l.self.told ≡ l.fn.self.told;
}
