use Rattle.std.proofs.Common.{◌≡◌, take}
use Rattle.feed_threads.specs.Tracks.{rests_by}
use Rattle.feed_threads.specs.Works.{Does, IsAtWork, WorksOn}
use Rattle.feed_threads.proofs.work.Work.take_all.Given as goal

-- the rest was taken of the feeds so far
abbrev pub invariant-loop-at : goal.invariant-loop-at
invariant-loop-at g l = record {
  here : IsAtWork l.desk l.self;
  on : WorksOn l.desk g.S.Source.left g.S.Source.faults g.S.Source.place l.fn.self l.self;
  does : Does l.desk g.S.Source.left g.S.Source.faults g.S.Source.place l.fn.self l.self (take l.at (rests_by l.fn.self.feeds));
  told : l.self.told ≡ l.fn.self.told;
}
