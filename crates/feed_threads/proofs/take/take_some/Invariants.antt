use Rattle.std.proofs.Common.{Some}
use Rattle.feed_threads.specs.Feeds.{ReadsOn}
use Rattle.feed_threads.specs.Seats.{SawMore}
use Rattle.feed_threads.specs.Shown.{ShowsOn}
use Rattle.feed_threads.specs.Takes.{TakesSome}
use Rattle.feed_threads.proofs.take.take_some.Given as goal

-- so many frames were taken
abbrev pub invariant-loop-taken : goal.invariant-loop-taken
invariant-loop-taken g l = record {
  saw : SawMore l.fn.seat l.seat;
  shows : ShowsOn l.desk.setup.basis.topology l.seat.seen l.fn.shown l.shown;
  taken : TakesSome l.desk.setup.basis.topology g.S.Source.left g.S.Source.faults g.S.Source.place l.desk.setup.basis.limit l.fn.seat.number (Some l.taken) l.fn.feed l.feed l.fn.seat.seen l.seat.seen;
  reads : ReadsOn l.desk.setup.basis.topology g.S.Source.left g.S.Source.faults g.S.Source.place l.fn.feed.reader l.feed.reader;
}
