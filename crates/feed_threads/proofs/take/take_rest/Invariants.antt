use Rattle.std.proofs.Common.{◌≡◌, ◌+◌, ◌-◌, is_none, false, if◌then◌else◌}
use Rattle.feed_threads.specs.Feeds.{ReadsOn, end_of_feed}
use Rattle.feed_threads.specs.Seats.{SawMore}
use Rattle.feed_threads.specs.Shown.{ShowsOn}
use Rattle.feed_threads.specs.Takes.{TakesAny}
use Rattle.feed_threads.proofs.take.take_rest.Given as goal

-- some frames were taken, and there may be more while the feed has no end
abbrev pub invariant-loop-more : goal.invariant-loop-more
invariant-loop-more g l = record {
  saw : SawMore l.fn.seat l.seat;
  shows : ShowsOn l.desk.setup.basis.topology l.seat.seen l.fn.shown l.shown;
  taken : TakesAny l.desk.setup.basis.topology g.S.Source.left g.S.Source.faults g.S.Source.place l.desk.setup.basis.limit l.fn.seat.number l.fn.feed l.feed l.fn.seat.seen l.seat.seen;
  reads : ReadsOn l.desk.setup.basis.topology g.S.Source.left g.S.Source.faults g.S.Source.place l.fn.feed.reader l.feed.reader;
  ended : l.more ≡ false → is_none (end_of_feed l.feed) ≡ false;
}

abbrev pub decreases-loop-more : goal.decreases-loop-more
decreases-loop-more g l = if l.more then l.feed.reader.limit - l.feed.reader.passed + 1 else 0
