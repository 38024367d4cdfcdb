use Rattle.feed_threads.proofs.ShownLemmas.{shows-later, shows-still}
use Rattle.feed_threads.proofs.TakeLemmas.{takes-after, takes-still}
use Rattle.feed_threads.proofs.take.take_shown.Goals as goal

pub returns-then-not-waits-clause-taken : goal.returns-then-not-waits-clause-taken
returns-then-not-waits-clause-taken g c = record { takes = c.take_frame.ensures.takes; shows = shows-still _ _ _ _ c.take_frame.ensures.takes.saw.seen c.requires.1 }

pub returns-in_err-show-clause-taken : goal.returns-in_err-show-clause-taken
returns-in_err-show-clause-taken g c = record {
  takes = takes-still c.args.desk.now g.S.Source.left g.S.Source.faults g.S.Source.place c.from_residual.result c.args.seat.now c.show.new.seat c.args.feed.now c.from_residual.ensures.0 (c.waits.ensures c.if-not-waits.false) c.show.ensures.looks;
  shows = c.show.ensures.shows;
}

pub returns-clause-taken : goal.returns-clause-taken
returns-clause-taken g c = record {
  takes = takes-after c.args.desk.now g.S.Source.left g.S.Source.faults g.S.Source.place c.take_frame-2.result c.args.seat.now c.show.new.seat c.take_frame-2.new.seat c.args.feed.now c.take_frame-2.new.feed c.show.ensures.looks c.take_frame-2.ensures.takes;
  shows = shows-later _ _ _ _ _ c.take_frame-2.ensures.takes.saw.seen c.show.ensures.shows;
}
