use Rattle.std.proofs.Common.{◌∙◌, ℕ, None, Some, sym, subst}
use Rattle.feed_threads.specs.Takes.{GivesFirst, TakesSome}
use Rattle.feed_threads.proofs.SeatLemmas.{saw-none, saw-more, saw-number}
use Rattle.feed_threads.proofs.ShownLemmas.{shows-more, shows-none}
use Rattle.feed_threads.proofs.StepLemmas.{reads-none, reads-more}
use Rattle.feed_threads.proofs.TakeLemmas.{any-all, any-start, any-more, first-more, takes-broke}
use Rattle.feed_threads.proofs.take.take_rest.Goals as goal

pub loop-more-init : goal.loop-more-init
loop-more-init g c = record {
  saw = saw-none c.args.seat.now;
  shows = shows-none _ _ _ c.requires.1;
  taken = any-start c.args.desk.now.setup.basis.topology g.S.Source.left g.S.Source.faults g.S.Source.place c.args.desk.now.setup.basis.limit c.args.seat.now.number c.args.feed.now c.args.seat.now.seen;
  reads = reads-none c.args.desk.now.setup.basis.topology g.S.Source.left g.S.Source.faults g.S.Source.place c.args.feed.now.reader;
  ended = λ e. cc;
}

pub loop-more-preserved : goal.loop-more-preserved
loop-more-preserved g c = record {
  saw = saw-more _ _ _ c.loop-more.invariant.saw c.take_shown.ensures.taken.takes.saw;
  shows = shows-more _ _ _ _ _ _ c.loop-more.invariant.shows c.take_shown.ensures.taken.shows;
  taken = any-more c.args.desk.now.setup.basis.topology g.S.Source.left g.S.Source.faults g.S.Source.place c.args.desk.now.setup.basis.limit c.args.seat.now.number (Some 1) c.args.feed.now c.loop-more.feed c.take_shown.new.feed c.args.seat.now.seen c.loop-more.seat.seen c.take_shown.new.seat.seen c.loop-more.invariant.taken
      (subst (λ (n : ℕ). TakesSome c.args.desk.now.setup.basis.topology g.S.Source.left g.S.Source.faults g.S.Source.place c.args.desk.now.setup.basis.limit n (Some 1) c.loop-more.feed c.take_shown.new.feed c.loop-more.seat.seen c.take_shown.new.seat.seen)
      (saw-number c.args.seat.now c.loop-more.seat c.loop-more.invariant.saw) c.in_ok-more.ensures.taken.takes.taken);
  reads = reads-more c.args.desk.now.setup.basis.topology g.S.Source.left g.S.Source.faults g.S.Source.place _ _ _ c.loop-more.invariant.reads c.take_shown.ensures.taken.takes.reads;
  ended = λ e. sym c.in_ok-more.ensures.step.0 ∙ e;
}

pub returns-in_err-more : goal.returns-in_err-more
returns-in_err-more g c =
    record {
      takes = takes-broke c.args.desk.now g.S.Source.left g.S.Source.faults g.S.Source.place c.from_residual.result None c.args.seat.now c.take_shown.new.seat c.args.feed.now c.take_shown.new.feed c.from_residual.ensures.0
          (saw-more _ _ _ c.loop-more.invariant.saw c.take_shown.ensures.taken.takes.saw)
          (reads-more c.args.desk.now.setup.basis.topology g.S.Source.left g.S.Source.faults g.S.Source.place _ _ _ c.loop-more.invariant.reads c.take_shown.ensures.taken.takes.reads)
          (first-more c.args.desk.now.setup.basis.topology g.S.Source.left g.S.Source.faults g.S.Source.place c.args.desk.now.setup.basis.limit c.args.seat.now.number (Some 1) None c.args.feed.now c.loop-more.feed c.take_shown.new.feed c.args.seat.now.seen c.loop-more.seat.seen c.take_shown.new.seat.seen
          c.loop-more.invariant.taken.more c.loop-more.invariant.taken.adds
          (subst (λ (n : ℕ). GivesFirst c.args.desk.now.setup.basis.topology g.S.Source.left g.S.Source.faults g.S.Source.place c.args.desk.now.setup.basis.limit n (Some 1) c.loop-more.feed c.take_shown.new.feed c.loop-more.seat.seen c.take_shown.new.seat.seen)
          (saw-number c.args.seat.now c.loop-more.seat c.loop-more.invariant.saw) c.in_err-more.ensures.taken.takes.first) tt);
      shows = shows-more _ _ _ _ _ _ c.loop-more.invariant.shows c.take_shown.ensures.taken.shows;
    }

pub returns : goal.returns
returns g c = record {
  takes = record {
    saw = c.loop-more.invariant.saw;
    reads = c.loop-more.invariant.reads;
    taken = any-all c.args.desk.now.setup.basis.topology g.S.Source.left g.S.Source.faults g.S.Source.place c.args.desk.now.setup.basis.limit c.args.seat.now.number c.args.feed.now c.loop-more.feed c.args.seat.now.seen c.loop-more.seat.seen (c.loop-more.invariant.ended c.loop-more-test.false) c.loop-more.invariant.taken;
    first = tt;
  };
  shows = c.loop-more.invariant.shows;
}
