use Rattle.std.proofs.Common.{◌+◌, ◌≤◌, ◌∙◌, ℕ, length, Some, sym, subst, arith}
use Rattle.feed_threads.specs.Feeds.{end_of_feed}
use Rattle.feed_threads.specs.Takes.{GivesFirst, TakesSome}
use Rattle.feed_threads.proofs.SeatLemmas.{saw-none, saw-more, saw-number}
use Rattle.feed_threads.proofs.ShownLemmas.{shows-more, shows-none}
use Rattle.feed_threads.proofs.StepLemmas.{reads-none, reads-more}
use Rattle.feed_threads.proofs.TakeLemmas.{count-within, takes-broke, took-start, took-more, took-fewer, first-more}
use Rattle.feed_threads.proofs.take.take_some.Goals as goal

pub loop-taken-init : goal.loop-taken-init
loop-taken-init g c = record {
  saw = saw-none c.args.seat.now;
  shows = shows-none _ _ _ c.requires.1;
  taken = took-start c.args.desk.now.setup.basis.topology g.S.Source.left g.S.Source.faults g.S.Source.place c.args.desk.now.setup.basis.limit c.args.seat.now.number c.args.feed.now c.args.seat.now.seen;
  reads = reads-none c.args.desk.now.setup.basis.topology g.S.Source.left g.S.Source.faults g.S.Source.place c.args.feed.now.reader;
}

pub returns-then-not-branch : goal.returns-then-not-branch
returns-then-not-branch g c =
    let below : c.loop-taken.taken + 1 ≤ c.args.count = omega arith in
    record {
      takes = record {
        saw = saw-more _ _ _ c.loop-taken.invariant.saw c.take_shown.ensures.taken.takes.saw;
        reads = reads-more c.args.desk.now.setup.basis.topology g.S.Source.left g.S.Source.faults g.S.Source.place _ _ _ c.loop-taken.invariant.reads c.take_shown.ensures.taken.takes.reads;
        taken = took-fewer c.args.desk.now.setup.basis.topology g.S.Source.left g.S.Source.faults g.S.Source.place c.args.desk.now.setup.basis.limit c.args.seat.now.number (c.loop-taken.taken + 1) c.args.count c.args.feed.now c.take_shown.new.feed c.args.seat.now.seen c.take_shown.new.seat.seen
            (sym c.in_ok-take_shown.ensures.step.0 ∙ c.if-not-branch.true) below
            (took-more c.args.desk.now.setup.basis.topology g.S.Source.left g.S.Source.faults g.S.Source.place c.args.desk.now.setup.basis.limit c.args.seat.now.number c.loop-taken.taken 1 c.args.feed.now c.loop-taken.feed c.take_shown.new.feed c.args.seat.now.seen c.loop-taken.seat.seen c.take_shown.new.seat.seen c.loop-taken.invariant.taken
            (subst (λ (n : ℕ). TakesSome c.args.desk.now.setup.basis.topology g.S.Source.left g.S.Source.faults g.S.Source.place c.args.desk.now.setup.basis.limit n (Some 1) c.loop-taken.feed c.take_shown.new.feed c.loop-taken.seat.seen c.take_shown.new.seat.seen)
            (saw-number c.args.seat.now c.loop-taken.seat c.loop-taken.invariant.saw) c.in_ok-take_shown.ensures.taken.takes.taken));
        first = tt;
      };
      shows = shows-more _ _ _ _ _ _ c.loop-taken.invariant.shows c.take_shown.ensures.taken.shows;
    }

pub loop-taken-preserved : goal.loop-taken-preserved
loop-taken-preserved g c = record {
  saw = saw-more _ _ _ c.loop-taken.invariant.saw c.take_shown.ensures.taken.takes.saw;
  shows = shows-more _ _ _ _ _ _ c.loop-taken.invariant.shows c.take_shown.ensures.taken.shows;
  taken = took-more c.args.desk.now.setup.basis.topology g.S.Source.left g.S.Source.faults g.S.Source.place c.args.desk.now.setup.basis.limit c.args.seat.now.number c.loop-taken.taken 1 c.args.feed.now c.loop-taken.feed c.take_shown.new.feed c.args.seat.now.seen c.loop-taken.seat.seen c.take_shown.new.seat.seen c.loop-taken.invariant.taken
      (subst (λ (n : ℕ). TakesSome c.args.desk.now.setup.basis.topology g.S.Source.left g.S.Source.faults g.S.Source.place c.args.desk.now.setup.basis.limit n (Some 1) c.loop-taken.feed c.take_shown.new.feed c.loop-taken.seat.seen c.take_shown.new.seat.seen)
      (saw-number c.args.seat.now c.loop-taken.seat c.loop-taken.invariant.saw) c.in_ok-take_shown.ensures.taken.takes.taken);
  reads = reads-more c.args.desk.now.setup.basis.topology g.S.Source.left g.S.Source.faults g.S.Source.place _ _ _ c.loop-taken.invariant.reads c.take_shown.ensures.taken.takes.reads;
}

pub returns-in_err-take_shown : goal.returns-in_err-take_shown
returns-in_err-take_shown g c =
    let here : GivesFirst c.args.desk.now.setup.basis.topology g.S.Source.left g.S.Source.faults g.S.Source.place c.args.desk.now.setup.basis.limit c.args.seat.now.number (Some 1) c.loop-taken.feed c.take_shown.new.feed c.loop-taken.seat.seen c.take_shown.new.seat.seen =
    subst (λ (n : ℕ). GivesFirst c.args.desk.now.setup.basis.topology g.S.Source.left g.S.Source.faults g.S.Source.place c.args.desk.now.setup.basis.limit n (Some 1) c.loop-taken.feed c.take_shown.new.feed c.loop-taken.seat.seen c.take_shown.new.seat.seen)
    (saw-number c.args.seat.now c.loop-taken.seat c.loop-taken.invariant.saw) c.in_err-take_shown.ensures.taken.takes.first in
    let so-far : length c.loop-taken.invariant.taken.more ≤ c.loop-taken.taken = count-within c.loop-taken.taken (length c.loop-taken.invariant.taken.more) (end_of_feed c.loop-taken.feed) c.loop-taken.invariant.taken.counted in
    let one : length here.more ≤ 1 = here.within in
    let below : c.loop-taken.taken + 1 ≤ c.args.count = omega arith in
    record {
      takes = takes-broke c.args.desk.now g.S.Source.left g.S.Source.faults g.S.Source.place c.from_residual.result (Some c.args.count) c.args.seat.now c.take_shown.new.seat c.args.feed.now c.take_shown.new.feed c.from_residual.ensures.0
          (saw-more _ _ _ c.loop-taken.invariant.saw c.take_shown.ensures.taken.takes.saw)
          (reads-more c.args.desk.now.setup.basis.topology g.S.Source.left g.S.Source.faults g.S.Source.place _ _ _ c.loop-taken.invariant.reads c.take_shown.ensures.taken.takes.reads)
          (first-more c.args.desk.now.setup.basis.topology g.S.Source.left g.S.Source.faults g.S.Source.place c.args.desk.now.setup.basis.limit c.args.seat.now.number (Some 1) (Some c.args.count) c.args.feed.now c.loop-taken.feed c.take_shown.new.feed c.args.seat.now.seen c.loop-taken.seat.seen c.take_shown.new.seat.seen
          c.loop-taken.invariant.taken.more c.loop-taken.invariant.taken.adds here (omega (arith, so-far, one, below)));
      shows = shows-more _ _ _ _ _ _ c.loop-taken.invariant.shows c.take_shown.ensures.taken.shows;
    }

pub returns : goal.returns
returns g c = record {
  takes = record {
    saw = c.loop-taken.invariant.saw;
    reads = c.loop-taken.invariant.reads;
    taken = subst (λ (n : ℕ). TakesSome c.args.desk.now.setup.basis.topology g.S.Source.left g.S.Source.faults g.S.Source.place c.args.desk.now.setup.basis.limit c.args.seat.now.number (Some n) c.args.feed.now c.loop-taken.feed c.args.seat.now.seen c.loop-taken.seat.seen) (omega arith) c.loop-taken.invariant.taken;
    first = tt;
  };
  shows = c.loop-taken.invariant.shows;
}
