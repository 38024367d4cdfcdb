use Rattle.std.proofs.Common.{◌∙◌, ap, sym}
use Rattle.feed_model.specs.Steps.{updates}
use Rattle.route_feed.specs.declared.feed_step.FeedStep.{FeedStep}
use Rattle.feed_threads.specs.Feeds.{handed_out}
use Rattle.feed_threads.proofs.GiveLemmas.{passes-step}
use Rattle.feed_threads.proofs.SeatLemmas.{saw-none}
use Rattle.feed_threads.proofs.StepLemmas.{reads-none}
use Rattle.feed_threads.proofs.TakeLemmas.{none-of, first-none, first-ops, takes-arm, takes-broke, took-full, took-accepted, reads-arm, reads-wait}
use Rattle.feed_threads.proofs.take.take_frame.Goals as goal

pub returns-then-is_some-clause-takes : goal.returns-then-is_some-clause-takes
returns-then-is_some-clause-takes g c = record {
  saw = saw-none c.args.seat.now;
  reads = reads-none c.args.desk.now.setup.basis.topology g.S.Source.left g.S.Source.faults g.S.Source.place c.args.feed.now.reader;
  taken = took-full c.args.desk.now.setup.basis.topology g.S.Source.left g.S.Source.faults g.S.Source.place c.args.desk.now.setup.basis.limit c.args.seat.now.number c.args.feed.now c.feed.inside.reader c.feed.inside.kept c.args.seat.now.seen c.feed.view_is (sym c.is_some.ensures ∙ c.if-is_some.true);
  first = tt;
}

pub returns-in-Ops-clause-takes : goal.returns-in-Ops-clause-takes
returns-in-Ops-clause-takes g c =
    let none = (none-of c.args.desk.now.setup.basis.topology g.S.Source.left g.S.Source.faults g.S.Source.place c.args.desk.now.setup.basis.limit c.feed.inside.kept (sym c.is_some.ensures ∙ c.if-is_some.false)) in
    record {
      saw = c.take_ops.ensures.saw;
      reads = reads-arm c.args.desk.now.setup.basis.topology g.S.Source.left g.S.Source.faults g.S.Source.place c.args.desk.now.setup.basis.limit c.args.feed.now c.feed.inside.reader c.feed.inside.kept c.next_step.new.reader _ c.in_ok-ops.field-0 c.feed.view_is c.take_ops.ensures.reader (rw c.topology.ensures at c.in_ok-ops.ensures.handed) c.in_ok-ops.ensures.router;
      taken = took-accepted c.args.desk.now.setup.basis.topology g.S.Source.left g.S.Source.faults g.S.Source.place c.args.desk.now.setup.basis.limit c.args.seat.now.number c.args.feed.now c.feed.inside.reader c.feed.inside.kept c.next_step.new.reader c.take_ops.new.feed c.args.seat.now.seen c.take_ops.new.seat.seen
          c.in_ok-ops.field-0 _ _ c.take_ops.result c.feed.view_is none c.in-Ops.is c.take_ops.ensures.saw.seen
          (rw c.topology.ensures at c.in_ok-ops.ensures.handed) c.in_ok-ops.ensures.again c.in_ok-ops.ensures.end c.in_ok-ops.ensures.counted c.in_ok-ops.ensures.feed_no c.in_ok-ops.ensures.router c.take_ops.ensures.reader
          (passes-step c.in_ok-ops.field-0 _ _ c.in_ok-ops.ensures.advances c.in_ok-ops.ensures.limit) c.take_ops.ensures.took;
      first = first-ops c.args.desk.now.setup.basis.topology g.S.Source.left g.S.Source.faults g.S.Source.place c.args.desk.now.setup.basis.limit c.args.seat.now.number c.args.feed.now c.feed.inside.reader c.feed.inside.kept c.next_step.new.reader c.take_ops.new.feed c.args.seat.now.seen c.take_ops.new.seat.seen
          c.in_ok-ops.field-0 _ _ c.take_ops.result c.feed.view_is none c.in-Ops.is
          (rw c.topology.ensures at c.in_ok-ops.ensures.handed) c.in_ok-ops.ensures.again c.in_ok-ops.ensures.feed_no c.take_ops.ensures.reader c.take_ops.ensures.going c.take_ops.ensures.first;
    }

pub returns-in-Refused-clause-takes : goal.returns-in-Refused-clause-takes
returns-in-Refused-clause-takes g c =
    takes-arm c.args.desk.now g.S.Source.left g.S.Source.faults g.S.Source.place _ c.args.seat.now c.args.feed.now c.feed.inside.reader c.feed.inside.kept c.next_step.new.reader c.in_ok-ops.field-0 c.feed.view_is (sym c.is_some.ensures ∙ c.if-is_some.false) (ap (λ (s : FeedStep). updates (handed_out s)) c.in-Refused.is)
    (rw c.topology.ensures at c.in_ok-ops.ensures.handed) c.in_ok-ops.ensures.again c.in_ok-ops.ensures.end c.in_ok-ops.ensures.feed_no c.in_ok-ops.ensures.router c.in_ok-ops.ensures.advances c.in_ok-ops.ensures.limit

pub returns-in-End-clause-takes : goal.returns-in-End-clause-takes
returns-in-End-clause-takes g c =
    takes-arm c.args.desk.now g.S.Source.left g.S.Source.faults g.S.Source.place _ c.args.seat.now c.args.feed.now c.feed.inside.reader c.feed.inside.kept c.next_step.new.reader c.in_ok-ops.field-0 c.feed.view_is (sym c.is_some.ensures ∙ c.if-is_some.false) (ap (λ (s : FeedStep). updates (handed_out s)) c.in-End.is)
    (rw c.topology.ensures at c.in_ok-ops.ensures.handed) c.in_ok-ops.ensures.again c.in_ok-ops.ensures.end c.in_ok-ops.ensures.feed_no c.in_ok-ops.ensures.router c.in_ok-ops.ensures.advances c.in_ok-ops.ensures.limit

pub returns-in-CutShort-clause-takes : goal.returns-in-CutShort-clause-takes
returns-in-CutShort-clause-takes g c =
    takes-arm c.args.desk.now g.S.Source.left g.S.Source.faults g.S.Source.place _ c.args.seat.now c.args.feed.now c.feed.inside.reader c.feed.inside.kept c.next_step.new.reader c.in_ok-ops.field-0 c.feed.view_is (sym c.is_some.ensures ∙ c.if-is_some.false) (ap (λ (s : FeedStep). updates (handed_out s)) c.in-CutShort.is)
    (rw c.topology.ensures at c.in_ok-ops.ensures.handed) c.in_ok-ops.ensures.again c.in_ok-ops.ensures.end c.in_ok-ops.ensures.feed_no c.in_ok-ops.ensures.router c.in_ok-ops.ensures.advances c.in_ok-ops.ensures.limit

pub returns-in-Lost-clause-takes : goal.returns-in-Lost-clause-takes
returns-in-Lost-clause-takes g c =
    takes-arm c.args.desk.now g.S.Source.left g.S.Source.faults g.S.Source.place _ c.args.seat.now c.args.feed.now c.feed.inside.reader c.feed.inside.kept c.next_step.new.reader c.in_ok-ops.field-0 c.feed.view_is (sym c.is_some.ensures ∙ c.if-is_some.false) (ap (λ (s : FeedStep). updates (handed_out s)) c.in-Lost.is)
    (rw c.topology.ensures at c.in_ok-ops.ensures.handed) c.in_ok-ops.ensures.again c.in_ok-ops.ensures.end c.in_ok-ops.ensures.feed_no c.in_ok-ops.ensures.router c.in_ok-ops.ensures.advances c.in_ok-ops.ensures.limit

pub returns-in-TooLong-clause-takes : goal.returns-in-TooLong-clause-takes
returns-in-TooLong-clause-takes g c =
    takes-arm c.args.desk.now g.S.Source.left g.S.Source.faults g.S.Source.place _ c.args.seat.now c.args.feed.now c.feed.inside.reader c.feed.inside.kept c.next_step.new.reader c.in_ok-ops.field-0 c.feed.view_is (sym c.is_some.ensures ∙ c.if-is_some.false) (ap (λ (s : FeedStep). updates (handed_out s)) c.in-TooLong.is)
    (rw c.topology.ensures at c.in_ok-ops.ensures.handed) c.in_ok-ops.ensures.again c.in_ok-ops.ensures.end c.in_ok-ops.ensures.feed_no c.in_ok-ops.ensures.router c.in_ok-ops.ensures.advances c.in_ok-ops.ensures.limit

pub returns-in-Faulted-clause-takes : goal.returns-in-Faulted-clause-takes
returns-in-Faulted-clause-takes g c =
    takes-arm c.args.desk.now g.S.Source.left g.S.Source.faults g.S.Source.place _ c.args.seat.now c.args.feed.now c.feed.inside.reader c.feed.inside.kept c.next_step.new.reader c.in_ok-ops.field-0 c.feed.view_is (sym c.is_some.ensures ∙ c.if-is_some.false) (ap (λ (s : FeedStep). updates (handed_out s)) c.in-Faulted.is)
    (rw c.topology.ensures at c.in_ok-ops.ensures.handed) c.in_ok-ops.ensures.again c.in_ok-ops.ensures.end c.in_ok-ops.ensures.feed_no c.in_ok-ops.ensures.router c.in_ok-ops.ensures.advances c.in_ok-ops.ensures.limit

pub returns-in_err-ops-clause-takes : goal.returns-in_err-ops-clause-takes
returns-in_err-ops-clause-takes g c =
    takes-broke c.args.desk.now g.S.Source.left g.S.Source.faults g.S.Source.place c.from_residual.result _ c.args.seat.now c.args.seat.now c.args.feed.now _ c.from_residual.ensures.0 (saw-none c.args.seat.now)
    (reads-wait c.args.desk.now.setup.basis.topology g.S.Source.left g.S.Source.faults g.S.Source.place c.args.desk.now.setup.basis.limit c.args.feed.now c.feed.inside.reader c.feed.inside.kept c.next_step.new.reader c.feed.view_is (rw c.topology.ensures at c.in_err-ops.ensures.waits) c.next_step.ensures.router)
    (first-none c.args.desk.now.setup.basis.topology g.S.Source.left g.S.Source.faults g.S.Source.place c.args.desk.now.setup.basis.limit c.args.seat.now.number c.args.feed.now c.feed.inside.reader c.feed.inside.kept c.next_step.new.reader c.args.seat.now.seen
    c.feed.view_is (none-of c.args.desk.now.setup.basis.topology g.S.Source.left g.S.Source.faults g.S.Source.place c.args.desk.now.setup.basis.limit c.feed.inside.kept (sym c.is_some.ensures ∙ c.if-is_some.false))
    (rw c.topology.ensures at c.in_err-ops.ensures.waits) (λ end is. (c.in_err-ops.ensures.again end is).0))
