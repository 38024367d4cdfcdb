use Rattle.std.proofs.Common.{◌<◌, ◌∙◌, ap, length, not, arith}
use Rattle.feed_threads.proofs.ListLemmas.{take-pair}
use Rattle.feed_threads.proofs.SeatLemmas.{saw-more, own-more, first-refused, on-err}
use Rattle.feed_threads.proofs.take.post_all.Goals as goal

pub returns-then-is_none-clause-saw : goal.returns-then-is_none-clause-saw
returns-then-is_none-clause-saw g c = saw-more _ _ _ c.loop-taken.invariant.saw c.post.ensures.saw

pub loop-taken-preserved : goal.loop-taken-preserved
loop-taken-preserved g c = record {
  saw = saw-more _ _ _ c.loop-taken.invariant.saw c.post.ensures.saw;
  own = own-more c.args.seat.now c.loop-taken.seat c.post.new.seat c.args.feed_no _ _ _ _ c.loop-taken.invariant.saw (c.is_none.ensures ∙ ap not c.if-is_none.false)
      (take-pair c.args.ops.now c.loop-taken.taken c.index-ops-taken.result c.index-ops-taken-in-loop-taken.result (omega arith)) c.loop-taken.invariant.own c.in_ok-post.ensures.own;
}

pub returns-in_err-post-clause-saw : goal.returns-in_err-post-clause-saw
returns-in_err-post-clause-saw g c = saw-more _ _ _ c.loop-taken.invariant.saw c.post.ensures.saw

pub returns-in_err-post-clause-first : goal.returns-in_err-post-clause-first
returns-in_err-post-clause-first g c =
    let below : c.loop-taken.taken < length c.args.ops.now = omega arith in
    on-err c.from_residual.result _ (first-refused c.args.seat.now c.loop-taken.seat c.post.new.seat c.args.feed_no c.args.ops.now c.loop-taken.taken
    c.loop-taken.invariant.saw below c.loop-taken.invariant.own c.in_err-post.ensures.kept)
