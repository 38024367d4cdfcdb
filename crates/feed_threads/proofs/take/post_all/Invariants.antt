use Rattle.std.proofs.Common.{◌≡◌, ◌++◌, take}
use Rattle.feed_model.specs.Steps.{entries_by}
use Rattle.feed_threads.specs.Seats.{own_of, SawMore}
use Rattle.feed_threads.proofs.take.post_all.Given as goal

-- the history took the updates so far
abbrev pub invariant-loop-taken : goal.invariant-loop-taken
invariant-loop-taken g l = record {
  saw : SawMore l.fn.seat l.seat;
  own : own_of l.fn.seat.number l.seat.seen ≡ own_of l.fn.seat.number l.fn.seat.seen ++ entries_by l.feed_no (take l.taken l.ops);
}
