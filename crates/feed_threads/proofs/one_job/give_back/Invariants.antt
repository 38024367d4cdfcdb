use Rattle.std.proofs.Common.{◌≡◌, ◌≤◌, ◌+◌, ◌++◌, length, map}
use Rattle.std.specs.Prelude.{vec_capacity}
use Rattle.feed_threads.specs.Jobs.{back_of}
use Rattle.feed_threads.proofs.one_job.give_back.Given as goal

-- the feeds so far were given back, and those that are left find their room
abbrev pub invariant-loop-feed : goal.invariant-loop-feed
invariant-loop-feed g l = record {
  put : l.backs.items ++ map back_of l.feed-iterator.rest.items ≡ map back_of l.fn.feeds.items;
  room : length l.backs.items + length l.feed-iterator.rest.items ≤ vec_capacity l.backs;
}
