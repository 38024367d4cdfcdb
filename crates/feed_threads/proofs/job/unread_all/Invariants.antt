use Rattle.std.proofs.Common.{◌≡◌, ◌≤◌, ◌+◌, ◌++◌, length, map}
use Rattle.std.specs.Prelude.{vec_capacity}
use Rattle.feed_threads.specs.Jobs.{unread}
use Rattle.feed_threads.proofs.job.unread_all.Given as goal

-- the readers so far have their room, and those that are left find theirs
abbrev pub invariant-loop-reader : goal.invariant-loop-reader
invariant-loop-reader g l = record {
  put : l.feeds.items ++ map unread l.reader-iterator.rest.items ≡ map unread l.fn.readers.items;
  room : length l.feeds.items + length l.reader-iterator.rest.items ≤ vec_capacity l.feeds;
}
