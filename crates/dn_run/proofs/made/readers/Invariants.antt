use Rattle.std.proofs.Common.{◌≡◌, ◌≤◌, ◌+◌, ◌++◌, length}
use Rattle.std.specs.Prelude.{vec_capacity}
use Rattle.made_input.specs.Network.{made_routers}
use Rattle.made_input.specs.Updates.{feeds_below}
use Rattle.dn_run.proofs.MadeLemmas.{readers_from}
use Rattle.dn_run.proofs.made.readers.Given as goal

-- the readers so far and those of the feeds that are left are those of all feeds
abbrev pub invariant-loop-feed : goal.invariant-loop-feed
invariant-loop-feed l = record {
  whole : l.readers.items ++ readers_from (length l.readers.items) l.feed-iterator.rest.items ≡ readers_from 0 (feeds_below made_routers l.n);
  count : length l.readers.items + length l.feed-iterator.rest.items ≡ 8;
  room : length l.readers.items + length l.feed-iterator.rest.items ≤ vec_capacity l.readers;
}
