use Rattle.std.proofs.Common.{◌≡◌, ◌≤◌, ◌+◌, ◌++◌, length, map}
use Rattle.std.specs.Prelude.{vec_capacity}
use Rattle.feed_threads.proofs.reader_jobs.dones_of.Given as goal

-- what the jobs so far came to, and those that are left find their room
abbrev pub invariant-loop-read : goal.invariant-loop-read
invariant-loop-read g l = record {
  put : l.dones.items ++ map (λ r. r.done) l.read-iterator.rest.items ≡ map (λ r. r.done) l.fn.reads.items;
  room : length l.dones.items + length l.read-iterator.rest.items ≤ vec_capacity l.dones;
  kept : vec_capacity l.dones ≡ vec_capacity l.fn.room;
}
