use Rattle.std.proofs.Common.{◌≡◌, All, length}
use Rattle.std.specs.Prelude.{vec_capacity}
use Rattle.feed_threads.proofs.shown_readers.with_readers.Given as goal

-- so many readers were made, and those that are left find their room
abbrev pub invariant-loop-made : goal.invariant-loop-made
invariant-loop-made g l = record {
  same : l.publisher ≡ l.fn.publisher;
  readers : All (λ r. r ≡ l.fn.publisher) l.readers.items;
  count : length l.readers.items ≡ l.made;
  room : vec_capacity l.readers ≡ vec_capacity l.fn.room;
}
