use Rattle.std.proofs.Common.{◌≡◌, ◌≤◌, ◌+◌, ◌++◌, ◌||◌, length, map}
use Rattle.std.specs.Prelude.{vec_capacity}
use Rattle.std.specs.List.{flat_map, list_any}
use Rattle.feed_threads.specs.AllJobs.{told_by}
use Rattle.dn_run.proofs.jobs.gather.Given as goal

-- what the jobs so far came to and what is left make all, and what is left finds its room
abbrev pub invariant-loop-done : goal.invariant-loop-done
invariant-loop-done g l = record {
  backs : l.gathered.backs.items ++ flat_map (λ done. done.feeds.items) l.done-iterator.rest.items ≡ flat_map (λ done. done.feeds.items) l.fn.dones.items;
  jobs : l.gathered.jobs.items ++ map told_by l.done-iterator.rest.items ≡ map told_by l.fn.dones.items;
  wanted : (l.gathered.wanted_memory || list_any (λ done. done.wanted_memory) l.done-iterator.rest.items) ≡ list_any (λ done. done.wanted_memory) l.fn.dones.items;
  room : length l.gathered.backs.items + length (flat_map (λ done. done.feeds.items) l.done-iterator.rest.items) ≤ vec_capacity l.gathered.backs;
  told_room : length l.gathered.jobs.items + length l.done-iterator.rest.items ≤ vec_capacity l.gathered.jobs;
}
