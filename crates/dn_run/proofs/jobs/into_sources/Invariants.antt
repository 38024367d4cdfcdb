use Rattle.std.proofs.Common.{◌≡◌, ◌≤◌, ◌+◌, ◌++◌, length}
use Rattle.std.specs.Prelude.{vec_capacity}
use Rattle.dn_run.specs.Feeds.{sources_of}
use Rattle.dn_run.proofs.jobs.into_sources.Given as goal

-- the sources so far have their room, and those that are left find theirs
abbrev pub invariant-loop-reader : goal.invariant-loop-reader
invariant-loop-reader g l = record {
  put : l.sources.items ++ sources_of l.reader-iterator.rest.items ≡ sources_of l.fn.readers.items;
  room : length l.sources.items + length l.reader-iterator.rest.items ≤ vec_capacity l.sources;
}
