use Rattle.std.proofs.Common.{◌≡◌, ◌≤◌, ◌+◌, ◌++◌, length, map}
use Rattle.std.specs.Prelude.{vec_capacity}
use Rattle.dn_run.specs.Deal.{unread_back}
use Rattle.dn_run.proofs.backs.append_readers.Given as goal

-- the sources so far have their room, and those of the readers that are left find theirs
abbrev pub invariant-loop-reader : goal.invariant-loop-reader
invariant-loop-reader g l = record {
  put : l.backs.items ++ map unread_back l.reader-iterator.rest.items ≡ l.fn.backs.items ++ map unread_back l.fn.readers.items;
  room : length l.backs.items + length l.reader-iterator.rest.items ≤ vec_capacity l.backs;
  same : vec_capacity l.backs ≡ vec_capacity l.fn.backs;
}
