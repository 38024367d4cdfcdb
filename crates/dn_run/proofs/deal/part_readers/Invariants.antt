use Rattle.std.proofs.Common.{◌≡◌, ◌≤◌, ◌+◌, ◌++◌, filter, length}
use Rattle.std.specs.Prelude.{vec_capacity}
use Rattle.dn_run.specs.Deal.{left_by_lines, takes_reader}
use Rattle.dn_run.proofs.deal.part_readers.Given as goal

-- the readers so far have their room, and those that are left find theirs
abbrev pub invariant-loop-reader : goal.invariant-loop-reader
invariant-loop-reader g l = record {
  mine : l.mine.items ++ filter (takes_reader l.lines) l.reader-iterator.rest.items ≡ filter (takes_reader l.lines) l.fn.readers.items;
  others : l.others.items ++ left_by_lines l.lines l.reader-iterator.rest.items ≡ left_by_lines l.lines l.fn.readers.items;
  room : length l.mine.items + length l.reader-iterator.rest.items ≤ vec_capacity l.mine;
  other_room : length l.others.items + length l.reader-iterator.rest.items ≤ vec_capacity l.others;
}
