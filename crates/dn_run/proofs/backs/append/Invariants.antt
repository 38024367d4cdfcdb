use Rattle.std.proofs.Common.{◌≡◌, ◌≤◌, ◌+◌, ◌++◌, length}
use Rattle.std.specs.Prelude.{vec_capacity}
use Rattle.dn_run.proofs.backs.append.Given as goal

-- the sources so far have their room, and those that are left find theirs
abbrev pub invariant-loop-back : goal.invariant-loop-back
invariant-loop-back g l = record {
  put : l.backs.items ++ l.back-iterator.rest.items ≡ l.fn.backs.items ++ l.fn.more.items;
  room : length l.backs.items + length l.back-iterator.rest.items ≤ vec_capacity l.backs;
  same : vec_capacity l.backs ≡ vec_capacity l.fn.backs;
}
