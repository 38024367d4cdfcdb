use Rattle.std.proofs.Common.{◌≡◌, ◌≤◌, ◌+◌, ◌++◌, length, map}
use Rattle.std.specs.Prelude.{vec_capacity}
use Rattle.dn_run.proofs.backs.part_backs.Given as goal

-- the parts so far have their room, and those that are left find theirs
abbrev pub invariant-loop-source : goal.invariant-loop-source
invariant-loop-source g l = record {
  sources : l.sources.items ++ map (λ b. b.0) l.source-iterator.rest.items ≡ map (λ b. b.0) l.fn.backs.items;
  tolds : l.tolds.items ++ map (λ b. b.1) l.source-iterator.rest.items ≡ map (λ b. b.1) l.fn.backs.items;
  room : length l.sources.items + length l.source-iterator.rest.items ≤ vec_capacity l.sources;
  told_room : length l.tolds.items + length l.source-iterator.rest.items ≤ vec_capacity l.tolds;
}
