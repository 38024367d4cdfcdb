use Rattle.std.proofs.Common.{◌≡◌, ◌+◌, ◌-◌, ◌≤◌, vec_len}
use Rattle.dn_io.specs.Told.{with_front}
use Rattle.dn_run.proofs.files.read_to_end.Given as goal

-- what is read and what is left are all that there was
abbrev pub invariant-loop-piece : goal.invariant-loop-piece
invariant-loop-piece g l = record {
  all : with_front l.bytes.items (g.S.Source.left l.source) ≡ g.S.Source.left l.fn.source;
  within : vec_len l.bytes ≤ l.limit + 1;
  count : g.S.Source.faults l.source ≡ g.S.Source.faults l.fn.source;
  stays : g.S.Source.place l.source ≡ g.S.Source.place l.fn.source;
}

abbrev pub decreases-loop-piece : goal.decreases-loop-piece
decreases-loop-piece g l = l.limit + 1 - vec_len l.bytes
