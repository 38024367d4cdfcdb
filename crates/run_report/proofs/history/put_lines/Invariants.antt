use Rattle.std.proofs.Common.{◌≡◌, ◌≤◌, ◌+◌, ◌*◌, ◌++◌, drop, length, map, vec_len, vec_capacity}
use Rattle.dn_formats.specs.Report.{entry_lines}
use Rattle.run_report.proofs.history.put_lines.Given as goal

abbrev pub invariant-loop-posted : goal.invariant-loop-posted
invariant-loop-posted l = record {
  counted : l.position ≡ l.before + l.posted-index;
  written : l.out.items ++ entry_lines l.t (l.position + 1) (map (λ p. p.entry) (drop l.posted-index l.run)) ≡ l.initial.out.items ++ entry_lines l.t (l.before + 1) (map (λ p. p.entry) l.run);
  len : vec_len l.out ≤ vec_len l.initial.out + 256 * l.posted-index;
  capacity : vec_capacity l.out ≡ vec_capacity l.initial.out;
}
