use Rattle.std.proofs.Common.{◌≡◌, ◌+◌, ◌-◌, ◌<◌, ◌≤◌, ◌⊎◌, ◌*◌, ◌++◌, drop, take, length, vec_len, vec_capacity}
use Rattle.dn_model.specs.Entry.{entries}
use Rattle.dn_formats.specs.Report.{entry_lines}
use Rattle.run_report.proofs.history.fill.Given as goal

abbrev pub invariant-pages : goal.invariant-pages
invariant-pages l = record {
  from : l.from ≤ l.upto;
  within : l.upto ≤ length l.history;
  text : l.out.items ≡ l.initial.out.items ++ entry_lines l.t (l.from + 1) (entries (take (l.upto - l.from) (drop l.from l.history)));
  room : vec_len l.out + 256 * l.most ≤ vec_capacity l.out;
  some : (vec_len l.initial.out + 256 ≤ vec_capacity l.initial.out) → (l.from < l.upto) ⊎ (l.upto ≡ l.from) × (1 ≤ l.most);
  capacity : vec_capacity l.out ≡ vec_capacity l.initial.out;
}

abbrev pub decreases-pages : goal.decreases-pages
decreases-pages l = length l.history - l.upto
