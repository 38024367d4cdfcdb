use Rattle.std.proofs.Common.{◌≡◌, ◌≤◌, ◌-◌, length, take}
use Rattle.dn_io.specs.Told.{with_end}
use Rattle.run_report.proofs.writer.write_text.Given as goal

abbrev pub invariant-loop-from : goal.invariant-loop-from
invariant-loop-from g l = record {
  within : l.from ≤ length l.text;
  written : g.K.Sink.written l.sink ≡ with_end (g.K.Sink.written l.initial.sink) (take l.from l.text);
  same_count : g.K.Sink.faults l.sink ≡ g.K.Sink.faults l.initial.sink;
}

abbrev pub decreases-loop-from : goal.decreases-loop-from
decreases-loop-from g l = length l.text - l.from
