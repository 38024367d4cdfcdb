use Rattle.std.proofs.Common.{◌≡◌, ◌-◌, ◌≤◌, take, length, vec_capacity}
use Rattle.dn_io.specs.Told.{with_end}
use Rattle.dn_model.specs.Entry.{entries}
use Rattle.dn_formats.specs.Report.{entry_lines}
use Rattle.run_report.proofs.history.write_lines.Given as goal

abbrev pub invariant-rooms : goal.invariant-rooms
invariant-rooms g l = record {
  within : l.done ≤ length l.history;
  written : g.K.Sink.written l.sink ≡ with_end (g.K.Sink.written l.initial.sink) (entry_lines l.t 1 (entries (take l.done l.history)));
  same_count : g.K.Sink.faults l.sink ≡ g.K.Sink.faults l.initial.sink;
  room : 256 ≤ vec_capacity l.room;
}

abbrev pub decreases-rooms : goal.decreases-rooms
decreases-rooms g l = length l.history - l.done
