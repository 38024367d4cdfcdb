use Rattle.std.proofs.Common.{◌≡◌, ◌++◌, drop}
use Rattle.std.specs.List.{flat_map}
use Rattle.dn_formats.specs.Report.{refused_line}
use Rattle.run_report.proofs.feeds.push_refused_lines.Given as goal

abbrev pub invariant-loop-frame : goal.invariant-loop-frame
invariant-loop-frame l = l.out.items ++ flat_map (refused_line) (drop l.frame-index l.frames) ≡ l.initial.out.items ++ flat_map (refused_line) l.frames
