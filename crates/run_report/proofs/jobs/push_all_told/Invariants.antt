use Rattle.std.proofs.Common.{◌≡◌, ◌++◌, drop}
use Rattle.std.specs.List.{flat_map}
use Rattle.dn_formats.specs.AnswerText.{told_lines}
use Rattle.run_report.proofs.jobs.push_all_told.Given as goal

abbrev pub invariant-loop-one : goal.invariant-loop-one
invariant-loop-one l = l.out.items ++ flat_map (told_lines l.t) (drop l.one-index l.told) ≡ l.initial.out.items ++ flat_map (told_lines l.t) l.told
