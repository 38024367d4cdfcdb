use Rattle.std.proofs.Common.{◌≡◌, ◌++◌, drop}
use Rattle.std.specs.List.{flat_map}
use Rattle.dn_formats.specs.Report.{job_lines}
use Rattle.run_report.proofs.jobs.push_jobs.Given as goal

abbrev pub invariant-loop-job : goal.invariant-loop-job
invariant-loop-job l = l.out.items ++ flat_map (job_lines l.t) (drop l.job-index l.jobs) ≡ l.initial.out.items ++ flat_map (job_lines l.t) l.jobs
