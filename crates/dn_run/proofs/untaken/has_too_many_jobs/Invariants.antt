use Rattle.std.proofs.Common.{◌≡◌, ◌+◌, ◌≤◌, length}
use Rattle.dn_run.specs.Jobs.{scripts_of}
use Rattle.dn_run.specs.Run.{untaken}
use Rattle.dn_run.proofs.untaken.has_too_many_jobs.Given as goal

-- the jobs so far and those of the routers that are left are all
abbrev pub invariant-loop-rest : goal.invariant-loop-rest
invariant-loop-rest l = record {
  whole : l.jobs + length (untaken (scripts_of l.scripts) l.rest) ≡ length (scripts_of l.scripts) + length (untaken (scripts_of l.scripts) l.routers);
  within : l.jobs + length l.rest ≤ 128;
}

abbrev pub decreases-loop-rest : goal.decreases-loop-rest
decreases-loop-rest l = length l.rest
