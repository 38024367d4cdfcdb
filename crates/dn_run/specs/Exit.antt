-- How the program ends, as contracts see a status, and the number that it exits with.
use Rattle.std.specs.Prelude.{ℕ}
use Rattle.dn_run.specs.declared.status.Status.{Status}
use Rattle.dn_run.specs.declared.status.Status.TheVariants as statuses
use Rattle.dn_run.specs.declared.status.Verdict.{Verdict}
use Rattle.dn_run.specs.declared.status.Verdict.TheVariants as verdicts

-- by a verdict, whose text was written whole; by a fault of the sink; or out of memory
pub data Exit : Type 0 where
  ByVerdict : (verdict : Verdict) → Exit
  ByWriteFault : Exit
  ByMemory : Exit

-- how the program ends at a status
abbrev pub exit_of : Status → Exit
exit_of statuses.Done = ByVerdict verdicts.Done
exit_of statuses.Refusals = ByVerdict verdicts.Refusals
exit_of statuses.BadWords = ByVerdict verdicts.BadWords
exit_of statuses.BadTopology = ByVerdict verdicts.BadTopology
exit_of statuses.BadScript = ByVerdict verdicts.BadScript
exit_of statuses.ReadFault = ByVerdict verdicts.ReadFault
exit_of statuses.WriteFault = ByWriteFault
exit_of statuses.OutOfMemory = ByMemory

abbrev pub exit_number : Status → ℕ
exit_number statuses.Done = 0
exit_number statuses.Refusals = 1
exit_number statuses.BadWords = 2
exit_number statuses.BadTopology = 3
exit_number statuses.BadScript = 4
exit_number statuses.ReadFault = 5
exit_number statuses.WriteFault = 6
exit_number statuses.OutOfMemory = 7
