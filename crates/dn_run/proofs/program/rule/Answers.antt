use Rattle.dn_run.proofs.ProgramLemmas.{stage-stops}
use Rattle.dn_run.proofs.program.rule.Goals as goal

pub returns-in-Err-OutOfMemory : goal.returns-in-Err-OutOfMemory
returns-in-Err-OutOfMemory g c = rw c.requires.fresh (stage-stops _ _ _)
