use Rattle.dn_run.proofs.LoadLemmas.{loads-script, called-read}
use Rattle.dn_run.proofs.load.load_script.Goals as goal

pub returns-in-Ok-clause-loads : goal.returns-in-Ok-clause-loads
returns-in-Ok-clause-loads g c =
    loads-script c.args.scope.topology.now c.args.scope.routers.now c.args.scope.taken.now c.args.part.now.part c.script_in.result _ _ _ _ _
    (rw c.as_str.ensures.value at c.in-Ok.ensures.read) (rw c.as_slice.ensures.value at c.script_in.ensures)

pub returns-in-Ok-clause-memory : goal.returns-in-Ok-clause-memory
returns-in-Ok-clause-memory g c = called-read c.script_in.result _ _ _ _ _ (rw c.as_str.ensures.value at c.in-Ok.ensures.read)
