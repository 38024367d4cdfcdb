use Rattle.dn_run.proofs.ApartLemmas.{fit-added}
use Rattle.dn_run.proofs.TakenLemmas.{scripts-push}
use Rattle.dn_run.proofs.input.ScriptsRead.add.Goals as goal

pub returns-clause-fit : goal.returns-clause-fit
returns-clause-fit c = fit-added _ _ _ _ c.requires.taken c.requires.fit c.requires.follows (scripts-push _ _ c.args.script c.in_ok-push.ensures.items)
