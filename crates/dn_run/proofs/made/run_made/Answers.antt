use Rattle.std.specs.Arc.{arc_value}
use Rattle.std.proofs.Common.{◌≡◌}
use Rattle.dn_model.specs.Tables.{parts}
use Rattle.dn_run.specs.Made.{made_network}
use Rattle.dn_run.proofs.MadeLemmas.{made-run}
use Rattle.dn_run.proofs.made.run_made.Goals as goal

pub returns : goal.returns
returns g c =
    let network : parts (arc_value c.in_ok-topology.topology) ≡ made_network = rw c.in_ok-topology.ensures.ok c.in_ok-made_topology.ensures in
    let scripts = c.in_ok-scripts.ensures.items in
    let has = rw (c.in_ok-done.was, c.in_ok-readers.ensures, scripts, c.in_ok-made_script.ensures) at c.run_jobs-done.ensures.ran in
    made-run (arc_value c.in_ok-topology.topology) c.args.n _ _ _ _ network has
