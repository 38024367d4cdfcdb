use Rattle.std.proofs.Common.{sym, ◌+◌, length}
use Rattle.toml.specs.View.{view}
use Rattle.dn_formats.specs.declared.topology_fault.TopoPart.TheVariants.{Link}
use Rattle.topology.specs.Reading.{first_at_link}
use Rattle.topology.proofs.Runs.{refusal_is}
use Rattle.topology.proofs.steps.add_link.Goals as goal

pub returns-in-Some-clause-refused : goal.returns-in-Some-clause-refused
returns-in-Some-clause-refused c =
    let links = c.args.links.now in
    refusal_is Link (length links + 1) c.in-Some.cause (first_at_link c.args.routers.now c.args.taken.now links (view c.args.entry.now)) c.refusal.result (rw (← c.len.ensures) c.refusal.ensures)
    (rw (← c.as_slice.ensures.value) (sym c.in-Some.ensures))
