use Rattle.std.specs.Arc.{arc_value}
use Rattle.std.proofs.Common.{map}
use Rattle.dn_run.specs.Ending.{ending_of}
use Rattle.dn_run.specs.Jobs.{scripts_of}
use Rattle.dn_run.specs.PartsRead.{feed_texts}
use Rattle.dn_run.proofs.ProgramLemmas.{stage-stops, stops-at}
use Rattle.dn_run.proofs.StepLemmas.{stage-opens}
use Rattle.dn_run.proofs.program.run_input.Goals as goal

pub returns-in_err-readers : goal.returns-in_err-readers
returns-in_err-readers g c = rw (stops-at _ c.from_residual.result c.from_residual.ensures.1) (stage-stops _ _ _)

pub returns-in_err-rooms : goal.returns-in_err-rooms
returns-in_err-rooms g c = rw (stops-at _ c.from_residual-in_err-rooms.result c.from_residual-in_err-rooms.ensures.1) (stage-stops _ _ _)

pub returns : goal.returns
returns g c =
    let opens = rw (c.as_slice.ensures.value, c.as_slice-2.ensures.value) at c.from_feeds-ruling.ensures.opens in
    stage-opens (ending_of c.from_feeds-ruling.result.0) (arc_value c.args.input.topology) g.W.Src.Source.place g.W.Src.Source.faults g.W.Src.Source.left (g.W.World.files c.args.world.now)
    c.args.input.routers.items (scripts_of c.args.input.scripts.items) c.in_ok-readers.readers.items c.from_feeds-ruling.result.1.items (map feed_texts c.args.input.feeds.items) (g.W.World.calls c.args.world.now) _
    c.in_ok-readers.ensures.items c.from_feeds-ruling.ensures.same opens
