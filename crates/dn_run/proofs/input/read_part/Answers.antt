use Rattle.std.specs.String.{string_bytes}
use Rattle.dn_run.proofs.StopLemmas.{part-follows, part-reads, part-stops}
use Rattle.dn_run.proofs.input.read_part.Goals as goal

pub returns-clause-ok : goal.returns-clause-ok
returns-clause-ok g c =
    part-reads c.or_stop.result (g.W.World.files c.args.world.now) c.args.scope.topology.now c.args.scope.routers.now c.args.scope.taken.now c.args.part.now.part (string_bytes c.args.part.now.file)
    (g.W.World.calls c.args.world.now) _ c.in_ok-loaded.loaded c.in_ok-loaded.ensures.loads c.or_stop.ensures.ok

pub returns-clause-stops : goal.returns-clause-stops
returns-clause-stops g c =
    part-stops c.or_stop.result (g.W.World.files c.args.world.now) c.args.scope.topology.now c.args.scope.routers.now c.args.scope.taken.now c.args.part.now.part (string_bytes c.args.part.now.file)
    (g.W.World.calls c.args.world.now) _ c.in_ok-loaded.loaded c.in_ok-loaded.ensures.loads c.or_stop.ensures.stops

pub returns-clause-follows : goal.returns-clause-follows
returns-clause-follows g c =
    part-follows c.or_stop.result (g.W.World.files c.args.world.now) c.args.scope.topology.now c.args.scope.routers.now c.args.scope.taken.now c.args.part.now.part (string_bytes c.args.part.now.file)
    (g.W.World.calls c.args.world.now) _ c.in_ok-loaded.loaded c.in_ok-loaded.ensures.loads c.or_stop.ensures.ok
