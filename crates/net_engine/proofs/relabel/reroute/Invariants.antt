use Rattle.std.proofs.Common.{take}
use Rattle.net_engine.specs.Rerouted.{IsMoved}
use Rattle.net_engine.proofs.relabel.reroute.Given as goal

abbrev pub invariant-loop-run : goal.invariant-loop-run
invariant-loop-run l = IsMoved l.atoms l.initial.labels l.labels l.delta l.aim.router (take l.run-index l.runs) l.aim.after
