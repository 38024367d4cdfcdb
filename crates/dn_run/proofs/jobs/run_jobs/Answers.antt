use Rattle.std.proofs.Common.{arith}
use Rattle.std.specs.Arc.{arc_value}
use Rattle.std.proofs.lemmas.List.Sorted.{length_permutation}
use Rattle.dn_run.specs.Jobs.{scripts_of}
use Rattle.dn_run.proofs.DealtLemmas.{run-in-order, sources-in-order}
use Rattle.dn_run.proofs.jobs.run_jobs.Goals as goal

pub part_backs-sources-requires-clause-sources : goal.part_backs-sources-requires-clause-sources
part_backs-sources-requires-clause-sources g c κs within =
    let count = length_permutation c.run_dealt-made.result.1.items c.in_order.result.items c.in_order.ensures.same in
    omega (arith, count, c.run_dealt-made.ensures.count, c.requires.room.sources)

pub part_backs-sources-requires-clause-tolds : goal.part_backs-sources-requires-clause-tolds
part_backs-sources-requires-clause-tolds g c κs within =
    let count = length_permutation c.run_dealt-made.result.1.items c.in_order.result.items c.in_order.ensures.same in
    omega (arith, count, c.run_dealt-made.ensures.count, c.requires.room.feeds)

pub returns-in-Ok-clause-ran : goal.returns-in-Ok-clause-ran
returns-in-Ok-clause-ran g c =
    run-in-order (arc_value c.args.work.topology.now) g.S.Source.left g.S.Source.faults g.S.Source.place (scripts_of c.args.work.scripts.items) c.args.work.readers.items c.run_dealt-made.result.1.items c.in_order.result.items
    c.in-Ok.history c.in-Ok.jobs.items c.part_backs-sources.result.0.items c.part_backs-sources.result.1.items
    c.requires.ready.are_open.numbered (rw c.in-Ok.is at c.run_dealt-made.ensures.ran) c.in_order.ensures.same c.in_order.ensures.rises c.part_backs-sources.ensures.sources c.part_backs-sources.ensures.tolds

pub returns-in-Ok-clause-same : goal.returns-in-Ok-clause-same
returns-in-Ok-clause-same g c =
    sources-in-order g.S.Source.place c.args.work.readers.items c.run_dealt-made.result.1.items c.in_order.result.items c.part_backs-sources.result.0.items
    c.requires.ready.are_open.numbered c.run_dealt-made.ensures.tags c.in_order.ensures.same c.in_order.ensures.rises c.part_backs-sources.ensures.sources

pub returns-in-Err-clause-same : goal.returns-in-Err-clause-same
returns-in-Err-clause-same g c =
    sources-in-order g.S.Source.place c.args.work.readers.items c.run_dealt-made.result.1.items c.in_order.result.items c.part_backs-sources.result.0.items
    c.requires.ready.are_open.numbered c.run_dealt-made.ensures.tags c.in_order.ensures.same c.in_order.ensures.rises c.part_backs-sources.ensures.sources
