use Rattle.std.proofs.Common.{refl, arith}
use Rattle.std.specs.Arc.{arc_value}
use Rattle.dn_run.proofs.DealtLemmas.{came-jobs, came-ran, came-sources, came-tags}
use Rattle.dn_run.proofs.jobs.run_list.Goals as goal

pub run_history-requires-clause-fresh : goal.run_history-requires-clause-fresh
run_history-requires-clause-fresh g c κs within = rw c.deref.ensures c.requires.fresh

pub gather-backs-requires-clause-backs : goal.gather-backs-requires-clause-backs
gather-backs-requires-clause-backs g c κs within =
    let count = came-sources (arc_value c.args.topology.now) g.S.Source.left g.S.Source.faults g.S.Source.place c.deref.result.now c.in-Ok.store.basis.limit c.in-Ok-run_history.ran.0.history c.args.list c.in-Ok-run_history.ran.1.items
    c.deref.ensures (rw c.in-Ok.ensures.basis refl) c.in-Ok-run_history.ensures.ran in
    omega (arith, count, c.requires.backs)

pub gather-backs-requires-clause-jobs : goal.gather-backs-requires-clause-jobs
gather-backs-requires-clause-jobs g c κs within =
    let count = came-jobs (arc_value c.args.topology.now) g.S.Source.left g.S.Source.faults g.S.Source.place c.deref.result.now c.in-Ok.store.basis.limit c.in-Ok-run_history.ran.0.history c.args.list c.in-Ok-run_history.ran.1.items
    c.deref.ensures (rw c.in-Ok.ensures.basis refl) c.in-Ok-run_history.ensures.ran in
    omega (arith, count, c.requires.jobs)

pub returns-then-wanted_memory-clause-tags : goal.returns-then-wanted_memory-clause-tags
returns-then-wanted_memory-clause-tags g c =
    came-tags (arc_value c.args.topology.now) g.S.Source.left g.S.Source.faults g.S.Source.place c.deref.result.now c.in-Ok.store.basis.limit c.in-Ok-run_history.ran.0.history c.args.list c.in-Ok-run_history.ran.1.items
    c.deref.ensures (rw c.in-Ok.ensures.basis refl) c.in-Ok-run_history.ensures.ran
    c.gather-backs.result.backs.items c.gather-backs.ensures.backs

pub returns-in-Ok-posted-clause-tags : goal.returns-in-Ok-posted-clause-tags
returns-in-Ok-posted-clause-tags g c =
    came-tags (arc_value c.args.topology.now) g.S.Source.left g.S.Source.faults g.S.Source.place c.deref.result.now c.in-Ok.store.basis.limit c.in-Ok-run_history.ran.0.history c.args.list c.in-Ok-run_history.ran.1.items
    c.deref.ensures (rw c.in-Ok.ensures.basis refl) c.in-Ok-run_history.ensures.ran
    c.gather-backs.result.backs.items c.gather-backs.ensures.backs

pub returns-clause-tags : goal.returns-clause-tags
returns-clause-tags g c =
    came-tags (arc_value c.args.topology.now) g.S.Source.left g.S.Source.faults g.S.Source.place c.deref.result.now c.in-Ok.store.basis.limit c.in-Ok-run_history.ran.0.history c.args.list c.in-Ok-run_history.ran.1.items
    c.deref.ensures (rw c.in-Ok.ensures.basis refl) c.in-Ok-run_history.ensures.ran
    c.gather-backs.result.backs.items c.gather-backs.ensures.backs

pub returns-in-Ok-posted-clause-ran : goal.returns-in-Ok-posted-clause-ran
returns-in-Ok-posted-clause-ran g c =
    came-ran (arc_value c.args.topology.now) g.S.Source.left g.S.Source.faults g.S.Source.place c.deref.result.now c.in-Ok.store.basis.limit c.in-Ok-run_history.ran.0.history c.args.list c.in-Ok-run_history.ran.1.items
    c.deref.ensures (rw c.in-Ok.ensures.basis refl) c.in-Ok-run_history.ensures.ran
    c.gather-backs.result.wanted_memory c.gather-backs.result.backs.items c.gather-backs.result.jobs.items c.in-Ok-posted.history
    c.gather-backs.ensures.wanted c.if-wanted_memory.false c.gather-backs.ensures.backs c.gather-backs.ensures.jobs c.in-Ok-posted.ensures.entries
