use Rattle.std.specs.Arc.{arc_value}
use Rattle.dn_run.specs.Jobs.{scripts_of}
use Rattle.dn_run.proofs.RanLemmas.{ran, rose}
use Rattle.dn_run.proofs.feeds.run_readers.Goals as goal

pub returns-clause-ran : goal.returns-clause-ran
returns-clause-ran g c =
    ran c.run_jobs-done.result.0 c.report_jobs.result (arc_value c.args.work.topology.now) g.S.Source.faults g.S.Source.left c.args.work.readers.items c.run_jobs-done.result.1.items (scripts_of c.args.work.scripts.items)
    c.requires.ready.are_open.numbered c.requires.ready.are_open.limits c.run_jobs-done.ensures.ran c.report_jobs.ensures

pub returns-clause-faults : goal.returns-clause-faults
returns-clause-faults g c =
    rose c.run_jobs-done.result.0 c.report_jobs.result (arc_value c.args.work.topology.now) g.S.Source.faults g.S.Source.left c.args.work.readers.items c.run_jobs-done.result.1.items (scripts_of c.args.work.scripts.items)
    c.run_jobs-done.ensures.ran c.report_jobs.ensures
