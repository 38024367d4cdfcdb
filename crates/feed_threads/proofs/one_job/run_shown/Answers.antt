use Rattle.std.proofs.Common.{◌∙◌, ap, arith, length, refl}
use Rattle.feed_threads.specs.Jobs.{lines_of}
use Rattle.feed_threads.specs.Works.{Work}
use Rattle.feed_threads.proofs.DoesLemmas.{job-at-work, job-ran, job-shows, read-length}
use Rattle.feed_threads.proofs.one_job.run_shown.Goals as goal

pub do_all-ended-requires-clause-work : goal.do_all-ended-requires-clause-work
do_all-ended-requires-clause-work g c κs within =
    job-at-work c.new-desk.result c.args.site.now g.S.Source.left g.S.Source.faults g.S.Source.place c.args.job c.job.inside.number (lines_of c.job.inside.script) c.job.inside.feeds.items c.new-desk.ensures c.job.view_is c.job.invariant.0 c.requires.job.1 c.args.seat c.args.shown c.new-told.result c.requires.job.0 c.requires.shown

pub give_back-requires-clause-room : goal.give_back-requires-clause-room
give_back-requires-clause-room g c κs within =
    let same = ap (λ (w : Work _). length w.feeds) c.work.view_is ∙ read-length c.new-desk.result.setup.basis.topology g.S.Source.left g.S.Source.faults g.S.Source.place c.job.inside.feeds.items c.do_all-ended.new.self.feeds c.do_all-ended.ensures.works.on.reads in
    (c.job.invariant.1, omega (arith, c.job.invariant.2, same))

pub returns-clause-ran : goal.returns-clause-ran
returns-clause-ran g c =
    job-ran c.new-desk.result c.args.site.now g.S.Source.left g.S.Source.faults g.S.Source.place c.args.job c.job.inside.number (lines_of c.job.inside.script) c.job.inside.feeds.items c.new-desk.ensures c.job.view_is c.job.invariant.0 c.requires.job.1
    c.do_all-ended.result c.is_err.result (record { number = c.job.inside.number; seat = c.args.seat; shown = c.args.shown; feeds = c.job.inside.feeds.items; told = c.new-told.result }) c.do_all-ended.new.self
    c.work.inside.number c.work.inside.seat c.work.inside.shown c.work.inside.feeds.items c.work.inside.told c.lines_of_script-lines.result.now c.give_back.result
    c.work.view_is refl refl c.new-told.ensures c.lines_of_script-lines.ensures c.is_err.ensures.value c.give_back.ensures c.do_all-ended.ensures.works c.do_all-ended.ensures.front

pub returns-clause-shows : goal.returns-clause-shows
returns-clause-shows g c =
    job-shows c.new-desk.result c.args.site.now g.S.Source.left g.S.Source.faults g.S.Source.place c.args.job c.job.inside.number (lines_of c.job.inside.script) c.job.inside.feeds.items c.new-desk.ensures c.job.view_is c.job.invariant.0 c.requires.job.1
    c.do_all-ended.result (record { number = c.job.inside.number; seat = c.args.seat; shown = c.args.shown; feeds = c.job.inside.feeds.items; told = c.new-told.result }) c.do_all-ended.new.self c.work.inside.number c.work.inside.seat c.work.inside.shown c.work.inside.feeds.items c.work.inside.told _ c.work.view_is c.do_all-ended.ensures.works
