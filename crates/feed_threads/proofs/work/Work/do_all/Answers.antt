use Rattle.std.proofs.Common.{◌++◌, append_assoc, ap, refl, ◌∙◌}
use Rattle.feed_threads.specs.Tracks.{rests_of, rests_by}
use Rattle.feed_threads.proofs.DoesLemmas.{at-work, breaks-after, breaks-more, does-more, front-later, on-more, rests-alike, works-broke, works-last, works-same}
use Rattle.feed_threads.proofs.SeatLemmas.{saw-more}
use Rattle.feed_threads.proofs.work.Work.do_all.Goals as goal

pub take_rests-requires-clause-work : goal.take_rests-requires-clause-work
take_rests-requires-clause-work g c κs within = at-work c.args.desk.now g.S.Source.left g.S.Source.faults g.S.Source.place c.args.self.now c.do_lines.new.self c.do_lines.ensures.works.on c.requires.work

pub take_all-requires-clause-work : goal.take_all-requires-clause-work
take_all-requires-clause-work g c κs within =
    at-work c.args.desk.now g.S.Source.left g.S.Source.faults g.S.Source.place c.do_lines.new.self c.take_rests.new.self c.take_rests.ensures.works.on (at-work c.args.desk.now g.S.Source.left g.S.Source.faults g.S.Source.place c.args.self.now c.do_lines.new.self c.do_lines.ensures.works.on c.requires.work)

pub returns-in_err-do_lines-clause-works : goal.returns-in_err-do_lines-clause-works
returns-in_err-do_lines-clause-works g c =
    works-broke c.args.desk.now g.S.Source.left g.S.Source.faults g.S.Source.place c.from_residual.result c.args.self.now c.do_lines.new.self ((c.args.lines.now ++ rests_of c.args.lines.now) ++ rests_by c.args.self.now.feeds) c.from_residual.ensures.0 c.do_lines.ensures.works.on
    (breaks-more c.args.desk.now g.S.Source.left g.S.Source.faults g.S.Source.place c.args.self.now c.do_lines.new.self c.args.lines.now (rests_of c.args.lines.now ++ rests_by c.args.self.now.feeds) ((c.args.lines.now ++ rests_of c.args.lines.now) ++ rests_by c.args.self.now.feeds)
    c.in_err-do_lines.ensures.works.breaks (append_assoc c.args.lines.now (rests_of c.args.lines.now) (rests_by c.args.self.now.feeds)))

pub returns-in_err-take_rests-clause-works : goal.returns-in_err-take_rests-clause-works
returns-in_err-take_rests-clause-works g c =
    works-broke c.args.desk.now g.S.Source.left g.S.Source.faults g.S.Source.place c.from_residual-in_err-take_rests.result c.args.self.now c.take_rests.new.self ((c.args.lines.now ++ rests_of c.args.lines.now) ++ rests_by c.args.self.now.feeds) c.from_residual-in_err-take_rests.ensures.0
    (on-more c.args.desk.now g.S.Source.left g.S.Source.faults g.S.Source.place c.args.self.now c.do_lines.new.self c.take_rests.new.self c.do_lines.ensures.works.on c.take_rests.ensures.works.on)
    (breaks-after c.args.desk.now g.S.Source.left g.S.Source.faults g.S.Source.place c.args.self.now c.do_lines.new.self c.take_rests.new.self c.args.lines.now (rests_of c.args.lines.now) (rests_by c.args.self.now.feeds) ((c.args.lines.now ++ rests_of c.args.lines.now) ++ rests_by c.args.self.now.feeds)
    c.do_lines.ensures.works.on c.in_ok-do_lines.ensures.works.does c.in_err-take_rests.ensures.works.breaks refl)

pub returns-in_err-take_rests-clause-front : goal.returns-in_err-take_rests-clause-front
returns-in_err-take_rests-clause-front g c =
    front-later c.args.desk.now g.S.Source.left g.S.Source.faults g.S.Source.place c.args.self.now c.do_lines.new.self c.take_rests.new.self c.args.lines.now c.take_rests.ensures.works.on.saw c.take_rests.ensures.told c.do_lines.ensures.front

pub returns-clause-works : goal.returns-clause-works
returns-clause-works g c =
    let on = on-more c.args.desk.now g.S.Source.left g.S.Source.faults g.S.Source.place c.args.self.now c.do_lines.new.self c.take_rests.new.self c.do_lines.ensures.works.on c.take_rests.ensures.works.on in
    works-same c.args.desk.now g.S.Source.left g.S.Source.faults g.S.Source.place c.take_all.result c.args.self.now c.take_all.new.self _ _
    (ap (λ ls. (c.args.lines.now ++ rests_of c.args.lines.now) ++ ls) (rests-alike c.args.desk.now.setup.basis.topology g.S.Source.left g.S.Source.faults g.S.Source.place c.args.self.now.feeds c.take_rests.new.self.feeds on.reads))
    (works-last c.args.desk.now g.S.Source.left g.S.Source.faults g.S.Source.place c.take_all.result c.args.self.now c.take_rests.new.self c.take_all.new.self (c.args.lines.now ++ rests_of c.args.lines.now) (rests_by c.take_rests.new.self.feeds) on
    (does-more c.args.desk.now g.S.Source.left g.S.Source.faults g.S.Source.place c.args.self.now c.do_lines.new.self c.take_rests.new.self c.args.lines.now (rests_of c.args.lines.now) (c.args.lines.now ++ rests_of c.args.lines.now)
    c.do_lines.ensures.works.on c.in_ok-do_lines.ensures.works.does c.in_ok-take_rests.ensures.works.does refl)
    c.take_all.ensures.works)

pub returns-clause-front : goal.returns-clause-front
returns-clause-front g c =
    front-later c.args.desk.now g.S.Source.left g.S.Source.faults g.S.Source.place c.args.self.now c.do_lines.new.self c.take_all.new.self c.args.lines.now
    (saw-more c.do_lines.new.self.seat c.take_rests.new.self.seat c.take_all.new.self.seat c.take_rests.ensures.works.on.saw c.take_all.ensures.works.on.saw)
    (c.take_all.ensures.told ∙ c.take_rests.ensures.told) c.do_lines.ensures.front
