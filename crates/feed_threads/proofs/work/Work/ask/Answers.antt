use Rattle.std.proofs.Common.{List, OnOk, ap, subst, sym}
use Rattle.dn_formats.specs.declared.told.Told.{Told}
use Rattle.version_lock.specs.Callers.{Caller}
use Rattle.feed_threads.specs.Seats.{LooksOn}
use Rattle.feed_threads.specs.Shown.{IsShown}
use Rattle.feed_threads.specs.Tells.{Adds, IsOutcomeNow}
use Rattle.feed_threads.specs.Works.{Work}
use Rattle.feed_threads.proofs.DoesLemmas.{told-adds, works-asked}
use Rattle.feed_threads.proofs.SeatLemmas.{none-ok}
use Rattle.feed_threads.proofs.work.Work.ask.Goals as goal

pub outcome-requires-clause-shown : goal.outcome-requires-clause-shown
outcome-requires-clause-shown g c κs within = subst (λ (w : Work _). IsShown c.args.desk.now.setup.basis.topology w.seat.seen w.shown) (sym c.self.view_is) c.requires.work.shown

pub returns-in_err-outcome-clause-works : goal.returns-in_err-outcome-clause-works
returns-in_err-outcome-clause-works g c =
    works-asked c.args.desk.now g.S.Source.left g.S.Source.faults g.S.Source.place c.from_residual.result c.args.self.now c.self.inside.number c.self.inside.seat c.outcome.new.seat c.self.inside.shown c.outcome.new.shown c.self.inside.feeds.items c.self.inside.told c.self.inside.told c.args.line c.args.query.now
    c.self.view_is c.outcome.ensures.looks c.outcome.ensures.shows (none-ok c.from_residual.result _ c.from_residual.ensures.0)

pub returns-in_err-query-clause-works : goal.returns-in_err-query-clause-works
returns-in_err-query-clause-works g c =
    works-asked c.args.desk.now g.S.Source.left g.S.Source.faults g.S.Source.place c.from_residual-in_err-query.result c.args.self.now c.self.inside.number c.self.inside.seat c.outcome.new.seat c.self.inside.shown c.outcome.new.shown c.self.inside.feeds.items c.self.inside.told c.self.inside.told c.args.line c.args.query.now
    c.self.view_is c.outcome.ensures.looks c.outcome.ensures.shows (none-ok c.from_residual-in_err-query.result _ c.from_residual-in_err-query.ensures.0)

pub returns-clause-works : goal.returns-clause-works
returns-clause-works g c =
    works-asked c.args.desk.now g.S.Source.left g.S.Source.faults g.S.Source.place c.push.result c.args.self.now c.self.inside.number c.self.inside.seat c.outcome.new.seat c.self.inside.shown c.outcome.new.shown c.self.inside.feeds.items c.self.inside.told c.push.new.self c.args.line c.args.query.now
    c.self.view_is c.outcome.ensures.looks c.outcome.ensures.shows
    (told-adds c.push.result c.self.inside.told c.push.new.self c.args.line c.args.query.now _ _ (IsOutcomeNow c.args.desk.now.setup.basis.topology c.outcome.new.seat.seen c.args.query.now)
    c.push.ensures.ok c.in_ok-query.ensures c.in_ok-outcome.ensures.good)

pub returns-in_err-outcome-clause-looks : goal.returns-in_err-outcome-clause-looks
returns-in_err-outcome-clause-looks g c = subst (λ (s : Caller). LooksOn s c.outcome.new.seat) (ap (λ (w : Work _). w.seat) c.self.view_is) c.outcome.ensures.looks

pub returns-in_err-query-clause-looks : goal.returns-in_err-query-clause-looks
returns-in_err-query-clause-looks g c = subst (λ (s : Caller). LooksOn s c.outcome.new.seat) (ap (λ (w : Work _). w.seat) c.self.view_is) c.outcome.ensures.looks

pub returns-clause-looks : goal.returns-clause-looks
returns-clause-looks g c = subst (λ (s : Caller). LooksOn s c.outcome.new.seat) (ap (λ (w : Work _). w.seat) c.self.view_is) c.outcome.ensures.looks

pub returns-clause-told : goal.returns-clause-told
returns-clause-told g c =
    subst (λ (ts : List Told). OnOk c.push.result (Adds ts c.push.new.self c.args.line c.args.query.now (IsOutcomeNow c.args.desk.now.setup.basis.topology c.outcome.new.seat.seen c.args.query.now))) (ap (λ (w : Work _). w.told) c.self.view_is)
    (told-adds c.push.result c.self.inside.told c.push.new.self c.args.line c.args.query.now _ _ (IsOutcomeNow c.args.desk.now.setup.basis.topology c.outcome.new.seat.seen c.args.query.now)
    c.push.ensures.ok c.in_ok-query.ensures c.in_ok-outcome.ensures.good)
