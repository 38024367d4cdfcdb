use Rattle.std.proofs.Common.{◌≡◌, ℕ, List, [], ◌∷◌, ◌++◌, OnOk, refl, subst, sym}
use Rattle.dn_formats.specs.declared.told.Told.TheVariants.{Linked}
use Rattle.feed_threads.specs.Shown.{IsShown}
use Rattle.feed_threads.specs.Works.{Work}
use Rattle.feed_threads.proofs.DoesLemmas.{link-broke, works-linked, works-unlinked}
use Rattle.feed_threads.proofs.SeatLemmas.{none-ok, saw-none}
use Rattle.feed_threads.proofs.ShownLemmas.{shown-later}
use Rattle.feed_threads.proofs.work.Work.set_link.Goals as goal

pub returns-in_err-link-clause-works : goal.returns-in_err-link-clause-works
returns-in_err-link-clause-works g c =
    link-broke c.args.desk.now g.S.Source.left g.S.Source.faults g.S.Source.place c.from_residual.result c.args.self.now c.args.self.now.seat c.args.line c.args.name.now c.args.down c.from_residual.ensures.0 c.requires.work (saw-none c.args.self.now.seat) refl

pub returns-in_err-outcome-clause-works : goal.returns-in_err-outcome-clause-works
returns-in_err-outcome-clause-works g c =
    works-unlinked c.args.desk.now g.S.Source.left g.S.Source.faults g.S.Source.place c.from_residual-in_err-outcome.result c.args.self.now c.self.inside.number c.self.inside.seat c.apply_link.new.seat c.self.inside.shown c.self.inside.feeds.items c.self.inside.told c.args.line c.args.name.now c.args.down
    c.self.view_is c.from_residual-in_err-outcome.ensures.0 c.requires.work c.apply_link.ensures.saw c.in_err-outcome.ensures.kept

pub show-requires-clause-shown : goal.show-requires-clause-shown
show-requires-clause-shown g c κs within =
    let t = c.args.desk.now.setup.basis.topology in
    let shown : IsShown t c.self.inside.seat.seen c.self.inside.shown = subst (λ (w : Work _). IsShown t w.seat.seen w.shown) (sym c.self.view_is) c.requires.work.shown in
    shown-later t c.self.inside.seat.seen c.apply_link.new.seat.seen c.self.inside.shown c.apply_link.ensures.saw.seen shown

pub returns-in_err-show-clause-works : goal.returns-in_err-show-clause-works
returns-in_err-show-clause-works g c =
    works-linked c.args.desk.now g.S.Source.left g.S.Source.faults g.S.Source.place c.from_residual-in_err-show.result c.args.self.now c.self.inside.number c.self.inside.seat c.apply_link.new.seat c.show.new.seat c.self.inside.shown c.show.new.shown c.self.inside.feeds.items c.self.inside.told c.self.inside.told c.args.line c.args.name.now c.args.down _
    c.self.view_is c.apply_link.ensures.saw c.in_ok-outcome.ensures.outcome c.show.ensures.looks c.show.ensures.shows (none-ok c.from_residual-in_err-show.result _ c.from_residual-in_err-show.ensures.0)

pub returns-clause-works : goal.returns-clause-works
returns-clause-works g c =
    works-linked c.args.desk.now g.S.Source.left g.S.Source.faults g.S.Source.place c.push.result c.args.self.now c.self.inside.number c.self.inside.seat c.apply_link.new.seat c.show.new.seat c.self.inside.shown c.show.new.shown c.self.inside.feeds.items c.self.inside.told c.push.new.self c.args.line c.args.name.now c.args.down _
    c.self.view_is c.apply_link.ensures.saw c.in_ok-outcome.ensures.outcome c.show.ensures.looks c.show.ensures.shows
    (subst (λ (name : List ℕ). OnOk c.push.result (c.push.new.self ≡ c.self.inside.told ++ Linked c.args.line name c.args.down c.in_ok-outcome.outcome ∷ [])) c.in_ok-link.ensures c.push.ensures.ok)
