use Rattle.std.proofs.Common.{◌≡◌, ◌∙◌, Some, None, ap, refl, sym}
use Rattle.std.specs.List.{position}
use Rattle.feed_threads.specs.Places.{is_feed_of}
use Rattle.feed_threads.specs.Works.{Work}
use Rattle.feed_threads.proofs.DoesLemmas.{on-none, works-not, works-took}
use Rattle.feed_threads.proofs.work.Work.take_of.Goals as goal

pub returns-in-Some : goal.returns-in-Some
returns-in-Some g c = λ l.
    let feeds : c.as_slice.result.now ≡ c.args.self.now.feeds = c.as_slice.ensures.value ∙ ap (λ (w : Work _). w.feeds) c.self.view_is in
    let found : position (is_feed_of c.args.router) c.args.self.now.feeds ≡ Some c.in-Some.at =
    ap (position (is_feed_of c.args.router)) (sym feeds) ∙ sym c.place_of.ensures ∙ c.in-Some.is in
    record { works = works-took c.args.desk.now g.S.Source.left g.S.Source.faults g.S.Source.place c.take_at.result c.args.self.now c.take_at.new.self c.args.router c.in-Some.at c.args.count found c.take_at.ensures l; told = c.take_at.ensures.told }

pub returns-in-None : goal.returns-in-None
returns-in-None g c = λ l.
    let feeds : c.as_slice.result.now ≡ c.args.self.now.feeds = c.as_slice.ensures.value ∙ ap (λ (w : Work _). w.feeds) c.self.view_is in
    let none : position (is_feed_of c.args.router) c.args.self.now.feeds ≡ None =
    ap (position (is_feed_of c.args.router)) (sym feeds) ∙ sym c.place_of.ensures ∙ c.in-None.is in
    record {
      works = record { on = on-none c.args.desk.now g.S.Source.left g.S.Source.faults g.S.Source.place c.args.self.now c.requires.work; does = works-not c.args.desk.now g.S.Source.left g.S.Source.faults g.S.Source.place c.args.self.now c.args.router c.args.count c.requires.work none l; breaks = tt };
      told = refl;
    }
